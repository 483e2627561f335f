-- The items of parts side by side.
use Rattle.std.proofs.Common.{◌≡◌, ℕ, Bool, true, false, cond, List, [], ◌∷◌, ◌++◌, Option, None, Some, refl, ap, sym, subst, ◌∙◌, append_assoc, append-nil}
use Rattle.std.specs.Prelude.{◌==◌, ◌&&◌, not, flat_map}
use Rattle.std.specs.List.{filter}
use Rattle.std.proofs.lemmas.List.Concat.{flat_map-append, flat_map-cons}
use Rattle.std.proofs.lemmas.List.Elements.{filter-append}
use Rattle.grid_config_values.specs.declared.position.Position.{Position}
use Rattle.grid_config.specs.Colors.{Color}
use Rattle.papergrid_picture.specs.Blocks.{Content, Fill, Glyph, TextLine, Part}
use Rattle.papergrid_picture.specs.Reading.{Reading, is_glyph, is_drawn, continues, onto_color_runs, color_runs, content_items, part_items, painted, run_items, line_items, same_color}

-- ---- runs

-- a part that doesn't go on in the next one is a run of its own
pub onto-apart : (x y : Part) → continues x y ≡ false → (runs : List (List Part)) → onto_color_runs x (onto_color_runs y runs) ≡ (x ∷ []) ∷ onto_color_runs y runs
onto-apart x y apart [] = ap (λ b. cond b ((x ∷ y ∷ []) ∷ []) ((x ∷ []) ∷ (y ∷ []) ∷ [])) apart
onto-apart x y apart ([] ∷ runs) = ap (λ b. cond b ((x ∷ y ∷ []) ∷ runs) ((x ∷ []) ∷ (y ∷ []) ∷ runs)) apart
onto-apart x y apart ((next ∷ run) ∷ runs) = by (continues y next)
  where
    by : (b : Bool) → onto_color_runs x (cond b ((y ∷ next ∷ run) ∷ runs) ((y ∷ []) ∷ (next ∷ run) ∷ runs))
        ≡ (x ∷ []) ∷ cond b ((y ∷ next ∷ run) ∷ runs) ((y ∷ []) ∷ (next ∷ run) ∷ runs)
    by true = ap (λ b. cond b ((x ∷ y ∷ next ∷ run) ∷ runs) ((x ∷ []) ∷ (y ∷ next ∷ run) ∷ runs)) apart
    by false = ap (λ b. cond b ((x ∷ y ∷ []) ∷ (next ∷ run) ∷ runs) ((x ∷ []) ∷ (y ∷ []) ∷ (next ∷ run) ∷ runs)) apart

-- a part goes onto the first run, whatever runs follow
onto-front : (x : Part) (run : List Part) (runs more : List (List Part)) → onto_color_runs x (run ∷ (runs ++ more)) ≡ onto_color_runs x (run ∷ runs) ++ more
onto-front x [] runs more = refl
onto-front x (next ∷ run) runs more = by (continues x next)
  where
    by : (b : Bool) → cond b ((x ∷ next ∷ run) ∷ (runs ++ more)) ((x ∷ []) ∷ (next ∷ run) ∷ (runs ++ more))
        ≡ cond b ((x ∷ next ∷ run) ∷ runs) ((x ∷ []) ∷ (next ∷ run) ∷ runs) ++ more
    by true = refl
    by false = refl

onto-append : (x y : Part) (runs more : List (List Part)) → onto_color_runs x (onto_color_runs y runs ++ more) ≡ onto_color_runs x (onto_color_runs y runs) ++ more
onto-append x y [] more = onto-front x (y ∷ []) [] more
onto-append x y ([] ∷ runs) more = onto-front x (y ∷ []) runs more
onto-append x y ((next ∷ run) ∷ runs) more = by (continues y next)
  where
    by : (b : Bool) → onto_color_runs x (cond b ((y ∷ next ∷ run) ∷ runs) ((y ∷ []) ∷ (next ∷ run) ∷ runs) ++ more)
        ≡ onto_color_runs x (cond b ((y ∷ next ∷ run) ∷ runs) ((y ∷ []) ∷ (next ∷ run) ∷ runs)) ++ more
    by true = onto-front x (y ∷ next ∷ run) runs more
    by false = onto-front x (y ∷ []) ((next ∷ run) ∷ runs) more

-- the last part, if there is one, doesn't go on in this one
abbrev pub stops_before : List Part → Part → Bool
stops_before [] y = true
stops_before (x ∷ []) y = not (continues x y)
stops_before (x ∷ next ∷ xs) y = stops_before (next ∷ xs) y

not-true : (b : Bool) → not b ≡ true → b ≡ false
not-true true h = sym h
not-true false h = refl

pub color_runs-append : (xs : List Part) (y : Part) (ys : List Part) → stops_before xs y ≡ true → color_runs (xs ++ y ∷ ys) ≡ color_runs xs ++ color_runs (y ∷ ys)
color_runs-append [] y ys stops = refl
color_runs-append (x ∷ []) y ys stops = onto-apart x y (not-true (continues x y) stops) (color_runs ys)
color_runs-append (x ∷ next ∷ xs) y ys stops =
    ap (onto_color_runs x) (color_runs-append (next ∷ xs) y ys stops) ∙ onto-append x next (color_runs xs) (color_runs (y ∷ ys))

-- ---- parts that are no glyphs

-- the first part, if there is one, is no glyph
abbrev pub starts_plain : List Part → Bool
starts_plain [] = true
starts_plain (part ∷ parts) = not (is_glyph part.content)

-- the last part, if there is one, is no glyph
abbrev pub ends_plain : List Part → Bool
ends_plain [] = true
ends_plain (part ∷ []) = not (is_glyph part.content)
ends_plain (part ∷ next ∷ parts) = ends_plain (next ∷ parts)

-- no part is a glyph
abbrev pub all_plain : List Part → Bool
all_plain [] = true
all_plain (part ∷ parts) = not (is_glyph part.content) && all_plain parts

and-front : (a b : Bool) → (a && b) ≡ true → a ≡ true
and-front true b h = refl
and-front false b h = h

and-behind : (a b : Bool) → (a && b) ≡ true → b ≡ true
and-behind true b h = h
and-behind false b h = absurd (cc (h))

and-false : (a : Bool) → (a && false) ≡ false
and-false true = refl
and-false false = refl

-- where none is a glyph, neither the first nor the last is
pub starts_plain-all : (parts : List Part) → all_plain parts ≡ true → starts_plain parts ≡ true
starts_plain-all [] plain = refl
starts_plain-all (part ∷ parts) plain = and-front (not (is_glyph part.content)) (all_plain parts) plain

pub ends_plain-all : (parts : List Part) → all_plain parts ≡ true → ends_plain parts ≡ true
ends_plain-all [] plain = refl
ends_plain-all (part ∷ []) plain = and-front (not (is_glyph part.content)) true plain
ends_plain-all (part ∷ next ∷ parts) plain = ends_plain-all (next ∷ parts) (and-behind (not (is_glyph part.content)) (all_plain (next ∷ parts)) plain)

pub all_plain-append : (xs ys : List Part) → all_plain xs ≡ true → all_plain ys ≡ true → all_plain (xs ++ ys) ≡ true
all_plain-append [] ys front behind = behind
all_plain-append (x ∷ xs) ys front behind =
    ap (λ b. b && all_plain (xs ++ ys)) (and-front (not (is_glyph x.content)) (all_plain xs) front)
    ∙ all_plain-append xs ys (and-behind (not (is_glyph x.content)) (all_plain xs) front) behind

stops-plain : (xs : List Part) (y : Part) → is_glyph y.content ≡ false → stops_before xs y ≡ true
stops-plain [] y plain = refl
stops-plain (x ∷ []) y plain =
    ap (λ b. not (is_glyph x.content && (b && same_color x.color y.color))) plain ∙ ap not (and-false (is_glyph x.content))
stops-plain (x ∷ next ∷ xs) y plain = stops-plain (next ∷ xs) y plain

plain-continues : (x y : Part) → is_glyph x.content ≡ false → continues x y ≡ false
plain-continues x y plain = ap (λ b. b && (is_glyph y.content && same_color x.color y.color)) plain

onto-plain : (x : Part) (ys : List Part) → is_glyph x.content ≡ false → onto_color_runs x (color_runs ys) ≡ (x ∷ []) ∷ color_runs ys
onto-plain x [] plain = refl
onto-plain x (y ∷ ys) plain = onto-apart x y (plain-continues x y plain) (color_runs ys)

shown-plain : (x : Part) (xs : List Part) → is_glyph x.content ≡ false → filter is_drawn (x ∷ xs) ≡ x ∷ filter is_drawn xs
shown-plain x xs plain = ap (λ b. cond (not (b && (x.width == 0))) (x ∷ filter is_drawn xs) (filter is_drawn xs)) plain

-- ---- items

module _ {X : Type 0} (reading : Reading X) where
  -- what a part shows alone
  abbrev pub own_items : Part → List X
  own_items part = painted reading part.color (part_items reading part)

  items-one : (part : Part) → run_items reading (part ∷ []) ≡ own_items part
  items-one part = ap (painted reading part.color) (flat_map-cons (part_items reading) part [] ∙ append-nil (part_items reading part))

  -- a part that is no glyph shows the same before any parts
  pub line_items-cons : (part : Part) (parts : List Part) → is_glyph part.content ≡ false
      → line_items reading (part ∷ parts) ≡ own_items part ++ line_items reading parts
  line_items-cons part parts plain =
      ap (λ shown. flat_map (run_items reading) (color_runs shown)) (shown-plain part parts plain)
      ∙ (ap (flat_map (run_items reading)) (onto-plain part (filter is_drawn parts) plain)
      ∙ (flat_map-cons (run_items reading) (part ∷ []) (color_runs (filter is_drawn parts))
      ∙ ap (λ items. items ++ line_items reading parts) (items-one part)))

  -- parts of which none is a glyph show what each shows alone
  pub line_items_plain : (parts : List Part) → all_plain parts ≡ true → line_items reading parts ≡ flat_map own_items parts
  line_items_plain [] plain = refl
  line_items_plain (part ∷ parts) plain =
      line_items-cons part parts (not-true (is_glyph part.content) (and-front (not (is_glyph part.content)) (all_plain parts) plain))
      ∙ (ap (λ items. own_items part ++ items) (line_items_plain parts (and-behind (not (is_glyph part.content)) (all_plain parts) plain))
      ∙ sym (flat_map-cons own_items part parts))

  shown-append : (xs : List Part) (y : Part) (ys : List Part) → is_glyph y.content ≡ false
      → filter is_drawn (xs ++ y ∷ ys) ≡ filter is_drawn xs ++ y ∷ filter is_drawn ys
  shown-append xs y ys plain = filter-append is_drawn xs (y ∷ ys) ∙ ap (λ shown. filter is_drawn xs ++ shown) (shown-plain y ys plain)

  -- parts side by side, of which the first after the seam is no glyph
  pub line_items-before : (xs ys : List Part) → starts_plain ys ≡ true → line_items reading (xs ++ ys) ≡ line_items reading xs ++ line_items reading ys
  line_items-before xs [] plain = ap (line_items reading) (append-nil xs) ∙ sym (append-nil (line_items reading xs))
  line_items-before xs (y ∷ ys) plain =
      let no_glyph : is_glyph y.content ≡ false = not-true (is_glyph y.content) plain in
      ap (λ shown. flat_map (run_items reading) (color_runs shown)) (shown-append xs y ys no_glyph)
      ∙ (ap (flat_map (run_items reading)) (color_runs-append (filter is_drawn xs) y (filter is_drawn ys) (stops-plain (filter is_drawn xs) y no_glyph))
      ∙ (flat_map-append (run_items reading) (color_runs (filter is_drawn xs)) (color_runs (y ∷ filter is_drawn ys))
      ∙ ap (λ shown. line_items reading xs ++ flat_map (run_items reading) (color_runs shown)) (sym (shown-plain y ys no_glyph))))

  plain-end : (front : List Part) (x : Part) (ys : List Part) → is_glyph x.content ≡ false
      → line_items reading ((front ++ x ∷ []) ++ ys) ≡ line_items reading (front ++ x ∷ []) ++ line_items reading ys
  plain-end front x ys plain =
      let starts : starts_plain (x ∷ ys) ≡ true = ap not plain in
      let alone : line_items reading (x ∷ []) ≡ own_items x = line_items-cons x [] plain ∙ append-nil (own_items x) in
      ap (line_items reading) (append_assoc front (x ∷ []) ys)
      ∙ (line_items-before front (x ∷ ys) starts
      ∙ (ap (λ items. line_items reading front ++ items) (line_items-cons x ys plain ∙ ap (λ items. items ++ line_items reading ys) (sym alone))
      ∙ (sym (append_assoc (line_items reading front) (line_items reading (x ∷ [])) (line_items reading ys))
      ∙ ap (λ items. items ++ line_items reading ys) (sym (line_items-before front (x ∷ []) starts)))))

  behind-some : (front : List Part) (x : Part) (xs ys : List Part) → ends_plain (x ∷ xs) ≡ true
      → line_items reading ((front ++ x ∷ xs) ++ ys) ≡ line_items reading (front ++ x ∷ xs) ++ line_items reading ys
  behind-some front x [] ys plain = plain-end front x ys (not-true (is_glyph x.content) plain)
  behind-some front x (next ∷ xs) ys plain =
      subst (λ (parts : List Part). line_items reading (parts ++ ys) ≡ line_items reading parts ++ line_items reading ys)
      (append_assoc front (x ∷ []) (next ∷ xs)) (behind-some (front ++ x ∷ []) next xs ys plain)

  -- parts side by side, of which the last before the seam is no glyph
  pub line_items-behind : (xs ys : List Part) → ends_plain xs ≡ true → line_items reading (xs ++ ys) ≡ line_items reading xs ++ line_items reading ys
  line_items-behind [] ys plain = refl
  line_items-behind (x ∷ xs) ys plain = behind-some [] x xs ys plain

  -- a part that is not shown might as well not be there
  pub line_items_hidden : (xs : List Part) (hidden : Part) (ys : List Part) → is_drawn hidden ≡ false
      → line_items reading (xs ++ hidden ∷ ys) ≡ line_items reading (xs ++ ys)
  line_items_hidden xs hidden ys not_shown =
      ap (λ shown. flat_map (run_items reading) (color_runs shown))
      (filter-append is_drawn xs (hidden ∷ ys)
      ∙ (ap (λ b. filter is_drawn xs ++ cond b (hidden ∷ filter is_drawn ys) (filter is_drawn ys)) not_shown
      ∙ sym (filter-append is_drawn xs ys)))

-- ---- parts that show the same in every reading of characters and colours

-- no part is a line of a cell
abbrev pub is_text : Content → Bool
is_text (Fill c) = false
is_text (Glyph c) = false
is_text (TextLine cell k) = true

abbrev pub no_texts : List Part → Bool
no_texts [] = true
no_texts (part ∷ parts) = not (is_text part.content) && no_texts parts

pub no_texts-append : (xs ys : List Part) → no_texts xs ≡ true → no_texts ys ≡ true → no_texts (xs ++ ys) ≡ true
no_texts-append [] ys front behind = behind
no_texts-append (x ∷ xs) ys front behind =
    ap (λ b. b && no_texts (xs ++ ys)) (and-front (not (is_text x.content)) (no_texts xs) front)
    ∙ no_texts-append xs ys (and-behind (not (is_text x.content)) (no_texts xs) front) behind

module _ {X : Type 0} (reading : Reading X) (line : Position → ℕ → List X) where
  abbrev others : Reading X
  others = record reading { line = line }

  items-same : (content : Content) (width : ℕ) → is_text content ≡ false → content_items reading content width ≡ content_items others content width
  items-same (Fill c) width no_text = refl
  items-same (Glyph c) width no_text = refl
  items-same (TextLine cell k) width no_text = absurd (cc)

  texts-same : (parts : List Part) → no_texts parts ≡ true → flat_map (part_items reading) parts ≡ flat_map (part_items others) parts
  texts-same [] none = refl
  texts-same (part ∷ parts) none =
      let here : part_items reading part ≡ part_items others part = items-same part.content part.width (not-true (is_text part.content) (and-front (not (is_text part.content)) (no_texts parts) none)) in
      let behind : flat_map (part_items reading) parts ≡ flat_map (part_items others) parts = texts-same parts (and-behind (not (is_text part.content)) (no_texts parts) none) in
      flat_map-cons (part_items reading) part parts ∙ (ap (λ items. items ++ flat_map (part_items reading) parts) here
      ∙ (ap (λ items. part_items others part ++ items) behind ∙ sym (flat_map-cons (part_items others) part parts)))

  painted-same : (color : Option Color) (items : List X) → painted reading color items ≡ painted others color items
  painted-same None items = refl
  painted-same (Some color) [] = refl
  painted-same (Some color) (item ∷ items) = refl

  run-same : (run : List Part) → no_texts run ≡ true → run_items reading run ≡ run_items others run
  run-same [] none = refl
  run-same (part ∷ parts) none = ap (painted reading part.color) (texts-same (part ∷ parts) none) ∙ painted-same part.color (flat_map (part_items others) (part ∷ parts))

  abbrev all_no_texts : List (List Part) → Bool
  all_no_texts [] = true
  all_no_texts (run ∷ runs) = no_texts run && all_no_texts runs

  runs-same : (runs : List (List Part)) → all_no_texts runs ≡ true → flat_map (run_items reading) runs ≡ flat_map (run_items others) runs
  runs-same [] none = refl
  runs-same (run ∷ runs) none =
      let here : run_items reading run ≡ run_items others run = run-same run (and-front (no_texts run) (all_no_texts runs) none) in
      let behind : flat_map (run_items reading) runs ≡ flat_map (run_items others) runs = runs-same runs (and-behind (no_texts run) (all_no_texts runs) none) in
      flat_map-cons (run_items reading) run runs ∙ (ap (λ items. items ++ flat_map (run_items reading) runs) here
      ∙ (ap (λ items. run_items others run ++ items) behind ∙ sym (flat_map-cons (run_items others) run runs)))

  onto-none : (part : Part) (runs : List (List Part)) → not (is_text part.content) ≡ true → all_no_texts runs ≡ true → all_no_texts (onto_color_runs part runs) ≡ true
  onto-none part [] here none = ap (λ b. (b && true) && true) here
  onto-none part ([] ∷ runs) here none = ap (λ b. (b && true) && all_no_texts runs) here ∙ none
  onto-none part ((next ∷ run) ∷ runs) here none = by (continues part next)
    where
      by : (b : Bool) → all_no_texts (cond b ((part ∷ next ∷ run) ∷ runs) ((part ∷ []) ∷ (next ∷ run) ∷ runs)) ≡ true
      by true = ap (λ b. (b && no_texts (next ∷ run)) && all_no_texts runs) here ∙ none
      by false = ap (λ b. (b && true) && (no_texts (next ∷ run) && all_no_texts runs)) here ∙ none

  runs-none : (parts : List Part) → no_texts parts ≡ true → all_no_texts (color_runs parts) ≡ true
  runs-none [] none = refl
  runs-none (part ∷ parts) none =
      onto-none part (color_runs parts) (and-front (not (is_text part.content)) (no_texts parts) none)
      (runs-none parts (and-behind (not (is_text part.content)) (no_texts parts) none))

  shown-none : (parts : List Part) → no_texts parts ≡ true → no_texts (filter is_drawn parts) ≡ true
  shown-none [] none = refl
  shown-none (part ∷ parts) none =
      by (is_drawn part) (and-front (not (is_text part.content)) (no_texts parts) none)
      (shown-none parts (and-behind (not (is_text part.content)) (no_texts parts) none))
    where
      by : (b : Bool) → not (is_text part.content) ≡ true → no_texts (filter is_drawn parts) ≡ true
          → no_texts (cond b (part ∷ filter is_drawn parts) (filter is_drawn parts)) ≡ true
      by true here behind = ap (λ b. b && no_texts (filter is_drawn parts)) here ∙ behind
      by false here behind = behind

  -- they don't depend on the lines of the cells
  pub line_items_no_texts : (parts : List Part) → no_texts parts ≡ true → line_items reading parts ≡ line_items others parts
  line_items_no_texts parts none = runs-same (color_runs (filter is_drawn parts)) (runs-none (filter is_drawn parts) (shown-none parts none))
