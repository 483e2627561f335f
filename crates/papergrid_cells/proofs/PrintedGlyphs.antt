-- Glyphs are printed as their runs show.
use Rattle.std.proofs.Common.{◌≡◌, ◌<◌, ◌≤◌, ◌-◌, ℕ, Bool, true, false, cond, List, [], ◌∷◌, ◌++◌, Option, None, Some, length, map, refl, ap, sym, ◌∙◌, arith, append_assoc, append-nil, replicate, take}
use Rattle.std.specs.Prelude.{◌==◌, ◌&&◌, not, flat_map, encode_utf8, bytes_eq, slice_range, suc, zero}
use Rattle.std.specs.Option.{option_map}
use Rattle.std.specs.List.{filter}
use Rattle.std.proofs.lemmas.List.{length-append, take-replicate}
use Rattle.std.proofs.lemmas.List.Concat.{flat_map-cons}
use Rattle.std.proofs.lemmas.Slice.Eq.{bytes_eq-Decides}
use Rattle.std.proofs.lemmas.Str.{length-encode, len_utf8_bounds}
use Rattle.grid_config.specs.Colors.{Color, color_of}
use Rattle.papergrid_picture.specs.Blocks.{Content, Fill, Glyph, TextLine, Part}
use Rattle.papergrid_picture.specs.Reading.{continues, is_glyph, is_drawn, line_items, onto_color_runs, part_items, run_items, color_runs, same_color, content_items}
use Rattle.papergrid_cells.specs.Painting.{without_cells, color_change, colored, fill_bytes, glyph_part, glyphs_behind, prefix_of, suffix_of}
use Rattle.papergrid_cells.specs.declared.painting.GlyphRun.{GlyphRun}

-- ---- colours

to-none : (color : Option Color) → color_change color None ≡ suffix_of color
to-none None = refl
to-none (Some color) = append-nil color.suffix

from-none : (color : Option Color) → color_change None color ≡ prefix_of color
from-none None = refl
from-none (Some color) = refl

-- what has bytes is between the begin and the end of its colour
enclosed : (color : Option Color) (bytes : List ℕ) → 0 < length bytes → color_change None color ++ (bytes ++ color_change color None) ≡ colored color bytes
enclosed None bytes some = append-nil bytes
enclosed (Some color) [] some = absurd (omega (arith, some))
enclosed (Some color) (byte ∷ bytes) some = ap (λ end. color.prefix ++ ((byte ∷ bytes) ++ end)) (append-nil color.suffix)

same-colors : (a b : Color) → bytes_eq a.prefix b.prefix ≡ true → bytes_eq a.suffix b.suffix ≡ true → a ≡ b
same-colors a b front behind =
    let prefixes : a.prefix ≡ b.prefix = (bytes_eq-Decides a.prefix b.prefix).0 front in
    let suffixes : a.suffix ≡ b.suffix = (bytes_eq-Decides a.suffix b.suffix).0 behind in
    λ i. record { prefix = prefixes i; suffix = suffixes i }

and-both : (a b : Bool) → (a && b) ≡ true → (a ≡ true) × (b ≡ true)
and-both true b h = (refl, h)
and-both false b h = absurd (cc)

-- colours that are the same are equal
same-equal : (a b : Option Color) → same_color a b ≡ true → a ≡ b
same-equal None None same = refl
same-equal None (Some b) same = absurd (cc)
same-equal (Some a) None same = absurd (cc)
same-equal (Some a) (Some b) same =
    let both = and-both (bytes_eq a.prefix b.prefix) (bytes_eq a.suffix b.suffix) same in
    ap Some (same-colors a b both.0 both.1)

-- ---- a fill has bytes

some-encoded : (c : ℕ) → 0 < length (encode_utf8 c)
some-encoded c = omega (arith, length-encode c, (len_utf8_bounds c).0)

some-filled : (c n : ℕ) → 0 < n → 0 < length (fill_bytes c n)
some-filled c zero some = absurd (omega (arith, some))
some-filled c (suc n) some =
    let e : fill_bytes c (suc n) ≡ encode_utf8 c ++ fill_bytes c n = flat_map-cons encode_utf8 c (replicate n c) in
    omega (arith, ap length e, length-append (encode_utf8 c) (fill_bytes c n), some-encoded c)

pub filled : (color : Option Color) (c n : ℕ) → 0 < n → color_change None color ++ (fill_bytes c n ++ color_change color None) ≡ colored color (fill_bytes c n)
filled color c n some = enclosed color (fill_bytes c n) (some-filled c n some)

-- what three appends leave
pub appended3 : (old x y z : List ℕ) {one two new all : List ℕ} → one ≡ old ++ x → two ≡ one ++ y → new ≡ two ++ z → x ++ (y ++ z) ≡ all → new ≡ old ++ all
appended3 old x y z {one} {two} {new} {all} first second third whole =
    third ∙ (ap (λ l. l ++ z) (second ∙ ap (λ l. l ++ y) first)
    ∙ (append_assoc (old ++ x) y z ∙ (append_assoc old x (y ++ z) ∙ ap (λ l. old ++ l) whole)))

-- ---- spaces

pub spaces-filled : (k : ℕ) → fill_bytes 0x20 k ≡ replicate k 0x20
unfolding lib.Utf8.encode
spaces-filled zero = refl
spaces-filled (suc k) = flat_map-cons encode_utf8 0x20 (replicate k 0x20) ∙ ap (λ l. 0x20 ∷ l) (spaces-filled k)

pub spaces-front : (spaces : List ℕ) (k : ℕ) → spaces ≡ replicate (length spaces) 0x20 → k ≤ length spaces → slice_range spaces 0 k ≡ fill_bytes 0x20 k
spaces-front spaces k are fits =
    let same : k - 0 ≡ k = omega arith in
    ap (λ m. take m spaces) same ∙ ap (take k) are ∙ take-replicate k (length spaces) 0x20 fits ∙ sym (spaces-filled k)

-- ---- runs of glyphs

-- a glyph that is shown
abbrev is_run_glyph : Part → Bool
is_run_glyph part = is_glyph part.content && not (part.width == 0)

abbrev are_run_glyphs : List Part → Bool
are_run_glyphs [] = true
are_run_glyphs (part ∷ parts) = is_run_glyph part && are_run_glyphs parts

abbrev texts : List Part → List ℕ
texts parts = flat_map (part_items without_cells) parts

abbrev runs_bytes : List (List Part) → List ℕ
runs_bytes runs = flat_map (run_items without_cells) runs

-- parts after a colour that was begun, part by part
abbrev parts_behind : Option Color → List Part → List ℕ
parts_behind color [] = color_change color None
parts_behind color (part ∷ parts) = color_change color part.color ++ (part_items without_cells part ++ parts_behind part.color parts)

-- and run by run
abbrev runs_behind : Option Color → List (List Part) → List ℕ
runs_behind color [] = color_change color None
runs_behind color ([] ∷ runs) = color_change color None ++ runs_bytes runs
runs_behind color ((part ∷ run) ∷ runs) = color_change color part.color ++ (texts (part ∷ run) ++ (color_change part.color None ++ runs_bytes runs))

texts-one : (part : Part) → texts (part ∷ []) ≡ part_items without_cells part
texts-one part = flat_map-cons (part_items without_cells) part [] ∙ append-nil (part_items without_cells part)

some-text : (part : Part) (parts : List Part) → is_run_glyph part ≡ true → 0 < length (texts (part ∷ parts))
some-text part parts shown =
    let e : texts (part ∷ parts) ≡ part_items without_cells part ++ texts parts = flat_map-cons (part_items without_cells) part parts in
    omega (arith, ap length e, length-append (part_items without_cells part) (texts parts), some-items part.content part.width shown)
  where
    some-items : (content : Content) (width : ℕ) → (is_glyph content && not (width == 0)) ≡ true → 0 < length (content_items without_cells content width)
    some-items (Fill c) width h = absurd (cc)
    some-items (Glyph c) zero h = absurd (cc)
    some-items (Glyph c) (suc width) h = some-filled c (suc width) (omega arith)
    some-items (TextLine cell k) width h = absurd (cc)

-- a first part goes onto a run of which it is the first
onto-head : (part : Part) (runs : List (List Part)) → (run : List Part) × (others : List (List Part)) × (onto_color_runs part runs ≡ (part ∷ run) ∷ others)
onto-head part [] = ([], [], refl)
onto-head part ([] ∷ runs) = ([], runs, refl)
onto-head part ((next ∷ run) ∷ runs) = by (continues part next)
  where
    by : (b : Bool) → (front : List Part) × (others : List (List Part)) × (cond b ((part ∷ next ∷ run) ∷ runs) ((part ∷ []) ∷ (next ∷ run) ∷ runs) ≡ (part ∷ front) ∷ others)
    by true = (next ∷ run, runs, refl)
    by false = ([], (next ∷ run) ∷ runs, refl)

run-enclosed : (part : Part) (run : List Part) → is_run_glyph part ≡ true
    → color_change None part.color ++ (texts (part ∷ run) ++ color_change part.color None) ≡ run_items without_cells (part ∷ run)
run-enclosed part run shown = enclosed part.color (texts (part ∷ run)) (some-text part run shown)

continues-same : (part next : Part) → is_run_glyph part ≡ true → is_run_glyph next ≡ true → continues part next ≡ same_color part.color next.color
continues-same part next shown more =
    ap (λ b. b && (is_glyph next.content && same_color part.color next.color)) ((and-both (is_glyph part.content) (not (part.width == 0)) shown).0)
    ∙ ap (λ b. b && same_color part.color next.color) ((and-both (is_glyph next.content) (not (next.width == 0)) more).0)

parted-lists : (a i s p t e r : List ℕ) → a ++ (i ++ ((s ++ p) ++ (t ++ (e ++ r)))) ≡ a ++ (i ++ (s ++ ((p ++ (t ++ e)) ++ r)))
parted-lists a i s p t e r = simp append_assoc

-- a glyph goes on in a run of its colour; else the run's colour is begun after its own
onto-behind : (color : Option Color) (part next : Part) (run : List Part) (runs : List (List Part)) → is_run_glyph part ≡ true → is_run_glyph next ≡ true
    → color_change color part.color ++ (part_items without_cells part ++ runs_behind part.color ((next ∷ run) ∷ runs)) ≡ runs_behind color (onto_color_runs part ((next ∷ run) ∷ runs))
onto-behind color part next run runs shown more = by (same_color part.color next.color) refl
  where
    start : List ℕ
    start = color_change color part.color

    items : List ℕ
    items = part_items without_cells part

    text : List ℕ
    text = texts (next ∷ run)

    rest : List ℕ
    rest = runs_bytes runs

    before : Bool → List ℕ
    before b = color_change color part.color ++ (part_items without_cells part ++ (cond b [] (suffix_of part.color ++ prefix_of next.color) ++ (texts (next ∷ run) ++ (color_change next.color None ++ runs_bytes runs))))

    onto : Bool → List ℕ
    onto b = runs_behind color (cond b ((part ∷ next ∷ run) ∷ runs) ((part ∷ []) ∷ (next ∷ run) ∷ runs))

    by : (b : Bool) → same_color part.color next.color ≡ b
        → before (same_color part.color next.color) ≡ onto (continues part next)
    by true same =
        ap before same
        ∙ (ap (λ c. start ++ (items ++ (text ++ (color_change c None ++ rest)))) (sym (same-equal part.color next.color same))
        ∙ (ap (λ l. start ++ l) (sym (append_assoc items text (color_change part.color None ++ rest)))
        ∙ ap onto (sym (continues-same part next shown more ∙ same))))
    by false same =
        ap before same
        ∙ (parted-lists start items (suffix_of part.color) (prefix_of next.color) text (color_change next.color None) rest
        ∙ (ap (λ l. start ++ (items ++ (suffix_of part.color ++ (l ++ rest))))
        (ap (λ front. front ++ (text ++ color_change next.color None)) (sym (from-none next.color)) ∙ run-enclosed next run more)
        ∙ (ap (λ l. start ++ (l ++ (suffix_of part.color ++ runs_bytes ((next ∷ run) ∷ runs)))) (sym (texts-one part))
        ∙ (ap (λ l. start ++ (texts (part ∷ []) ++ (l ++ runs_bytes ((next ∷ run) ∷ runs)))) (sym (to-none part.color))
        ∙ ap onto (sym (continues-same part next shown more ∙ same))))))

-- part by part is run by run
parts-runs : (color : Option Color) (parts : List Part) → are_run_glyphs parts ≡ true → parts_behind color parts ≡ runs_behind color (color_runs parts)
parts-runs color [] shown = refl
parts-runs color (part ∷ []) shown =
    ap (λ l. color_change color part.color ++ (l ++ color_change part.color None)) (sym (texts-one part))
    ∙ ap (λ l. color_change color part.color ++ (texts (part ∷ []) ++ l)) (sym (append-nil (color_change part.color None)))
parts-runs color (part ∷ next ∷ parts) shown =
    let here = and-both (is_run_glyph part) (are_run_glyphs (next ∷ parts)) shown in
    let there = and-both (is_run_glyph next) (are_run_glyphs parts) (here.1) in
    let head = onto-head next (color_runs parts) in
    ap (λ l. color_change color part.color ++ (part_items without_cells part ++ l)) (parts-runs part.color (next ∷ parts) (here.1) ∙ ap (runs_behind part.color) (head.2))
    ∙ (onto-behind color part next (head.0) (head.1) (here.0) (there.0)
    ∙ ap (λ runs. runs_behind color (onto_color_runs part runs)) (sym (head.2)))

runs-start : (parts : List Part) → are_run_glyphs parts ≡ true → runs_behind None (color_runs parts) ≡ runs_bytes (color_runs parts)
runs-start [] shown = refl
runs-start (part ∷ parts) shown =
    let head = onto-head part (color_runs parts) in
    ap (runs_behind None) (head.2)
    ∙ (enclosed-run (head.0) (head.1) ((and-both (is_run_glyph part) (are_run_glyphs parts) shown).0)
    ∙ ap runs_bytes (sym (head.2)))
  where
    enclosed-run : (run : List Part) (runs : List (List Part)) → is_run_glyph part ≡ true → runs_behind None ((part ∷ run) ∷ runs) ≡ runs_bytes ((part ∷ run) ∷ runs)
    enclosed-run run runs shown =
        regrouped (color_change None part.color) (texts (part ∷ run)) (color_change part.color None) (runs_bytes runs)
        ∙ ap (λ l. l ++ runs_bytes runs) (run-enclosed part run shown)
      where
        regrouped : (a b c d : List ℕ) → a ++ (b ++ (c ++ d)) ≡ (a ++ (b ++ c)) ++ d
        regrouped a b c d = simp append_assoc

-- ---- glyphs as parts

abbrev parts_shown : List GlyphRun → List Part
parts_shown glyphs = filter is_drawn (map glyph_part glyphs)

glyphs-parts : (color : Option Color) (glyphs : List GlyphRun) → glyphs_behind color glyphs ≡ parts_behind color (parts_shown glyphs)
glyphs-parts color [] = refl
glyphs-parts color (glyph ∷ glyphs) = by (glyph.width == 0) (glyphs-parts color glyphs) (glyphs-parts (option_map color_of glyph.color) glyphs)
  where
    next : Option Color
    next = option_map color_of glyph.color

    by : (b : Bool) → glyphs_behind color glyphs ≡ parts_behind color (parts_shown glyphs) → glyphs_behind next glyphs ≡ parts_behind next (parts_shown glyphs)
        → cond b (glyphs_behind color glyphs) (color_change color next ++ (fill_bytes glyph.character glyph.width ++ glyphs_behind next glyphs))
        ≡ parts_behind color (cond (not b) (glyph_part glyph ∷ parts_shown glyphs) (parts_shown glyphs))
    by true same more = same
    by false same more = ap (λ l. color_change color next ++ (fill_bytes glyph.character glyph.width ++ l)) more

glyphs-shown : (glyphs : List GlyphRun) → are_run_glyphs (parts_shown glyphs) ≡ true
glyphs-shown [] = refl
glyphs-shown (glyph ∷ glyphs) = by (glyph.width == 0) refl (glyphs-shown glyphs)
  where
    by : (b : Bool) → (glyph.width == 0) ≡ b → are_run_glyphs (parts_shown glyphs) ≡ true
        → are_run_glyphs (cond (not b) (glyph_part glyph ∷ parts_shown glyphs) (parts_shown glyphs)) ≡ true
    by true width more = more
    by false width more = ap (λ b. not b && are_run_glyphs (parts_shown glyphs)) width ∙ more

-- glyphs printed one after the other, and no colour begun before them, are their runs
pub glyphs_behind_none : (glyphs : List GlyphRun) → glyphs_behind None glyphs ≡ line_items without_cells (map glyph_part glyphs)
glyphs_behind_none glyphs =
    glyphs-parts None glyphs ∙ (parts-runs None (parts_shown glyphs) (glyphs-shown glyphs) ∙ runs-start (parts_shown glyphs) (glyphs-shown glyphs))
