-- What the lines of a text measure, and the sizes of several boxes.
use Rattle.std.proofs.Common.{◌≡◌, ℕ, zero, suc, ◌+◌, ◌^◌, ◌<◌, ◌≤◌, Bool, false, true≢false, List, [], ◌∷◌, ◌++◌, drop, get_or, length, map, max, set, refl, ap, sym, ◌∙◌, arith, append_assoc, append-nil}
use Rattle.std.specs.Prelude.{nat_eq}
use Rattle.std.specs.List.{slice_split, sum_by}
use Rattle.std.proofs.lemmas.List.Sums.{sum_by-cons}
use Rattle.std.proofs.Math.Seq.{take-length}
use Rattle.std.proofs.lemmas.List.{at_drop_more, drop_all, length-append, length-map}
use Rattle.ansi_scan.specs.Pieces.{pieces}
use Rattle.ansi_scan.proofs.Existence.{ArePiecesOf-pieces}
use Rattle.ansi_str_search.proofs.TextLemmas.Stripping.{strip-without_escape}
use Rattle.grid_config.specs.Looks.{Look}
use Rattle.grid_records_measure.specs.TextLines.{is_line_feed, line_measure, shown_lines, widest}
use Rattle.grid_records_traits.proofs.LineAt.{no_columns}
use Rattle.papergrid_picture.specs.Blocks.{greatest}
use Rattle.papergrid_picture.specs.CellLines.{cell_measures}
use Rattle.tabled_pool.specs.declared.boxes.size.Size.{Size}
use Rattle.tabled_pool.specs.declared.boxes.value.TableValue.{TableValue}
use Rattle.tabled_pool.specs.Boxes.Boxes.{Box, box_of, boxes_of, column_box, column_height, row_box, row_width, text_box}
use Rattle.tabled_pool.specs.Boxes.Sizes.{IsTooLarge, line_size, line_sizes, padded, size_of, sizes_of_all, widths_of}
use Rattle.tabled_pool.specs.Boxes.Values.{Beside, Stacked, nesting_of, nestings_of}

-- what comes after some others is replaced
pub set-behind : {T : Type 0} (xs ys : List T) (x y : T) → set (xs ++ x ∷ ys) (length xs) y ≡ xs ++ y ∷ ys
set-behind [] ys x y = refl
set-behind (z ∷ xs) ys x y = ap (λ l. z ∷ l) (set-behind xs ys x y)

-- ---- the lines of a text

greatest-widest : (lines : List (List ℕ)) → greatest (map line_measure lines) ≡ widest lines
greatest-widest [] = refl
greatest-widest (line ∷ lines) = ap (max (line_measure line)) (greatest-widest lines)

measures : (text : List ℕ) → cell_measures false false text ≡ map line_measure (shown_lines (pieces text))
measures text = ap (map line_measure) (take-length (shown_lines (pieces text)))

pub text_widest : (text : List ℕ) → greatest (cell_measures false false text) ≡ widest (shown_lines (pieces text))
text_widest text = ap greatest (measures text) ∙ greatest-widest (shown_lines (pieces text))

-- the sizes of lines that are shown
abbrev pub sized : List (List ℕ) → List Size
sized lines = map line_size (map line_measure lines)

pub text_sized : (text : List ℕ) → line_sizes text ≡ sized (shown_lines (pieces text))
text_sized text = ap (map line_size) (measures text)

-- no text is one line, which takes no column
no-line : cell_measures false false [] ≡ 0 ∷ []
no-line =
    measures []
    ∙ (ap (λ shown. map line_measure (slice_split is_line_feed shown)) (strip-without_escape [] (pieces []) (ArePiecesOf-pieces []) refl)
    ∙ ap (λ n. n ∷ []) no_columns)

pub no-text-sizes : line_sizes [] ≡ record { width = 0; height = 1 } ∷ []
no-text-sizes = ap (map line_size) no-line

pub no-text-size : (look : Look) → padded look 0 1 ≡ size_of (text_box look [])
no-text-size look = ap (λ (ms : List ℕ). padded look (greatest ms) (length ms)) (sym no-line)

pub count-sizes : (text : List ℕ) → length (line_sizes text) ≡ length (cell_measures false false text)
count-sizes text = length-map (cell_measures false false text) line_size

widths-sizes : (measures : List ℕ) → widths_of (map line_size measures) ≡ measures
widths-sizes [] = refl
widths-sizes (measure ∷ measures) = ap (λ ms. measure ∷ ms) (widths-sizes measures)

-- lines that were measured are as wide as they measure
pub widths-text : (text : List ℕ) → widths_of (line_sizes text) ≡ cell_measures false false text
widths-text text = widths-sizes (cell_measures false false text)

-- a line more, of those that are left
pub sizes-more : (old now start : List Size) (line : List ℕ) (left behind all : List (List ℕ)) → left ≡ line ∷ behind → now ≡ old ++ line_size (line_measure line) ∷ []
    → old ++ sized left ≡ start ++ sized all → now ++ sized behind ≡ start ++ sized all
sizes-more old now start line left behind all is pushed so_far =
    ap (λ l. l ++ sized behind) pushed ∙ (append_assoc old (line_size (line_measure line) ∷ []) (sized behind) ∙ (ap (λ l. old ++ sized l) (sym is) ∙ so_far))

-- with the own size of a text there are as many as lines, and one
pub text-count : (old start now : List Size) (text : List ℕ) (first : Size) → start ≡ old ++ first ∷ [] → now ≡ start ++ line_sizes text
    → length now ≡ length old + 1 + length (cell_measures false false text)
text-count old start now text first begun pushed =
    omega (arith, ap length pushed, length-append start (line_sizes text), ap length begun, length-append old (first ∷ []), count-sizes text)

-- the size of a text is put before those of its lines
pub text-end : (old start now : List Size) (text : List ℕ) (first own : Size) → start ≡ old ++ first ∷ [] → now ≡ start ++ line_sizes text
    → set now (length old) own ≡ old ++ own ∷ line_sizes text
text-end old start now text first own begun pushed =
    let now_is : now ≡ old ++ first ∷ line_sizes text = pushed ∙ (ap (λ l. l ++ line_sizes text) begun ∙ append_assoc old (first ∷ []) (line_sizes text)) in
    ap (λ l. set l (length old) own) now_is ∙ set-behind old (line_sizes text) first own

pub not-empty : (b : Bool) (n m : ℕ) → b ≡ nat_eq n 0 → b ≡ false → m ≡ n → 0 < m
not-empty b zero m e f g = absurd (true≢false (sym e ∙ f))
not-empty b (suc n) m e f g = omega (arith, g)

-- ---- the boxes of some values

module _ (values : List TableValue) (i : ℕ) (value : TableValue) (inside : i < length values) (is : value ≡ get_or values i value) where
  pub step : {Y : Type 0} (f : List TableValue → Y) → f (drop i values) ≡ f (value ∷ drop (i + 1) values)
  step f = at_drop_more f values i value inside ∙ ap (λ v. f (v ∷ drop (i + 1) values)) (sym is)

module _ (look : Look) where
  abbrev pub box : TableValue → Box
  box value = box_of look (nesting_of value)

  abbrev pub widths : List TableValue → ℕ
  widths values = sum_by (λ b. b.width) (boxes_of look (nestings_of values))

  abbrev pub heights : List TableValue → ℕ
  heights values = sum_by (λ b. b.height) (boxes_of look (nestings_of values))

  abbrev pub widest_box : List TableValue → ℕ
  widest_box values = greatest (map (λ b. b.width) (boxes_of look (nestings_of values)))

  abbrev pub highest_box : List TableValue → ℕ
  highest_box values = greatest (map (λ b. b.height) (boxes_of look (nestings_of values)))

  abbrev pub all_sizes : List TableValue → List Size
  all_sizes values = sizes_of_all look (nestings_of values)

  pub widths-cons : (value : TableValue) (values : List TableValue) → widths (value ∷ values) ≡ (box value).width + widths values
  widths-cons value values = sum_by-cons (λ (b : Box). b.width) (box value) (boxes_of look (nestings_of values))

  pub heights-cons : (value : TableValue) (values : List TableValue) → heights (value ∷ values) ≡ (box value).height + heights values
  heights-cons value values = sum_by-cons (λ (b : Box). b.height) (box value) (boxes_of look (nestings_of values))

  pub lengths : (values : List TableValue) → length (boxes_of look (nestings_of values)) ≡ length values
  lengths [] = refl
  lengths (value ∷ values) = ap suc (lengths values)

  -- a row or a column with members is not a cell
  pub some-beside : (values : List TableValue) → 0 < length values → box_of look (Beside (nestings_of values)) ≡ row_box look (boxes_of look (nestings_of values))
  some-beside [] some = absurd (omega (arith, some))
  some-beside (value ∷ values) some = refl

  pub some-stacked : (values : List TableValue) → 0 < length values → box_of look (Stacked (nestings_of values)) ≡ column_box look (boxes_of look (nestings_of values))
  some-stacked [] some = absurd (omega (arith, some))
  some-stacked (value ∷ values) some = refl

  module _ (values : List TableValue) (i : ℕ) (value : TableValue) (inside : i < length values) (is : value ≡ get_or values i value) where
    pub widths-more : widths (drop i values) ≡ (box value).width + widths (drop (i + 1) values)
    widths-more = step values i value inside is widths ∙ widths-cons value (drop (i + 1) values)

    pub heights-more : heights (drop i values) ≡ (box value).height + heights (drop (i + 1) values)
    heights-more = step values i value inside is heights ∙ heights-cons value (drop (i + 1) values)

    pub widest-more : widest_box (drop i values) ≡ max (box value).width (widest_box (drop (i + 1) values))
    widest-more = step values i value inside is widest_box

    pub highest-more : highest_box (drop i values) ≡ max (box value).height (highest_box (drop (i + 1) values))
    highest-more = step values i value inside is highest_box

    -- what is too large for a member is so for its row and its column
    pub row-too-large : (w h : ℕ) → 0 < length values → w + widths (drop i values) ≡ row_width look (boxes_of look (nestings_of values)) → max h (highest_box (drop i values)) ≡ highest_box values
        → IsTooLarge (box value) → IsTooLarge (box_of look (Beside (nestings_of values)))
    row-too-large w h some wide high large =
        let is_row = some-beside values some in
        let w_is : (box_of look (Beside (nestings_of values))).width ≡ row_width look (boxes_of look (nestings_of values)) = ap (λ b. b.width) is_row in
        let h_is : (box_of look (Beside (nestings_of values))).height ≡ highest_box values = ap (λ b. b.height) is_row in
        omega (arith, w_is, h_is, wide, high, large, widths-more, highest-more)

    pub row-sum-too-large : (w : ℕ) → 0 < length values → w + widths (drop i values) ≡ row_width look (boxes_of look (nestings_of values)) → 2 ^ 64 ≤ w + (box value).width
        → IsTooLarge (box_of look (Beside (nestings_of values)))
    row-sum-too-large w some wide large =
        let is_row = some-beside values some in
        let w_is : (box_of look (Beside (nestings_of values))).width ≡ row_width look (boxes_of look (nestings_of values)) = ap (λ b. b.width) is_row in
        omega (arith, w_is, wide, large, widths-more)

    pub column-too-large : (w h : ℕ) → 0 < length values → max w (widest_box (drop i values)) ≡ widest_box values → h + heights (drop i values) ≡ column_height look (boxes_of look (nestings_of values))
        → IsTooLarge (box value) → IsTooLarge (box_of look (Stacked (nestings_of values)))
    column-too-large w h some wide high large =
        let is_column = some-stacked values some in
        let w_is : (box_of look (Stacked (nestings_of values))).width ≡ widest_box values = ap (λ b. b.width) is_column in
        let h_is : (box_of look (Stacked (nestings_of values))).height ≡ column_height look (boxes_of look (nestings_of values)) = ap (λ b. b.height) is_column in
        omega (arith, w_is, h_is, wide, high, large, heights-more, widest-more)

    pub column-sum-too-large : (h : ℕ) → 0 < length values → h + heights (drop i values) ≡ column_height look (boxes_of look (nestings_of values)) → 2 ^ 64 ≤ h + (box value).height
        → IsTooLarge (box_of look (Stacked (nestings_of values)))
    column-sum-too-large h some high large =
        let is_column = some-stacked values some in
        let h_is : (box_of look (Stacked (nestings_of values))).height ≡ column_height look (boxes_of look (nestings_of values)) = ap (λ b. b.height) is_column in
        omega (arith, h_is, high, large, heights-more)

  -- the size of all members
  pub row-own : (values all : List TableValue) (i w h : ℕ) → values ≡ all → 0 < length values → length values ≤ i
      → w + widths (drop i values) ≡ row_width look (boxes_of look (nestings_of values)) → max h (highest_box (drop i values)) ≡ highest_box values
      → record { width = w; height = h } ≡ size_of (box_of look (Beside (nestings_of all)))
  row-own values all i w h same some past wide high =
      let none : widths (drop i values) ≡ 0 = ap widths (drop_all i values past) in
      let flat : highest_box (drop i values) ≡ 0 = ap highest_box (drop_all i values past) in
      let w_is : w ≡ row_width look (boxes_of look (nestings_of values)) = omega (arith, none, wide) in
      let h_is : h ≡ highest_box values = omega (arith, flat, high) in
      let size : record { width = w; height = h } ≡ size_of (row_box look (boxes_of look (nestings_of values))) = λ j. record { width = w_is j; height = h_is j } in
      size ∙ (ap size_of (sym (some-beside values some)) ∙ ap (λ vs. size_of (box_of look (Beside (nestings_of vs)))) same)

  pub column-own : (values all : List TableValue) (i w h : ℕ) → values ≡ all → 0 < length values → length values ≤ i
      → max w (widest_box (drop i values)) ≡ widest_box values → h + heights (drop i values) ≡ column_height look (boxes_of look (nestings_of values))
      → record { width = w; height = h } ≡ size_of (box_of look (Stacked (nestings_of all)))
  column-own values all i w h same some past wide high =
      let none : heights (drop i values) ≡ 0 = ap heights (drop_all i values past) in
      let flat : widest_box (drop i values) ≡ 0 = ap widest_box (drop_all i values past) in
      let w_is : w ≡ widest_box values = omega (arith, flat, wide) in
      let h_is : h ≡ column_height look (boxes_of look (nestings_of values)) = omega (arith, none, high) in
      let size : record { width = w; height = h } ≡ size_of (column_box look (boxes_of look (nestings_of values))) = λ j. record { width = w_is j; height = h_is j } in
      size ∙ (ap size_of (sym (some-stacked values some)) ∙ ap (λ vs. size_of (box_of look (Stacked (nestings_of vs)))) same)

  -- all sizes, with the own one put before those of the members
  pub sizes-end : (values all : List TableValue) (old start now : List Size) (first own : Size) (i : ℕ) → values ≡ all → length values ≤ i → start ≡ old ++ first ∷ []
      → now ++ all_sizes (drop i values) ≡ start ++ all_sizes values → set now (length old) own ≡ old ++ own ∷ all_sizes all
  sizes-end values all old start now first own i same past begun sizes =
      let none : all_sizes (drop i values) ≡ [] = ap all_sizes (drop_all i values past) in
      let now_is : now ≡ old ++ first ∷ all_sizes values =
      sym (append-nil now) ∙ (ap (λ l. now ++ l) (sym none) ∙ (sizes ∙ (ap (λ l. l ++ all_sizes values) begun ∙ append_assoc old (first ∷ []) (all_sizes values)))) in
      ap (λ l. set l (length old) own) now_is ∙ (set-behind old (all_sizes values) first own ∙ ap (λ vs. old ++ own ∷ all_sizes vs) same)
