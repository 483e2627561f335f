-- No cell of a table in a requested width is too wide: each column leaves its cells the width at which they are
-- wrapped or cut.
use Rattle.std.proofs.Common.{◌≡◌, ◌&&◌, ◌==◌, ℕ, zero, suc, ◌+◌, ◌-◌, ◌<◌, ◌≤◌, min, nat_le, nat_lt, Bool, true, false, List, [], ◌∷◌, Option, None, Some, get_or, length, map, slice_index, sum, take, drop, refl, ap, sym, subst, ◌∙◌, arith, add-one, if◌then◌else◌}
use Rattle.std.specs.Prelude.{IsUtf8}
use Rattle.std.specs.List.{AllByRecursion, find, range_with_len}
use Rattle.std.proofs.lemmas.Bool.Decides.{nat_tests}
use Rattle.std.proofs.lemmas.List.FromFn.{get_or-map-range_with_len}
use Rattle.ansi_scan.specs.Sequences.{IsWhole}
use Rattle.columns_asked.specs.DrawnTables.{by_column, frame_under, heights_of, resized_rows, narrow, narrowed, paddings, resize_in, too_wide, widths_of}
use Rattle.tabled_size_wrap.specs.Cells.Resizing.{Wrap, Cut, resized_text}
use Rattle.columns_asked.specs.Shrunk.{shrunk_list}
use Rattle.columns_asked.specs.declared.asked.WidthLimit.{WidthLimit}
use Rattle.columns_asked.proofs.Shrunk.{shrunk_list-meets}
use Rattle.columns_table.proofs.AskedWidths.{one-taken, padded}
use Rattle.columns_table.proofs.First.{none-in_row-more, none-more}
use Rattle.columns_table.proofs.Narrowed.{columns-are, frame-is, kept-is, room-natural, some-rows, some-sizes}
use Rattle.columns_table.proofs.SplitRows.{width-each}
use Rattle.columns_run.specs.DrawnTables.{wide_cell}
use Rattle.columns_run.specs.Run.{MayEndBy}
use Rattle.columns_run.specs.Wanted.{Wanted}
use Rattle.program_options.specs.declared.columns.fault.RunFault.TheVariants.{LineTooWide}
use Rattle.columns_run.proofs.Cells.{whole_cells, whole_text}
use Rattle.columns_run.proofs.Rooms.{natural-room}
use Rattle.columns_run.proofs.Tables.{wide-same}
use Rattle.columns_laws.proofs.BoundsLemmas.CellBounds.{cut-bounded, nothing-measures, wrapped-bounded}
use Rattle.grid_config.specs.Compact.{Compact}
use Rattle.grid_config.specs.Looks.{compact_look}
use Rattle.grid_config_values.specs.Spans.Owners.{owner}
use Rattle.grid_config_values.specs.Spans.Spans.{extent_at}
use Rattle.grid_config_values.specs.Entities.{table_positions}
use Rattle.grid_config_values.specs.Order.{same_place}
use Rattle.grid_config_values.specs.declared.position.Position.{Position}
use Rattle.grid_records_measure.specs.TextLines.{text_width}
use Rattle.grid_records_traits.specs.Rows.{text_at}
use Rattle.papergrid_picture.specs.Fitting.{first_too_wide, is_too_wide, need, table_width}
use Rattle.papergrid_picture.specs.Frame.{Frame, block_width, frame_of}
use Rattle.papergrid_picture.specs.Picture.{at}
use Rattle.papergrid_picture.specs.Shown.{AreWholeTexts, IsWholeText}
use Rattle.papergrid_picture.proofs.Shown.{get_or-map}
use Rattle.tabled_size_priority.specs.Choices.{IsShrunkByChoice}
use Rattle.tabled_size_priority.specs.Columns.{by_width, from_column, from_side}
use Rattle.tabled_size_priority.specs.Shrinking.{IsOfForm, size_at_level, size_in_order, size_in_turns, shrunk_in_order, shrunk_in_turns, shrunk_to_level}
use Rattle.tabled_size_priority.specs.declared.choice.Choice.{Choice}
use Rattle.tabled_size_priority.specs.declared.choice.Choice.TheVariants.{None as InTurns, MinLeft, MinRight, MaxLeft, MaxRight, Left, Right}

-- ---- no column is shrunk below the paddings beside a text

order-floor : (given c place width least p : ℕ) → p ≤ width → least ≡ p → p ≤ size_in_order given c place width least
order-floor given c place width least p wide is = by (nat_lt place c) (place == c)
  where
    by : (before here : Bool) → p ≤ (if before then min width least else if here then width - min (width - least) given else width)
    by true here = omega (arith, wide, is)
    by false true = omega (arith, wide, is)
    by false false = wide

level-floor : (level c place width least p : ℕ) → p ≤ width → least ≡ p → p ≤ size_at_level level c place width least
level-floor level c place width least p wide is = omega (arith, wide, is)

turns-floor : (turns c place width least p : ℕ) → p ≤ width → least ≡ p → p ≤ size_in_turns turns c place width least
turns-floor turns c place width least p wide is = omega (arith, wide, is)

pub least-is : (p : ℕ) (widths : List ℕ) (k : ℕ) → k < length widths → slice_index (map (λ _. p) widths) k ≡ p
least-is p [] k below = absurd (omega (arith, below))
least-is p (width ∷ widths) zero below = refl
least-is p (width ∷ widths) (suc k) below = least-is p widths k (omega (arith, below))

module _ (p : ℕ) (widths : List ℕ) (k : ℕ) (below : k < length widths) (wide : p ≤ slice_index widths k) where
  abbrev leasts : List ℕ
  leasts = map (λ _. p) widths

  -- the width of the column in such a list
  formed-at : (form : ℕ → ℕ) (sizes : List ℕ) → sizes ≡ map form (range_with_len 0 (length widths)) → p ≤ form k → p ≤ slice_index sizes k
  formed-at form sizes formed enough =
      subst (λ n. p ≤ n) (sym (ap (λ (found : List ℕ). slice_index found k) formed ∙ get_or-map-range_with_len form 0 (length widths) k k 0 below (omega arith))) enough

  order-keeps : (place : ℕ → ℕ) (total : ℕ) (sizes : List ℕ) → IsOfForm (shrunk_in_order place leasts widths) total sizes → p ≤ slice_index sizes k
  order-keeps place total sizes is =
      formed-at (λ column. size_in_order is.number is.column (place column) (slice_index widths column) (slice_index leasts column)) sizes is.formed
      (order-floor is.number is.column (place k) (slice_index widths k) (slice_index leasts k) p wide (least-is p widths k below))

  level-keeps : (place : ℕ → ℕ) (total : ℕ) (sizes : List ℕ) → IsOfForm (shrunk_to_level place leasts widths) total sizes → p ≤ slice_index sizes k
  level-keeps place total sizes is =
      formed-at (λ column. size_at_level is.number is.column (place column) (slice_index widths column) (slice_index leasts column)) sizes is.formed
      (level-floor is.number is.column (place k) (slice_index widths k) (slice_index leasts k) p wide (least-is p widths k below))

  turns-keep : (place : ℕ → ℕ) (total : ℕ) (sizes : List ℕ) → IsOfForm (shrunk_in_turns place leasts widths) total sizes → p ≤ slice_index sizes k
  turns-keep place total sizes is =
      formed-at (λ column. size_in_turns is.number is.column (place column) (slice_index widths column) (slice_index leasts column)) sizes is.formed
      (turns-floor is.number is.column (place k) (slice_index widths k) (slice_index leasts k) p wide (least-is p widths k below))

  shrunk-keeps : (priority : Choice) (by : ℕ) (sizes : List ℕ) → IsShrunkByChoice priority leasts by widths sizes → p ≤ slice_index sizes k
  shrunk-keeps InTurns by sizes is = turns-keep (from_column 0 (length widths)) _ sizes is
  shrunk-keeps MinLeft by sizes is = order-keeps (by_width false widths) _ sizes is
  shrunk-keeps MinRight by sizes is = order-keeps (by_width true widths) _ sizes is
  shrunk-keeps MaxLeft by sizes is = level-keeps (from_side false (length widths)) _ sizes is
  shrunk-keeps MaxRight by sizes is = level-keeps (from_side true (length widths)) _ sizes is
  shrunk-keeps Left by sizes is = order-keeps (from_side false (length widths)) _ sizes is
  shrunk-keeps Right by sizes is = order-keeps (from_side true (length widths)) _ sizes is

pub narrow-keeps : (style : Compact) (asked : WidthLimit) (natural widths : List ℕ) (total : ℕ) (width : Option ℕ) → narrow style asked natural total width ≡ Some widths → (k : ℕ) → k < length natural → paddings style ≤ slice_index natural k → paddings style ≤ slice_index widths k
narrow-keeps style asked natural widths total None is k below wide = absurd (cc is)
narrow-keeps style asked natural widths total (Some w) is k below wide = by (nat_le total w) is
  where
    by : (b : Bool) → (if b then None else Some (shrunk_list asked.priority (map (λ _. paddings style) natural) (total - w) natural)) ≡ Some widths → paddings style ≤ slice_index widths k
    by true told = absurd (cc told)
    by false told =
        let leasts : List ℕ = map (λ _. paddings style) natural in
        let same : shrunk_list asked.priority leasts (total - w) natural ≡ widths = cc told in
        shrunk-keeps (paddings style) natural k below wide asked.priority (total - w) widths
        (subst (IsShrunkByChoice asked.priority leasts (total - w) natural) same (shrunk_list-meets asked.priority leasts (total - w) natural))

-- ---- the cells that are kept

by_column-at : (f : ℕ → List ℕ → List ℕ) (first j : ℕ) (row : List (List ℕ)) → j < length row → get_or (by_column f first row) j [] ≡ f (first + j) (get_or row j [])
by_column-at f first j [] inside = absurd (omega (arith, inside))
by_column-at f first zero (text ∷ row) inside = let same : first ≡ first + 0 = omega arith in ap (λ n. f n text) same
by_column-at f first (suc j) (text ∷ row) inside =
    let same : first + 1 + j ≡ first + suc j = omega arith in
    by_column-at f (first + 1) j row (omega (arith, inside)) ∙ ap (λ n. f n (get_or row j [])) same

nothing-at : (row : List (List ℕ)) (j : ℕ) → length row ≡ 0 → get_or row j [] ≡ []
nothing-at [] zero none = refl
nothing-at [] (suc j) none = refl
nothing-at (text ∷ row) j none = absurd (omega (arith, none))

by_column-past : (f : ℕ → List ℕ → List ℕ) (first j : ℕ) (row : List (List ℕ)) → length row ≤ j → get_or (by_column f first row) j [] ≡ []
by_column-past f first j [] past = nothing-at [] j refl
by_column-past f first zero (text ∷ row) past = absurd (omega (arith, past))
by_column-past f first (suc j) (text ∷ row) past = by_column-past f (first + 1) j row (omega (arith, past))

cell-whole : (row : List (List ℕ)) → AllByRecursion IsWholeText row → (j : ℕ) → j < length row → IsWholeText (get_or row j [])
cell-whole [] all j inside = absurd (omega (arith, inside))
cell-whole (text ∷ row) all zero inside = all.0
cell-whole (text ∷ row) all (suc j) inside = cell-whole row all.1 j (omega (arith, inside))

row-whole : (rows : List (List (List ℕ))) → AreWholeTexts rows → (i : ℕ) → AllByRecursion IsWholeText (get_or rows i [])
row-whole [] all zero = tt
row-whole [] all (suc i) = tt
row-whole (row ∷ rows) all zero = all.0
row-whole (row ∷ rows) all (suc i) = row-whole rows all.1 i

module _ (style : Compact) (asked : WidthLimit) (texts : List (List (List ℕ))) (whole : AreWholeTexts texts) (widths : List ℕ) (told : narrowed style asked texts ≡ Some widths) where
  abbrev kept : List (List (List ℕ))
  kept = resized_rows style asked texts

  abbrev room : ℕ → ℕ
  room j = slice_index widths j - paddings style

  in-room : (j : ℕ) (text : List ℕ) → IsWholeText text → text_width (resized_text (resize_in style asked (Some widths) j) text) ≤ room j
  in-room j text good =
      elim asked.truncate as (λ b. text_width (resized_text (if b then Cut (room j) else Wrap (room j) asked.keep_words) text) ≤ room j) [
        | true ↦ cut-bounded (room j) text good
        | false ↦ wrapped-bounded (room j) asked.keep_words text good
      ]

  -- a cell in its column's width
  cell-fits : (i j : ℕ) → text_width (text_at kept (at i j)) ≤ room j
  cell-fits i j = by (nat_lt j (length (get_or texts i []))) refl
    where
      row : List (List ℕ)
      row = get_or texts i []

      resize : ℕ → List ℕ → List ℕ
      resize column = resized_text (resize_in style asked (Some widths) column)

      there : text_at kept (at i j) ≡ get_or (by_column (λ column. resized_text (resize_in style asked (Some widths) column)) 0 (get_or texts i [])) j []
      there =
          ap (λ (rows : List (List (List ℕ))). text_at rows (at i j)) (kept-is style asked texts widths told)
          ∙ ap (λ (found : List (List ℕ)). get_or found j []) (get_or-map (by_column (λ column. resized_text (resize_in style asked (Some widths) column)) 0) texts i [])

      by : (b : Bool) → nat_lt j (length (get_or texts i [])) ≡ b → text_width (text_at kept (at i j)) ≤ room j
      by true e =
          let inside : j < length (get_or texts i []) = grind (arith, nat_tests, e) in
          let same : 0 + j ≡ j = omega arith in
          subst (λ (text : List ℕ). text_width text ≤ room j)
          (sym (there ∙ by_column-at (λ column. resized_text (resize_in style asked (Some widths) column)) 0 j (get_or texts i []) inside ∙ ap (λ n. resized_text (resize_in style asked (Some widths) n) (get_or (get_or texts i []) j [])) same))
          (in-room j (get_or (get_or texts i []) j []) (cell-whole (get_or texts i []) (row-whole texts whole i) j inside))
      by false e =
          let past : length (get_or texts i []) ≤ j = grind (arith, nat_tests, e) in
          subst (λ (text : List ℕ). text_width text ≤ room j)
          (sym (there ∙ by_column-past (λ column. resized_text (resize_in style asked (Some widths) column)) 0 j (get_or texts i []) past))
          (omega (arith, nothing-measures))

  floor : (j : ℕ) → j < length widths → paddings style ≤ slice_index widths j
  floor j below =
      let sizes = some-sizes style asked texts widths told in
      let many : length widths ≡ length (widths_of style texts) = columns-are style asked texts widths told ∙ sym (width-each style texts sizes.1) in
      let inside : j < length (widths_of style texts) = omega (arith, many, below) in
      narrow-keeps style asked (widths_of style texts) widths (table_width (frame_under style texts)) asked.width told j inside
      (padded style texts (some-rows style asked texts widths told) j (omega (arith, below, columns-are style asked texts widths told)) inside)

  module _ (heights : List ℕ) where
    abbrev frame : Frame
    frame = frame_of (compact_look style) widths heights

    abbrev test : Position → Bool
    test = is_too_wide frame kept

    fits : (i j : ℕ) → j < length widths → test (at i j) ≡ false
    unfolding extent_at
    fits i j below =
        let width : block_width frame (at i j) ≡ sum (take 1 (drop j widths)) = omega arith in
        let enough : need (compact_look style) kept (at i j) ≤ block_width frame (at i j) = omega (arith, cell-fits i j, floor j below, one-taken widths j below, width) in
        let within : nat_lt (block_width frame (at i j)) (need (compact_look style) kept (at i j)) ≡ false = grind (arith, nat_tests, enough) in
        ap (λ b. same_place (owner (compact_look style).extent (at i j)) (at i j) && b) within ∙ and-false (same_place (owner (compact_look style).extent (at i j)) (at i j))
      where
        and-false : (b : Bool) → (b && false) ≡ false
        and-false true = refl
        and-false false = refl

    none-in_row : (i n : ℕ) → n ≤ length widths → find test (map (at i) (range_with_len 0 n)) ≡ None
    none-in_row i zero less = refl
    none-in_row i (suc n) less =
        ap (λ m. find test (map (at i) (range_with_len 0 m))) (sym (add-one n)) ∙ none-in_row-more test i n (none-in_row i n (omega (arith, less))) (fits i n (omega (arith, less)))

    none-in_rows : (n : ℕ) → find test (table_positions n (length widths)) ≡ None
    none-in_rows zero = refl
    none-in_rows (suc n) =
        ap (λ m. find test (table_positions m (length widths))) (sym (add-one n)) ∙ none-more test (length widths) n (none-in_rows n) (none-in_row n (length widths) (omega arith))

    none-wide : first_too_wide frame kept ≡ None
    none-wide = none-in_rows (length heights)

  narrowed-room : too_wide style asked texts ≡ None
  unfolding too_wide
  narrowed-room =
      let heights : List ℕ = heights_of style kept in
      ap (λ (frame : Frame). first_too_wide frame kept) (sym (frame-is style asked texts widths told heights refl)) ∙ none-wide heights

pub never-too_wide : (style : Compact) (asked : WidthLimit) (texts : List (List (List ℕ))) → AreWholeTexts texts → too_wide style asked texts ≡ None
never-too_wide style asked texts whole = by (narrowed style asked texts) refl
  where
    by : (told : Option (List ℕ)) → narrowed style asked texts ≡ told → too_wide style asked texts ≡ None
    by None e = room-natural style asked texts e (natural-room style texts)
    by (Some widths) e = narrowed-room style asked texts whole widths e

-- ---- runs

pub never-wide : (wanted : Wanted) (input : List ℕ) → IsUtf8 input → IsWhole input → wide_cell wanted input ≡ None
never-wide wanted input utf8 whole =
    let good = whole_text input utf8 whole in
    sym (wide-same wanted input good) ∙ never-too_wide wanted.style wanted.limit _ (whole_cells input good)

pub never-refused : (wanted : Wanted) (input : List ℕ) (row column : ℕ) → ¬ (MayEndBy wanted input (LineTooWide row column))
never-refused wanted input row column may =
    let both : None ≡ Some (record { row = row; col = column }) = sym (never-wide wanted input may.0 may.1) ∙ may.3 in
    absurd (cc both)
