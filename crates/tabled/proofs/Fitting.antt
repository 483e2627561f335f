-- Why a table fits its sizes, or doesn't.
use Rattle.std.proofs.Common.{◌≡◌, Bool, Bor, false, is_some, IsTrue, ◌↔◌, ℕ, zero, suc, ◌+◌, ◌<◌, ◌≤◌, ◌^◌, ◌⊎◌, inl, inr, List, [], ◌∷◌, Option, None, Some, Result, Ok, Err, ap, sym, subst, refl, ◌∙◌, arith, length, get_or, slice_index, unwrap_or, IfErr, IsErrAnd}
use Rattle.std.proofs.lemmas.Bool.{true≢false}
use Rattle.std.specs.Option.{option_copied}
use Rattle.std.proofs.lemmas.List.FromFn.{get_or-map-range_with_len, length-map-range_with_len}
use Rattle.grid_config.specs.Colors.{Color}
use Rattle.grid_config_values.specs.declared.fault.Fault.{Fault}
use Rattle.grid_config_values.specs.declared.fault.Fault.TheVariants.{Memory, Range, Spans, Room}
use Rattle.grid_config_values.specs.declared.position.Position.{Position}
use Rattle.grid_config_values.specs.Spans.Spans.{AreGood, ArePositive, extent_at}
use Rattle.grid_config_values.specs.declared.spans.extent.Extent.{Extent}
use Rattle.grid_config.specs.Looks.{look_of}
use Rattle.grid_config.specs.Settings.{Settings}
use Rattle.grid_records_estimate.proofs.Lengths.{length-table_heights, length-table_widths}
use Rattle.grid_records_estimate.specs.Collecting.{PassesMax}
use Rattle.grid_records_estimate.specs.Estimates.{track_sizes}
use Rattle.grid_records_estimate.specs.Kept.{least_sizes}
use Rattle.grid_records_estimate.specs.Sizes.{IsRefusal, table_heights, table_widths}
use Rattle.grid_records_estimate.specs.Sizing.{TableSizing, sizing_of}
use Rattle.papergrid.specs.Grids.{grid_text}
use Rattle.papergrid.specs.GridParts.{chosen_grid_text}
use Rattle.papergrid.specs.LineKind.{LineKind}
use Rattle.papergrid_fits.proofs.Estimated.{none-too_wide}
use Rattle.papergrid_fits.proofs.Ranges.{line_count-is, table_width-is}
use Rattle.papergrid_fits.specs.Tables.{CanBeDrawn, IsFitsAnswer as IsGridFitsAnswer, column_tracks, row_tracks, sized_frame}
use Rattle.papergrid_picture.proofs.Frames.{boundary-bounded, boundary-next}
use Rattle.papergrid_picture.specs.Fitting.{FitsAnswer, InRange, first_too_wide, table_width}
use Rattle.papergrid_picture.specs.Frame.{Frame, Tracks, line_count, track_at}
use Rattle.tabled_size.specs.Dimension.Sizes.{given_size}
use Rattle.tabled_size.specs.Dimension.Stored.{CompletedPass, Stored, completed, stored_sizes}
use Rattle.tabled_steps.proofs.Estimating.{heights_by_look, widths_by_look}
use Rattle.tabled_steps.specs.Sizes.{natural_heights, natural_widths}
use Rattle.tabled_steps.specs.States.{State, column_count, state_with}
use Rattle.tabled.specs.Printing.{FitsOrFails, IsFitsAnswer, SpansAreGood, drawn_frame, drawn_heights, drawn_sizes, drawn_widths, printed}
use Rattle.tabled.specs.Writing.{chosen_lines}

module _ (spans : List (Position × Extent)) (rows columns : ℕ) where
  pub by_extent : AreGood spans rows columns → SpansAreGood (extent_at spans) rows columns
  by_extent good = record { inside = good.inside; apart = good.apart }

  pub by_spans : SpansAreGood (extent_at spans) rows columns → AreGood spans rows columns
  by_spans good = record { inside = good.inside; apart = good.apart }

-- widths that are not lent are not kept
pub none-kept : (lent : Option (Bor (List ℕ))) (kept : Option (List ℕ)) → option_copied lent ≡ kept → is_some lent ≡ false → kept ≡ None
none-kept None kept is lacks = sym is
none-kept (Some widths) kept is lacks = absurd (true≢false lacks)

-- whichever way it is said that spans are good
same_answer : (frame : Frame) (rows : List (List (List ℕ))) (P Q : Type 0) → (P → Q) → (Q → P) → (answer : Result (Unit {0}) Fault) → FitsAnswer frame rows P answer → FitsAnswer frame rows Q answer
same_answer frame rows P Q there back (Ok done) fit = (there fit.0, fit.1, fit.2)
same_answer frame rows P Q there back (Err Spans) fit = λ q. fit (back q)
same_answer frame rows P Q there back (Err Range) fit = (there fit.0, fit.1)
same_answer frame rows P Q there back (Err (Room row column)) fit = (there fit.0, fit.1, fit.2)
same_answer frame rows P Q there back (Err Memory) fit = fit

-- ---- sizes that pass the range

inside_of : (xs : List ℕ) (t : ℕ) → 2 ^ 64 ≤ slice_index xs t → t < length xs
inside_of [] t passes = absurd (omega (arith, passes))
inside_of (x ∷ xs) zero passes = omega arith
inside_of (x ∷ xs) (suc t) passes = let less = inside_of xs t passes in omega (arith, less)

-- tracks of which one passes the range pass it together
track_passes : (tracks : Tracks) (t : ℕ) → t < length tracks.sizes → 2 ^ 64 ≤ get_or tracks.sizes t 0 → 2 ^ 64 ≤ track_at tracks (length tracks.sizes)
track_passes tracks t inside passes = omega (arith, boundary-next tracks t inside, boundary-bounded tracks (t + 1) (omega arith))

no_rows : (sizing : TableSizing) (columns : ℕ) → table_widths sizing columns [] ≡ []
unfolding table_widths track_sizes
no_rows sizing columns = refl

no_columns : (sizing : TableSizing) (rows : List (List (List ℕ))) → table_heights sizing 0 rows ≡ []
unfolding table_heights track_sizes
no_columns sizing rows = refl

some_rows : (sizing : TableSizing) (columns : ℕ) (rows : List (List (List ℕ))) → 0 < length (table_widths sizing columns rows) → 0 < length rows
some_rows sizing columns [] some = absurd (omega (arith, some, ap length (no_rows sizing columns)))
some_rows sizing columns (row ∷ rows) some = omega arith

some_columns : (sizing : TableSizing) (columns : ℕ) (rows : List (List (List ℕ))) → 0 < length (table_heights sizing columns rows) → 0 < columns
some_columns sizing zero rows some = absurd (omega (arith, some, ap length (no_columns sizing rows)))
some_columns sizing (suc columns) rows some = omega arith

module _ (settings : Settings) (rows : List (List (List ℕ))) (colors : Position → Option Color) (stored : Stored) where
  abbrev state : State
  state = state_with rows (look_of settings) colors stored

  abbrev columns : ℕ
  columns = column_count rows

  abbrev width : ℕ → ℕ
  width = given_size (stored_sizes (drawn_sizes state).widths)

  abbrev height : ℕ → ℕ
  height = given_size (stored_sizes (drawn_sizes state).heights)

  pub drawn_by_settings : completed (least_sizes (sizing_of settings) columns rows) stored ≡ drawn_sizes state
  drawn_by_settings =
      ap (λ widths. completed (record { widths = widths; heights = table_heights (sizing_of settings) columns rows }) stored) (widths_by_look settings columns rows)
      ∙ ap (λ heights. completed (record { widths = natural_widths (look_of settings) columns rows; heights = heights }) stored) (heights_by_look settings columns rows)

  -- a width that passes the range takes the total past it, whatever the heights
  pub widths_total : (other : ℕ → ℕ) → stored.widths ≡ None → (t : ℕ) → 2 ^ 64 ≤ slice_index (table_widths (sizing_of settings) columns rows) t → 2 ^ 64 ≤ table_width (sized_frame settings width other columns (length rows))
  widths_total other none t passes =
      let least : List ℕ = table_widths (sizing_of settings) columns rows in
      let inside : t < length least = inside_of least t passes in
      let some : 0 < length least = omega arith in
      let there : 0 < length rows = some_rows (sizing_of settings) columns rows some in
      let counted : length least ≡ columns = length-table_widths (sizing_of settings) columns rows there in
      let below : t < columns = omega arith in
      let tracks : Tracks = column_tracks settings width columns in
      let many : length tracks.sizes ≡ columns = length-map-range_with_len width 0 columns in
      let drawn : width t ≡ slice_index least t =
      ap (λ kept. slice_index (unwrap_or kept (natural_widths (look_of settings) columns rows)) t) none ∙ ap (λ widths. slice_index widths t) (sym (widths_by_look settings columns rows)) in
      let size : get_or tracks.sizes t 0 ≡ width t = get_or-map-range_with_len width 0 columns t t 0 below (omega arith) in
      let passed : 2 ^ 64 ≤ track_at tracks (length tracks.sizes) = track_passes tracks t (omega (arith, many, below)) (omega (arith, size, drawn, passes)) in
      let some_columns : 0 < columns = omega arith in
      let total = table_width-is settings width other columns (length rows) there some_columns in
      let end : track_at tracks (length tracks.sizes) ≡ track_at tracks columns = ap (track_at tracks) many in
      omega (arith, total, passed, end)

  -- and that width is drawn
  pub widths_passed : stored.widths ≡ None → (t : ℕ) → 2 ^ 64 ≤ slice_index (table_widths (sizing_of settings) columns rows) t → PassesMax (drawn_widths state)
  widths_passed none t passes =
      let least : List ℕ = table_widths (sizing_of settings) columns rows in
      let inside : t < length least = inside_of least t passes in
      let some : 0 < length least = omega arith in
      let there : 0 < length rows = some_rows (sizing_of settings) columns rows some in
      let counted : length least ≡ columns = length-table_widths (sizing_of settings) columns rows there in
      let below : t < columns = omega arith in
      let drawn : width t ≡ slice_index least t =
      ap (λ kept. slice_index (unwrap_or kept (natural_widths (look_of settings) columns rows)) t) none ∙ ap (λ widths. slice_index widths t) (sym (widths_by_look settings columns rows)) in
      let size : get_or (drawn_widths state) t 0 ≡ width t = get_or-map-range_with_len width 0 columns t t 0 below (omega arith) in
      (t, omega (arith, size, drawn, passes))

  pub heights_passed : stored.heights ≡ None → (t : ℕ) → 2 ^ 64 ≤ slice_index (table_heights (sizing_of settings) columns rows) t → PassesMax (drawn_heights state)
  heights_passed none t passes =
      let least : List ℕ = table_heights (sizing_of settings) columns rows in
      let inside : t < length least = inside_of least t passes in
      let some : 0 < length least = omega arith in
      let there : 0 < columns = some_columns (sizing_of settings) columns rows some in
      let counted : length least ≡ length rows = length-table_heights (sizing_of settings) columns rows there in
      let below : t < length rows = omega arith in
      let drawn : height t ≡ slice_index least t =
      ap (λ kept. slice_index (unwrap_or kept (natural_heights (look_of settings) columns rows)) t) none ∙ ap (λ heights. slice_index heights t) (sym (heights_by_look settings columns rows)) in
      let size : get_or (drawn_heights state) t 0 ≡ height t = get_or-map-range_with_len height 0 (length rows) t t 0 below (omega arith) in
      (t, omega (arith, size, drawn, passes))

  pub heights_total : (other : ℕ → ℕ) → stored.heights ≡ None → (t : ℕ) → 2 ^ 64 ≤ slice_index (table_heights (sizing_of settings) columns rows) t → 2 ^ 64 ≤ line_count (sized_frame settings other height columns (length rows))
  heights_total other none t passes =
      let least : List ℕ = table_heights (sizing_of settings) columns rows in
      let inside : t < length least = inside_of least t passes in
      let some : 0 < length least = omega arith in
      let there : 0 < columns = some_columns (sizing_of settings) columns rows some in
      let counted : length least ≡ length rows = length-table_heights (sizing_of settings) columns rows there in
      let below : t < length rows = omega arith in
      let tracks : Tracks = row_tracks settings height (length rows) in
      let many : length tracks.sizes ≡ length rows = length-map-range_with_len height 0 (length rows) in
      let drawn : height t ≡ slice_index least t =
      ap (λ kept. slice_index (unwrap_or kept (natural_heights (look_of settings) columns rows)) t) none ∙ ap (λ heights. slice_index heights t) (sym (heights_by_look settings columns rows)) in
      let size : get_or tracks.sizes t 0 ≡ height t = get_or-map-range_with_len height 0 (length rows) t t 0 below (omega arith) in
      let passed : 2 ^ 64 ≤ track_at tracks (length tracks.sizes) = track_passes tracks t (omega (arith, many, below)) (omega (arith, size, drawn, passes)) in
      let some_rows : 0 < length rows = omega arith in
      let total = line_count-is settings other height columns (length rows) some_rows there in
      let end : track_at tracks (length tracks.sizes) ≡ track_at tracks (length rows) = ap (track_at tracks) many in
      omega (arith, total, passed, end)

  widths_pass : stored.widths ≡ None → (t : ℕ) → 2 ^ 64 ≤ slice_index (table_widths (sizing_of settings) columns rows) t → ¬ (InRange (drawn_frame state))
  widths_pass none t passes range = omega (arith, range.0, widths_total height none t passes)

  heights_pass : stored.heights ≡ None → (t : ℕ) → 2 ^ 64 ≤ slice_index (table_heights (sizing_of settings) columns rows) t → ¬ (InRange (drawn_frame state))
  heights_pass none t passes range = omega (arith, range.1, heights_total width none t passes)

  -- an estimate is refused where a size passes, and then a total does
  pub estimate_refused : (fault : Fault) → IsRefusal fault (CompletedPass (least_sizes (sizing_of settings) columns rows) stored) → (fault ≡ Memory) ⊎ ((fault ≡ Range) × ¬ (InRange (drawn_frame state)))
  estimate_refused fault refused = elim refused as (λ _. (fault ≡ Memory) ⊎ ((fault ≡ Range) × ¬ (InRange (drawn_frame state)))) [
    | inl memory ↦ inl memory
    | inr range ↦ inr (
      range.0,
      elim range.1 as (λ _. ¬ (InRange (drawn_frame state))) [
        | inl widths ↦ widths_pass widths.0 widths.1.0 widths.1.1
        | inr heights ↦ heights_pass heights.0 heights.1.0 heights.1.1
      ],
    )
  ]

  -- ---- each cell fits in the least widths

  no-cell-lacks : stored.widths ≡ None → ArePositive settings.spans → AreGood settings.spans (length rows) columns → first_too_wide (sized_frame settings width height columns (length rows)) rows ≡ None
  no-cell-lacks none positive good =
      let natural : List ℕ = natural_widths (look_of settings) columns rows in
      ap (λ (kept : Option (List ℕ)). first_too_wide (sized_frame settings (slice_index (unwrap_or kept natural)) height columns (length rows)) rows) none
      ∙ ap (λ (widths : List ℕ). first_too_wide (sized_frame settings (slice_index widths) height columns (length rows)) rows) (sym (widths_by_look settings columns rows))
      ∙ none-too_wide settings columns rows height positive good

  pub least-fit : stored.widths ≡ None → ArePositive settings.spans → AreGood settings.spans (length rows) columns → InRange (drawn_frame state) → IsFitsAnswer state (Ok tt)
  least-fit none positive good range = (by_extent settings.spans (length rows) columns good, range, no-cell-lacks none positive good)

  abbrev range_in : Stored → ℕ → ℕ → Type 0
  range_in sizes n m = InRange (sized_frame settings (given_size (stored_sizes sizes.widths)) (given_size (stored_sizes sizes.heights)) n m)

  pub range-told : (sizes : Stored) (n m : ℕ) (answer : Bool) → sizes ≡ drawn_sizes state → n ≡ columns → m ≡ length rows → (IsTrue answer ↔ range_in sizes n m) → IsTrue answer ↔ InRange (drawn_frame state)
  range-told sizes n m answer is wide many told =
      subst (λ (m : ℕ). IsTrue answer ↔ range_in (drawn_sizes state) columns m) many
      (subst (λ (n : ℕ). IsTrue answer ↔ range_in (drawn_sizes state) n m) wide (subst (λ (sizes : Stored). IsTrue answer ↔ range_in sizes n m) is told))

  -- ---- what `fits` returns, by other names of the same

  module _ (given : Settings) (sizes : Stored) (n : ℕ) (same : given ≡ settings) (is : sizes ≡ drawn_sizes state) (counted : n ≡ columns) where
    abbrev answers : Settings → Stored → ℕ → Result (Unit {0}) Fault → Type 0
    answers given sizes n answer = IsGridFitsAnswer given (given_size (stored_sizes sizes.widths)) (given_size (stored_sizes sizes.heights)) n rows answer

    pub is_fit : (answer : Result (Unit {0}) Fault) → answers given sizes n answer → IsFitsAnswer state answer
    is_fit answer fit =
        same_answer (drawn_frame state) rows (AreGood settings.spans (length rows) columns) (SpansAreGood (look_of settings).extent (length rows) columns)
        (by_extent settings.spans (length rows) columns) (by_spans settings.spans (length rows) columns) answer
        (subst (λ (n : ℕ). answers settings (drawn_sizes state) n answer) counted
        (subst (λ (sizes : Stored). answers settings sizes n answer) is (subst (λ (given : Settings). answers given sizes n answer) same fit)))

    abbrev fits_in : Settings → Stored → ℕ → Type 0
    fits_in given sizes n = CanBeDrawn given (given_size (stored_sizes sizes.widths)) (given_size (stored_sizes sizes.heights)) n rows

    pub fits_given : IsFitsAnswer state (Ok tt) → fits_in given sizes n
    fits_given fit =
        subst (λ (given : Settings). fits_in given sizes n) (sym same)
        (subst (λ (sizes : Stored). fits_in settings sizes n) (sym is)
        (subst (λ (n : ℕ). fits_in settings (drawn_sizes state) n) (sym counted) (record { good = by_spans settings.spans (length rows) columns fit.0; range = fit.1; room = fit.2 })))

    abbrev text_in : Settings → Stored → ℕ → List ℕ
    text_in given sizes n = grid_text (look_of given) (given_size (stored_sizes sizes.widths)) (given_size (stored_sizes sizes.heights)) colors n rows

    pub is_printed : text_in given sizes n ≡ printed state
    is_printed = ap (λ given. text_in given sizes n) same ∙ ap (λ sizes. text_in settings sizes n) is ∙ ap (λ n. text_in settings (drawn_sizes state) n) counted

    abbrev chosen_in : Settings → Stored → ℕ → (LineKind → Bool) → List ℕ
    chosen_in given sizes n chooses = chosen_grid_text (look_of given) (given_size (stored_sizes sizes.widths)) (given_size (stored_sizes sizes.heights)) colors n rows chooses

    pub are_chosen : (chooses : LineKind → Bool) → chosen_in given sizes n chooses ≡ chosen_lines chooses state
    are_chosen chooses = ap (λ given. chosen_in given sizes n chooses) same ∙ ap (λ sizes. chosen_in settings sizes n chooses) is ∙ ap (λ n. chosen_in settings (drawn_sizes state) n chooses) counted

  -- where the spans are good a refused estimate is a table that doesn't fit
  pub refused_unfit : (fault : Fault) → AreGood settings.spans (length rows) columns → (fault ≡ Memory) ⊎ ((fault ≡ Range) × ¬ (InRange (drawn_frame state))) → (fault ≡ Memory) ⊎ IsFitsAnswer state (Err fault)
  refused_unfit fault good refused = elim refused as (λ _. (fault ≡ Memory) ⊎ IsFitsAnswer state (Err fault)) [
    | inl memory ↦ inl memory
    | inr range ↦ inr (subst (λ (fault : Fault). IsFitsAnswer state (Err fault)) (sym range.0) (by_extent settings.spans (length rows) columns good, range.1))
  ]

  module _ (given : Settings) (n : ℕ) (same : given ≡ settings) (counted : n ≡ columns) where
    pub spans_told : (answer : Bool) (m : ℕ) → m ≡ length rows → (IsTrue answer ↔ AreGood given.spans m n) → IsTrue answer ↔ AreGood settings.spans (length rows) columns
    spans_told answer m many told =
        subst (λ (n : ℕ). IsTrue answer ↔ AreGood settings.spans (length rows) n) counted
        (subst (λ (m : ℕ). IsTrue answer ↔ AreGood settings.spans m n) many (subst (λ (given : Settings). IsTrue answer ↔ AreGood given.spans m n) same told))

    module _ (kept : Stored) (copied : kept ≡ stored) where
      pub drawn_here : completed (least_sizes (sizing_of given) n rows) kept ≡ drawn_sizes state
      drawn_here =
          ap (λ (given : Settings). completed (least_sizes (sizing_of given) n rows) kept) same ∙ ap (λ n. completed (least_sizes (sizing_of settings) n rows) kept) counted
          ∙ ap (completed (least_sizes (sizing_of settings) columns rows)) copied ∙ drawn_by_settings

      pub refused_here : (fault : Fault) → IsRefusal fault (CompletedPass (least_sizes (sizing_of given) n rows) kept) → (fault ≡ Memory) ⊎ ((fault ≡ Range) × ¬ (InRange (drawn_frame state)))
      refused_here fault refused =
          estimate_refused fault
          (subst (λ (kept : Stored). IsRefusal fault (CompletedPass (least_sizes (sizing_of settings) columns rows) kept)) copied
          (subst (λ (n : ℕ). IsRefusal fault (CompletedPass (least_sizes (sizing_of settings) n rows) kept)) counted
          (subst (λ (given : Settings). IsRefusal fault (CompletedPass (least_sizes (sizing_of given) n rows) kept)) same refused)))

-- ---- what is made of a table

module _ {A : Type 0} (s : State) where
  -- an error is passed on
  pub fails-told : (result : Result A Fault) (fault : Fault) → IsErrAnd result (λ e. e ≡ fault) → (fault ≡ Memory) ⊎ IsFitsAnswer s (Err fault) → FitsOrFails s result
  fails-told (Ok x) fault told why = absurd told
  fails-told (Err e) fault told why = record { fits = tt; refused = subst (λ (fault : Fault). (fault ≡ Memory) ⊎ IsFitsAnswer s (Err fault)) (sym told) why }

  -- of a table that fits
  pub fits-told : (result : Result A Fault) → IsFitsAnswer s (Ok tt) → IfErr result (λ fault. fault ≡ Memory) → FitsOrFails s result
  fits-told (Ok x) fit memory = record { fits = fit; refused = tt }
  fits-told (Err e) fit memory = record { fits = tt; refused = inl memory }
