-- Steps read texts by their measures alone: they pass through a change of the texts by which no measure changes.
use Rattle.std.proofs.Common.{◌≡◌, ◌==◌, ◌&&◌, ◌||◌, ◌-◌, ◌*◌, ◌/◌, not, nat_lt, nat_le, ℕ, Bool, true, false, List, [], Option, None, Some, Result, Ok, Err, map, length, slice_index, refl, ap, sym, subst, ◌∙◌, if◌then◌else◌}
use Rattle.std.specs.List.{range_with_len}
use Rattle.std.specs.Option.{option_map}
use Rattle.std.specs.Prelude.{IfSome, MatchResult}
use Rattle.grid_config.specs.Looks.{Look}
use Rattle.grid_config_values.specs.declared.entity.Entity.{Entity}
use Rattle.grid_config_values.specs.declared.entity.Entity.TheVariants.{Global}
use Rattle.grid_config_values.specs.declared.fault.Fault.{Fault}
use Rattle.grid_config_values.specs.declared.fault.Fault.TheVariants.{Spans}
use Rattle.grid_config_values.specs.declared.position.Position.{Position}
use Rattle.grid_records_estimate.specs.Estimates.{greatest, smallest}
use Rattle.grid_records_estimate.specs.Sizing.{position_at}
use Rattle.grid_records_traits.specs.Rows.{text_at}
use Rattle.grid_records_traits.specs.TextLines.{text_height, text_width}
use Rattle.papergrid_picture.specs.Shown.{AreWholeTexts, IsWholeText}
use Rattle.papergrid_picture.proofs.Shown.{whole-at}
use Rattle.tabled_height.specs.Heights.{HeightEstimate, counted, estimated, fewest_lines, hundredths, most_lines, row_lines}
use Rattle.tabled_height.specs.Lines.{limited}
use Rattle.tabled_height.specs.Steps.{LimitsTable, MeasuredHeight, RaisesTable, Resizes, WhereCells, has_no_cells, GrownRows, ShrunkRows, keeping_heights, limiting_rows, listing_heights}
use Rattle.tabled_list.specs.Amounts.{height_of, width_of}
use Rattle.tabled_list.specs.declared.amount.Amount.{Amount}
use Rattle.tabled_list.specs.declared.amount.Amount.TheVariants.{Exact, Max, Min, Percent}
use Rattle.tabled_size.specs.Dimension.Stored.{Stored}
use Rattle.tabled_steps.specs.Changes.{changed_rows, changing}
use Rattle.tabled_steps.specs.Outcomes.{◌≫=◌, all_sized, sized}
use Rattle.tabled_steps.specs.Sizes.{heights_or, natural_heights, natural_widths, widths_or}
use Rattle.tabled_steps.specs.States.{Outcome, Settles, State, column_count, looking, positive, settled}
use Rattle.tabled_width.specs.Lists.{with_width_list}
use Rattle.tabled_width.specs.Measures.{greatest_smallest_width, greatest_width, row_widths}
use Rattle.tabled_width.specs.WholeTables.Rooms.{column_widths, empty_widths, in_room, text_room}
use Rattle.tabled_width.specs.WholeTables.Steps.{Measured, Then}
use Rattle.tabled_width.specs.WholeTables.Tables.{WithSizes, TableSizes, Grown, Narrows, NarrowsTable, Shrunk, Where, Widens, WidensTable, table_sizes, sizes_with, has_cells, keeping, narrowed_state}
use Rattle.tabled_width.specs.WholeTables.Widths.{width_with_columns}
use Rattle.tabled_list.proofs.StrippingLemmas.TextsByPlace.{outcome_by, rows_from, state_by}
use Rattle.tabled_list.proofs.StrippingLemmas.MappedRows.{changed-same, changed-whole, columns-same, heights-same, length-rows, text-same, widths-same}

-- texts are changed so, and no measure changes
pub record IsBlind (f : Position → List ℕ → List ℕ) : Type 0 where
  pub none : (p : Position) → f p [] ≡ []
  pub wide : (p : Position) (text : List ℕ) → text_width (f p text) ≡ text_width text
  pub high : (p : Position) (text : List ℕ) → text_height (f p text) ≡ text_height text

-- the texts that a step leaves are whole
abbrev pub IsWholeOutcome : Outcome → Type 0
IsWholeOutcome (Ok s) = AreWholeTexts s.rows
IsWholeOutcome (Err fault) = Unit {0}

settled-whole : (hint : Option Entity) (outcome : Outcome) → IsWholeOutcome outcome → IsWholeOutcome (settled hint outcome)
settled-whole hint (Ok s) whole = whole
settled-whole hint (Err fault) whole = tt

module _ (f : Position → List ℕ → List ℕ) (blind : IsBlind f) where
  -- this may come of the changed table, and texts are whole
  abbrev pub Goes : (Outcome → Type 0) → Outcome → Type 0
  Goes step outcome = step (outcome_by f outcome) × IsWholeOutcome outcome

  -- a step passes through
  abbrev pub Passes : (State → Outcome → Type 0) → Type 0
  Passes step = (s : State) (outcome : Outcome) → AreWholeTexts s.rows → step s outcome → Goes (step (state_by f s)) outcome

  -- a change of whole texts passes through, and leaves whole texts
  pub record Commutes (change : Position → List ℕ → Option (List ℕ)) : Type 0 where
    pub same : (p : Position) (text : List ℕ) → IsWholeText text → change p (f p text) ≡ option_map (f p) (change p text)
    pub stays : (p : Position) (text : List ℕ) → IsWholeText text → IfSome (change p text) IsWholeText

  -- ---- settings

  settled-same : (hint : Option Entity) (outcome : Outcome) → settled hint (outcome_by f outcome) ≡ outcome_by f (settled hint outcome)
  settled-same hint (Ok s) = refl
  settled-same hint (Err fault) = refl

  pub settles : (hint : Option Entity) (step : State → Outcome → Type 0) → Passes step → Passes (Settles hint step)
  settles hint step passes s outcome whole is =
      let goes = passes s is.0 whole is.1 in
      ((outcome_by f is.0, goes.0, settled-same hint is.0 ∙ ap (outcome_by f) is.2), subst IsWholeOutcome is.2 (settled-whole hint is.0 goes.1))

  -- a step that is a function
  pub equals : (step : State → Outcome) → ((s : State) → AreWholeTexts s.rows → (step (state_by f s) ≡ outcome_by f (step s)) × IsWholeOutcome (step s)) → Passes (λ s outcome. step s ≡ outcome)
  equals step same s outcome whole is = let goes = same s whole in (goes.0 ∙ ap (outcome_by f) is, subst IsWholeOutcome is goes.1)

  pub looks : (change : Look → Look) → Passes (λ s outcome. looking change s ≡ outcome)
  looks change = equals (looking change) (λ s whole. (refl, whole))

  pub positives : (n : ℕ) (change : Look → Look) → Passes (λ s outcome. positive n (looking change) s ≡ outcome)
  positives n change = equals (positive n (looking change)) (λ s whole. test s whole (n == 0))
    where
      test : (s : State) → AreWholeTexts s.rows → (b : Bool) → ((if b then Err Spans else looking change (state_by f s)) ≡ outcome_by f (if b then Err Spans else looking change s)) × IsWholeOutcome (if b then Err Spans else looking change s)
      test s whole true = (refl, tt)
      test s whole false = (refl, whole)

  pub lists_widths : (widths : List ℕ) → Passes (λ s outcome. with_width_list widths s ≡ outcome)
  lists_widths widths = equals (with_width_list widths) (λ s whole.
      let tested = test s whole (nat_le (column_count s.rows) (length widths)) in
      (ap (λ n. if nat_le n (length widths) then Ok (record (state_by f s) { sizes = record s.sizes { widths = Some widths } }) else Ok (state_by f s)) (columns-same f 0 s.rows) ∙ tested.0, tested.1))
    where
      test : (s : State) → AreWholeTexts s.rows → (b : Bool) → ((if b then Ok (record (state_by f s) { sizes = record s.sizes { widths = Some widths } }) else Ok (state_by f s))
          ≡ outcome_by f (if b then Ok (record s { sizes = record s.sizes { widths = Some widths } }) else Ok s)) × IsWholeOutcome (if b then Ok (record s { sizes = record s.sizes { widths = Some widths } }) else Ok s)
      test s whole true = (refl, whole)
      test s whole false = (refl, whole)

  pub lists_heights : (heights : List ℕ) → Passes (λ s outcome. listing_heights heights s ≡ outcome)
  lists_heights heights = equals (listing_heights heights) (λ s whole.
      let tested = test s whole (nat_lt (length heights) (length s.rows)) in
      (ap (λ n. Ok (if nat_lt (length heights) n then state_by f s else keeping_heights (Some heights) (state_by f s))) (length-rows f 0 s.rows) ∙ tested.0, tested.1))
    where
      test : (s : State) → AreWholeTexts s.rows → (b : Bool) → (Ok (if b then state_by f s else keeping_heights (Some heights) (state_by f s)) ≡ outcome_by f (Ok (if b then s else keeping_heights (Some heights) s)))
          × IsWholeOutcome (Ok (if b then s else keeping_heights (Some heights) s))
      test s whole true = (refl, whole)
      test s whole false = (refl, whole)

  -- ---- sizes that are taken from a table

  abbrev pub Blind : (ℕ → List (List (List ℕ)) → Look → Result ℕ Fault → Type 0) → Type 0
  Blind measures = (columns : ℕ) (rows : List (List (List ℕ))) (look : Look) (size : Result ℕ Fault) → measures columns rows look size → measures columns (rows_from f 0 rows) look size

  module _ (columns : ℕ) (rows : List (List (List ℕ))) where
    abbrev other : List (List (List ℕ))
    other = rows_from f 0 rows

    width-at : (row column : ℕ) → text_width (text_at other (position_at row column)) ≡ text_width (text_at rows (position_at row column))
    width-at row column = ap text_width (text-same f blind.none rows (position_at row column)) ∙ blind.wide (position_at row column) (text_at rows (position_at row column))

    height-at : (row column : ℕ) → text_height (text_at other (position_at row column)) ≡ text_height (text_at rows (position_at row column))
    height-at row column = ap text_height (text-same f blind.none rows (position_at row column)) ∙ blind.high (position_at row column) (text_at rows (position_at row column))

    widest-same : greatest_width columns other ≡ greatest_width columns rows
    widest-same =
        ap (λ n. greatest (map (λ row. greatest (row_widths columns other row)) (range_with_len 0 n))) (length-rows f 0 rows)
        ∙ (λ k. greatest (map (λ row. greatest (map (λ column. width-at row column k) (range_with_len 0 columns))) (range_with_len 0 (length rows))))

    smallest-same : greatest_smallest_width columns other ≡ greatest_smallest_width columns rows
    smallest-same =
        ap (λ n. greatest (map (λ row. smallest (row_widths columns other row)) (range_with_len 0 n))) (length-rows f 0 rows)
        ∙ (λ k. greatest (map (λ row. smallest (map (λ column. width-at row column k) (range_with_len 0 columns))) (range_with_len 0 (length rows))))

    most-same : most_lines columns other ≡ most_lines columns rows
    most-same =
        ap (λ n. greatest (map (row_lines columns other) (range_with_len 0 n))) (length-rows f 0 rows)
        ∙ (λ k. greatest (map (λ row. greatest (map (λ column. height-at row column k) (range_with_len 0 columns))) (range_with_len 0 (length rows))))

    fewest-same : fewest_lines columns other ≡ fewest_lines columns rows
    fewest-same =
        ap (λ n. smallest (map (row_lines columns other) (range_with_len 0 n))) (length-rows f 0 rows)
        ∙ (λ k. smallest (map (λ row. greatest (map (λ column. height-at row column k) (range_with_len 0 columns))) (range_with_len 0 (length rows))))

    module _ (look : Look) where
      widths-here : natural_widths look columns other ≡ natural_widths look columns rows
      widths-here = widths-same f blind.none look columns rows blind.wide

      heights-here : natural_heights look columns other ≡ natural_heights look columns rows
      heights-here = heights-same f blind.none look columns rows blind.high

      pub width_of-same : (amount : Amount) → width_of amount columns other look ≡ width_of amount columns rows look
      width_of-same (Exact n) = refl
      width_of-same Max = ap Ok widest-same
      width_of-same Min = ap Ok smallest-same
      width_of-same (Percent n) = ap (λ (found : List ℕ). all_sized found ≫= λ widths. sized (width_with_columns look widths) ≫= λ whole. sized (whole * n) ≫= λ product. Ok (product / 100)) widths-here

      pub height_of-same : (amount : Amount) → height_of amount columns other look ≡ height_of amount columns rows look
      height_of-same (Exact n) = refl
      height_of-same Max = ap Ok most-same
      height_of-same Min = ap Ok fewest-same
      height_of-same (Percent n) = ap (λ (found : List ℕ). counted look found ≫= λ estimate. hundredths n estimate.lines) heights-here

      pub widths_or-same : (kept : Option (List ℕ)) → widths_or kept look columns other ≡ widths_or kept look columns rows
      widths_or-same (Some widths) = refl
      widths_or-same None = ap all_sized widths-here

      pub heights_or-same : (kept : Option (List ℕ)) → heights_or kept look columns other ≡ heights_or kept look columns rows
      heights_or-same (Some heights) = refl
      heights_or-same None = ap all_sized heights-here

      pub drawn-same : (sizes : Stored) → table_sizes look columns other sizes ≡ table_sizes look columns rows sizes
      drawn-same sizes =
          let behind : List ℕ → Result (List ℕ) Fault → Result TableSizes Fault =
          λ widths found. found ≫= λ heights. sized (width_with_columns look (column_widths columns widths)) ≫= λ whole. Ok (sizes_with widths heights whole) in
          ap (λ (found : Result (List ℕ) Fault). found ≫= λ widths. behind widths (heights_or sizes.heights look columns other)) (widths_or-same sizes.widths)
          ∙ ap (λ (found : Result (List ℕ) Fault). widths_or sizes.widths look columns rows ≫= λ widths. behind widths found) (heights_or-same sizes.heights)

      pub estimated-same : estimated look columns other ≡ estimated look columns rows
      estimated-same = ap (counted look) heights-here

  pub width_blind : (amount : Amount) → Blind (λ columns rows look outcome. width_of amount columns rows look ≡ outcome)
  width_blind amount columns rows look size is = width_of-same columns rows look amount ∙ is

  pub height_blind : (amount : Amount) → Blind (λ columns rows look outcome. height_of amount columns rows look ≡ outcome)
  height_blind amount columns rows look size is = height_of-same columns rows look amount ∙ is

  -- ---- steps that follow what was worked out
  follows : {A : Type 0} (worked : Result A Fault) (first second : A → Outcome → Type 0) → ((a : A) (outcome : Outcome) → first a outcome → Goes (second a) outcome)
      → (outcome : Outcome) → Then worked first outcome → Goes (Then worked second) outcome
  follows (Ok a) first second next outcome is = next a outcome is
  follows (Err fault) first second next outcome is = (ap (outcome_by f) is, subst IsWholeOutcome is tt)

  module _ (measures : ℕ → List (List (List ℕ)) → Look → Result ℕ Fault → Type 0) (is_blind : Blind measures) (step : ℕ → State → Outcome → Type 0) (passes : (n : ℕ) → Passes (step n)) where
    measured-here : (s : State) (size : Result ℕ Fault) → measures (column_count s.rows) s.rows s.look size → measures (column_count (rows_from f 0 s.rows)) (rows_from f 0 s.rows) s.look size
    measured-here s size is = subst (λ n. measures n (rows_from f 0 s.rows) s.look size) (sym (columns-same f 0 s.rows)) (is_blind (column_count s.rows) s.rows s.look size is)

    pub measured : Passes (Measured measures step)
    measured s outcome whole is =
        let goes = follows is.0 (λ n. step n s) (λ n. step n (state_by f s)) (λ n outcome done. passes n s outcome whole done) outcome is.2 in
        ((is.0, measured-here s is.0 is.1, goes.0), goes.1)

    abbrev Matched : State → Result ℕ Fault → Outcome → Type 0
    Matched s size outcome = MatchResult size (λ n. step n s outcome) (λ fault. Err fault ≡ outcome)

    matched : (s : State) (outcome : Outcome) → AreWholeTexts s.rows → (size : Result ℕ Fault) → Matched s size outcome → Goes (Matched (state_by f s) size) outcome
    matched s outcome whole (Ok n) done = passes n s outcome whole done
    matched s outcome whole (Err fault) done = (ap (outcome_by f) done, subst IsWholeOutcome done tt)

    pub measured_height : Passes (MeasuredHeight measures step)
    measured_height s outcome whole is = let goes = matched s outcome whole is.0 is.2 in ((is.0, measured-here s is.0 is.1, goes.0), goes.1)

  where-test : (b : Bool) (step : State → Outcome → Type 0) → Passes step → (s : State) (outcome : Outcome) → AreWholeTexts s.rows → Where b step s outcome → Goes (Where b step (state_by f s)) outcome
  where-test true step passes s outcome whole is = passes s outcome whole is
  where-test false step passes s outcome whole is = (ap (outcome_by f) is, subst IsWholeOutcome is whole)

  -- ---- texts

  module _ (change : Position → List ℕ → Option (List ℕ)) (commutes : Commutes change) where
    rows-same : (at : Entity) (s : State) → AreWholeTexts s.rows → changed_rows change at (column_count (rows_from f 0 s.rows)) (rows_from f 0 s.rows) ≡ rows_from f 0 (changed_rows change at (column_count s.rows) s.rows)
    rows-same at s whole =
        ap (λ n. changed_rows change at n (rows_from f 0 s.rows)) (columns-same f 0 s.rows)
        ∙ changed-same f blind.none change s.rows (λ p. commutes.same p (text_at s.rows p) (whole-at s.rows whole p)) at (column_count s.rows)

    rows-whole : (at : Entity) (s : State) → AreWholeTexts s.rows → AreWholeTexts (changed_rows change at (column_count s.rows) s.rows)
    rows-whole at s whole = changed-whole change s.rows whole (λ p. commutes.stays p (text_at s.rows p) (whole-at s.rows whole p)) at (column_count s.rows)

    pub changes_texts : (at : Entity) → Passes (λ s outcome. changing change at s ≡ outcome)
    changes_texts at = equals (changing change at) (λ s whole. (ap (λ rows. Ok (record s { rows = rows })) (rows-same at s whole), rows-whole at s whole))

  -- ---- a table as a whole

  cells-same : (s : State) → has_cells (state_by f s) ≡ has_cells s
  cells-same s = ap (λ n. not (n == 0) && not (column_count (rows_from f 0 s.rows) == 0)) (length-rows f 0 s.rows) ∙ ap (λ n. not (length s.rows == 0) && not (n == 0)) (columns-same f 0 s.rows)

  where-cells : (step : State → Outcome → Type 0) → Passes step → Passes (λ s. Where (has_cells s) step s)
  where-cells step passes s outcome whole is =
      subst (λ b. Goes (Where b step (state_by f s)) outcome) (sym (cells-same s)) (where-test (has_cells s) step passes s outcome whole is)

  with-sizes : (step : List ℕ → ℕ → State → Outcome → Type 0) → ((widths : List ℕ) (whole : ℕ) → Passes (step widths whole)) → Passes (WithSizes step)
  with-sizes step passes s outcome whole is =
      let other = rows_from f 0 s.rows in
      let sizes-are : table_sizes s.look (column_count other) other s.sizes ≡ table_sizes s.look (column_count s.rows) s.rows s.sizes =
      ap (λ n. table_sizes s.look n other s.sizes) (columns-same f 0 s.rows) ∙ drawn-same (column_count s.rows) s.rows s.look s.sizes in
      subst (λ (worked : Result TableSizes Fault). Goes (Then worked (λ it. step (column_widths (column_count other) it.widths) it.whole (keeping it (state_by f s)))) outcome) (sym sizes-are)
      (follows (table_sizes s.look (column_count s.rows) s.rows s.sizes) (λ it. step (column_widths (column_count s.rows) it.widths) it.whole (keeping it s))
      (λ it. step (column_widths (column_count other) it.widths) it.whole (keeping it (state_by f s)))
      (λ it outcome done. subst (λ n. Goes (step (column_widths n it.widths) it.whole (keeping it (state_by f s))) outcome) (sym (columns-same f 0 s.rows))
      (passes (column_widths (column_count s.rows) it.widths) it.whole (keeping it s) outcome whole done))
      outcome is)

  module _ {P : Type 0} (shrinks : P → List ℕ → ℕ → List ℕ → P → List ℕ → Type 0) (priority : P) (change : ℕ → List ℕ → Option (List ℕ)) (commutes : (n : ℕ) → Commutes (λ p. change n)) where
    in_room-commutes : (look : Look) (least widths : List ℕ) → Commutes (λ p text. in_room change text (text_room look least widths p))
    in_room-commutes look least widths = record { same = λ p text whole. by p text whole (text_room look least widths p); stays = λ p text whole. kept p text whole (text_room look least widths p) }
      where
        by : (p : Position) (text : List ℕ) → IsWholeText text → (found : Option ℕ) → in_room change (f p text) found ≡ option_map (f p) (in_room change text found)
        by p text whole None = refl
        by p text whole (Some n) = (commutes n).same p text whole

        kept : (p : Position) (text : List ℕ) → IsWholeText text → (found : Option ℕ) → IfSome (in_room change text found) IsWholeText
        kept p text whole None = tt
        kept p text whole (Some n) = (commutes n).stays p text whole

    narrowed_state-same : (least widths : List ℕ) (s : State) → AreWholeTexts s.rows → narrowed_state change least widths (state_by f s) ≡ state_by f (narrowed_state change least widths s)
    narrowed_state-same least widths s whole =
        ap (λ (rows : List (List (List ℕ))). record s { rows = rows; sizes = record { widths = Some widths; heights = None } })
        (rows-same (λ p text. in_room change text (text_room s.look least widths p)) (in_room-commutes s.look least widths) Global s whole)

    shrunk : (widths : List ℕ) (by : ℕ) → Passes (Shrunk shrinks priority change widths by)
    shrunk widths by s outcome whole is =
        let other = rows_from f 0 s.rows in
        let Gives : State → List ℕ → Outcome → Type 0 = λ s least outcome. (left : List ℕ) × ((after : P) × shrinks priority least by widths after left) × (Ok (narrowed_state change least left s) ≡ outcome) in
        let least-are : all_sized (empty_widths s.look (column_count other) (length other)) ≡ all_sized (empty_widths s.look (column_count s.rows) (length s.rows)) =
        ap (λ n. all_sized (empty_widths s.look n (length other))) (columns-same f 0 s.rows) ∙ ap (λ n. all_sized (empty_widths s.look (column_count s.rows) n)) (length-rows f 0 s.rows) in
        subst (λ (worked : Result (List ℕ) Fault). Goes (Then worked (Gives (state_by f s))) outcome) (sym least-are)
        (follows (all_sized (empty_widths s.look (column_count s.rows) (length s.rows))) (Gives s) (Gives (state_by f s))
        (λ least outcome done. (
          (done.0, done.1, ap Ok (narrowed_state-same least done.0 s whole) ∙ ap (outcome_by f) done.2),
          subst IsWholeOutcome done.2 (rows-whole (λ p text. in_room change text (text_room s.look least done.0 p)) (in_room-commutes s.look least done.0) Global s whole),
        ))
        outcome is)

    pub narrows : (asked : ℕ) → Passes (Narrows shrinks priority change asked)
    narrows asked = with-sizes (λ widths whole. Where (nat_lt asked whole) (Shrunk shrinks priority change widths (whole - asked)))
        (λ widths all s outcome whole is. where-test (nat_lt asked all) (Shrunk shrinks priority change widths (all - asked)) (shrunk widths (all - asked)) s outcome whole is)

    pub narrows_table : (measures : ℕ → List (List (List ℕ)) → Look → Result ℕ Fault → Type 0) → Blind measures → Passes (NarrowsTable shrinks priority change measures)
    narrows_table measures is_blind = where-cells (Measured measures (Narrows shrinks priority change)) (measured measures is_blind (Narrows shrinks priority change) narrows)

  module _ {P : Type 0} (grows : P → ℕ → List ℕ → P → List ℕ → Type 0) (priority : P) where
    grown : (widths : List ℕ) (by : ℕ) → Passes (Grown grows priority widths by)
    grown widths by s outcome whole is = ((is.0, is.1, ap (outcome_by f) is.2), subst IsWholeOutcome is.2 whole)

    pub widens : (asked : ℕ) → Passes (Widens grows priority asked)
    widens asked = with-sizes (λ widths whole. Where (nat_lt whole asked) (Grown grows priority widths (asked - whole)))
        (λ widths all s outcome whole is. where-test (nat_lt all asked) (Grown grows priority widths (asked - all)) (grown widths (asked - all)) s outcome whole is)

    pub widens_table : (measures : ℕ → List (List (List ℕ)) → Look → Result ℕ Fault → Type 0) → Blind measures → Passes (WidensTable grows priority measures)
    widens_table measures is_blind = where-cells (Measured measures (Widens grows priority)) (measured measures is_blind (Widens grows priority) widens)

  -- ---- heights

  no_cells-same : (s : State) → has_no_cells (state_by f s) ≡ has_no_cells s
  no_cells-same s = ap (λ n. n == 0 || (column_count (rows_from f 0 s.rows) == 0)) (length-rows f 0 s.rows) ∙ ap (λ n. length s.rows == 0 || (n == 0)) (columns-same f 0 s.rows)

  -- with rows and columns, or without, a step comes
  where_cells : (step : State → Outcome → Type 0) → Passes step → Passes (WhereCells step)
  where_cells step passes s outcome whole is = by (has_no_cells s) refl
    where
      by : (b : Bool) → has_no_cells s ≡ b → Goes (WhereCells step (state_by f s)) outcome
      by true e = (
        record { without_cells = λ none. ap (outcome_by f) (is.without_cells e); with_cells = λ some. absurd (cc (sym (no_cells-same s ∙ e) ∙ some)) },
        subst IsWholeOutcome (is.without_cells e) whole,
      )
      by false e =
          let goes = passes s outcome whole (is.with_cells e) in
          (record { without_cells = λ none. absurd (cc (sym (no_cells-same s ∙ e) ∙ none)); with_cells = λ some. goes.0 }, goes.1)

  module _ (finds : HeightEstimate → Option (List ℕ) → Type 0) (change : Option (List ℕ) → State → State)
      (same : (sizes : Option (List ℕ)) (s : State) → AreWholeTexts s.rows → (change sizes (state_by f s) ≡ state_by f (change sizes s)) × AreWholeTexts (change sizes s).rows) where
    abbrev Resized : State → Result HeightEstimate Fault → Outcome → Type 0
    Resized s worked outcome = MatchResult worked (λ estimate. (sizes : Option (List ℕ)) × finds estimate sizes × (Ok (change sizes s) ≡ outcome)) (λ fault. Err fault ≡ outcome)

    resized : (s : State) (outcome : Outcome) → AreWholeTexts s.rows → (worked : Result HeightEstimate Fault) → Resized s worked outcome → Goes (Resized (state_by f s) worked) outcome
    resized s outcome whole (Ok estimate) done =
        let goes = same done.0 s whole in ((done.0, done.1, ap Ok goes.0 ∙ ap (outcome_by f) done.2), subst IsWholeOutcome done.2 goes.1)
    resized s outcome whole (Err fault) done = (ap (outcome_by f) done, subst IsWholeOutcome done tt)

    resizes : Passes (Resizes finds change)
    resizes s outcome whole is =
        let other = rows_from f 0 s.rows in
        let estimates-are : estimated s.look (column_count other) other ≡ estimated s.look (column_count s.rows) s.rows =
        ap (λ n. estimated s.look n other) (columns-same f 0 s.rows) ∙ estimated-same (column_count s.rows) s.rows s.look in
        subst (λ (worked : Result HeightEstimate Fault). Goes (Resized (state_by f s) worked) outcome) (sym estimates-are) (resized s outcome whole (estimated s.look (column_count s.rows) s.rows) is)

  keeps-same : (sizes : Option (List ℕ)) (s : State) → AreWholeTexts s.rows → (keeping_heights sizes (state_by f s) ≡ state_by f (keeping_heights sizes s)) × AreWholeTexts (keeping_heights sizes s).rows
  keeps-same None s whole = (refl, whole)
  keeps-same (Some heights) s whole = (refl, whole)

  pub raises_table : {P : Type 0} (grows : P → ℕ → List ℕ → P → List ℕ → Type 0) (priority : P) (measures : ℕ → List (List (List ℕ)) → Look → Result ℕ Fault → Type 0) → Blind measures → Passes (RaisesTable measures grows priority)
  raises_table grows priority measures is_blind =
      where_cells (MeasuredHeight measures (λ height. Resizes (GrownRows grows priority height) keeping_heights))
      (measured_height measures is_blind (λ height. Resizes (GrownRows grows priority height) keeping_heights) (λ height. resizes (GrownRows grows priority height) keeping_heights keeps-same))

  module _ (commutes : (n : ℕ) → Commutes (limited n)) where
    limits : (heights : List ℕ) → Commutes (λ p. limited (slice_index heights p.row) p)
    limits heights = record { same = λ p text whole. (commutes (slice_index heights p.row)).same p text whole; stays = λ p text whole. (commutes (slice_index heights p.row)).stays p text whole }

    limits-same : (sizes : Option (List ℕ)) (s : State) → AreWholeTexts s.rows → (limiting_rows sizes (state_by f s) ≡ state_by f (limiting_rows sizes s)) × AreWholeTexts (limiting_rows sizes s).rows
    limits-same None s whole = (refl, whole)
    limits-same (Some heights) s whole = (
      ap (λ (rows : List (List (List ℕ))). keeping_heights (Some heights) (record s { rows = rows })) (rows-same (λ p. limited (slice_index heights p.row) p) (limits heights) Global s whole),
      rows-whole (λ p. limited (slice_index heights p.row) p) (limits heights) Global s whole,
    )

    pub limits_table : {P : Type 0} (shrinks : P → List ℕ → ℕ → List ℕ → P → List ℕ → Type 0) (priority : P) (measures : ℕ → List (List (List ℕ)) → Look → Result ℕ Fault → Type 0) → Blind measures → Passes (LimitsTable measures shrinks priority)
    limits_table shrinks priority measures is_blind =
        where_cells (MeasuredHeight measures (λ height. Resizes (ShrunkRows shrinks priority height) limiting_rows))
        (measured_height measures is_blind (λ height. Resizes (ShrunkRows shrinks priority height) limiting_rows) (λ height. resizes (ShrunkRows shrinks priority height) limiting_rows limits-same))
