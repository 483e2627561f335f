-- A step by what one priority makes of sizes is a step by what follows from it.
use Rattle.std.proofs.Common.{◌≡◌, ◌-◌, ℕ, Bool, false, true, List, MatchResult, Option, None, Some, Result, Ok, Err, length, nat_lt, replicate}
use Rattle.grid_config_values.specs.declared.entity.Entity.{Entity}
use Rattle.grid_config_values.specs.declared.fault.Fault.{Fault}
use Rattle.grid_config_values.specs.declared.fault.Fault.TheVariants.{Memory, Range, Spans, Room}
use Rattle.grid_config.specs.Looks.{Look}
use Rattle.tabled_height.specs.Heights.{HeightEstimate, estimated}
use Rattle.tabled_height.specs.Steps.{GrownRows, LimitsTable, Measuring, RaisesTable, Resizes, ShrunkRows, WhereCells, keeping_heights, limiting_rows}
use Rattle.tabled_height.specs.Steps.{MeasuredHeight}
use Rattle.tabled_steps.specs.Outcomes.{MayRefuseStep, all_sized}
use Rattle.tabled_steps.specs.States.{Outcome, Settles, State, Steps, column_count}
use Rattle.tabled_width.specs.Steps.{Measured, Then}
use Rattle.tabled_width.specs.Rooms.{column_widths, empty_widths}
use Rattle.tabled_width.specs.Tables.{TableSizes, Grown, Narrows, NarrowsTable, Shrunk, Where, Widens, WidensTable, table_sizes, has_cells, keeping, narrowed_state}

-- ---- steps

module _ (from into : State → Outcome → Type 0) (state : State) (leads : (outcome : Outcome) → from state outcome → into state outcome) where
  pub settles_by : (hint : Option Entity) (outcome : Outcome) → Settles hint from state outcome → Settles hint into state outcome
  settles_by hint outcome it = (it.0, leads it.0 it.1, it.2)

  may_lead : (fault : Fault) → MayRefuseStep fault (from state) → MayRefuseStep fault (into state)
  may_lead Memory may = tt
  may_lead Range may = leads (Err Range) may
  may_lead Spans may = leads (Err Spans) may
  may_lead (Room row column) may = leads (Err (Room row column)) may

  pub steps_by : {T : Type 0} (result : Result T Fault) (new : State) → Steps from result state new → Steps into result state new
  steps_by (Ok x) new it = leads (Ok new) it
  steps_by (Err fault) new it = (it.0, may_lead fault it.1)

then_by : {A : Type 0} (r : Result A Fault) (from into : A → Outcome → Type 0) (outcome : Outcome) → ((x : A) → from x outcome → into x outcome) → Then r from outcome → Then r into outcome
then_by (Ok x) from into outcome leads it = leads x it
then_by (Err fault) from into outcome leads it = it

where_by : (test : Bool) (from into : State → Outcome → Type 0) (state : State) (outcome : Outcome) → (from state outcome → into state outcome) → Where test from state outcome → Where test into state outcome
where_by true from into state outcome leads it = leads it
where_by false from into state outcome leads it = it

-- ---- widths

module _ {P Q : Type 0} (shrinks : P → List ℕ → ℕ → List ℕ → P → List ℕ → Type 0) (p : P) (others : Q → List ℕ → ℕ → List ℕ → Q → List ℕ → Type 0) (q : Q)
    (follows : (least : List ℕ) (by : ℕ) (sizes left : List ℕ) → ((after : P) × shrinks p least by sizes after left) → (after : Q) × others q least by sizes after left)
    (change : ℕ → List ℕ → Option (List ℕ)) where
  shrunk_as : (widths : List ℕ) (by : ℕ) (s : State) (outcome : Outcome) → Shrunk shrinks p change widths by s outcome → Shrunk others q change widths by s outcome
  shrunk_as widths by s outcome =
      then_by (all_sized (empty_widths s.look (column_count s.rows) (length s.rows)))
      (λ least outcome. (left : List ℕ) × ((after : P) × shrinks p least by widths after left) × (Ok (narrowed_state change least left s) ≡ outcome))
      (λ least outcome. (left : List ℕ) × ((after : Q) × others q least by widths after left) × (Ok (narrowed_state change least left s) ≡ outcome))
      outcome (λ least it. (it.0, follows least by widths it.0 it.1, it.2))

  narrows_one : (asked : ℕ) (s : State) (outcome : Outcome) → Narrows shrinks p change asked s outcome → Narrows others q change asked s outcome
  narrows_one asked s outcome =
      let columns : TableSizes → List ℕ = λ sizes. column_widths (column_count s.rows) sizes.widths in
      then_by (table_sizes s.look (column_count s.rows) s.rows s.sizes)
      (λ sizes. Where (nat_lt asked sizes.whole) (Shrunk shrinks p change (columns sizes) (sizes.whole - asked)) (keeping sizes s))
      (λ sizes. Where (nat_lt asked sizes.whole) (Shrunk others q change (columns sizes) (sizes.whole - asked)) (keeping sizes s))
      outcome
      (λ sizes. where_by (nat_lt asked sizes.whole) (Shrunk shrinks p change (columns sizes) (sizes.whole - asked)) (Shrunk others q change (columns sizes) (sizes.whole - asked)) (keeping sizes s) outcome
      (shrunk_as (columns sizes) (sizes.whole - asked) (keeping sizes s) outcome))

  pub narrows_by : (measures : ℕ → List (List (List ℕ)) → Look → Result ℕ Fault → Type 0) (state : State) (outcome : Outcome) →
      NarrowsTable shrinks p change measures state outcome → NarrowsTable others q change measures state outcome
  narrows_by measures state outcome =
      where_by (has_cells state) (Measured measures (Narrows shrinks p change)) (Measured measures (Narrows others q change)) state outcome
      (λ it. (it.0, it.1, then_by it.0 (λ n. Narrows shrinks p change n state) (λ n. Narrows others q change n state) outcome (λ n. narrows_one n state outcome) it.2))

module _ {P Q : Type 0} (grows : P → ℕ → List ℕ → P → List ℕ → Type 0) (p : P) (others : Q → ℕ → List ℕ → Q → List ℕ → Type 0) (q : Q)
    (follows : (by : ℕ) (sizes more : List ℕ) → ((after : P) × grows p by sizes after more) → (after : Q) × others q by sizes after more) where
  grown_as : (widths : List ℕ) (by : ℕ) (s : State) (outcome : Outcome) → Grown grows p widths by s outcome → Grown others q widths by s outcome
  grown_as widths by s outcome it = (it.0, follows by widths it.0 it.1, it.2)

  widens_one : (asked : ℕ) (s : State) (outcome : Outcome) → Widens grows p asked s outcome → Widens others q asked s outcome
  widens_one asked s outcome =
      let columns : TableSizes → List ℕ = λ sizes. column_widths (column_count s.rows) sizes.widths in
      then_by (table_sizes s.look (column_count s.rows) s.rows s.sizes)
      (λ sizes. Where (nat_lt sizes.whole asked) (Grown grows p (columns sizes) (asked - sizes.whole)) (keeping sizes s))
      (λ sizes. Where (nat_lt sizes.whole asked) (Grown others q (columns sizes) (asked - sizes.whole)) (keeping sizes s))
      outcome
      (λ sizes. where_by (nat_lt sizes.whole asked) (Grown grows p (columns sizes) (asked - sizes.whole)) (Grown others q (columns sizes) (asked - sizes.whole)) (keeping sizes s) outcome
      (grown_as (columns sizes) (asked - sizes.whole) (keeping sizes s) outcome))

  pub widens_by : (measures : ℕ → List (List (List ℕ)) → Look → Result ℕ Fault → Type 0) (state : State) (outcome : Outcome) → WidensTable grows p measures state outcome → WidensTable others q measures state outcome
  widens_by measures state outcome =
      where_by (has_cells state) (Measured measures (Widens grows p)) (Measured measures (Widens others q)) state outcome
      (λ it. (it.0, it.1, then_by it.0 (λ n. Widens grows p n state) (λ n. Widens others q n state) outcome (λ n. widens_one n state outcome) it.2))

-- ---- heights

match_by : {A : Type 0} (r : Result A Fault) (from into : A → Type 0) (refused : Fault → Type 0) → ((x : A) → from x → into x) → MatchResult r from refused → MatchResult r into refused
match_by (Ok x) from into refused leads it = leads x it
match_by (Err fault) from into refused leads it = it

resizes_by : (from into : HeightEstimate → Option (List ℕ) → Type 0) → ((estimate : HeightEstimate) (sizes : Option (List ℕ)) → from estimate sizes → into estimate sizes) →
    (change : Option (List ℕ) → State → State) (state : State) (outcome : Outcome) → Resizes from change state outcome → Resizes into change state outcome
resizes_by from into leads change state outcome =
    match_by (estimated state.look (column_count state.rows) state.rows)
    (λ estimate. (sizes : Option (List ℕ)) × from estimate sizes × (Ok (change sizes state) ≡ outcome))
    (λ estimate. (sizes : Option (List ℕ)) × into estimate sizes × (Ok (change sizes state) ≡ outcome))
    (λ fault. Err fault ≡ outcome) (λ estimate it. (it.0, leads estimate it.0 it.1, it.2))

cells_by : (from into : State → Outcome → Type 0) (state : State) (outcome : Outcome) → (from state outcome → into state outcome) → WhereCells from state outcome → WhereCells into state outcome
cells_by from into state outcome leads it = record { without_cells = it.without_cells; with_cells = λ some. leads (it.with_cells some) }

module _ {P Q : Type 0} (grows : P → ℕ → List ℕ → P → List ℕ → Type 0) (p : P) (others : Q → ℕ → List ℕ → Q → List ℕ → Type 0) (q : Q)
    (follows : (by : ℕ) (sizes more : List ℕ) → ((after : P) × grows p by sizes after more) → (after : Q) × others q by sizes after more) where
  grown_by : (n : ℕ) (estimate : HeightEstimate) (sizes : Option (List ℕ)) → GrownRows grows p n estimate sizes → GrownRows others q n estimate sizes
  grown_by n estimate None it = it
  grown_by n estimate (Some sizes) it = let more = follows (n - estimate.lines) estimate.heights sizes (it.1, it.2) in (it.0, more.0, more.1)

  pub raises_by : (measures : Measuring) (state : State) (outcome : Outcome) → RaisesTable measures grows p state outcome → RaisesTable measures others q state outcome
  raises_by measures state outcome =
      cells_by (MeasuredHeight measures (λ n. Resizes (GrownRows grows p n) keeping_heights)) (MeasuredHeight measures (λ n. Resizes (GrownRows others q n) keeping_heights)) state outcome
      (λ it. (
        it.0,
        it.1,
        match_by it.0 (λ n. Resizes (GrownRows grows p n) keeping_heights state outcome) (λ n. Resizes (GrownRows others q n) keeping_heights state outcome) (λ fault. Err fault ≡ outcome)
            (λ n. resizes_by (GrownRows grows p n) (GrownRows others q n) (grown_by n) keeping_heights state outcome) it.2,
      ))

module _ {P Q : Type 0} (shrinks : P → List ℕ → ℕ → List ℕ → P → List ℕ → Type 0) (p : P) (others : Q → List ℕ → ℕ → List ℕ → Q → List ℕ → Type 0) (q : Q)
    (follows : (least : List ℕ) (by : ℕ) (sizes left : List ℕ) → ((after : P) × shrinks p least by sizes after left) → (after : Q) × others q least by sizes after left) where
  shrunk_by : (n : ℕ) (estimate : HeightEstimate) (sizes : Option (List ℕ)) → ShrunkRows shrinks p n estimate sizes → ShrunkRows others q n estimate sizes
  shrunk_by n estimate None it = it
  shrunk_by n estimate (Some sizes) it = let left = follows (replicate (length estimate.heights) 0) (estimate.lines - n) estimate.heights sizes (it.1, it.2) in (it.0, left.0, left.1)

  pub limits_by : (measures : Measuring) (state : State) (outcome : Outcome) → LimitsTable measures shrinks p state outcome → LimitsTable measures others q state outcome
  limits_by measures state outcome =
      cells_by (MeasuredHeight measures (λ n. Resizes (ShrunkRows shrinks p n) limiting_rows)) (MeasuredHeight measures (λ n. Resizes (ShrunkRows others q n) limiting_rows)) state outcome
      (λ it. (
        it.0,
        it.1,
        match_by it.0 (λ n. Resizes (ShrunkRows shrinks p n) limiting_rows state outcome) (λ n. Resizes (ShrunkRows others q n) limiting_rows state outcome) (λ fault. Err fault ≡ outcome)
            (λ n. resizes_by (ShrunkRows shrinks p n) (ShrunkRows others q n) (shrunk_by n) limiting_rows state outcome) it.2,
      ))
