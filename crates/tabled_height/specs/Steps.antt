-- The steps of a table that are about its heights.
use Rattle.std.specs.Prelude.{◌≡◌, ◌<◌, ◌≤◌, ◌-◌, ◌||◌, ◌==◌, ◌⊎◌, ℕ, Bool, false, true, if◌then◌else◌, List, MatchResult, Option, None, Some, Result, Ok, Err, length, nat_lt, replicate, slice_index}
use Rattle.grid_config_values.specs.declared.entity.Entity.{Entity}
use Rattle.grid_config_values.specs.declared.entity.Entity.TheVariants.{Global}
use Rattle.grid_config_values.specs.declared.fault.Fault.{Fault}
use Rattle.grid_config.specs.Looks.{Look}
use Rattle.tabled_steps.specs.Changes.{changed_rows, changing}
use Rattle.tabled_steps.specs.States.{Outcome, State, column_count}
use Rattle.tabled_height.specs.Heights.{HeightEstimate, estimated}
use Rattle.tabled_height.specs.Lines.{limited, raised}

-- what a measurement may return: of a table's columns, its rows and its look
abbrev pub Measuring : Type 1
Measuring = ℕ → List (List (List ℕ)) → Look → Result ℕ Fault → Type 0

-- a height is taken from the table, and then a step is done by it; where it is refused, so is the step
abbrev pub MeasuredHeight : Measuring → (ℕ → State → Outcome → Type 0) → State → Outcome → Type 0
MeasuredHeight measures step s outcome =
    (height : Result ℕ Fault) × measures (column_count s.rows) s.rows s.look height
    × MatchResult height (λ n. step n s outcome) (λ fault. Err fault ≡ outcome)

-- ---- of cells

-- the texts of the cells with fewer lines get more; those with more lines keep the first
abbrev pub RaisesCells : Measuring → Entity → State → Outcome → Type 0
RaisesCells measures at = MeasuredHeight measures (λ height s outcome. changing (raised height) at s ≡ outcome)

abbrev pub LimitsCells : Measuring → Entity → State → Outcome → Type 0
LimitsCells measures at = MeasuredHeight measures (λ height s outcome. changing (limited height) at s ≡ outcome)

-- ---- of the table

abbrev pub has_no_cells : State → Bool
has_no_cells s = length s.rows == 0 || column_count s.rows == 0

-- without rows or columns nothing is done
pub record WhereCells (step : State → Outcome → Type 0) (s : State) (outcome : Outcome) : Type 0 where
  pub without_cells : has_no_cells s ≡ true → Ok s ≡ outcome
  pub with_cells : has_no_cells s ≡ false → step s outcome

-- a table with fewer lines than requested: a priority gives its rows those that it lacks
abbrev pub GrownRows : {P : Type 0} → (P → ℕ → List ℕ → P → List ℕ → Type 0) → P → ℕ → HeightEstimate → Option (List ℕ) → Type 0
GrownRows grows priority height estimate None = height ≤ estimate.lines
GrownRows {P} grows priority height estimate (Some sizes) =
    (estimate.lines < height) × (after : P) × grows priority (height - estimate.lines) estimate.heights after sizes

-- a table with more lines than requested: a priority takes from its rows those that are too many, as
-- far as they have any
abbrev pub ShrunkRows : {P : Type 0} → (P → List ℕ → ℕ → List ℕ → P → List ℕ → Type 0) → P → ℕ → HeightEstimate → Option (List ℕ) → Type 0
ShrunkRows shrinks priority height estimate None = estimate.lines ≤ height
ShrunkRows {P} shrinks priority height estimate (Some sizes) =
    (height < estimate.lines) × (after : P) × shrinks priority (replicate (length estimate.heights) 0) (estimate.lines - height) estimate.heights after sizes

-- nothing is requested of a table without cells. Of another a height is measured, and then the heights
-- that its texts need are estimated
abbrev pub AsksRows : Measuring → ℕ → List (List (List ℕ)) → Look → Result (Option (HeightEstimate × ℕ)) Fault → Type 0
AsksRows measures columns rows look (Ok None) = (length rows == 0 || columns == 0) ≡ true
AsksRows measures columns rows look (Ok (Some found)) =
    (length rows == 0 || columns == 0) ≡ false × measures columns rows look (Ok found.1) × (estimated look columns rows ≡ Ok found.0)
AsksRows measures columns rows look (Err fault) =
    (length rows == 0 || columns == 0) ≡ false
    × (measures columns rows look (Err fault) ⊎ ((n : ℕ) × measures columns rows look (Ok n) × (estimated look columns rows ≡ Err fault)))

-- the rows keep these heights; where there are none, those that they keep
abbrev pub keeping_heights : Option (List ℕ) → State → State
keeping_heights None s = s
keeping_heights (Some heights) s = record s { sizes = record s.sizes { heights = Some heights } }

-- each text keeps as many lines as its row has then
abbrev pub limiting_rows : Option (List ℕ) → State → State
limiting_rows None s = s
limiting_rows (Some heights) s =
    keeping_heights (Some heights) (record s { rows = changed_rows (λ p. limited (slice_index heights p.row) p) Global (column_count s.rows) s.rows })

-- from the heights that the texts need, whatever is kept, others are found, if any, and the table is changed by them
abbrev pub Resizes : (HeightEstimate → Option (List ℕ) → Type 0) → (Option (List ℕ) → State → State) → State → Outcome → Type 0
Resizes finds change s outcome =
    MatchResult (estimated s.look (column_count s.rows) s.rows)
    (λ estimate. (sizes : Option (List ℕ)) × finds estimate sizes × (Ok (change sizes s) ≡ outcome))
    (λ fault. Err fault ≡ outcome)

abbrev pub RaisesTable : {P : Type 0} → Measuring → (P → ℕ → List ℕ → P → List ℕ → Type 0) → P → State → Outcome → Type 0
RaisesTable measures grows priority =
    WhereCells (MeasuredHeight measures (λ height. Resizes (GrownRows grows priority height) keeping_heights))

abbrev pub LimitsTable : {P : Type 0} → Measuring → (P → List ℕ → ℕ → List ℕ → P → List ℕ → Type 0) → P → State → Outcome → Type 0
LimitsTable measures shrinks priority =
    WhereCells (MeasuredHeight measures (λ height. Resizes (ShrunkRows shrinks priority height) limiting_rows))

-- ---- given heights

-- the rows keep these heights, where there is one for each
abbrev pub listing_heights : List ℕ → State → Outcome
listing_heights heights s = Ok (if nat_lt (length heights) (length s.rows) then s else keeping_heights (Some heights) s)
