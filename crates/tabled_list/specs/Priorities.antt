-- Steps of a table by what some priority makes of its widths or heights.
use Rattle.std.specs.Prelude.{◌≡◌, ℕ, List, Option, Result}
use Rattle.grid_config_values.specs.declared.fault.Fault.{Fault}
use Rattle.grid_config.specs.Looks.{Look}
use Rattle.tabled_height.specs.Steps.{LimitsTable, RaisesTable}
use Rattle.tabled_size_priority.specs.Choices.{IsGrownByChoice, IsShrunkByChoice}
use Rattle.tabled_size_priority.specs.declared.choice.Choice.{Choice}
use Rattle.tabled_steps.specs.States.{Outcome, State, Steps}
use Rattle.tabled_width.specs.Tables.{NarrowsTable, WidensTable}

-- ---- what a priority makes of sizes, whatever it is then

-- of leasts, by how much, of the sizes, and what is left
abbrev pub shrinking_by : {P : Type 0} → (P → List ℕ → ℕ → List ℕ → P → List ℕ → Type 0) → P → List ℕ → ℕ → List ℕ → List ℕ → Type 0
shrinking_by {P} shrinks priority least by sizes left = (after : P) × shrinks priority least by sizes after left

-- by how much, of the sizes, and what comes of them
abbrev pub growing_by : {P : Type 0} → (P → ℕ → List ℕ → P → List ℕ → Type 0) → P → ℕ → List ℕ → List ℕ → Type 0
growing_by {P} grows priority by sizes more = (after : P) × grows priority by sizes after more

-- it makes the same of sizes as the priority of this name
pub record IsNamed {P : Type 0} (shrinks : P → List ℕ → ℕ → List ℕ → P → List ℕ → Type 0) (grows : P → ℕ → List ℕ → P → List ℕ → Type 0) (priority : P) (choice : Choice) : Type 0 where
  pub shrunk : (least : List ℕ) (by : ℕ) (sizes left : List ℕ) → shrinking_by shrinks priority least by sizes left → IsShrunkByChoice choice least by sizes left
  pub grown : (by : ℕ) (sizes more : List ℕ) → growing_by grows priority by sizes more → IsGrownByChoice choice by sizes more

-- one step, by each name of the priority
abbrev pub StepsByName : {P T : Type 0} → (P → List ℕ → ℕ → List ℕ → P → List ℕ → Type 0) → (P → ℕ → List ℕ → P → List ℕ → Type 0) → P → (Choice → State → Outcome → Type 0) → Result T Fault → State → State → Type 0
StepsByName shrinks grows priority step result old new = (choice : Choice) → IsNamed shrinks grows priority choice → Steps (step choice) result old new

abbrev pub shrinks_so : (List ℕ → ℕ → List ℕ → List ℕ → Type 0) → Unit {0} → List ℕ → ℕ → List ℕ → Unit {0} → List ℕ → Type 0
shrinks_so shrinks before least by sizes after left = shrinks least by sizes left

abbrev pub grows_so : (ℕ → List ℕ → List ℕ → Type 0) → Unit {0} → ℕ → List ℕ → Unit {0} → List ℕ → Type 0
grows_so grows before by sizes after more = grows by sizes more

-- a size that is worked out of a table's columns, its rows and its look
abbrev pub measured_so : (ℕ → List (List (List ℕ)) → Look → Result ℕ Fault) → ℕ → List (List (List ℕ)) → Look → Result ℕ Fault → Type 0
measured_so measure columns rows look outcome = measure columns rows look ≡ outcome

-- ---- the steps

-- the table is made narrower: its columns shrink so, and its texts change so to fit their cells
abbrev pub NarrowsBy : (List ℕ → ℕ → List ℕ → List ℕ → Type 0) → (ℕ → List ℕ → Option (List ℕ)) → (ℕ → List (List (List ℕ)) → Look → Result ℕ Fault) → State → Outcome → Type 0
NarrowsBy shrinks change width = NarrowsTable (shrinks_so shrinks) tt change (measured_so width)

-- it is made wider: its columns grow so
abbrev pub WidensBy : (ℕ → List ℕ → List ℕ → Type 0) → (ℕ → List (List (List ℕ)) → Look → Result ℕ Fault) → State → Outcome → Type 0
WidensBy grows width = WidensTable (grows_so grows) tt (measured_so width)

-- it is made higher: its rows grow so
abbrev pub RaisesBy : (ℕ → List ℕ → List ℕ → Type 0) → (ℕ → List (List (List ℕ)) → Look → Result ℕ Fault) → State → Outcome → Type 0
RaisesBy grows height = RaisesTable (measured_so height) (grows_so grows) tt

-- it is made lower: its rows shrink so, and its texts keep as many lines
abbrev pub LimitsBy : (List ℕ → ℕ → List ℕ → List ℕ → Type 0) → (ℕ → List (List (List ℕ)) → Look → Result ℕ Fault) → State → Outcome → Type 0
LimitsBy shrinks height = LimitsTable (measured_so height) (shrinks_so shrinks) tt
