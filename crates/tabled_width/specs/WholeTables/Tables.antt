-- The steps of a table that make it narrower or wider as a whole.
use Rattle.std.specs.Prelude.{◌≡◌, ℕ, ◌-◌, ◌==◌, ◌&&◌, not, Bool, false, true, List, Option, None, Some, Result, Ok, length, nat_lt}
use Rattle.grid_config_values.specs.declared.entity.Entity.TheVariants.{Global}
use Rattle.grid_config_values.specs.declared.fault.Fault.{Fault}
use Rattle.grid_config.specs.Looks.{Look}
use Rattle.tabled_size.specs.Dimension.Stored.{Stored}
use Rattle.tabled_steps.specs.Changes.{changed_rows}
use Rattle.tabled_steps.specs.Outcomes.{◌≫=◌, all_sized, sized}
use Rattle.tabled_steps.specs.Sizes.{heights_or, widths_or}
use Rattle.tabled_steps.specs.States.{Outcome, State, column_count}
use Rattle.tabled_width.specs.WholeTables.Rooms.{column_widths, empty_widths, in_room, text_room}
use Rattle.tabled_width.specs.WholeTables.Steps.{Measured, Then}
use Rattle.tabled_width.specs.WholeTables.Widths.{width_with_columns}

-- a step where the test holds, and elsewhere none
abbrev pub Where : Bool → (State → Outcome → Type 0) → State → Outcome → Type 0
Where true step s outcome = step s outcome
Where false step s outcome = Ok s ≡ outcome

abbrev pub has_cells : State → Bool
has_cells s = not (length s.rows == 0) && not (column_count s.rows == 0)

-- ---- what the table takes

-- the widths and the heights of a table, and what it takes as a whole
pub record TableSizes : Type 0 where
  pub widths : List ℕ
  pub heights : List ℕ
  pub whole : ℕ

abbrev pub sizes_with : List ℕ → List ℕ → ℕ → TableSizes
sizes_with widths heights whole = record { widths = widths; heights = heights; whole = whole }

-- the sizes that it keeps, and in place of those that it doesn't the least that hold its texts
abbrev pub table_sizes : Look → ℕ → List (List (List ℕ)) → Stored → Result TableSizes Fault
table_sizes look columns rows sizes =
    widths_or sizes.widths look columns rows ≫= λ widths. heights_or sizes.heights look columns rows ≫= λ heights.
    sized (width_with_columns look (column_widths columns widths)) ≫= λ whole. Ok (sizes_with widths heights whole)

-- these sizes are kept
abbrev pub keeping : TableSizes → State → State
keeping sizes s = record s { sizes = record { widths = Some sizes.widths; heights = Some sizes.heights } }

-- what is estimated is kept, and then a step is done by the widths and by what the table takes
abbrev pub WithSizes : (List ℕ → ℕ → State → Outcome → Type 0) → State → Outcome → Type 0
WithSizes step s =
    Then (table_sizes s.look (column_count s.rows) s.rows s.sizes) (λ it. step (column_widths (column_count s.rows) it.widths) it.whole (keeping it s))

-- ---- narrower

-- these widths are kept, and the texts of the cells change in the widths given to them
abbrev pub narrowed_state : (ℕ → List ℕ → Option (List ℕ)) → List ℕ → List ℕ → State → State
narrowed_state change least widths s =
    record s {
      rows = changed_rows (λ place text. in_room change text (text_room s.look least widths place)) Global (column_count s.rows) s.rows;
      sizes = record { widths = Some widths; heights = None };
    }

module _ {P : Type 0} (shrinks : P → List ℕ → ℕ → List ℕ → P → List ℕ → Type 0) (priority : P) (change : ℕ → List ℕ → Option (List ℕ)) where
  -- the priority takes this amount from the widths, none of which falls below its empty width
  abbrev pub Shrunk : List ℕ → ℕ → State → Outcome → Type 0
  Shrunk widths by s =
      Then (all_sized (empty_widths s.look (column_count s.rows) (length s.rows))) (λ least outcome.
      (left : List ℕ) × ((after : P) × shrinks priority least by widths after left) × (Ok (narrowed_state change least left s) ≡ outcome))

  -- a table that takes more than requested loses the excess
  abbrev pub Narrows : ℕ → State → Outcome → Type 0
  Narrows asked = WithSizes (λ widths whole. Where (nat_lt asked whole) (Shrunk widths (whole - asked)))

  abbrev pub NarrowsTable : (ℕ → List (List (List ℕ)) → Look → Result ℕ Fault → Type 0) → State → Outcome → Type 0
  NarrowsTable measures s = Where (has_cells s) (Measured measures Narrows) s

-- ---- wider

module _ {P : Type 0} (grows : P → ℕ → List ℕ → P → List ℕ → Type 0) (priority : P) where
  -- the priority gives this amount to the widths
  abbrev pub Grown : List ℕ → ℕ → State → Outcome → Type 0
  Grown widths by s outcome =
      (more : List ℕ) × ((after : P) × grows priority by widths after more) × (Ok (record s { sizes = record s.sizes { widths = Some more } }) ≡ outcome)

  -- a table that takes less than requested gets what it lacks
  abbrev pub Widens : ℕ → State → Outcome → Type 0
  Widens asked = WithSizes (λ widths whole. Where (nat_lt whole asked) (Grown widths (asked - whole)))

  abbrev pub WidensTable : (ℕ → List (List (List ℕ)) → Look → Result ℕ Fault → Type 0) → State → Outcome → Type 0
  WidensTable measures s = Where (has_cells s) (Measured measures Widens) s
