-- A table by what it is.
use Rattle.std.specs.Prelude.{ℕ, List, None}
use Rattle.grid_config_values.specs.Settings.{value_at}
use Rattle.grid_config.specs.Compact.{new_compact}
use Rattle.grid_config.specs.Looks.{Look, compact_look, look_of}
use Rattle.grid_config.specs.Settings.{Settings}
use Rattle.grid_records_traits.specs.Sources.{texts_of_rows}
use Rattle.tabled_options.specs.Options.{spaced_sides}
use Rattle.tabled_glyphs.specs.Glyphs.{ascii}
use Rattle.tabled_size.specs.Dimension.Stored.{none_stored}
use Rattle.tabled_steps.specs.States.{State, state_with}
use Rattle.tabled.specs.declared.table.Table.{Table}
use Rattle.tabled.specs.declared.table_of.TableOf.{TableOf}

-- what a table over records is, by the texts of the records
abbrev pub table_state : {R : Type 0} → (R → List (List (List ℕ))) → TableOf R → State
table_state rows table = state_with (rows table.records) (look_of table.config.settings) (value_at table.config.colors) table.dimension

-- what it would be under other settings; the colours of its cells stay
abbrev pub state_under : {R : Type 0} → (R → List (List (List ℕ))) → TableOf R → Settings → State
state_under rows table settings = state_with (rows table.records) (look_of settings) (value_at table.config.colors) table.dimension

-- what a table is, by the texts of its cells
abbrev pub state_of : {T : Type 0} → (T → List ℕ) → Table T → State
state_of text table = table_state (λ records. texts_of_rows text records.rows.items) table.inner

-- what a table looks like at first: lines of ASCII, and a column of spaces at the left and right of each text
abbrev pub new_look : Look
new_look = record (compact_look new_compact) { borders = ascii; padding = λ _. spaced_sides 1 1 0 0 }

-- a table of these rows that no option has changed yet
abbrev pub new_state : List (List (List ℕ)) → State
new_state rows = state_with rows new_look (λ _. None) none_stored
