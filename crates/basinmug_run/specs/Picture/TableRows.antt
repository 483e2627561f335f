-- The rows of a table of which a picture is made, and the table.
use Rattle.std.specs.Prelude.{ℕ, List}
use Rattle.tabled.specs.Tables.{table_state}
use Rattle.tabled.specs.declared.table_of.TableOf.{TableOf}
use Rattle.tabled_steps.specs.States.{State}
use Rattle.tabled_text.specs.Rows.{filled}
use Rattle.basinmug_run.specs.declared.picture.table_rows.TableRows.{TableRows}

-- the texts of the rows, each as long as the longest
abbrev pub even_texts : TableRows → List (List (List ℕ))
even_texts rows = filled rows.rows.rows.rows

-- the state of a table of such rows
abbrev pub state_of : TableOf TableRows → State
state_of table = table_state even_texts table
