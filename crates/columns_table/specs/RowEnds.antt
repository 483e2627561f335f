-- Rows of cells in a text, by where the cells end, as they are read one after the other.
use Rattle.std.specs.Prelude.{ℕ, ◌+◌, List, [], ◌∷◌, ◌++◌}
use Rattle.columns_table.specs.declared.ends.CellEnd.{CellEnd}

-- where the cells end, how many each row has, and how many the row has that isn't ended
pub record EndedRows : Type 0 where
  pub ends : List CellEnd
  pub counts : List ℕ
  pub begun : ℕ

abbrev pub no_rows : EndedRows
no_rows = record { ends = []; counts = []; begun = 0 }

-- one more cell in the row that isn't ended
abbrev pub with_cell : EndedRows → CellEnd → EndedRows
with_cell rows cell = record { ends = rows.ends ++ cell ∷ []; counts = rows.counts; begun = rows.begun + 1 }

-- the row ends here
abbrev pub row_ended : EndedRows → EndedRows
row_ended rows = record { ends = rows.ends; counts = rows.counts ++ rows.begun ∷ []; begun = 0 }
