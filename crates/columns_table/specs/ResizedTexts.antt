-- The texts of resized cells.
use Rattle.std.specs.Prelude.{ℕ, List, map}
use Rattle.std.specs.Cow.{cow_str_bytes}
use Rattle.columns_table.specs.Records.{sliced_at}
use Rattle.columns_table.specs.declared.resized_cell.ResizedCell.{ResizedCell}

abbrev pub cells_texts : List ResizedCell → List (List ℕ)
cells_texts cells = map (λ cell. cow_str_bytes cell.text) cells

-- by rows that begin at these places
abbrev pub rows_texts : List ℕ → List ResizedCell → List (List (List ℕ))
rows_texts starts cells = map cells_texts (sliced_at starts cells)
