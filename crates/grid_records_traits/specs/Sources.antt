-- Rows that a value holds.
use Rattle.std.specs.declared.vec.IntoIter.{IntoIter}
use Rattle.std.specs.Vec.Iter.{into_iter_items, into_iter_len}
use Rattle.std.specs.Prelude.{List, Vec, map, take, vec_items, ℕ}

-- the texts of the cells, row by row
abbrev pub texts_of_rows : {T Z : Type 0} → (T → List ℕ) → List (Vec T Z) → List (List (List ℕ))
texts_of_rows text rows = map (λ row. map text (vec_items row)) rows

-- the items that an iterator over a vector has left
abbrev pub items_left : {T Z : Type 0} → IntoIter T Z → List T
items_left it = take (into_iter_len it) (into_iter_items it)
