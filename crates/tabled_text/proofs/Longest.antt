-- The longest of rows is found in any order, and whatever represents their items.
use native.Mathlib.Omega.{arith}
use Rattle.std.proofs.Common.{◌≡◌, refl, List, [], ◌∷◌, Vec, map, vec_items}
use Rattle.std.proofs.lemmas.List.{length-map}
use Rattle.tabled_text.specs.Rows.{longest, row_items}

pub longest_mapped : {X Y Z : Type 0} (f : X → Y) (rows : List (Vec X Z)) → longest (map (λ row. map f (vec_items row)) rows) ≡ longest (row_items rows)
longest_mapped f [] = refl
longest_mapped f (row ∷ rows) = omega (arith, length-map (vec_items row) f, longest_mapped f rows)
