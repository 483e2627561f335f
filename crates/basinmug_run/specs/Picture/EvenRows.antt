-- Rows that are filled up to the longest have as many texts each.
use Rattle.std.proofs.Common.{◌≡◌, ◌∙◌, ◌<◌, ◌≤◌, ◌+◌, ◌-◌, ap, sym, refl, arith, ℕ, zero, suc, List, [], ◌∷◌, length, map, replicate}
use Rattle.std.proofs.lemmas.List.{length-append, length-replicate}
use Rattle.grid_records_traits.specs.Rows.{row_at}
use Rattle.tabled_steps.specs.States.{column_count}
use Rattle.tabled_text.specs.Rows.{filled, filled_row, longest}

filled-long : (n i : ℕ) (rows : List (List (List ℕ))) → longest rows ≤ n → i < length (map (filled_row n) rows) → length (row_at (map (filled_row n) rows) i) ≡ n
filled-long n i [] most below = absurd (omega (arith, below))
filled-long n zero (row ∷ rows) most below = length-append row (replicate (n - length row) []) ∙ ap (λ (m : ℕ). length row + m) (length-replicate (n - length row) []) ∙ omega (arith, most)
filled-long n (suc i) (row ∷ rows) most below = filled-long n i rows (omega (arith, most)) (omega (arith, below))

pub columns_even : (rows : List (List (List ℕ))) → longest rows ≡ column_count (filled rows)
columns_even [] = refl
columns_even (row ∷ rows) = sym (filled-long (longest (row ∷ rows)) 0 (row ∷ rows) (omega arith) (omega arith))

pub rows-even : (i : ℕ) (rows : List (List (List ℕ))) → i < length (filled rows) → length (row_at (filled rows) i) ≡ column_count (filled rows)
rows-even i rows below = filled-long (longest rows) i rows (omega arith) below ∙ columns_even rows
