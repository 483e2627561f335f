-- Ends of cells as they are kept: where each cell begins, where one more would, and the columns of the first of them.
use Rattle.std.specs.Prelude.{◌≡◌, ℕ, ◌-◌, ◌<◌, List, [], ◌∷◌}
use Rattle.std.specs.List.{AllByRecursion}
use Rattle.columns_table.specs.declared.ends.CellEnd.{CellEnd}

-- the ends one byte before these places, with these columns, where the first cell begins at `start`; a cell after the
-- last of the columns takes its bytes
abbrev pub ends_from : List ℕ → ℕ → List ℕ → List CellEnd
ends_from widths start [] = []
ends_from [] start (next ∷ starts) = record { end = next - 1; width = next - 1 - start } ∷ ends_from [] next starts
ends_from (width ∷ widths) start (next ∷ starts) = record { end = next - 1; width = width } ∷ ends_from widths next starts

-- the same, where the first place is where the first cell begins
abbrev pub ends_of : List ℕ → List ℕ → List CellEnd
ends_of widths [] = []
ends_of widths (start ∷ starts) = ends_from widths start starts

-- the first is where the text begins, and each other is after a cell
abbrev pub AreFromStart : List ℕ → Type 0
AreFromStart [] = ⊥
AreFromStart (start ∷ starts) = (start ≡ 0) × AllByRecursion (λ next. 0 < next) starts
