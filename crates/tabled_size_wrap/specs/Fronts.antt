-- The longest prefix of a cell that fits a width, in items each of which represents a character, as
-- characters with their styles do.
use Rattle.std.specs.Prelude.{◌≡◌, ℕ, List, ◌++◌, map}
use Rattle.grid_records_measure.specs.Cutting.{IsLongestFront}

-- what is kept and what is left of the cell, where the characters that are kept are the longest prefix that fits
pub record IsFrontOf {X : Type 0} (character : X → ℕ) (width : ℕ) (cell kept left : List X) : Type 0 where
  pub parted : cell ≡ kept ++ left
  pub longest : IsLongestFront width (map character cell) (map character kept) (map character left)
