-- The sizes of columns or of rows, each by its number.
use Rattle.std.specs.Prelude.{ℕ, ◌<◌, List, length, slice_index, slice_index_or}

-- one size for all; or those of a list, and after it 0 or one size for all others
pub data GivenSizes : Type 0 where
  Alike : ℕ → GivenSizes
  Listed : List ℕ → GivenSizes
  ListedBefore : List ℕ → ℕ → GivenSizes

abbrev pub given_size : GivenSizes → ℕ → ℕ
given_size (Alike size) number = size
given_size (Listed sizes) number = slice_index sizes number
given_size (ListedBefore sizes size) number = slice_index_or sizes number size

-- no number below this one is past a list
abbrev pub CoversFirst : ℕ → GivenSizes → Type 0
CoversFirst count (Alike size) = Unit {0}
CoversFirst count (Listed sizes) = (k : ℕ) → k < count → k < length sizes
CoversFirst count (ListedBefore sizes size) = (k : ℕ) → k < count → k < length sizes

-- no column and no row of a table of `columns` columns and `rows` rows is past its list
abbrev pub CoversTable : ℕ → ℕ → GivenSizes × GivenSizes → Type 0
CoversTable columns rows sizes = CoversFirst columns sizes.0 × CoversFirst rows sizes.1
