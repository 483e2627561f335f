-- How often each byte that is looked for is among bytes of the first line.
use Rattle.std.specs.Prelude.{◌+◌, ◌==◌, ◌&&◌, ◌≤◌, ℕ, Bool, not, List, length}
use Rattle.std.specs.List.{filter}
use Rattle.basinmug_delimiter.specs.Bytes.{bar, comma, semicolon, tab}
use Rattle.basinmug_delimiter.specs.Places.{is_decimal}
use Rattle.basinmug_delimiter.specs.declared.counts.Counts.{Counts}
use Rattle.basinmug_delimiter.specs.declared.places.Place.{Place}

abbrev pub is_byte : ℕ → Place → Bool
is_byte byte place = place.here == byte

-- a comma that isn't one of a number
abbrev pub is_comma : Place → Bool
is_comma place = (place.here == comma) && not (is_decimal place)

abbrev pub counts_of : List Place → Counts
counts_of places = record {
  tabs = length (filter (is_byte tab) places);
  commas = length (filter is_comma places);
  semicolons = length (filter (is_byte semicolon) places);
  bars = length (filter (is_byte bar) places);
}

abbrev pub plus : Counts → Counts → Counts
plus a b = record {
  tabs = a.tabs + b.tabs;
  commas = a.commas + b.commas;
  semicolons = a.semicolons + b.semicolons;
  bars = a.bars + b.bars;
}

-- each count is at most n
pub record HasAtMost (n : ℕ) (counts : Counts) : Type 0 where
  pub tabs : counts.tabs ≤ n
  pub commas : counts.commas ≤ n
  pub semicolons : counts.semicolons ≤ n
  pub bars : counts.bars ≤ n
