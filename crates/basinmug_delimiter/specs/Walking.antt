-- The first line as the code walks over it: what was met, and what is still to come.
use Rattle.std.specs.Prelude.{Bool, List, [], ℕ}
use Rattle.basinmug_delimiter.specs.Counting.{counts_of, plus}
use Rattle.basinmug_delimiter.specs.Places.{outside_from}
use Rattle.basinmug_delimiter.specs.declared.counts.Counts.{Counts}
use Rattle.basinmug_delimiter.specs.declared.line.Progress.{Progress}
use Rattle.basinmug_delimiter.specs.declared.state.State.TheVariants.{Before}

-- nothing is read
abbrev pub start : Progress
start = record { state = Before; covered = 0; before = 0; counts = counts_of [] }

-- all counts, where these bytes are still to come
abbrev pub all_counts : Bool → Progress → List ℕ → Counts
all_counts quotes read bytes = plus read.counts (counts_of (outside_from quotes read.state read.covered read.before bytes))
