-- What is left shows something exactly where the line does.
use Rattle.std.proofs.Common.{◌≡◌, drop}
use Rattle.basinmug_columns.proofs.FittingLemmas.Plain.{shows}
use Rattle.basinmug_columns.proofs.fitting.wrapping.plain_line_shows.Given as goal

abbrev pub invariant-loop-byte : goal.invariant-loop-byte
invariant-loop-byte l = shows (drop l.byte-index l.line) ≡ shows l.line
