-- The lines so far that show something, and those that are left.
use Rattle.std.proofs.Common.{string_bytes}
use Rattle.std.specs.List.{filter}
use Rattle.basinmug_columns.specs.Fitting.Fitting.{is_not_blank}
use Rattle.basinmug_columns.proofs.FittingLemmas.Plain.{AreSeen}
use Rattle.basinmug_columns.proofs.fitting.wrapping.joined_seen.Given as goal

abbrev pub invariant-loop-line : goal.invariant-loop-line
invariant-loop-line l = AreSeen (filter is_not_blank l.initial.line-iterator.parts) (string_bytes l.out) l.line-iterator.parts
