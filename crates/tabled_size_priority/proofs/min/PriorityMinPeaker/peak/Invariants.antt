use Rattle.std.proofs.Common.{length}
use Rattle.tabled_size_priority.specs.LevelRules.Columns.{from_side}
use Rattle.tabled_size_priority.specs.Peaking.{NamesAmong, Narrowest}
use Rattle.tabled_size_priority.proofs.min.PriorityMinPeaker.peak.Given as goal

abbrev pub invariant-loop-column : goal.invariant-loop-column
invariant-loop-column l = NamesAmong (Narrowest (from_side l.self-inside.right (length l.values)) l.values) l.mins l.values l.column l.best
