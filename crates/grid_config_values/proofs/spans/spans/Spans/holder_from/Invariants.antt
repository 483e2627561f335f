use Rattle.grid_config_values.proofs.SpansLemmas.Owners.{NoneBefore, left_of}
use Rattle.grid_config_values.proofs.spans.spans.Spans.holder_from.Given as goal

abbrev pub invariant-loop-anchor : goal.invariant-loop-anchor
invariant-loop-anchor l = NoneBefore l.self l.pos l.from

abbrev pub decreases-loop-anchor : goal.decreases-loop-anchor
decreases-loop-anchor l = left_of l.pos l.from
