use Rattle.std.proofs.Common.{◌≡◌, ◌+◌, ◌*◌, ◌≤◌, chars, length}
use denote.Text.{Utf8}
use denote.Shadow.{shadow}
use Rattle.grid_records_measure.specs.Measures.{measure}
use Rattle.grid_records_measure.proofs.simple.without_simple_end.Given as goal

abbrev pub invariant-loop-front : goal.invariant-loop-front
invariant-loop-front l =
    (measure (chars l.fn.text) ≡ measure (chars l.rest) + l.columns) × (l.columns + 2 * length l.rest ≤ 2 * length l.fn.text)
    × shadow (Utf8 l.rest)

abbrev pub decreases-loop-front : goal.decreases-loop-front
decreases-loop-front l = length l.rest
