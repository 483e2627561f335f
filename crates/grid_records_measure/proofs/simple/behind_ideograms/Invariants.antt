use Rattle.std.proofs.Common.{◌≡◌, ◌+◌, ◌*◌, ◌≤◌, chars, length}
use denote.Text.{Utf8}
use denote.Shadow.{shadow}
use Rattle.grid_records_measure.specs.Measures.{measure}
use Rattle.grid_records_measure.proofs.simple.behind_ideograms.Given as goal

abbrev pub invariant-loop-behind : goal.invariant-loop-behind
invariant-loop-behind l =
    (measure (chars l.fn.text) ≡ measure (chars l.rest) + l.columns) × (l.columns + 2 * length l.rest ≤ 2 * length l.fn.text)
    × shadow (Utf8 l.rest)

abbrev pub decreases-loop-behind : goal.decreases-loop-behind
decreases-loop-behind l = length l.rest
