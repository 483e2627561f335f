-- What is left can be cut where the text can.
use denote.Shadow.{shadow}
use denote.Text.{Utf8}
use Rattle.std.proofs.Common.{length}
use Rattle.ansi_str.proofs.CutSteps.{SameBound}
use Rattle.ansi_str.proofs.cut.is_good_bound.Given as goal

abbrev pub invariant-loop-left : goal.invariant-loop-left
invariant-loop-left l = shadow (Utf8 l.rest) × SameBound l.rest l.left l.text l.at

abbrev pub decreases-loop-left : goal.decreases-loop-left
decreases-loop-left l = length l.rest
