-- The sequences that are kept, and those that are left.
use denote.Shadow.{shadow}
use denote.Text.{Utf8}
use Rattle.std.proofs.Common.{◌≡◌, ◌++◌, length, string_bytes}
use Rattle.ansi_scan.specs.Pieces.{pieces}
use Rattle.ansi_str.specs.Parts.{before_place}
use Rattle.ansi_str.specs.Walking.{sequences}
use Rattle.ansi_str.proofs.cut.sequences_before.Given as goal

abbrev pub invariant-loop-left : goal.invariant-loop-left
invariant-loop-left l = shadow (Utf8 l.rest) × (string_bytes l.out ++ sequences (before_place l.left (pieces l.rest)) ≡ sequences (before_place l.n (pieces l.text)))

abbrev pub decreases-loop-left : goal.decreases-loop-left
decreases-loop-left l = length l.rest
