use Rattle.std.proofs.Common.{◌≡◌, length}
use denote.Text.{Utf8}
use denote.Shadow.{shadow}
use Rattle.ansi_scan.specs.Pieces.{pieces}
use Rattle.ansi_str_search.specs.Text.StyledText.{strip}
use Rattle.ansi_str_search.proofs.text.characters.split_first_text.Given as goal

abbrev pub invariant-loop-item : goal.invariant-loop-item
invariant-loop-item l = shadow (Utf8 l.rest) × (strip (pieces l.rest) ≡ strip (pieces l.fn.text))

abbrev pub decreases-loop-item : goal.decreases-loop-item
decreases-loop-item l = length l.rest
