-- What is left gives the same answer, once the bytes that were passed are counted.
use denote.Shadow.{shadow}
use denote.Text.{Utf8}
use Rattle.std.proofs.Common.{length}
use Rattle.ansi_scan.specs.Pieces.{pieces}
use Rattle.ansi_str_search.specs.Text.StyledText.{strip}
use Rattle.ansi_str_search.proofs.FirstPlaces.{IsFoundLeft}
use Rattle.ansi_str_search.proofs.search.find_at_characters.Given as goal

abbrev pub invariant-loop-rest : goal.invariant-loop-rest
invariant-loop-rest l = shadow (Utf8 l.rest) × IsFoundLeft l.pattern l.rest l.passed l.text

abbrev pub decreases-loop-rest : goal.decreases-loop-rest
decreases-loop-rest l = length (strip (pieces l.rest))
