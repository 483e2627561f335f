-- What is left gives the same answer, once the bytes that were passed are counted.
use denote.Shadow.{shadow}
use denote.Text.{Utf8}
use Rattle.std.proofs.Common.{length}
use Rattle.ansi_str_search.proofs.Finds.{SameMatch}
use Rattle.ansi_str_search.proofs.matches.find_byte.Given as goal

abbrev pub invariant-loop-rest : goal.invariant-loop-rest
invariant-loop-rest l = shadow (Utf8 l.rest) × SameMatch l.byte l.rest l.passed l.text

abbrev pub decreases-loop-rest : goal.decreases-loop-rest
decreases-loop-rest l = length l.rest
