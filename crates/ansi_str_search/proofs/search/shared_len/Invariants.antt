-- What is left gives the same answer from where the loop is.
use Rattle.std.proofs.Common.{◌≡◌, ◌+◌, drop}
use Rattle.ansi_str_search.specs.Walking.{shared_len}
use Rattle.ansi_str_search.proofs.search.shared_len.Given as goal

abbrev pub invariant-loop-i : goal.invariant-loop-i
invariant-loop-i l = l.i + shared_len (drop l.i l.pattern) (drop l.i l.text) ≡ shared_len l.pattern l.text
