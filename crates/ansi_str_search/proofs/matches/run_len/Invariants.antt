-- What is left gives the same answer from where the loop is.
use Rattle.std.proofs.Common.{◌≡◌, ◌+◌, drop}
use Rattle.std.specs.List.{prefix_len}
use Rattle.ansi_str_search.specs.Walking.{is_other}
use Rattle.ansi_str_search.proofs.matches.run_len.Given as goal

abbrev pub invariant-loop-i : goal.invariant-loop-i
invariant-loop-i l = l.i + prefix_len (is_other l.byte) (drop l.i l.text) ≡ prefix_len (is_other l.byte) l.text
