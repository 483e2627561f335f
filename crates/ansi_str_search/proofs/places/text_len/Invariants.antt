-- What is left gives the same answer from where the loop is.
use Rattle.std.proofs.Common.{◌≡◌, ◌+◌, drop}
use Rattle.std.specs.List.{prefix_len}
use Rattle.ansi_scan.specs.Sequences.{is_not_escape}
use Rattle.ansi_str_search.proofs.places.text_len.Given as goal

abbrev pub invariant-loop-i : goal.invariant-loop-i
invariant-loop-i l = l.i + prefix_len is_not_escape (drop l.i l.bytes) ≡ prefix_len is_not_escape l.bytes
