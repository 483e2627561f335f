-- What is left gives the same answer from where the loop is.
use Rattle.std.proofs.Common.{◌≡◌, ◌+◌, drop, not}
use Rattle.std.specs.List.{prefix_len}
use Rattle.tabled_size_wrap.specs.Units.{is_space}
use Rattle.tabled_size_wrap.proofs.words.word_len.Given as goal

abbrev pub invariant-loop-i : goal.invariant-loop-i
invariant-loop-i l = l.i + prefix_len (λ byte. not (is_space byte)) (drop l.i l.text) ≡ prefix_len (λ byte. not (is_space byte)) l.text
