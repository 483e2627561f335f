-- The arguments that came so far.
use Rattle.std.proofs.Common.{◌≡◌}
use Rattle.command_line.proofs.ending.collected.Given as goal

abbrev pub invariant-loop-word : goal.invariant-loop-word
invariant-loop-word g l = l.words.items ≡ l.yielded
