-- So many parts are passed.
use Rattle.std.proofs.Common.{◌≡◌, drop}
use Rattle.ansi_str.proofs.editing.part_at.Given as goal

abbrev pub invariant-loop : goal.invariant-loop
invariant-loop l = l.parts.parts ≡ drop l.counter l.initial.parts.parts
