use Rattle.std.proofs.Common.{◌≡◌, map, string_bytes}
use Rattle.tabled.proofs.cells.row_of.Given as goal

abbrev pub invariant-loop-text : goal.invariant-loop-text
invariant-loop-text l = map (λ text. text) l.cells.items ≡ map string_bytes l.yielded
