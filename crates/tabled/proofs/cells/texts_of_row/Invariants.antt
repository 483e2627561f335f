use Rattle.std.proofs.Common.{◌≡◌, map, string_bytes}
use Rattle.tabled.proofs.cells.texts_of_row.Given as goal

abbrev pub invariant-loop-cell : goal.invariant-loop-cell
invariant-loop-cell l = map string_bytes l.texts.items ≡ map (λ text. text) l.yielded
