-- The row, and after it as many empty texts as the loop has counted.
use Rattle.std.proofs.Common.{◌≡◌, [], ◌++◌, map, replicate, string_bytes}
use Rattle.tabled_text.proofs.builder.filled_row.Given as goal

abbrev pub invariant-loop : goal.invariant-loop
invariant-loop l = map string_bytes l.filled.items ≡ map string_bytes l.fn.row.items ++ replicate l.counter []
