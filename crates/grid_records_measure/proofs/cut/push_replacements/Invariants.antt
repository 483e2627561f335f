-- So many were appended.
use Rattle.std.proofs.Common.{◌≡◌, ◌++◌, replicate, encode_utf8_all, string_bytes}
use Rattle.grid_records_measure.specs.Cutting.{replacement}
use Rattle.grid_records_measure.proofs.cut.push_replacements.Given as goal

abbrev pub invariant-loop : goal.invariant-loop
invariant-loop l = string_bytes l.out ≡ string_bytes l.fn.out ++ encode_utf8_all (replicate l.counter replacement)
