-- So many were appended.
use Rattle.std.proofs.Common.{◌≡◌, ◌++◌, string_bytes}
use Rattle.std.specs.List.{repeat}
use Rattle.tabled_size_wrap.specs.Wrapping.{replacement_bytes}
use Rattle.tabled_size_wrap.proofs.wrapped_lines.push_replacements.Given as goal

abbrev pub invariant-loop : goal.invariant-loop
invariant-loop l = string_bytes l.out ≡ string_bytes l.fn.out ++ repeat l.counter replacement_bytes
