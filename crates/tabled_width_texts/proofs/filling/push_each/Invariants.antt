-- So many were appended.
use Rattle.std.proofs.Common.{◌≡◌, ◌++◌, ◌∷◌, [], encode_utf8_all, string_bytes}
use Rattle.std.specs.List.{repeat}
use Rattle.tabled_width_texts.proofs.filling.push_each.Given as goal

abbrev pub invariant-loop : goal.invariant-loop
invariant-loop l = string_bytes l.out ≡ string_bytes l.fn.out ++ repeat l.counter (encode_utf8_all (l.c ∷ []))
