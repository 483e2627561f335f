-- The texts so far are copied.
use Rattle.std.proofs.Common.{◌≡◌, map, string_bytes, take}
use Rattle.tabled_expanded.proofs.table.copied_texts.Given as goal

abbrev pub invariant-loop-text : goal.invariant-loop-text
invariant-loop-text l = map string_bytes l.out.items ≡ map string_bytes (take l.text-index l.text-items)
