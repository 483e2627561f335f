-- The texts that came so far.
use Rattle.std.proofs.Common.{◌≡◌, map, string_bytes}
use Rattle.tabled_text.proofs.builder.row_of.Given as goal

abbrev pub invariant-loop-text : goal.invariant-loop-text
invariant-loop-text g l =
    (goal.iterator-loop-text g).can_next l.text-iterator × (goal.iterator-loop-text g).is_finite l.text-iterator
    × (map string_bytes l.row.items ≡ map g.I.Item.AsStr.text l.yielded)
