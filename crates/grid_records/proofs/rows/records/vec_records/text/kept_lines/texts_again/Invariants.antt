use Rattle.std.proofs.Common.{◌≡◌, map, string_bytes, take}
use Rattle.grid_records.proofs.rows.records.vec_records.text.kept_lines.texts_again.Given as goal

abbrev pub invariant-loop-text : goal.invariant-loop-text
invariant-loop-text l = map string_bytes l.copy.items ≡ map string_bytes (take l.text-index l.texts)
