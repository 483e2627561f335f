use Rattle.std.proofs.Common.{◌≡◌, ◌++◌, map, string_bytes, take}
use Rattle.tabled.specs.Making.{named_fields}
use Rattle.tabled_text.specs.Rows.{text_rows}
use Rattle.tabled.proofs.makers.named.push_named.Given as goal

abbrev pub invariant-loop-index : goal.invariant-loop-index
invariant-loop-index l = text_rows l.rows.items ≡ text_rows l.fn.rows.items ++ named_fields (take l.index (map string_bytes l.names)) (take l.index (map string_bytes l.texts))
