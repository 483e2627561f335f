-- The records so far are cut.
use Rattle.std.proofs.Common.{◌≡◌, map, take}
use Rattle.tabled_text.specs.Rows.{text_rows}
use Rattle.tabled_expanded.specs.Cutting.{cut_text}
use Rattle.tabled_expanded.proofs.truncating.cut_records.Given as goal

abbrev pub invariant-loop-texts : goal.invariant-loop-texts
invariant-loop-texts l = text_rows l.cut.items ≡ map (map (cut_text l.width l.suffix)) (text_rows (take l.texts-index l.texts-items))
