-- The texts so far are cut.
use Rattle.std.proofs.Common.{◌≡◌, map, string_bytes, take}
use Rattle.tabled_expanded.specs.Cutting.{cut_text}
use Rattle.tabled_expanded.proofs.truncating.cut_texts.Given as goal

abbrev pub invariant-loop-text : goal.invariant-loop-text
invariant-loop-text l = map string_bytes l.cut.items ≡ map (cut_text l.width l.suffix) (map string_bytes (take l.text-index l.text-items))
