use Rattle.std.proofs.Common.{◌≡◌, ◌++◌, map, string_bytes}
use Rattle.basinmug_cells.proofs.texts.push_texts.Given as goal

abbrev pub invariant-loop-text : goal.invariant-loop-text
invariant-loop-text l = l.rows ≡ record l.initial.rows { begun = l.initial.rows.begun ++ map string_bytes l.yielded }
