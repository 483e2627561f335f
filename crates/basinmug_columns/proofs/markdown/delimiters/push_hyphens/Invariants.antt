-- The hyphens so far.
use Rattle.std.proofs.Common.{◌≡◌, ◌++◌, replicate, string_bytes}
use Rattle.basinmug_columns.proofs.markdown.delimiters.push_hyphens.Given as goal

abbrev pub invariant-loop-hyphen : goal.invariant-loop-hyphen
invariant-loop-hyphen l = string_bytes l.row ≡ string_bytes l.initial.row ++ replicate l._hyphen 0x2d
