-- The items so far were appended.
use Rattle.std.proofs.Common.{◌≡◌, flat_map, string_bytes}
use Rattle.ansi_scan.specs.Places.{piece_at}
use Rattle.basinmug_columns.specs.Markdown.Escapes.{markdown_piece}
use Rattle.basinmug_columns.proofs.markdown.cells.in_markdown.Given as goal

abbrev pub invariant-loop-item : goal.invariant-loop-item
invariant-loop-item l = string_bytes l.out ≡ flat_map (λ item. markdown_piece (piece_at l.text item)) l.yielded
