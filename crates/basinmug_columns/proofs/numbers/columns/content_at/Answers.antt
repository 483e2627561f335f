-- The empty text shows nothing.
use Rattle.std.proofs.Common.{◌≡◌, ap, sym, List, ℕ, []}
use Rattle.std.specs.Str.{chars, trim_end, trim_start}
use Rattle.ansi_scan.specs.Pieces.{first_pieces, pieces}
use Rattle.basinmug_columns.specs.Numbers.Columns.{content, content_kind}
use Rattle.basinmug_columns.proofs.Cells.{get_or-none}
use Rattle.basinmug_columns.proofs.numbers.columns.content_at.Goals as goal

pub returns-in-None : goal.returns-in-None
unfolding chars pieces first_pieces trim_end trim_start
returns-in-None g c = sym (ap (λ (text : List ℕ). content_kind (content text)) (get_or-none (g.W.CellRow.texts c.args.row) c.args.column [] c.in-None.ensures))
