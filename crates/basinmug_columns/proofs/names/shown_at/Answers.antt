-- The empty text shows nothing.
use Rattle.std.proofs.Common.{◌∙◌, ap, sym, List, ℕ, []}
use Rattle.ansi_scan.specs.Pieces.{first_pieces, pieces}
use Rattle.ansi_str.specs.StyledText.{strip}
use Rattle.basinmug_columns.proofs.Cells.{get_or-none}
use Rattle.basinmug_columns.proofs.names.shown_at.Goals as goal

pub returns-in-None : goal.returns-in-None
unfolding pieces first_pieces
returns-in-None g c =
    c.new.ensures.bytes ∙ sym (ap (λ (text : List ℕ). strip (pieces text)) (get_or-none (g.H.CellRow.texts c.args.header) c.args.column [] c.in-None.ensures))
