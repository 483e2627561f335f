-- The lines of a text.
use Rattle.std.proofs.Common.{◌≡◌, ℕ, false, List, length, take, ap, sym, ◌∙◌}
use Rattle.std.proofs.Math.Seq.{take-length}
use Rattle.ansi_scan.specs.Pieces.{pieces}
use Rattle.grid_records_measure.specs.TextLines.{shown_lines, text_lines}
use Rattle.grid_records_measure.proofs.LinesAndBlocks.{length-lines}
use Rattle.grid_records_measure.proofs.TextLines.{text_lines-are}
use Rattle.papergrid_cells.proofs.KeptLines.{map-same}
use Rattle.papergrid_picture.specs.CellLines.{cell_lines}

-- without trims a text keeps all its lines
pub all-lines : (text : List ℕ) → text_lines text ≡ cell_lines false false text
all-lines text =
    let count : length (shown_lines (pieces text)) ≡ length (text_lines text) = sym (length-lines (pieces text) (text_lines text) (text_lines-are text)) in
    sym (take-length (text_lines text)) ∙ (ap (λ n. take n (text_lines text)) (sym count) ∙ sym (map-same (take (length (shown_lines (pieces text))) (text_lines text))))
