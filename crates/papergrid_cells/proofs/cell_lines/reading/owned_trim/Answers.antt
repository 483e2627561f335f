use Rattle.std.proofs.Common.{◌∙◌}
use Rattle.std.specs.Cow.{cow_str_bytes}
use Rattle.ansi_scan.specs.Pieces.{pieces}
use Rattle.ansi_scan.proofs.Existence.{ArePiecesOf-pieces}
use Rattle.grid_records_measure.proofs.Trimmed.{trimmed-one}
use Rattle.papergrid_cells.proofs.cell_lines.reading.owned_trim.Goals as goal

pub returns : goal.returns
returns c =
    let text = c.args.text.now in
    c.in_ok-into_owned.ensures.ok
    ∙ trimmed-one text (cow_str_bytes c.in_ok-ansi_trim.field-0) (pieces text) (ArePiecesOf-pieces text) (c.in_ok-ansi_trim.ensures.trims (pieces text) (ArePiecesOf-pieces text))
