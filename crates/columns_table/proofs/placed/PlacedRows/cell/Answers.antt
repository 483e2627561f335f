use Rattle.std.proofs.Common.{ap, sym, ◌∙◌}
use Rattle.std.specs.List.{slice_get}
use Rattle.std.specs.Option.{option_map}
use Rattle.columns_table.specs.Cells.{anywhere}
use Rattle.columns_table.specs.Records.{IsSingleLineCell}
use Rattle.columns_table.proofs.ResizedCells.{each-some, text-none, text-some}
use Rattle.columns_table.proofs.PlacedRows.{row-keeps, row-text}
use Rattle.columns_table.proofs.Records.{empty_single_line}
use Rattle.columns_table.proofs.placed.PlacedRows.cell.Goals as goal

pub returns-in-Some-clause-text : goal.returns-in-Some-clause-text
returns-in-Some-clause-text c =
    let rows = c.args.self.now in
    sym (row-text rows.starts.items rows.cells c.args.pos
    ∙ text-some _ c.args.pos.col (anywhere c.in-Some.cell) (ap (λ cells. slice_get cells c.args.pos.col) (sym c.row.ensures) ∙ sym c.get.ensures ∙ ap (option_map anywhere) c.in-Some.is))

pub returns-in-Some-clause-measured : goal.returns-in-Some-clause-measured
returns-in-Some-clause-measured c =
    let rows = c.args.self.now in
    each-some IsSingleLineCell _ c.args.pos.col (anywhere c.in-Some.cell) (ap (λ cells. slice_get cells c.args.pos.col) (sym c.row.ensures) ∙ sym c.get.ensures ∙ ap (option_map anywhere) c.in-Some.is)
    (row-keeps IsSingleLineCell rows.starts.items rows.cells c.args.pos.row rows.measured)

pub returns-in-None-clause-text : goal.returns-in-None-clause-text
returns-in-None-clause-text c =
    let rows = c.args.self.now in
    sym (row-text rows.starts.items rows.cells c.args.pos
    ∙ text-none _ c.args.pos.col (ap (λ cells. slice_get cells c.args.pos.col) (sym c.row.ensures) ∙ sym c.get.ensures ∙ ap (option_map anywhere) c.in-None.is))

pub returns-in-None-clause-measured : goal.returns-in-None-clause-measured
returns-in-None-clause-measured c = empty_single_line
