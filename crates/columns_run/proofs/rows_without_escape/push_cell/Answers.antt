use Rattle.std.proofs.Common.{◌≡◌, sym, subst}
use Rattle.std.specs.Prelude.{OnOk}
use Rattle.columns_table.specs.RowEnds.{with_cell}
use Rattle.grid_records_measure.proofs.PrintableWidth.{measure-printable}
use Rattle.columns_run.proofs.rows_without_escape.push_cell.Goals as goal

pub returns-then-printable : goal.returns-then-printable
returns-then-printable c =
    subst (λ width. OnOk c.push_printable.result (c.push_printable.new.self ≡ with_cell c.args.rows.now (record { end = c.args.end; width = width })))
    (sym (measure-printable c.args.text.now (c.requires.printable c.if-printable.true))) c.push_printable.ensures.more
