-- A row is there between its ends.
use Rattle.std.proofs.Common.{◌∙◌, ap, arith, get_or, length, sym, ℕ}
use Rattle.std.specs.Prelude.{slice_range}
use Rattle.basinmug_cells.proofs.Ends.{end-within, row-at, row-past}
use Rattle.basinmug_cells.proofs.rows_view.RowsView.row_places.Goals as goal

pub all_between-requires-clause-ascending : goal.all_between-requires-clause-ascending
all_between-requires-clause-ascending c =
    let rows = c.args.self in
    omega (arith, c.start_of-start.ensures, rows.ascending.ascend c.args.row (omega (arith, c.if-row-self.false)))

pub all_between-requires-clause-there : goal.all_between-requires-clause-there
all_between-requires-clause-there c =
    let rows = c.args.self in
    end-within rows.start rows.ends.now (length rows.places.now) c.args.row rows.ascending (omega (arith, c.if-row-self.false))

pub returns-then-row-self : goal.returns-then-row-self
returns-then-row-self c =
    let rows = c.args.self in
    c.part.ensures ∙ sym (row-past rows.start rows.ends.now rows.places.now c.args.row c.if-row-self.true)

pub returns : goal.returns
returns c =
    let rows = c.args.self in
    c.all_between.ensures ∙ ap (λ (start : ℕ). slice_range rows.places.now start (get_or rows.ends.now c.args.row 0)) c.start_of-start.ensures ∙ sym (row-at rows.start rows.ends.now rows.places.now c.args.row (omega (arith, c.if-row-self.false)))
