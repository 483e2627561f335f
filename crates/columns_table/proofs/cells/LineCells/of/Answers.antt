use Rattle.std.proofs.Common.{ap, sym, subst, ◌∙◌}
use Rattle.columns_table.specs.Ends.{AreCellEnds, cells_in}
use Rattle.columns_table.proofs.KeptEnds.{cells-in, starts-in}
use Rattle.columns_table.proofs.cells.LineCells.of.Goals as goal

pub invariant_of-result : goal.invariant_of-result
invariant_of-result c =
    let ends = c.ends.inside in
    let fit = subst (AreCellEnds c.args.text.now) (sym c.ends.view_is) c.requires in
    (c.ends.invariant.0, starts-in c.args.text.now ends.widths.items ends.starts.items c.ends.invariant.1 fit)

pub returns : goal.returns
returns c =
    let ends = c.ends.inside in
    let fit = subst (AreCellEnds c.args.text.now) (sym c.ends.view_is) c.requires in
    cells-in c.args.text.now ends.widths.items ends.starts.items c.ends.invariant.1 fit ∙ ap (cells_in c.args.text.now) c.ends.view_is
