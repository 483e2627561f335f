use Rattle.std.proofs.Common.{◌++◌, ◌∷◌, [], ap, sym, ◌∙◌}
use Rattle.columns_table.specs.Ends.{start_behind}
use Rattle.columns_table.proofs.KeptEnds.{bytes-more, last-start}
use Rattle.columns_table.proofs.ends.CellEnds.push_printable.Goals as goal

pub returns-clause-more : goal.returns-clause-more
returns-clause-more c =
    let ends = c.self.inside in
    let starts = ends.starts.items in
    let last = ap start_behind (sym c.self.view_is) ∙ last-start ends.widths.items starts c.self.invariant.1 in
    bytes-more ends.widths.items starts c.push.new.self.items c.args.cell _ c.self.invariant.1 c.self.invariant.0 last c.requires.bytes c.in_ok-push.ensures.items
    ∙ ap (λ found. found ++ c.args.cell ∷ []) c.self.view_is
