use Rattle.std.proofs.Common.{◌≡◌, ◌++◌, List, ℕ, drop, length, subst, sym, take}
use Rattle.tabled_width.proofs.TablesLemmas.Drawing.{written_back}
use Rattle.tabled_width.proofs.tables.table_sizes.grown.Goals as goal

pub returns : goal.returns
returns g c =
    let widths = c.args.widths in
    let new : List ℕ = c.grow.new.widths in
    let back : take widths.len (new ++ drop (length new) widths.items) ≡ new = written_back widths.items c.deref_mut.result.now new widths.len widths.ok.0 c.deref_mut.ensures.value c.grow.auto.widths in
    let grown = subst (λ (old : List ℕ). g.P.Peaker.grows c.args.priority c.args.by old c.grow.new.self new) c.deref_mut.ensures.value c.grow.ensures.grown in
    (c.grow.new.self, subst (λ (sizes : List ℕ). g.P.Peaker.grows c.args.priority c.args.by widths.items c.grow.new.self sizes) (sym back) grown)
