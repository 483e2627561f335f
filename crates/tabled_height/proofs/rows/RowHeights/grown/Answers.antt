use Rattle.std.proofs.Common.{◌≡◌, ◌-◌, ◌++◌, List, ℕ, drop, length, subst, sym, take}
use Rattle.tabled_height.proofs.Resizing.{written_back}
use Rattle.tabled_height.proofs.rows.RowHeights.grown.Goals as goal

pub returns : goal.returns
returns g c =
    let heights = c.args.self.heights in
    let new : List ℕ = c.grow.new.widths in
    let by : ℕ = c.args.height - c.args.self.lines in
    let back : take heights.len (new ++ drop (length new) heights.items) ≡ new = written_back heights.items c.deref_mut.result.now new heights.len heights.ok.0 c.deref_mut.ensures.value c.grow.auto.widths in
    let grown = subst (λ (old : List ℕ). g.P.Peaker.grows c.args.priority by old c.grow.new.self new) c.deref_mut.ensures.value c.grow.ensures.grown in
    (c.if-height-self.false, c.grow.new.self, subst (λ (sizes : List ℕ). g.P.Peaker.grows c.args.priority by heights.items c.grow.new.self sizes) (sym back) grown)
