use Rattle.std.proofs.Common.{◌≡◌, ◌∙◌, ◌-◌, ◌++◌, List, ℕ, ap, drop, length, replicate, subst, sym, take}
use Rattle.tabled_height.proofs.Resizing.{written_back}
use Rattle.tabled_height.proofs.rows.RowHeights.shrunk.Goals as goal

pub returns : goal.returns
returns g c =
    let heights = c.args.self.heights in
    let new : List ℕ = c.shrink.new.widths in
    let by : ℕ = c.args.self.lines - c.args.height in
    let least : c.deref.result.now ≡ replicate (length heights.items) 0 = c.deref.ensures.value ∙ c.in_ok-least.ensures ∙ ap (λ (n : ℕ). replicate n 0) (c.len.ensures ∙ heights.ok.0) in
    let back : take heights.len (new ++ drop (length new) heights.items) ≡ new = written_back heights.items c.deref_mut.result.now new heights.len heights.ok.0 c.deref_mut.ensures.value c.shrink.auto.widths in
    let shrunk = subst (λ (old : List ℕ). g.P.Peaker.shrinks c.args.priority c.deref.result.now by old c.shrink.new.self new) c.deref_mut.ensures.value c.shrink.ensures.shrunk in
    let from_zero = subst (λ (least : List ℕ). g.P.Peaker.shrinks c.args.priority least by heights.items c.shrink.new.self new) least shrunk in
    (c.if-self-height.false, c.shrink.new.self, subst (λ (sizes : List ℕ). g.P.Peaker.shrinks c.args.priority (replicate (length heights.items) 0) by heights.items c.shrink.new.self sizes) (sym back) from_zero)
