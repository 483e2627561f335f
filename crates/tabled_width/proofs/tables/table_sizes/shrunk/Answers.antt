use Rattle.std.proofs.Common.{◌≡◌, ◌++◌, ◌≤◌, List, ℕ, drop, length, subst, sum, sym, take}
use Rattle.tabled_width.proofs.TablesLemmas.Drawing.{shrunk_sum-le, written_back}
use Rattle.tabled_width.proofs.tables.table_sizes.shrunk.Goals as goal

pub returns-clause-shrunk : goal.returns-clause-shrunk
returns-clause-shrunk g c =
    let widths = c.args.widths in
    let new : List ℕ = c.shrink.new.widths in
    let back : take widths.len (new ++ drop (length new) widths.items) ≡ new = written_back widths.items c.deref_mut.result.now new widths.len widths.ok.0 c.deref_mut.ensures.value c.shrink.auto.widths in
    let shrunk = subst (λ (old : List ℕ). g.P.Peaker.shrinks c.args.priority c.args.least.now c.args.by old c.shrink.new.self new) c.deref_mut.ensures.value c.shrink.ensures.shrunk in
    (c.shrink.new.self, subst (λ (sizes : List ℕ). g.P.Peaker.shrinks c.args.priority c.args.least.now c.args.by widths.items c.shrink.new.self sizes) (sym back) shrunk)

pub returns-clause-less : goal.returns-clause-less
returns-clause-less g c =
    let widths = c.args.widths in
    let new : List ℕ = c.shrink.new.widths in
    let back : take widths.len (new ++ drop (length new) widths.items) ≡ new = written_back widths.items c.deref_mut.result.now new widths.len widths.ok.0 c.deref_mut.ensures.value c.shrink.auto.widths in
    let less = shrunk_sum-le c.args.least.now c.deref_mut.result.now new c.shrink.auto.widths c.shrink.ensures.between in
    subst (λ (sizes : List ℕ). sum sizes ≤ sum widths.items) (sym back) (subst (λ (old : List ℕ). sum new ≤ sum old) c.deref_mut.ensures.value less)
