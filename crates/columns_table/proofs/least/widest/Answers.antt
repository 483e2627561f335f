use Rattle.std.proofs.Common.{List, ℕ, get_or, take, ap, ◌∙◌}
use Rattle.std.proofs.lemmas.Result.{IfOk-weaker}
use Rattle.grid_records_estimate.specs.Estimates.{greatest}
use Rattle.columns_table.proofs.Widest.{first-widest}
use Rattle.columns_table.proofs.least.widest.Goals as goal

pub returns-clause-each : goal.returns-clause-each
returns-clause-each c =
    let rows = c.args.rows.now in
    IfOk-weaker c.to_vec.result _ _
    (λ widths is k.
    ap (λ (found : List ℕ). get_or found k 0)
    (is (λ y x same. same)
    ∙ ap (λ n. take n c.deref.result.now) (c.greatest.ensures ∙ ap greatest c.deref-2.ensures.value)
    ∙ ap (take (greatest rows.counts.items)) c.deref.ensures.value)
    ∙ first-widest rows.widest.items rows.counts.items rows.cells rows.widths k)
    c.to_vec.ensures.items_if_clones_equal
