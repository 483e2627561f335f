use Rattle.std.proofs.Common.{◌≡◌, ◌≤◌, ◌^◌, ◌∙◌, inr}
use Rattle.std.specs.Prelude.{IfErr, IfOk}
use Rattle.std.proofs.lemmas.Result.{IfErr-weaker}
use Rattle.grid_records_estimate.specs.Sizes.{IsRefusal}
use Rattle.grid_records_estimate.proofs.Sizes.{total-heights}
use Rattle.grid_records_estimate.proofs.dimension.GridDimension.height_total.Goals as goal

pub returns-clause-ok : goal.returns-clause-ok
returns-clause-ok g c =
    total-heights (λ n. IfOk c.total.result (λ found. found ≡ n)) _ _ _ c.deref.ensures.value (c.len.ensures ∙ c.in_ok-sizes.sizes.ok.0) c.borders.ensures c.margin-margin.ensures
    c.in_ok-sizes.ensures.ok c.count_horizontal-boundaries.ensures c.total.ensures.ok

pub returns-clause-refused : goal.returns-clause-refused
returns-clause-refused g c =
    total-heights (λ n. IfErr c.total.result (λ fault. IsRefusal fault (2 ^ 64 ≤ n))) _ _ _ c.deref.ensures.value (c.len.ensures ∙ c.in_ok-sizes.sizes.ok.0) c.borders.ensures c.margin-margin.ensures
    c.in_ok-sizes.ensures.ok c.count_horizontal-boundaries.ensures (IfErr-weaker c.total.result _ _ (λ fault passes. inr passes) c.total.ensures.refused)
