use Rattle.std.proofs.Common.{◌≡◌, ◌∙◌, List, ap, cond}
use Rattle.grid_config_values.specs.Entities.{covers}
use Rattle.grid_config_values.specs.Numbers.{calls_for, calls_of, in_order}
use Rattle.grid_config_values.specs.Settings.{value_after}
use Rattle.grid_config_values.proofs.Together.{refused_where, renumbered_kept}
use Rattle.grid_config_values.proofs.calls.Calls.push.Goals as goal

pub keep_for-requires-clause-kept : goal.keep_for-requires-clause-kept
keep_for-requires-clause-kept g c =
    let new = c.next_number-number.ensures in
    renumbered_kept _ _ _ c.next_number-number.result _ _ _ new.renumbered c.self.invariant.columns c.self.invariant.rows c.self.invariant.cells new.below

pub returns-in_err-keep_for-clause-err : goal.returns-in_err-keep_for-clause-err
unfolding calls_of
returns-in_err-keep_for-clause-err g c =
    let new = c.next_number-number.new in
    let kept = c.keep_for.new in
    let err = c.in_err-keep_for.ensures.err in
    let same : in_order (calls_for kept.columns.items kept.rows.items kept.cells.items) ≡ in_order (calls_for new.columns.items new.rows.items new.cells.items) =
    (λ i. in_order (calls_for (err.0 i) (err.1.0 i) (err.1.1 i))) in
    refused_where c.from_residual.result (same ∙ c.next_number-number.ensures.renumbered.calls ∙ c.self.view_is)

pub returns-clause-ok : goal.returns-clause-ok
unfolding calls_of
returns-clause-ok g c start p =
    c.in_ok-keep_for.ensures.adds start p
    ∙ ap (λ (before : List (_ × _)). cond (covers c.args.entity p) c.args.value (value_after start before p)) (c.next_number-number.ensures.renumbered.calls ∙ c.self.view_is)
