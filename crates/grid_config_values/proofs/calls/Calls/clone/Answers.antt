use Rattle.std.proofs.Common.{◌∙◌}
use Rattle.grid_config_values.specs.Numbers.{calls_of}
use Rattle.grid_config_values.proofs.calls.Calls.clone.Goals as goal

pub returns : goal.returns
unfolding calls_of
returns g c =
    let columns = c.in_ok-columns.ensures ∙ c.deref.ensures.value in
    let rows = c.in_ok-rows.ensures ∙ c.deref-2.ensures.value in
    let cells = c.in_ok-cells.ensures ∙ c.deref-3.ensures.value in
    rw (columns, rows, cells) c.self.view_is
