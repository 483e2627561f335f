use Rattle.grid_config.proofs.Copies.{same_again}
use Rattle.grid_config.proofs.spanned.SpannedConfig.clone.Goals as goal

pub returns-clause-look : goal.returns-clause-look
returns-clause-look c =
    let old = c.self.inside in
    rw (← c.self.view_is)
    (same_again old.whole c.in_ok-whole.whole old.cells c.in_ok-cells.cells old.spans c.in_ok-spans.spans c.in_ok-whole.ensures c.in_ok-cells.ensures c.in_ok-spans.ensures.spans)
