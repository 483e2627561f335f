use Rattle.tabled_list.proofs.Running.{run_next}
use Rattle.tabled_list.proofs.list.apply_list.Goals as goal

pub loop-index-preserved : goal.loop-index-preserved
loop-index-preserved g c =
    run_next c.args.settings.now c.loop-index.index c.index-settings-index.result c.apply.result c.in_default.field-0 (g.S.Adjustable.state c.args.table.now) (g.S.Adjustable.state c.loop-index.table) (g.S.Adjustable.state c.apply.new.table)
    c.loop-index-test.true c.index-settings-index.is c.loop-index.invariant c.apply.ensures c.in_default.is
