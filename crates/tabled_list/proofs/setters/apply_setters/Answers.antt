use Rattle.std.proofs.Common.{subst, sym}
use Rattle.std.proofs.lemmas.List.Elements.{All-get_or}
use Rattle.tabled_list.specs.Settings.{IsSetter}
use Rattle.tabled_list.proofs.Running.{run_next}
use Rattle.tabled_list.proofs.setters.apply_setters.Goals as goal

pub loop-index-preserved : goal.loop-index-preserved
loop-index-preserved g c =
    run_next c.args.settings.now c.loop-index.index c.index-settings-index.result c.set.result c.in_default.field-0 (g.S.Adjustable.state c.args.table.now) (g.S.Adjustable.state c.loop-index.table) (g.S.Adjustable.state c.set.new.table)
    c.loop-index-test.true c.index-settings-index.is c.loop-index.invariant c.set.ensures c.in_default.is

pub set-requires : goal.set-requires
set-requires g c =
    let settings = c.args.settings.now in
    subst IsSetter (sym c.index-settings-index.is) (All-get_or IsSetter settings c.loop-index.index c.index-settings-index.result c.loop-index-test.true c.requires)
