use Rattle.std.proofs.Common.{ap}
use Rattle.grid_config.specs.Looks.{look_of}
use Rattle.tabled_list.proofs.Coloring.{color_steps}
use Rattle.tabled_list.proofs.colored.ColoredTableOptionColoredConfig.change.Goals as goal

pub returns-clause-step : goal.returns-clause-step
returns-clause-step g c =
    color_steps (g.R.RecordTexts.rows c.args.records.now) (g.D.KeptSizes.sizes c.args.dims.now)
    (look_of c.args.cfg.now.settings) (look_of c.set_color.new.self.settings) (ap look_of c.set_color.ensures.others)
    c.args.cfg.now.colors c.set_color.new.self.colors c.args.self.at c.args.self.color
    c.set_color.result c.set_color.ensures.outcome
