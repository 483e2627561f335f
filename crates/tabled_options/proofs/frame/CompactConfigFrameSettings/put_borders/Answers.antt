use Rattle.std.proofs.Common.{ap}
use Rattle.grid_config.specs.Looks.{compact_look}
use Rattle.tabled_options.proofs.frame.CompactConfigFrameSettings.put_borders.Goals as goal

pub returns-clause-look : goal.returns-clause-look
returns-clause-look c = ap compact_look c.set_borders.ensures
