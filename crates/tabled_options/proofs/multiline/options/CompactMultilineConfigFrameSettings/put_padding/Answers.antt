use Rattle.std.proofs.Common.{ap}
use Rattle.tabled_options.specs.Multiline.Multiline.{multiline_look}
use Rattle.tabled_options.proofs.multiline.options.CompactMultilineConfigFrameSettings.put_padding.Goals as goal

pub returns-clause-look : goal.returns-clause-look
returns-clause-look c = ap multiline_look c.set_padding.ensures
