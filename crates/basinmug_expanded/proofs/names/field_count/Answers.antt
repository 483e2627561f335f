use Rattle.std.proofs.Common.{◌∙◌, ap₂, max}
use Rattle.basinmug_expanded.proofs.names.field_count.Goals as goal

pub returns : goal.returns
returns g c = c.max.ensures ∙ ap₂ max c.len.ensures c.longest.ensures
