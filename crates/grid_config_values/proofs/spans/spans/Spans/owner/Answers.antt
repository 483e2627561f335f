use Rattle.std.proofs.Common.{◌∙◌}
use Rattle.grid_config_values.proofs.SpansLemmas.Owners.{owner_found}
use Rattle.grid_config_values.proofs.spans.spans.Spans.owner.Goals as goal

pub returns-clause-first : goal.returns-clause-first
returns-clause-first c =
    c.unwrap_or.ensures ∙ owner_found c.args.self.now c.args.pos c.holder_from.result c.holder_from.ensures.found
