use Rattle.grid_config.proofs.spanned.SpannedConfig.has_no_spans.Goals as goal

pub returns-clause-several : goal.returns-clause-several
returns-clause-several c = rw (← c.self.view_is) c.is_empty.ensures.several
