use Rattle.tabled_options.proofs.formatting.AlignmentStrategyTableOptionColoredConfig.change.Goals as goal

pub returns-clause-step : goal.returns-clause-step
returns-clause-step g c = c.change.ensures.step (g.D.KeptSizes.sizes c.args.dims.now)
