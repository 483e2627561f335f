use Rattle.tabled_options.proofs.alignment.AlignmentTableOptionColoredConfig.change.Goals as goal

pub returns-clause-step : goal.returns-clause-step
returns-clause-step g c = c.change.ensures.step (g.D.KeptSizes.sizes c.args.dims.now)
