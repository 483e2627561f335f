use Rattle.columns_run.proofs.running.run.Goals as goal

pub returns : goal.returns
returns g c = c.run_buffered.ensures
