use Rattle.columns_run.proofs.Bytes.{output-lines}
use Rattle.columns_run.proofs.Tiling.{tiled}
use Rattle.columns_run.proofs.laws.tiling.Goals as goal

pub returns : goal.returns
returns c = record { output = output-lines; lines = tiled }
