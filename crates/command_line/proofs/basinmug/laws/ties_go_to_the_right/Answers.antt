use Rattle.std.proofs.Common.{refl}
use Rattle.command_line.proofs.basinmug.laws.ties_go_to_the_right.Goals as goal

pub returns : goal.returns
returns c = record {
  narrowest = record { number = 1; column = 0; formed = refl; sums = refl };
  widest = record { number = 6; column = 1; formed = refl; sums = refl };
}
