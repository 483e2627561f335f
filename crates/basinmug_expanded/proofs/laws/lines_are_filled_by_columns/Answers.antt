use Rattle.std.proofs.Common.{◌++◌, ◌-◌, ap, replicate, ℕ}
use Rattle.basinmug_expanded.proofs.laws.lines_are_filled_by_columns.Goals as goal

pub returns : goal.returns
returns c = λ line is. ap (λ (n : ℕ). line ++ replicate (4 - n) 0x20) is
