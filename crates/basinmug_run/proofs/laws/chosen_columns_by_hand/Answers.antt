use Rattle.std.proofs.Common.{◌∷◌, [], ap₂, arith, ℕ, List}
use Rattle.std.proofs.lemmas.Fmt.{decimal_digit}
use Rattle.basinmug_run.proofs.laws.chosen_columns_by_hand.Goals as goal

pub returns-clause-missing : goal.returns-clause-missing
returns-clause-missing c = ap₂ (λ (one other : List ℕ). one ∷ other ∷ []) (decimal_digit 3 (omega arith)) (decimal_digit 5 (omega arith))
