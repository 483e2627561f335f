use Rattle.grid_config.proofs.ColorsLemmas.Clearing.{clears_each, plain_behind}
use Rattle.grid_config.proofs.colors.laws.one_meaning.Goals as goal

pub returns : goal.returns
returns c = λ style suffix. (
  λ clears. (clears.from_plain, clears_each style suffix clears.from_plain clears.from_style),
  λ clears. record { from_plain = clears.0; from_style = plain_behind style suffix clears.0 clears.1 },
)
