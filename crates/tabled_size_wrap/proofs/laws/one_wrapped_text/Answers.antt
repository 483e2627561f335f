-- The lemmas of `Wraps`.
use Rattle.tabled_size_wrap.proofs.Wraps.{wrapped-there, wrapped-one}
use Rattle.tabled_size_wrap.proofs.laws.one_wrapped_text.Goals as goal

pub returns-clause-there : goal.returns-clause-there
returns-clause-there c = wrapped-there

pub returns-clause-one : goal.returns-clause-one
returns-clause-one c = wrapped-one
