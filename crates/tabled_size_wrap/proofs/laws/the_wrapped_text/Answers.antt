-- The lemmas of `Bytes`.
use Rattle.tabled_size_wrap.proofs.Bytes.{wrapped_text-meets, wrapped_text-one}
use Rattle.tabled_size_wrap.proofs.laws.the_wrapped_text.Goals as goal

pub returns-clause-meets : goal.returns-clause-meets
returns-clause-meets c = wrapped_text-meets

pub returns-clause-one : goal.returns-clause-one
returns-clause-one c = wrapped_text-one
