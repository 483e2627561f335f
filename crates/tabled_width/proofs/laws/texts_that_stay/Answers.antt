use Rattle.std.proofs.Common.{None, ap, if◌then◌else◌}
use Rattle.tabled_width_texts.specs.WrappedOrCut.{wrapping_each}
use Rattle.tabled_size_wrap.proofs.StayingTexts.{stays-is}
use Rattle.tabled_width.proofs.laws.texts_that_stay.Goals as goal

pub returns-clause-same : goal.returns-clause-same
returns-clause-same c = stays-is

pub returns-clause-others : goal.returns-clause-others
returns-clause-others c = λ keep_words width text is. ap (λ b. if b then None else wrapping_each keep_words width text) is
