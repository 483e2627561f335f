use Rattle.tabled_width_texts.proofs.Fronts.{kept-meets, kept-one, kept-shown}
use Rattle.tabled_width_texts.proofs.laws.what_is_kept_is_the_longest_front.Goals as goal

pub returns-clause-meets : goal.returns-clause-meets
returns-clause-meets c = kept-meets

pub returns-clause-one : goal.returns-clause-one
returns-clause-one c = kept-one

pub returns-clause-shown : goal.returns-clause-shown
returns-clause-shown c = λ width text pieces of_cut left utf8 whole. kept-shown width text pieces of_cut left utf8 whole.of_text whole.none_broken
