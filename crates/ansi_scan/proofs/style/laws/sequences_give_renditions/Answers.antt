use Rattle.ansi_scan.specs.Styles.Attributes.{plain_attributes}
use Rattle.ansi_scan.proofs.StyleLemmas.Kept.{IsRendition-plain, IsRendition-applied, IsRendition-fold_applied}
use Rattle.ansi_scan.proofs.style.laws.sequences_give_renditions.Goals as goal

pub returns-clause-plain : goal.returns-clause-plain
returns-clause-plain c = IsRendition-plain

pub returns-clause-one : goal.returns-clause-one
returns-clause-one c = IsRendition-applied

pub returns-clause-all : goal.returns-clause-all
returns-clause-all c = λ sequences. IsRendition-fold_applied plain_attributes sequences IsRendition-plain
