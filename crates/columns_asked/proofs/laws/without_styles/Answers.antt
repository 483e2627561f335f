use Rattle.std.proofs.Common.{ap, subst, sym, ◌∙◌}
use Rattle.ansi_scan.proofs.Uniqueness.{pieces-ArePiecesOf}
use Rattle.ansi_str.specs.StyledText.{strip}
use Rattle.columns_asked.specs.DrawnTables.{asked_text}
use Rattle.columns_asked.proofs.Characters.{picture-alone, picture-plain}
use Rattle.columns_asked.proofs.TextsWithoutEscape.{text-plain, text-stripped}
use Rattle.columns_asked.proofs.Stripped.{fits-stripped, too_wide-stripped}
use Rattle.columns_asked.proofs.laws.without_styles.Goals as goal

pub returns-clause-picture : goal.returns-clause-picture
returns-clause-picture c = picture-plain

pub returns-clause-characters : goal.returns-clause-characters
returns-clause-characters c = picture-alone

pub returns-clause-without_escape : goal.returns-clause-without_escape
returns-clause-without_escape c = λ style asked texts bare all. text-plain style asked bare texts all

pub returns-clause-text : goal.returns-clause-text
returns-clause-text c = λ style asked texts ps bare all of_text. ap strip (sym (pieces-ArePiecesOf (asked_text style asked texts) ps of_text)) ∙ text-stripped style asked bare texts all

pub returns-clause-in_range : goal.returns-clause-in_range
returns-clause-in_range c = λ style asked texts all. let same = fits-stripped style asked texts all in (subst (λ (T : Type 0). T) same, subst (λ (T : Type 0). T) (sym same))

pub returns-clause-too_wide : goal.returns-clause-too_wide
returns-clause-too_wide c = too_wide-stripped
