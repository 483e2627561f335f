-- At first nothing is begun.
use Rattle.std.proofs.Common.{◌≤◌, ℕ, List, length, ap, sym, ◌∙◌, subst}
use Rattle.std.specs.Prelude.{chars}
use Rattle.ansi_scan.specs.Sequences.{Piece}
use Rattle.ansi_scan.proofs.Uniqueness.{pieces-ArePiecesOf}
use Rattle.ansi_str_search.specs.Text.StyledText.{strip}
use Rattle.ansi_str_search.proofs.TextLemmas.ShownCharacters.{left_chars-new, length-shown_chars}
use Rattle.ansi_str_search.proofs.text.characters.StrippedChars.new.Goals as goal

pub returns-clause-characters : goal.returns-clause-characters
returns-clause-characters c = λ found of_text.
    left_chars-new c.args.text.now ∙ ap (λ (ps : List Piece). chars (strip ps)) (pieces-ArePiecesOf c.args.text.now found of_text)

pub returns-clause-count : goal.returns-clause-count
returns-clause-count c =
    let Fits : List ℕ → Type 0 = λ cs. length cs ≤ length c.args.text.now in
    subst Fits (sym (left_chars-new c.args.text.now)) (length-shown_chars c.args.text.now c.utf8.text)
