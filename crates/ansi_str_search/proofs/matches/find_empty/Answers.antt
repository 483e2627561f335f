-- A match where the text begins, or after its first character.
use Rattle.std.proofs.Common.{◌∙◌, ap, sym, []}
use Rattle.std.proofs.lemmas.Str.{IsUtf8-nil, IsCharBoundary-start}
use Rattle.ansi_scan.specs.Pieces.{pieces}
use Rattle.ansi_str_search.specs.Text.StyledText.{strip}
use Rattle.ansi_str_search.specs.PartsLeft.{first_match, passed_over}
use Rattle.ansi_str_search.proofs.Finds.{match-empty_first, match_ends, IsUtf8-shown}
use Rattle.ansi_str_search.proofs.matches.find_empty.Goals as goal

pub returns-then-begun-clause-ends : goal.returns-then-begun-clause-ends
returns-then-begun-clause-ends c =
    match_ends [] 1 (strip (pieces c.args.text.now)) c.first_character.result IsUtf8-nil (IsUtf8-shown c.args.text.now c.utf8.text)
    (c.first_character.ensures.found ∙ ap (first_match [] 1) c.behind_sequences.ensures.shown)

pub returns-else-begun-clause-found : goal.returns-else-begun-clause-found
returns-else-begun-clause-found c =
    match-empty_first (strip (pieces c.args.text.now)) (IsUtf8-shown c.args.text.now c.utf8.text)
    ∙ ap (λ begun. first_match [] (passed_over begun []) (strip (pieces c.args.text.now))) (sym c.if-begun.false)

pub returns-else-begun-clause-ends : goal.returns-else-begun-clause-ends
returns-else-begun-clause-ends c = IsCharBoundary-start (strip (pieces c.args.text.now)) (IsUtf8-shown c.args.text.now c.utf8.text)
