-- The parts that the matches leave.
use Rattle.std.proofs.Common.{◌∙◌, ap, sym, suc, List, length, false}
use Rattle.ansi_scan.specs.Sequences.{Piece}
use Rattle.ansi_scan.specs.Attributes.{plain_attributes}
use Rattle.ansi_scan.proofs.Uniqueness.{pieces-ArePiecesOf}
use Rattle.ansi_str_search.specs.PartsLeft.{parts_left}
use Rattle.ansi_str_search.proofs.FirstMatch.{styled_parts-parts_left}
use Rattle.ansi_str_search.proofs.MatchLists.{matches_from, AreMatches-found}
use Rattle.ansi_str_search.specs.Text.StyledText.{strip}
use Rattle.ansi_str_search.proofs.split.AnsiSplit.new.Goals as goal

pub returns-clause-parts : goal.returns-clause-parts
returns-clause-parts c = λ found of_text.
    let pattern = c.args.pattern.now in
    let shown = strip found in
    let matches = matches_from (suc (length shown)) pattern shown 0 in
    let are = AreMatches-found pattern shown in
    record {
      matches = matches;
      are_matches = are;
      are_parts = c.new.ensures.parts ∙ ap (λ (ps : List Piece). parts_left pattern false plain_attributes ps) (pieces-ArePiecesOf c.args.text.now found of_text)
          ∙ sym (styled_parts-parts_left pattern found matches are);
    }
