-- The lemmas of `SplitSlices`.
use Rattle.ansi_str_search.proofs.SplitSlices.{All-between_characters, styled-parts}
use Rattle.ansi_str_search.proofs.TextLemmas.Utf8Pieces.{IsUtf8-stripped}
use Rattle.ansi_str_search.proofs.laws.split_between_characters.Goals as goal

pub returns-clause-bounds : goal.returns-clause-bounds
returns-clause-bounds c = All-between_characters

pub returns-clause-stripped : goal.returns-clause-stripped
returns-clause-stripped c = λ pattern text pieces matches utf8 pattern_utf8 of_text are.
    All-between_characters pattern _ matches (IsUtf8-stripped text pieces utf8 of_text) pattern_utf8 are

pub returns-clause-shown : goal.returns-clause-shown
returns-clause-shown c = λ pattern text pieces matches utf8 pattern_utf8 whole are. styled-parts pattern text pieces matches utf8 pattern_utf8 whole.of_text whole.none_broken are
