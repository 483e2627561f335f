-- The lemmas of `EmptyPattern`.
use Rattle.std.proofs.Common.{◌∙◌, List, ℕ, ap, map}
use Rattle.ansi_scan.specs.Pieces.{pieces as pieces_of}
use Rattle.ansi_str_search.specs.Text.StyledText.{strip, styled}
use Rattle.ansi_str_search.proofs.EmptyPattern.{text_parts-nothing, stripped-nothing, styled-nothing}
use Rattle.ansi_str_search.proofs.laws.split_at_nothing.Goals as goal

pub returns-clause-parts : goal.returns-clause-parts
returns-clause-parts c = λ text matches utf8 are. text_parts-nothing text utf8 matches are

pub returns-clause-stripped : goal.returns-clause-stripped
returns-clause-stripped c = λ text pieces parts utf8 whole are.
    ap (map (λ (part : List ℕ). strip (pieces_of part))) are.are_parts ∙ stripped-nothing text pieces utf8 whole.of_text whole.none_broken are.matches are.are_matches

pub returns-clause-shown : goal.returns-clause-shown
returns-clause-shown c = λ text pieces parts utf8 whole are.
    ap (map (λ (part : List ℕ). styled (pieces_of part))) are.are_parts ∙ styled-nothing text pieces utf8 whole.of_text whole.none_broken are.matches are.are_matches
