-- A lemma of `Cuts`.
use Rattle.std.proofs.Common.{◌∙◌, List, ℕ, ap, map}
use Rattle.ansi_scan.specs.Pieces.{pieces as pieces_of}
use Rattle.ansi_str_search.specs.Text.StyledText.{styled}
use Rattle.ansi_str_search.proofs.Cuts.{shown-parts}
use Rattle.ansi_str_search.proofs.laws.split_shows_its_slices.Goals as goal

pub returns : goal.returns
returns c = λ byte text pieces parts low utf8 whole are.
    ap (map (λ (part : List ℕ). styled (pieces_of part))) are.are_parts ∙ shown-parts byte text pieces low utf8 whole.of_text whole.none_broken are.matches are.are_matches
