-- Pieces and parts, worked out by the functions that find them.
use Rattle.std.proofs.Common.{◌≡◌, ◌∙◌, ℕ, suc, List, length, subst, sym}
use Rattle.ansi_scan.specs.Sequences.{Piece, ArePiecesOf, ForPieces}
use Rattle.ansi_scan.specs.Pieces.{pieces}
use Rattle.ansi_scan.proofs.Existence.{ArePiecesOf-pieces}
use Rattle.ansi_scan.proofs.Uniqueness.{pieces-ArePiecesOf}
use Rattle.ansi_str_search.specs.Text.StyledText.{strip}
use Rattle.ansi_str_search.specs.Matches.{AreParts, split_bounds, styled_parts}
use Rattle.ansi_str_search.proofs.MatchLists.{matches_from, AreMatches-worked}

pub ArePiecesOf-worked : (text : List ℕ) (ps : List Piece) → pieces text ≡ ps → ArePiecesOf text ps
ArePiecesOf-worked text ps e = subst (ArePiecesOf text) e (ArePiecesOf-pieces text)

pub AreParts-worked : (text pattern : List ℕ) (ps : List Piece) (matches : List ℕ) (parts : List (List ℕ)) → pieces text ≡ ps
    → matches_from (suc (length (strip ps))) pattern (strip ps) 0 ≡ matches → styled_parts ps (split_bounds pattern (strip ps) matches) ≡ parts
    → ForPieces text (λ qs. AreParts pattern qs parts)
AreParts-worked text pattern ps matches parts read found given = λ qs of_text.
    subst (λ (all : List Piece). AreParts pattern all parts) (sym read ∙ pieces-ArePiecesOf text qs of_text)
    (record { matches = matches; are_matches = AreMatches-worked pattern (strip ps) matches found; are_parts = sym given })
