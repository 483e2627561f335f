-- The lines of a text, and the blocks that it shows.
use Rattle.std.proofs.Common.{◌≡◌, ◌<◌, ℕ, suc, List, [], ◌∷◌, length, map, flat_map, slice_range, refl, ap, sym, subst, ◌∙◌, arith, All}
use Rattle.std.proofs.lemmas.List.{length-map}
use Rattle.std.specs.List.{join_with_byte}
use Rattle.ansi_scan.specs.Sequences.{Piece, ArePiecesOf, NoneBroken}
use Rattle.ansi_scan.specs.Pieces.{pieces}
use Rattle.ansi_scan.specs.Attributes.{plain_attributes}
use Rattle.ansi_scan.proofs.Existence.{ArePiecesOf-pieces}
use Rattle.ansi_str.specs.StyledText.{strip}
use Rattle.ansi_str.specs.Blocks.{Block, blocks_from, text_of_block}
use Rattle.ansi_str.specs.Parts.{split_part}
use Rattle.ansi_str.specs.Matches.{AreMatches, split_bounds, styled_parts}
use Rattle.ansi_str.specs.Lines.{IsClosedLine}
use Rattle.ansi_str_search.proofs.TextLemmas.Shown.{text_of_block-blocks_from}
use Rattle.ansi_str_search.proofs.MatchLists.{matches_from, AreMatches-found, AreMatches-unique}
use Rattle.ansi_str_search.proofs.AllParts.{All-closed_lines, strip-styled_parts}
use Rattle.ansi_str_search.proofs.Lines.{split-lines}
use Rattle.ansi_str_search.proofs.StdSplits.{split_at_one_byte}
use Rattle.grid_records_measure.specs.TextLines.{line_feed, AreLinesOf, shown_lines}

-- ---- blocks

pub shown-blocks : (text : List ℕ) (blocks : List Block) → ((ps : List Piece) → ArePiecesOf text ps → blocks ≡ blocks_from plain_attributes ps)
    → flat_map text_of_block blocks ≡ strip (pieces text)
shown-blocks text blocks are =
    ap (flat_map text_of_block) (are (pieces text) (ArePiecesOf-pieces text)) ∙ text_of_block-blocks_from plain_attributes (pieces text)

-- ---- lines

pub line_matches : (ps : List Piece) → (matches : List ℕ) × AreMatches (line_feed ∷ []) (strip ps) matches
line_matches ps = (matches_from (suc (length (strip ps))) (line_feed ∷ []) (strip ps) 0, AreMatches-found (line_feed ∷ []) (strip ps))

pub length-lines : (ps : List Piece) (lines : List (List ℕ)) → AreLinesOf ps lines → length lines ≡ length (shown_lines ps)
length-lines ps lines are =
    let bounds = split_bounds (line_feed ∷ []) (strip ps) are.matches in
    let low : line_feed < 128 = omega arith in
    ap length are.are_parts ∙ length-map bounds (λ bound. split_part bound.0 bound.1 ps) ∙ sym (length-map bounds (λ bound. slice_range (strip ps) bound.0 bound.1))
    ∙ ap length (split_at_one_byte line_feed (strip ps) are.matches low are.are_matches)

-- ---- lines of whole texts

pub lines-closed : (text : List ℕ) (ps : List Piece) (lines : List (List ℕ)) → ArePiecesOf text ps → NoneBroken ps → AreLinesOf ps lines → All IsClosedLine lines
lines-closed text ps lines of_text whole are = subst (All IsClosedLine) (sym are.are_parts) (All-closed_lines text ps are.matches of_text are.are_matches whole)

pub lines-joined : (lines others : List (List ℕ)) (ps : List Piece) → 0 < length lines → All IsClosedLine lines → ArePiecesOf (join_with_byte line_feed lines) ps → AreLinesOf ps others → others ≡ lines
lines-joined lines others ps some closed of_text are = are.are_parts ∙ split-lines lines ps are.matches some closed of_text are.are_matches

pub lines-shown : (text : List ℕ) (ps : List Piece) (lines : List (List ℕ)) → ArePiecesOf text ps → NoneBroken ps → AreLinesOf ps lines → map (λ line. strip (pieces line)) lines ≡ shown_lines ps
lines-shown text ps lines of_text whole are =
    let low : line_feed < 128 = omega arith in
    ap (map (λ line. strip (pieces line))) are.are_parts
    ∙ strip-styled_parts (line_feed ∷ []) text ps are.matches of_text whole are.are_matches
    ∙ split_at_one_byte line_feed (strip ps) are.matches low are.are_matches

pub lines-unique : (ps : List Piece) (lines others : List (List ℕ)) → AreLinesOf ps lines → AreLinesOf ps others → lines ≡ others
lines-unique ps lines others are also =
    are.are_parts ∙ ap (λ matches. styled_parts ps (split_bounds (line_feed ∷ []) (strip ps) matches)) (AreMatches-unique (line_feed ∷ []) (strip ps) are.matches also.matches are.are_matches also.are_matches)
    ∙ sym also.are_parts

pub lines-there : (ps : List Piece) → (lines : List (List ℕ)) × AreLinesOf ps lines
lines-there ps =
    let found = line_matches ps in
    (styled_parts ps (split_bounds (line_feed ∷ []) (strip ps) found.0), record { matches = found.0; are_matches = found.1; are_parts = refl })
