-- The lines of a text as a function of it.
use Rattle.std.proofs.Common.{◌≡◌, ◌+◌, ◌<◌, ◌≤◌, ◌∙◌, ◌==◌, ℕ, zero, suc, true, false, List, [], ◌∷◌, ap, arith, drop, get_or, length, map, refl, subst, sym, slice_index_or}
use Rattle.std.proofs.lemmas.Bool.Decides.{nat_tests}
use Rattle.std.proofs.lemmas.List.{drop_more, get_or-drop}
use Rattle.std.specs.List.{filter, range_with_len}
use Rattle.ansi_scan.specs.Sequences.{Piece, ArePiecesOf, NoneBroken}
use Rattle.ansi_scan.specs.Pieces.{pieces}
use Rattle.ansi_scan.proofs.Existence.{ArePiecesOf-pieces}
use Rattle.ansi_str.specs.StyledText.{strip}
use Rattle.ansi_str.specs.Matches.{AreMatches, AreMatchesFrom, Occurs}
use Rattle.ansi_str_search.proofs.FirstMatch.{Occurs-within}
use Rattle.ansi_str_search.proofs.Searches.{of_pieces}
use Rattle.grid_records_measure.specs.TextLines.{AreLinesOf, is_line_feed, line_feed, line_feed_places, shown_lines, text_height, text_lines, text_width, widest}
use Rattle.grid_records_measure.proofs.LinesAndBlocks.{length-lines, lines-shown, lines-unique}

-- ---- the places of line feeds

abbrev feed : List ℕ
feed = line_feed ∷ []

-- a line feed is where the pattern occurs
feed_stands : (text : List ℕ) (at : ℕ) → Occurs feed text at → is_line_feed (slice_index_or text at 0) ≡ true
feed_stands text at o =
    let here : at + 0 ≡ at = omega arith in
    let first : get_or text at 0 ≡ line_feed = ap (λ k. get_or text k 0) (sym here) ∙ sym (get_or-drop at text 0 0) ∙ ap (λ bytes. get_or bytes 0 0) o.stands in
    rw first refl

-- the pattern occurs where a line feed is
feed_occurs : (text : List ℕ) (at : ℕ) → at < length text → is_line_feed (slice_index_or text at 0) ≡ true → Occurs feed text at
feed_occurs text at within is =
    let byte : get_or text at 0 ≡ line_feed = grind (arith, nat_tests, is) in
    record {
      behind = drop (at + 1) text;
      stands = drop_more text at 0 within ∙ ap (λ b. b ∷ drop (at + 1) text) byte;
      boundary = (omega arith, λ _ high. absurd (omega (arith, high, byte)));
    }

-- matches from one place on are matches from the one before, where the pattern doesn't occur
matches_later : (text ms : List ℕ) (from : ℕ) → ¬ (Occurs feed text from) → AreMatchesFrom feed text (from + 1) ms → AreMatchesFrom feed text from ms
matches_later text [] from not_here none = λ at low o. elim (at == from) as (λ b. (at == from) ≡ b → ⊥) [
  | true ↦ λ e.
      let same : at ≡ from = grind (arith, nat_tests, e) in
      not_here (subst (Occurs feed text) same o)
  | false ↦ λ e.
      let later : from + 1 ≤ at = grind (arith, nat_tests, e, low) in
      none at later o
] refl
matches_later text (m ∷ ms) from not_here found = (
  record {
    not_before = omega (arith, found.0.not_before);
    occurs = found.0.occurs;
    first = λ other low high o. elim (other == from) as (λ b. (other == from) ≡ b → ⊥) [
      | true ↦ λ e.
          let same : other ≡ from = grind (arith, nat_tests, e) in
          not_here (subst (Occurs feed text) same o)
      | false ↦ λ e.
          let later : from + 1 ≤ other = grind (arith, nat_tests, e, low) in
          found.0.first other later high o
    ] refl;
  },
  found.1,
)

feeds_from : (text : List ℕ) (n from : ℕ) → from + n ≡ length text → AreMatchesFrom feed text from (filter (λ at. is_line_feed (slice_index_or text at 0)) (range_with_len from n))
feeds_from text zero from all = λ at low o. absurd (omega (arith, Occurs-within feed text at o))
feeds_from text (suc n) from all =
    let rest = feeds_from text n (from + 1) (omega (arith, all)) in
    elim (is_line_feed (slice_index_or text from 0)) as (λ b. is_line_feed (slice_index_or text from 0) ≡ b → AreMatchesFrom feed text from (filter (λ at. is_line_feed (slice_index_or text at 0)) (range_with_len from (suc n)))) [
      | true ↦ λ is. rw is (record { not_before = omega arith; occurs = feed_occurs text from (omega (arith, all)) is; first = λ other low high o. absurd (omega (arith, low, high)) }, rest)
      | false ↦ λ is. rw is (matches_later text (filter (λ at. is_line_feed (slice_index_or text at 0)) (range_with_len (from + 1) n)) from (λ o. grind (arith, is, feed_stands text from o)) rest)
    ] refl

pub line_feeds_match : (text : List ℕ) → AreMatches feed text (line_feed_places text)
line_feeds_match text = feeds_from text (length text) 0 (omega arith)

-- ---- the lines

pub text_lines-are : (text : List ℕ) → AreLinesOf (pieces text) (text_lines text)
unfolding text_lines
text_lines-are text = record { matches = line_feed_places (strip (pieces text)); are_matches = line_feeds_match (strip (pieces text)); are_parts = refl }

pub text_lines-one : (text : List ℕ) (ps : List Piece) (lines : List (List ℕ)) → ArePiecesOf text ps → AreLinesOf ps lines → lines ≡ text_lines text
text_lines-one text ps lines of_text are =
    of_pieces (λ (qs : List Piece). (ls : List (List ℕ)) → AreLinesOf qs ls → ls ≡ text_lines text) text (λ ls of_ls. lines-unique (pieces text) ls (text_lines text) of_ls (text_lines-are text)) ps of_text lines are

pub length-text_lines : (text : List ℕ) → length (text_lines text) ≡ text_height text
unfolding text_height
length-text_lines text = length-lines (pieces text) (text_lines text) (text_lines-are text)

-- what holds of the lines that its pieces show holds of the text
pub height-of_pieces : (text : List ℕ) (count : ℕ) → ((ps : List Piece) → ArePiecesOf text ps → count ≡ length (shown_lines ps)) → count ≡ text_height text
unfolding text_height
height-of_pieces text count has = has (pieces text) (ArePiecesOf-pieces text)

pub width-of_pieces : (text : List ℕ) (width : ℕ) → ((ps : List Piece) → ArePiecesOf text ps → width ≡ widest (shown_lines ps)) → width ≡ text_width text
unfolding text_width
width-of_pieces text width has = has (pieces text) (ArePiecesOf-pieces text)

pub text_lines-shown : (text : List ℕ) → NoneBroken (pieces text) → map (λ line. strip (pieces line)) (text_lines text) ≡ shown_lines (pieces text)
text_lines-shown text whole = lines-shown text (pieces text) (text_lines text) (ArePiecesOf-pieces text) whole (text_lines-are text)
