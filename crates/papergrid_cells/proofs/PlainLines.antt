-- A text of one line without sequences is its own first line.
use Rattle.std.proofs.Common.{◌≡◌, ◌<◌, ℕ, Bool, false, List, [], ◌∷◌, ◌++◌, None, Option, Some, get_or, length, map, take, ap, sym, subst, ◌∙◌, arith, append_assoc}
use Rattle.std.specs.Borrow.{Bor}
use Rattle.std.specs.Option.{IfSome}
use Rattle.std.specs.List.{join_with_byte, slice_split}
use Rattle.std.proofs.lemmas.List.Splits.{join_with_byte-slice_split}
use Rattle.std.proofs.Math.Seq.{take-length}
use Rattle.ansi_scan.specs.Pieces.{pieces}
use Rattle.ansi_scan.specs.Sequences.{Piece, ArePiecesOf}
use Rattle.ansi_scan.proofs.Existence.{ArePiecesOf-pieces}
use Rattle.ansi_str.specs.Matches.{AreMatches, split_bounds, styled_parts}
use Rattle.ansi_str.specs.StyledText.{has_escape, strip}
use Rattle.ansi_str_search.proofs.AllParts.{styled_parts-without_escape}
use Rattle.ansi_str_search.proofs.StdSplits.{split_at_one_byte}
use Rattle.ansi_str_search.proofs.TextLemmas.LastSequence.{has_escape-append}
use Rattle.ansi_str_search.proofs.TextLemmas.Stripping.{strip-without_escape}
use Rattle.grid_records_measure.specs.RawLines.{IsLineAndRest, lines_behind}
use Rattle.grid_records_measure.specs.TextLines.{AreLinesOf, is_line_feed, line_feed, shown_lines, text_lines}
use Rattle.grid_records_measure.proofs.TextLines.{text_lines-are}
use Rattle.grid_records_traits.specs.Cells.{HasLineCount, IsLineAt}
use Rattle.papergrid_picture.specs.CellLines.{cell_lines, cell_measures}
use Rattle.papergrid_cells.specs.Shown.{line_shown, measure_shown}
use Rattle.papergrid_cells.proofs.KeptLines.{one-element}

-- the lines of a text without ESC are its parts between line feeds
pub lines-plain : (text : List ℕ) (ps : List Piece) (lines : List (List ℕ)) → has_escape text ≡ false → ArePiecesOf text ps → AreLinesOf ps lines → lines ≡ slice_split is_line_feed text
lines-plain text ps lines plain of_text are =
    let feed = line_feed ∷ [] in
    let low : line_feed < 128 = omega arith in
    let itself : strip ps ≡ text = strip-without_escape text ps of_text plain in
    let matched : AreMatches feed text are.matches = subst (λ (shown : List ℕ). AreMatches feed shown are.matches) itself are.are_matches in
    are.are_parts ∙ (ap (λ shown. styled_parts ps (split_bounds feed shown are.matches)) itself
    ∙ (styled_parts-without_escape feed text ps are.matches plain of_text matched
    ∙ split_at_one_byte line_feed text are.matches low matched))

pub plain-line : (text : List ℕ) → has_escape text ≡ false → HasLineCount text 1 → IsLineAt text 0 text
plain-line text plain counted = λ ps lines of_text are.
    let parts = slice_split is_line_feed text in
    let itself : strip ps ≡ text = strip-without_escape text ps of_text plain in
    let one : length parts ≡ 1 = sym (counted ps of_text ∙ ap (λ shown. length (slice_split is_line_feed shown)) itself) in
    sym (join_with_byte-slice_split line_feed text)
    ∙ (ap (join_with_byte line_feed) (one-element parts [] one)
    ∙ ap (λ all. get_or all 0 []) (sym (lines-plain text ps lines plain of_text are)))

-- ---- such a text whole

module _ (text : List ℕ) (plain : has_escape text ≡ false) where
  shown-plain : shown_lines (pieces text) ≡ slice_split is_line_feed text
  shown-plain = ap (slice_split is_line_feed) (strip-without_escape text (pieces text) (ArePiecesOf-pieces text) plain)

  -- it is what it shows
  pub itself-plain : text ≡ strip (pieces text)
  itself-plain = sym (strip-without_escape text (pieces text) (ArePiecesOf-pieces text) plain)

  -- its lines are those that it shows
  pub same-plain : shown_lines (pieces text) ≡ text_lines text
  same-plain = shown-plain ∙ sym (lines-plain text (pieces text) (text_lines text) plain (ArePiecesOf-pieces text) (text_lines-are text))

  pub cell_lines-plain : (trim_horizontal : Bool) → map (line_shown trim_horizontal) (slice_split is_line_feed text) ≡ cell_lines trim_horizontal false text
  cell_lines-plain trim_horizontal =
      let lines : text_lines text ≡ slice_split is_line_feed text = lines-plain text (pieces text) (text_lines text) plain (ArePiecesOf-pieces text) (text_lines-are text) in
      ap (map (line_shown trim_horizontal))
      (sym (ap (λ shown. take (length shown) (text_lines text)) (shown-plain ∙ sym lines) ∙ (take-length (text_lines text) ∙ lines)))

  pub cell_measures-plain : (trim_horizontal : Bool) → map (measure_shown trim_horizontal) (slice_split is_line_feed text) ≡ cell_measures trim_horizontal false text
  cell_measures-plain trim_horizontal = ap (map (measure_shown trim_horizontal)) (sym (take-length (shown_lines (pieces text)) ∙ shown-plain))

-- ---- such a text line by line

-- none of what is there has ESC
abbrev pub IsPlainRest : Option (Bor (List ℕ)) → Type 0
IsPlainRest rest = IfSome rest (λ other. has_escape other.now ≡ false)

-- the first line and those after it have none either
pub parts_plain : (text line : List ℕ) (rest : Option (Bor (List ℕ))) → has_escape text ≡ false → IsLineAndRest text line rest → (has_escape line ≡ false) × IsPlainRest rest
parts_plain text line None plain is = (ap has_escape (sym is) ∙ plain, tt)
parts_plain text line (Some other) plain is =
    let first = has_escape-append line (line_feed ∷ other.now) (ap has_escape (sym is) ∙ plain) in
    (first.0, (has_escape-append (line_feed ∷ []) other.now first.1).1)

pub split_plain : (text line : List ℕ) (rest : Option (Bor (List ℕ))) → has_escape text ≡ false → IsLineAndRest text line rest → shown_lines (pieces text) ≡ strip (pieces line) ∷ lines_behind rest
    → (shown_lines (pieces text) ≡ line ∷ lines_behind rest) × IsPlainRest rest
split_plain text line rest plain parted lines =
    let parts = parts_plain text line rest plain parted in
    (lines ∙ ap (λ first. first ∷ lines_behind rest) (strip-without_escape line (pieces line) (ArePiecesOf-pieces line) parts.0), parts.1)

-- something is made of lines, one by one
module _ {X : Type 0} (f : List ℕ → X) (of_lines : List (List ℕ) → List X) (one_more : (line : List ℕ) (lines : List (List ℕ)) → of_lines (line ∷ lines) ≡ f line ∷ of_lines lines) where
  -- what was made so far, and what the lines that are left give, is all; so it is with one line more
  pub made_more : (all made next : List X) (line : List ℕ) (rest behind : Option (Bor (List ℕ))) (item : X)
      → made ++ of_lines (lines_behind rest) ≡ all → lines_behind rest ≡ line ∷ lines_behind behind → next ≡ made ++ item ∷ [] → item ≡ f line
      → next ++ of_lines (lines_behind behind) ≡ all
  made_more all made next line rest behind item so_far come more is =
      ap (λ items. items ++ of_lines (lines_behind behind)) (more ∙ ap (λ (i : X). made ++ i ∷ []) is)
      ∙ append_assoc made (f line ∷ []) (of_lines (lines_behind behind))
      ∙ ap (λ items. made ++ items) (sym (ap of_lines come ∙ one_more line (lines_behind behind))) ∙ so_far
