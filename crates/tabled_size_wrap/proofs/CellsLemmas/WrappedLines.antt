-- The lines of a wrapped text are those into which its lines break.
use Rattle.std.proofs.Common.{◌≡◌, ◌==◌, ◌<◌, ℕ, suc, Bool, true, false, cond, All, List, [], ◌∷◌, ◌++◌, length, ap, ◌∙◌, arith, append-nil, if◌then◌else◌}
use Rattle.std.specs.Prelude.{IsUtf8, chars, flat_map}
use Rattle.std.specs.List.{AllByRecursion, AllZip, join_with_byte, list_any, onto_first, slice_split}
use Rattle.std.proofs.lemmas.List.Elements.{All-from_recursion, All-head, All-tail}
use Rattle.ansi_scan.specs.Pieces.{pieces}
use Rattle.ansi_scan.specs.Sequences.{Piece}
use Rattle.ansi_scan.proofs.Existence.{ArePiecesOf-pieces}
use Rattle.ansi_scan.proofs.Uniqueness.{pieces-ArePiecesOf}
use Rattle.ansi_str.specs.Lines.{IsClosedLine}
use Rattle.ansi_str_search.specs.Text.StyledText.{strip}
use Rattle.grid_records_measure.specs.TextLines.{is_line_feed, line_feed, text_lines}
use Rattle.grid_records_measure.proofs.LinesAndBlocks.{lines-closed, lines-joined}
use Rattle.grid_records_measure.proofs.TextLines.{text_lines-are, text_lines-shown}
use Rattle.papergrid_picture.specs.Shown.{IsWholeText}
use Rattle.papergrid_picture.proofs.Related.{All-append}
use Rattle.papergrid_picture.proofs.Shown.{IsClosedPart, lines-closed_parts}
use Rattle.std.proofs.lemmas.List.{length-map}
use Rattle.tabled_size_wrap.proofs.CellsLemmas.CutLines.{cut-closed_line}
use Rattle.tabled_size_wrap.specs.Bytes.{cut_at, wrapped_text}
use Rattle.tabled_size_wrap.specs.Runs.{runs_from, runs_of, takes_unit, used_with_unit, wrapped_lines}
use Rattle.tabled_size_wrap.specs.Showing.{Styled}
use Rattle.tabled_size_wrap.specs.Units.{LineUnit, line_units, unit_len}
use Rattle.tabled_size_wrap.specs.Wrapping.{line_part, lines_of_runs, replacement_bytes}
use Rattle.tabled_size_wrap.proofs.Longest.{runs-are}
use Rattle.tabled_size_wrap.proofs.Parts.{wrapped_line-shows}
use Rattle.tabled_size_wrap.proofs.Shows.{ShowsLine, ShowsLine-closed}

-- ---- there is some line

onto-some : (unit : LineUnit) (runs : List (List LineUnit)) → 0 < length (onto_first unit runs)
onto-some unit [] = omega arith
onto-some unit (run ∷ runs) = omega arith

runs-some : (width used : ℕ) (units : List LineUnit) → 0 < length (runs_from width used units)
runs-some width used [] = omega arith
runs-some width used (unit ∷ units) = by (takes_unit width used unit)
  where
    by : (b : Bool) → 0 < length (if b then onto_first unit (runs_from width (used_with_unit width used unit) units) else [] ∷ onto_first unit (runs_from width (used_with_unit width 0 unit) units))
    by true = onto-some unit (runs_from width (used_with_unit width used unit) units)
    by false = omega arith

lines-some : {X : Type 0} (len : LineUnit → ℕ) (part : ℕ → ℕ → List X) (mark : List X) (width place : ℕ) (runs : List (List LineUnit)) → 0 < length runs → 0 < length (lines_of_runs len part mark width place runs)
lines-some len part mark width place [] some = absurd (omega (arith, some))
lines-some len part mark width place (run ∷ runs) some = omega arith

split-some : (p : ℕ → Bool) (xs : List ℕ) → 0 < length (slice_split p xs)
split-some p [] = omega arith
split-some p (x ∷ xs) = by (p x) (slice_split p xs)
  where
    by : (b : Bool) (parts : List (List ℕ)) → 0 < length (cond b ([] ∷ parts) (onto_first x parts))
    by true parts = omega arith
    by false [] = omega arith
    by false (part ∷ parts) = omega arith

-- a text has some line
pub text-some : (text : List ℕ) → IsWholeText text → 0 < length (text_lines text)
text-some text whole =
    let shown = strip (pieces text) in
    let counted = length-map (text_lines text) (λ line. strip (pieces line)) in
    let same = ap (λ (lines : List (List ℕ)). length lines) (text_lines-shown text whole.whole) in
    let some = split-some is_line_feed shown in
    omega (arith, counted, same, some)

-- ---- lines

-- a closed line is one line
pub one-line : (line : List ℕ) → IsClosedLine line → text_lines line ≡ line ∷ []
one-line line closed =
    let some : 0 < 1 = omega arith in
    lines-joined (line ∷ []) (text_lines line) (pieces line) some (All-from_recursion IsClosedLine (line ∷ []) (closed, tt)) (ArePiecesOf-pieces line) (text_lines-are line)

-- so is one that is cut
pub cut-line : (width : ℕ) (line : List ℕ) → IsUtf8 line → IsClosedLine line → text_lines (cut_at width line) ≡ cut_at width line ∷ []
cut-line width line utf8 closed = one-line (cut_at width line) (cut-closed_line width line utf8 closed)

to-each : {A : Type 0} (P : A → Type 0) (xs : List A) → All P xs → AllByRecursion P xs
to-each P [] all = tt
to-each P (x ∷ xs) all = (All-head P x xs all, to-each P xs (All-tail P x xs all))

closed-lines : (lines : List (List ℕ)) (shown : List (List Styled)) → AllZip ShowsLine lines shown → AllByRecursion IsClosedLine lines
closed-lines [] shown each = tt
closed-lines (line ∷ lines) [] each = absurd each
closed-lines (line ∷ lines) (x ∷ xs) each = (ShowsLine-closed line x each.0, closed-lines lines xs each.1)

append-some : {A : Type 0} (xs ys : List A) → 0 < length xs → 0 < length (xs ++ ys)
append-some [] ys some = absurd (omega (arith, some))
append-some (x ∷ xs) ys some = omega arith

module _ (n : ℕ) (keep_words : Bool) where
  abbrev broken : List ℕ → List (List ℕ)
  broken line = wrapped_lines (suc n) keep_words (pieces line)

  broken-some : (line : List ℕ) → 0 < length (broken line)
  broken-some line =
      let units = line_units (suc n) keep_words (chars (strip (pieces line))) in
      lines-some unit_len (line_part (pieces line)) replacement_bytes (suc n) 0 (runs_of (suc n) units) (runs-some (suc n) 0 units)

  line-broken : (line : List ℕ) → IsClosedPart line → IsClosedLine line → AllByRecursion IsClosedLine (broken line)
  line-broken line part closed =
      let width : 0 < suc n = omega arith in
      let units = line_units (suc n) keep_words (chars (strip (pieces line))) in
      let same : pieces line ≡ closed.pieces = pieces-ArePiecesOf line closed.pieces closed.of_line in
      let one_line : list_any (λ byte. byte == 0x0a) (strip (pieces line)) ≡ false = ap (λ (ps : List Piece). list_any (λ byte. byte == 0x0a) (strip ps)) same ∙ closed.one_line in
      closed-lines (broken line) _
      (wrapped_line-shows line (pieces line) part.utf8 (ArePiecesOf-pieces line) part.closed.none_broken one_line (suc n) keep_words (runs_of (suc n) units) (runs-are (suc n) width units))

  all-broken : (lines : List (List ℕ)) → AllByRecursion IsClosedPart lines → AllByRecursion IsClosedLine lines → AllByRecursion IsClosedLine (flat_map broken lines)
  all-broken [] parts closed = tt
  all-broken (line ∷ lines) parts closed = All-append IsClosedLine (broken line) (flat_map broken lines) (line-broken line parts.0 closed.0) (all-broken lines parts.1 closed.1)

  some-broken : (lines : List (List ℕ)) → 0 < length lines → 0 < length (flat_map broken lines)
  some-broken [] some = absurd (omega (arith, some))
  some-broken (line ∷ lines) some = append-some (broken line) (flat_map broken lines) (broken-some line)

  module _ (text : List ℕ) (whole : IsWholeText text) where
    pub wrapped-lines : text_lines (wrapped_text (suc n) keep_words text) ≡ flat_map broken (text_lines text)
    unfolding wrapped_text
    wrapped-lines =
        let lines = text_lines text in
        let made = flat_map broken lines in
        let joined = join_with_byte line_feed made in
        let closed = to-each IsClosedLine lines (lines-closed text (pieces text) lines (ArePiecesOf-pieces text) whole.whole (text_lines-are text)) in
        lines-joined made (text_lines joined) (pieces joined) (some-broken lines (text-some text whole))
        (All-from_recursion IsClosedLine made (all-broken lines (lines-closed_parts text whole) closed)) (ArePiecesOf-pieces joined) (text_lines-are joined)

  -- of a line that is closed these alone
  pub line-wrapped : (line : List ℕ) → IsWholeText line → text_lines line ≡ line ∷ [] → text_lines (wrapped_text (suc n) keep_words line) ≡ broken line
  line-wrapped line whole one = wrapped-lines line whole ∙ ap (λ (lines : List (List ℕ)). flat_map broken lines) one ∙ append-nil (broken line)
