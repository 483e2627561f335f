-- A resized text shows the resized cell: as text and as styled characters it is one thing.
use Rattle.std.proofs.Common.{◌≡◌, ◌≤◌, ◌<◌, ◌-◌, ◌++◌, ℕ, zero, suc, Bool, true, false, List, [], ◌∷◌, length, map, take, max, replicate, slice_range, refl, ap, sym, subst, ◌∙◌, arith, nat_le, if◌then◌else◌}
use Rattle.std.specs.Prelude.{chars, encode_utf8, encode_utf8_all, IsUtf8}
use Rattle.std.specs.List.{AllZip, flat_map, slice_split}
use Rattle.std.proofs.lemmas.List.{append_cancel_left}
use Rattle.std.proofs.lemmas.Simd.{map-map}
use Rattle.std.proofs.lemmas.Str.{IsCharBoundary-start, IsUtf8-append, IsUtf8-encode, IsUtf8-nil}
use Rattle.ansi_scan.specs.Sequences.{Piece, NoneBroken}
use Rattle.ansi_scan.specs.Pieces.{pieces}
use Rattle.ansi_scan.specs.Attributes.{plain_attributes}
use Rattle.ansi_scan.proofs.Existence.{ArePiecesOf-pieces}
use Rattle.ansi_scan.proofs.Uniqueness.{pieces-ArePiecesOf}
use Rattle.ansi_str.specs.StyledText.{strip, styled, style_after_all}
use Rattle.ansi_str.specs.Parts.{dressed, from_place, split_part, through_place}
use Rattle.ansi_str.specs.Cuts.{cut_part}
use Rattle.ansi_str_search.proofs.PiecesAtPlaces.{before-none, from-none}
use Rattle.ansi_str_search.proofs.Styles.{split_part-slice}
use Rattle.ansi_str_search.proofs.Utf8.{IsUtf8-split_part}
use Rattle.ansi_str_search.proofs.TextLemmas.Utf8Pieces.{IsUtf8-shown_text}
use Rattle.ansi_str.proofs.CutParts.{first_part-slice}
use Rattle.grid_records_estimate.specs.Estimates.{greatest}
use Rattle.grid_records_measure.specs.Cutting.{lacking, replacement}
use Rattle.grid_records_measure.specs.Filling.{behind_front, fitting_front}
use Rattle.grid_records_measure.specs.Measures.{measure}
use Rattle.grid_records_measure.specs.TextLines.{line_measure, text_lines, text_width, widest}
use Rattle.grid_records_measure.proofs.Cuts.{fitting_front-boundary}
use Rattle.grid_records_measure.proofs.Filling.{IsLongestFront-fitting_front, IsLongestFront-unique}
use Rattle.grid_records_measure.proofs.ShownCuts.{cut-shows}
use Rattle.grid_records_measure.proofs.TextLines.{text_lines-shown}
use Rattle.papergrid_picture.specs.Shown.{IsWholeText, Styled, character_of, in_plain}
use Rattle.papergrid_picture.proofs.Shown.{IsClosedPart, characters-styled, lines-closed_parts, lines-styled, map-same, pieces-nothing, styled_of}
use Rattle.tabled_size_wrap.specs.Bytes.{cut_at, wrapped_text}
use Rattle.tabled_size_wrap.specs.Runs.{runs_of, wrapped}
use Rattle.tabled_size_wrap.specs.Showing.{AreShownLines, ends_line, joined_lines, unit_size}
use Rattle.tabled_size_wrap.specs.Units.{line_units}
use Rattle.tabled_size_wrap.specs.Wrapping.{lines_of_runs}
use Rattle.grid_records_measure.proofs.Cuts.{cut_at-meets}
use Rattle.tabled_size_wrap.proofs.Bytes.{wrapped_text-meets}
use Rattle.tabled_size_wrap.proofs.Longest.{runs-are, runs-one}
use Rattle.tabled_size_wrap.proofs.Shows.{Shows, joined-shows}
use Rattle.tabled_size_wrap.proofs.Wrapped.{text-shows}
use Rattle.tabled_size_wrap.specs.Cells.Resizing.{Wrap, Cut, Keep, Resize, wrapped_cell, wrapped_line, cell_width, cut, resized, resized_text}

-- ---- what a whole text measures

widest-greatest : (lines : List (List ℕ)) → widest lines ≡ greatest (map line_measure lines)
widest-greatest [] = refl
widest-greatest (line ∷ lines) = ap (max (line_measure line)) (widest-greatest lines)

module _ (text : List ℕ) (whole : IsWholeText text) where
  pub width-same : text_width text ≡ cell_width character_of in_plain (styled_of text)
  unfolding text_width
  width-same =
      ap widest (sym (text_lines-shown text whole.whole))
      ∙ widest-greatest (map (λ line. strip (pieces line)) (text_lines text))
      ∙ ap greatest
      (map-map line_measure (λ (line : List ℕ). strip (pieces line)) (text_lines text)
      ∙ map-same IsClosedPart (λ part. measure (chars (strip (pieces part)))) (λ part. measure (map character_of (styled_of part)))
      (λ part closed. ap measure (sym (characters-styled part closed.utf8))) (text_lines text) (lines-closed_parts text whole)
      ∙ sym (map-map (λ (line : List Styled). measure (map character_of line)) styled_of (text_lines text))
      ∙ ap (map (λ (line : List Styled). measure (map character_of line))) (lines-styled text whole))

-- ---- a text that shows these characters, and of which no sequence is broken

pub record ShowsWhole (bytes : List ℕ) (characters : List Styled) : Type 0 where
  pub whole : IsWholeText bytes
  pub shown : styled_of bytes ≡ characters

shows-nothing : ShowsWhole [] []
shows-nothing = record {
  whole = record { utf8 = IsUtf8-nil; whole = subst NoneBroken (sym pieces-nothing) tt };
  shown = ap styled pieces-nothing;
}

-- ---- wrapped

-- there is one list of lines that a line is wrapped into
lines-one : (width : ℕ) (keep_words : Bool) → 0 < width → (lines : List (List Styled)) (shown : List (List (List Styled))) → AllZip (AreShownLines width keep_words) lines shown
    → shown ≡ map (wrapped_line character_of in_plain width keep_words) lines
lines-one width keep_words some [] [] all = refl
lines-one width keep_words some [] (xs ∷ shown) all = absurd all
lines-one width keep_words some (line ∷ lines) [] all = absurd all
lines-one width keep_words some (line ∷ lines) (xs ∷ shown) all =
    let here = all.0 in
    let units = line_units width keep_words (map character_of line) in
    let same : here.0 ≡ runs_of width units = runs-one width units here.0 (runs_of width units) here.1 (runs-are width some units) in
    let first : xs ≡ wrapped_line character_of in_plain width keep_words line = here.2 ∙ ap (lines_of_runs unit_size (slice_range line) (in_plain replacement ∷ []) width 0) same in
    ap (λ (found : List (List Styled)). found ∷ shown) first
    ∙ ap (λ (rest : List (List (List Styled))). wrapped_line character_of in_plain width keep_words line ∷ rest) (lines-one width keep_words some lines shown all.1)

pub flat-map : {A B : Type 0} (f : A → List B) (xs : List A) → flat_map (λ ys. ys) (map f xs) ≡ flat_map f xs
flat-map f [] = refl
flat-map f (x ∷ xs) = ap (λ rest. f x ++ rest) (flat-map f xs)

module _ (text : List ℕ) (whole : IsWholeText text) (keep_words : Bool) where
  pub wrapped-shows_whole : (width : ℕ) → ShowsWhole (wrapped_text width keep_words text) (wrapped_cell character_of in_plain width keep_words (styled_of text))
  unfolding wrapped_text
  wrapped-shows_whole zero = shows-nothing
  wrapped-shows_whole (suc n) =
      let some : 0 < suc n = omega arith in
      let bytes = wrapped (suc n) keep_words (text_lines text) in
      let is = text-shows keep_words text bytes (pieces text) whole.utf8 (ArePiecesOf-pieces text) whole.whole (suc n) some (wrapped_text-meets (suc n) keep_words text (pieces text) (ArePiecesOf-pieces text)) in
      let all = flat_map (λ (others : List (List Styled)). others) is.shown in
      let shows : Shows bytes (joined_lines all) = subst (λ (found : List ℕ). Shows found (joined_lines all)) (sym is.bytes_are) (joined-shows is.lines all is.each) in
      let same : pieces bytes ≡ shows.pieces = pieces-ArePiecesOf bytes shows.pieces shows.of_bytes in
      let lines = slice_split ends_line (styled_of text) in
      record {
        whole = record { utf8 = shows.utf8; whole = subst NoneBroken (sym same) shows.closed.none_broken };
        shown =
            ap styled same ∙ shows.shown
            ∙ ap joined_lines (ap (flat_map (λ (others : List (List Styled)). others)) (lines-one (suc n) keep_words some lines is.shown is.are) ∙ flat-map (wrapped_line character_of in_plain (suc n) keep_words) lines);
      }

-- ---- cut

marks-text : (n : ℕ) → IsUtf8 (encode_utf8_all (replicate n replacement))
marks-text zero = IsUtf8-nil
marks-text (suc n) = IsUtf8-append (encode_utf8 replacement) (encode_utf8_all (replicate n replacement)) (IsUtf8-encode replacement refl) (marks-text n)

module _ (text : List ℕ) (whole : IsWholeText text) (width : ℕ) where
  abbrev ps : List Piece
  ps = pieces text

  abbrev characters : List ℕ
  characters = chars (strip ps)

  abbrev kept : List ℕ
  kept = fitting_front width 0 characters

  abbrev behind : List ℕ
  behind = behind_front width 0 characters

  abbrev at : ℕ
  at = length (encode_utf8_all kept)

  cut-split : (b : ℕ) → split_part 0 b ps ≡ cut_part 0 b ps
  cut-split b =
      let low : 0 ≤ b = omega arith in
      let all : b - 0 ≡ b = omega arith in
      split_part-slice 0 b ps low
      ∙ ap (λ (before : List Piece). dressed (style_after_all plain_attributes before) (through_place (b - 0) (from_place 0 ps))) (before-none ps)
      ∙ ap (λ (from : List Piece). dressed plain_attributes (through_place (b - 0) from)) (from-none ps)
      ∙ ap (λ (n : ℕ). dressed plain_attributes (through_place n ps)) all
      ∙ sym (first_part-slice b ps)

  cut-text : IsUtf8 (cut_at width text)
  unfolding cut_at
  cut-text =
      let low : 0 ≤ at = omega arith in
      let shown = IsUtf8-shown_text text whole.utf8 in
      IsUtf8-append (cut_part 0 at ps) (encode_utf8_all (replicate (lacking width kept behind) replacement))
      (subst IsUtf8 (cut-split at) (IsUtf8-split_part text ps 0 at low whole.utf8 (ArePiecesOf-pieces text) (IsCharBoundary-start (strip ps) shown) (fitting_front-boundary width (strip ps) shown)))
      (marks-text (lacking width kept behind))

  pub cut-shows_whole : ShowsWhole (cut_at width text) (cut character_of in_plain width (styled_of text))
  cut-shows_whole =
      let of_text = ArePiecesOf-pieces text in
      let bytes = cut_at width text in
      let shows = cut-shows width text bytes ps (pieces bytes) whole.utf8 of_text whole.whole (cut_at-meets width text ps of_text) (ArePiecesOf-pieces bytes) in
      let longest = IsLongestFront-fitting_front width characters in
      let same : shows.kept ≡ kept = IsLongestFront-unique width characters shows.kept shows.left kept behind shows.longest longest in
      let left : shows.left ≡ behind = append_cancel_left kept shows.left behind (sym (shows.longest.parted ∙ ap (λ (xs : List ℕ). xs ++ shows.left) same) ∙ longest.parted) in
      let shown : List ℕ → List ℕ → List Styled = λ xs ys. take (length xs) (styled_of text) ++ map in_plain (replicate (lacking width xs ys) replacement) in
      record {
        whole = record { utf8 = cut-text; whole = shows.closed.none_broken };
        shown =
            shows.shown
            ∙ ap (λ (xs : List ℕ). shown xs shows.left) same
            ∙ ap (shown kept) left
            ∙ ap (λ (cs : List ℕ). shown (fitting_front width 0 cs) (behind_front width 0 cs)) (sym (characters-styled text whole.utf8));
      }

-- ---- resized

pub resized-shows : (resize : Resize) (text : List ℕ) → IsWholeText text → ShowsWhole (resized_text resize text) (resized character_of in_plain resize (styled_of text))
resized-shows Keep text whole = record { whole = whole; shown = refl }
resized-shows (Wrap width keep_words) text whole = wrapped-shows_whole text whole keep_words width
resized-shows (Cut width) text whole =
    let shows : (b : Bool) → ShowsWhole (if b then text else cut_at width text) (if b then styled_of text else cut character_of in_plain width (styled_of text)) =
    λ b. elim b as (λ b. ShowsWhole (if b then text else cut_at width text) (if b then styled_of text else cut character_of in_plain width (styled_of text))) [
      | true ↦ record { whole = whole; shown = refl }
      | false ↦ cut-shows_whole text whole width
    ] in
    subst (λ (n : ℕ). ShowsWhole (if nat_le (text_width text) width then text else cut_at width text) (if nat_le n width then styled_of text else cut character_of in_plain width (styled_of text)))
    (width-same text whole) (shows (nat_le (text_width text) width))
