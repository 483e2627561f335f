-- A text of printable ASCII, without a sequence and without a line feed, wrapped at each so many bytes.
use Rattle.std.proofs.Common.{◌≡◌, ◌≤◌, ◌<◌, ℕ, suc, ◌+◌, ◌-◌, ◌==◌, ◌||◌, not, Bool, true, false, List, [], ◌∷◌, ◌++◌, All, length, take, drop, flat_map, refl, ap, sym, subst, ◌∙◌, arith, append-nil, length-drop}
use Rattle.std.specs.Int.{is_in_range}
use Rattle.std.specs.List.{join_with_byte}
use Rattle.std.specs.Str.{IsAscii}
use Rattle.std.proofs.lemmas.Bool.{and_parts}
use Rattle.std.proofs.lemmas.Bool.Decides.{nat_tests}
use Rattle.std.proofs.lemmas.List.{take-append-drop, take_all}
use Rattle.std.proofs.lemmas.List.Elements.{All-cons, All-nil}
use Rattle.std.proofs.lemmas.List.Folds.{list_all-append}
use Rattle.std.proofs.lemmas.List.Splits.{slice_split_none}
use Rattle.ansi_scan.specs.Attributes.{plain_attributes}
use Rattle.ansi_scan.specs.Pieces.{pieces, text_len}
use Rattle.ansi_scan.specs.Sequences.{Piece, ArePiecesOf, escape, is_not_escape}
use Rattle.ansi_scan.proofs.Existence.{ArePiecesOf-pieces}
use Rattle.ansi_scan.proofs.Runs.{prefix_len-pass}
use Rattle.ansi_scan.proofs.Uniqueness.{pieces-ArePiecesOf}
use Rattle.ansi_str.specs.Parts.{from_place}
use Rattle.ansi_str.specs.StyledText.{has_escape, strip}
use Rattle.ansi_str.specs.Walking.{begins_with_escape, from_text}
use Rattle.ansi_str.proofs.CutParts.{first_part-slice}
use Rattle.ansi_str.proofs.CutSteps.{plain-through}
use Rattle.ansi_str_search.proofs.Walks.{at_text, from-plain}
use Rattle.ansi_str_search.proofs.TextLemmas.Stripping.{strip-without_escape}
use Rattle.grid_records_measure.specs.Measures.{are_printable}
use Rattle.grid_records_measure.specs.TextLines.{AreLinesOf, is_line_feed, line_feed, text_lines}
use Rattle.grid_records_measure.proofs.Cuts.{cut-without_escape}
use Rattle.grid_records_measure.proofs.PrintableWidth.{printable-ascii}
use Rattle.grid_records_measure.proofs.TextLines.{text_lines-are}
use Rattle.tabled_size_wrap.specs.Runs.{wrapped_lines}
use Rattle.tabled_size_wrap.specs.Standing.{StandsAt}
use Rattle.tabled_size_wrap.specs.Wrapping.{IsWrapped, line_part}
use Rattle.tabled_size_wrap.proofs.Ascii.{Chunked, Chunked-start, chunk-last, chunk-more}
use Rattle.tabled_size_wrap.proofs.Standing.{stands-next, stands-part, stands-start}
use Rattle.tabled_size_wrap.proofs.StayingTexts.{lines_without_escape}
use Rattle.tabled_size_wrap.proofs.Wraps.{is-wrapped}

-- ---- printable bytes

printable-other : (b : ℕ) → is_in_range 0x20 0x7E b ≡ true → (b == escape) ≡ false
printable-other b h = grind (arith, nat_tests)

printable-no_feed : (b : ℕ) → is_in_range 0x20 0x7E b ≡ true → is_line_feed b ≡ false
printable-no_feed b h = grind (arith, nat_tests)

both : (b : ℕ) (bs : List ℕ) → are_printable (b ∷ bs) ≡ true → (is_in_range 0x20 0x7E b ≡ true) × (are_printable bs ≡ true)
both b bs h = and_parts (is_in_range 0x20 0x7E b) (are_printable bs) h

pub printable-no_escape : (bytes : List ℕ) → are_printable bytes ≡ true → has_escape bytes ≡ false
printable-no_escape [] h = refl
printable-no_escape (b ∷ bs) h = ap (λ t. t || has_escape bs) (printable-other b (both b bs h).0) ∙ printable-no_escape bs (both b bs h).1

printable-text_len : (bytes : List ℕ) → are_printable bytes ≡ true → text_len bytes ≡ length bytes
printable-text_len [] h = refl
printable-text_len (b ∷ bs) h = prefix_len-pass is_not_escape b bs (ap not (printable-other b (both b bs h).0)) ∙ ap suc (printable-text_len bs (both b bs h).1)

printable-begins : (bytes : List ℕ) → are_printable bytes ≡ true → begins_with_escape bytes ≡ false
printable-begins [] h = refl
printable-begins (b ∷ bs) h = printable-other b (both b bs h).0

pub printable-feeds : (bytes : List ℕ) → are_printable bytes ≡ true → All (λ b. is_line_feed b ≡ false) bytes
printable-feeds [] h = All-nil (λ b. is_line_feed b ≡ false)
printable-feeds (b ∷ bs) h = All-cons (λ b. is_line_feed b ≡ false) b bs (printable-no_feed b (both b bs h).0) (printable-feeds bs (both b bs h).1)

printable-drop : (n : ℕ) (bytes : List ℕ) → are_printable bytes ≡ true → are_printable (drop n bytes) ≡ true
printable-drop n bytes h =
    (and_parts (are_printable (take n bytes)) (are_printable (drop n bytes))
    (sym (list_all-append (is_in_range 0x20 0x7E) (take n bytes) (drop n bytes)) ∙ ap are_printable (take-append-drop n bytes) ∙ h)).1

pub printable-parts : (bytes front rest : List ℕ) → bytes ≡ front ++ rest → are_printable bytes ≡ true → (are_printable front ≡ true) × (are_printable rest ≡ true)
printable-parts bytes front rest same h =
    and_parts (are_printable front) (are_printable rest) (sym (list_all-append (is_in_range 0x20 0x7E) front rest) ∙ ap are_printable (sym same) ∙ h)

-- it is its only line
pub printable-lines : (text : List ℕ) → are_printable text ≡ true → text_lines text ≡ text ∷ []
printable-lines text h = lines_without_escape text (printable-no_escape text h) ∙ slice_split_none is_line_feed text (printable-feeds text h)

-- ---- a place in such a text

module _ (line : List Piece) (at : ℕ) (rest : List ℕ) (printable : are_printable rest ≡ true) (stands : StandsAt line at rest plain_attributes) (n : ℕ) (some : 0 < n) where
  none : has_escape rest ≡ false
  none = printable-no_escape rest printable

  printable-part : line_part line at (at + n) ≡ take n rest
  printable-part =
      sym (stands-part line rest plain_attributes n at stands some) ∙ sym (first_part-slice n (pieces rest))
      ∙ cut-without_escape n rest (pieces rest) none (ArePiecesOf-pieces rest)

  printable-next : n ≤ length rest → StandsAt line (at + n) (drop n rest) plain_attributes
  printable-next fits =
      let within : n ≤ text_len rest = omega (arith, fits, printable-text_len rest printable) in
      let behind : pieces (drop n rest) ≡ from_text (from_place n (pieces rest)) =
      sym (at_text (drop n rest) plain_attributes (printable-begins (drop n rest) (printable-drop n rest printable))).0 ∙ ap from_text (sym (from-plain rest n within)) in
      stands-next line rest plain_attributes n (drop n rest) plain_attributes behind (sym (plain-through n rest plain_attributes none)) at stands some

-- ---- a walk by full lines

-- these bytes, and what the printable text that is left gives, are all bytes
pub record Filled (text : List ℕ) (width : ℕ) (out rest : List ℕ) : Type 0 where
  pub chunked : Chunked (pieces text) width (join_with_byte line_feed (wrapped_lines width false (pieces text))) out rest plain_attributes (length rest)
  pub printable : are_printable rest ≡ true
  pub some : 0 < length rest

module _ (text : List ℕ) (printable : are_printable text ≡ true) (width : ℕ) where
  shown : strip (pieces text) ≡ text
  shown = strip-without_escape text (pieces text) (ArePiecesOf-pieces text) (printable-no_escape text printable)

  ascii : IsAscii (strip (pieces text))
  ascii = subst IsAscii (sym shown) (printable-ascii text printable)

  abbrev all : List ℕ
  all = join_with_byte line_feed (wrapped_lines width false (pieces text))

  pub Filled-start : 0 < length text → (out : List ℕ) → out ≡ [] → Filled text width out text
  Filled-start some out none = record {
    chunked =
        subst (λ (bytes : List ℕ). Chunked (pieces text) width bytes out text plain_attributes (length text)) (ap (λ (bytes : List ℕ). bytes ++ all) none)
        (Chunked-start (pieces text) width out text plain_attributes (length text) (stands-start text text plain_attributes refl refl) ascii (sym (ap length shown)));
    printable = printable;
    some = some;
  }

  module _ (out rest : List ℕ) (filled : Filled text width out rest) (some : 0 < width) where
    pub Filled-more : width < length rest → (written : List ℕ) → written ≡ (out ++ take width rest) ++ line_feed ∷ [] → Filled text width written (drop width rest)
    Filled-more more written is =
        let at = filled.chunked.at in
        let fits : width ≤ length rest = omega (arith, more) in
        let part = printable-part (pieces text) at rest filled.printable filled.chunked.stands width some in
        let size : length rest - width ≡ length (drop width rest) = sym (length-drop width rest) in
        let left : 0 < length (drop width rest) = omega (arith, length-drop width rest, more) in
        record {
          chunked =
              subst (λ n. Chunked (pieces text) width all written (drop width rest) plain_attributes n) size
              (chunk-more (pieces text) width all out rest plain_attributes (length rest) filled.chunked ascii some more (drop width rest) plain_attributes
              (printable-next (pieces text) at rest filled.printable filled.chunked.stands width some fits) written
              (is ∙ ap (λ (bytes : List ℕ). (out ++ bytes) ++ line_feed ∷ []) (sym part)));
          printable = printable-drop width rest filled.printable;
          some = left;
        }

    pub Filled-last : length rest ≤ width → out ++ rest ≡ all
    Filled-last fits =
        let at = filled.chunked.at in
        let whole : take (length rest) rest ≡ rest = take_all (length rest) rest (omega arith) in
        ap (λ (bytes : List ℕ). out ++ bytes) (sym (printable-part (pieces text) at rest filled.printable filled.chunked.stands (length rest) filled.some ∙ whole))
        ∙ chunk-last (pieces text) width all out rest plain_attributes (length rest) filled.chunked ascii some fits

-- where words are not kept, all lines of such a text
pub printable-wrapped : (text bytes : List ℕ) (width : ℕ) → are_printable text ≡ true → bytes ≡ join_with_byte line_feed (wrapped_lines width false (pieces text))
    → bytes ≡ join_with_byte line_feed (flat_map (λ line. wrapped_lines width false (pieces line)) (text_lines text))
printable-wrapped text bytes width printable is =
    is ∙ ap (join_with_byte line_feed) (sym (append-nil (wrapped_lines width false (pieces text))))
    ∙ sym (ap (λ lines. join_with_byte line_feed (flat_map (λ line. wrapped_lines width false (pieces line)) lines)) (printable-lines text printable))

pub printable-is_wrapped : (text bytes : List ℕ) (width : ℕ) (keep_words : Bool) (ps : List Piece) → 0 < width → are_printable text ≡ true → keep_words ≡ false → ArePiecesOf text ps
    → bytes ≡ join_with_byte line_feed (wrapped_lines width false (pieces text)) → IsWrapped width keep_words ps bytes
printable-is_wrapped text bytes width keep_words ps some printable divided of_text is =
    subst (λ (keep : Bool). IsWrapped width keep ps bytes) (sym divided)
    (is-wrapped width false ps bytes (text_lines text) some
    (subst (λ (qs : List Piece). AreLinesOf qs (text_lines text)) (pieces-ArePiecesOf text ps of_text) (text_lines-are text))
    (printable-wrapped text bytes width printable is))
