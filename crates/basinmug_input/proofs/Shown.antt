-- A text whose characters are shown as they are is one line, and is shown as it is.
use Rattle.std.proofs.Common.{◌≡◌, ◌∙◌, ◌<◌, ◌≤◌, ℕ, Bool, true, false, List, [], ◌∷◌, All, IsUtf8, inl, inr, ap, append-nil, arith, chars, get_or, length, max, refl, subst, sym}
use Rattle.std.proofs.Math.Utf8.{encode, encodes}
use Rattle.std.proofs.lemmas.Bool.{cases_lt, not-true}
use Rattle.std.proofs.lemmas.Bool.Decides.{nat_tests}
use Rattle.std.proofs.lemmas.List.Elements.{All-cons, All-from_get_or, All-nil}
use Rattle.std.proofs.lemmas.List.Splits.{slice_split_none}
use Rattle.std.proofs.lemmas.List.Sums.{list_all-from_AllPass}
use Rattle.std.proofs.lemmas.Str.{encodes-chars, inside_one}
use Rattle.std.specs.List.{list_all, slice_split}
use Rattle.std.specs.Prelude.{◌==◌, ◌&&◌, ◌||◌, nat_lt, not}
use Rattle.ansi_scan.specs.Pieces.{pieces}
use Rattle.ansi_scan.specs.Sequences.{ArePiecesOf, Piece, escape, is_not_escape}
use Rattle.ansi_scan.proofs.Existence.{ArePiecesOf-pieces}
use Rattle.ansi_scan.proofs.Joins.{list_all-append}
use Rattle.ansi_str_search.specs.Text.StyledText.{has_escape}
use Rattle.ansi_str_search.proofs.TextLemmas.Stripping.{strip-without_escape}
use Rattle.grid_records.proofs.RowsLemmas.KeptLines.{only_plain}
use Rattle.grid_records.proofs.RowsLemmas.PlainText.{only_line-plain}
use Rattle.grid_records_measure.specs.Measures.{measure}
use Rattle.grid_records_measure.specs.TextLines.{is_line_feed, line_measure, shown_lines, text_height, text_lines, widest}
use Rattle.grid_records_traits.specs.Cells.{HasWidth}
use Rattle.grid_records_traits.specs.SingleLines.{IsSingleLine}
use Rattle.program_options.specs.declared.basinmug.Escapes.{Escapes}
use Rattle.basinmug_input.specs.Cleaning.{cleaned, has_no_controls, is_control, is_shown, is_turned, stays}
use Rattle.basinmug_input.specs.Flaws.{HasGoodEscapes}
use Rattle.basinmug_input.proofs.Cleans.{both, neither, stay-cleaned}
use Rattle.basinmug_input.proofs.Graphic.{plain-cleaned, plain-good}

-- ---- no byte of such a text is one of C0

abbrev is_above : ℕ → Bool
is_above b = not (nat_lt b 0x20)

past-ascii : (b : ℕ) → 128 ≤ b → is_above b ≡ true
past-ascii b high = grind (arith, nat_tests)

above-control : (c : ℕ) → not (is_control c) ≡ true → is_above c ≡ true
above-control c h = ap (λ (t : Bool). not t) (neither (nat_lt c 0x20) (nat_lt 0x7e c && nat_lt c 0xa0) (not-true (is_control c) h)).0

above-character : (c : ℕ) → is_above c ≡ true → list_all is_above (encode c) ≡ true
above-character c h = list_all-from_AllPass is_above (encode c) (All-from_get_or (λ b. is_above b ≡ true) (encode c) 0 each)
  where
    each : (k : ℕ) → k < length (encode c) → is_above (get_or (encode c) k 0) ≡ true
    each k inside =
        elim (cases_lt (get_or (encode c) k 0) 128) [
          | inl ascii ↦ let same = inside_one c [] (encode c) k (sym (append-nil (encode c))) inside ascii in ap is_above (sym same) ∙ h
          | inr past ↦ past-ascii (get_or (encode c) k 0) past
        ]

above-characters : (cs : List ℕ) → list_all (λ c. not (is_control c)) cs ≡ true → list_all is_above (encodes cs) ≡ true
above-characters [] h = refl
above-characters (c ∷ cs) h =
    let all = both (not (is_control c)) (list_all (λ c. not (is_control c)) cs) h in
    list_all-append is_above (encode c) (encodes cs) (above-character c (above-control c all.0)) (above-characters cs all.1)

above-text : (text : List ℕ) → IsUtf8 text → has_no_controls text ≡ true → list_all is_above text ≡ true
above-text text utf8 h = subst (λ (bytes : List ℕ). list_all is_above bytes ≡ true) (encodes-chars text utf8) (above-characters (chars text) h)

-- ---- so it is one line

no_escape-here : (b : ℕ) → is_above b ≡ true → (b == escape) ≡ false
no_escape-here b h = grind (arith, nat_tests)

no_feed-here : (b : ℕ) → is_above b ≡ true → is_line_feed b ≡ false
no_feed-here b h = grind (arith, nat_tests)

no_escape : (text : List ℕ) → list_all is_above text ≡ true → has_escape text ≡ false
no_escape [] h = refl
no_escape (b ∷ text) h =
    let all = both (is_above b) (list_all is_above text) h in
    ap (λ (t : Bool). t || has_escape text) (no_escape-here b all.0) ∙ no_escape text all.1

all-plain : (text : List ℕ) → list_all is_above text ≡ true → list_all is_not_escape text ≡ true
all-plain [] h = refl
all-plain (b ∷ text) h =
    let all = both (is_above b) (list_all is_above text) h in
    ap (λ (t : Bool). not t && list_all is_not_escape text) (no_escape-here b all.0) ∙ all-plain text all.1

no_feeds : (text : List ℕ) → list_all is_above text ≡ true → All (λ b. is_line_feed b ≡ false) text
no_feeds [] h = All-nil (λ b. is_line_feed b ≡ false)
no_feeds (b ∷ text) h =
    let all = both (is_above b) (list_all is_above text) h in
    All-cons (λ b. is_line_feed b ≡ false) b text (no_feed-here b all.0) (no_feeds text all.1)

shown : (text : List ℕ) (ps : List Piece) → list_all is_above text ≡ true → ArePiecesOf text ps → shown_lines ps ≡ text ∷ []
shown text ps h are = ap (slice_split is_line_feed) (strip-without_escape text ps are (no_escape text h)) ∙ slice_split_none is_line_feed text (no_feeds text h)

one-line : (text : List ℕ) → list_all is_above text ≡ true → text_height text ≡ 1
unfolding text_height
one-line text h = ap length (shown text (pieces text) h (ArePiecesOf-pieces text))

pub one_line-measured : (text : List ℕ) → IsUtf8 text → has_no_controls text ≡ true → IsSingleLine text (measure (chars text))
one_line-measured text utf8 h =
    let above = above-text text utf8 h in
    let lines : text_lines text ≡ text ∷ [] = only_plain text 1 (no_escape text above) (sym (one-line text above)) refl in
    let wide : HasWidth text (measure (chars text)) = λ ps are.
    let alone : max (line_measure text) 0 ≡ line_measure text = omega arith in
    sym (ap widest (shown text ps above are) ∙ alone) in
    only_line-plain text (measure (chars text)) lines wide

-- ---- and is shown as it is

module _ (escapes : Escapes) where
  no-controls : (cs : List ℕ) → list_all (is_shown escapes) cs ≡ true → list_all (λ c. not (is_control c)) cs ≡ true
  no-controls [] h = refl
  no-controls (c ∷ cs) h =
      let all = both (is_shown escapes c) (list_all (is_shown escapes) cs) h in
      let here = both (not (is_control c)) (not (is_turned escapes c)) all.0 in
      ap (λ (t : Bool). t && list_all (λ c. not (is_control c)) cs) here.0 ∙ no-controls cs all.1

  stay : (cs : List ℕ) → list_all (is_shown escapes) cs ≡ true → list_all (stays escapes) cs ≡ true
  stay [] h = refl
  stay (c ∷ cs) h =
      let all = both (is_shown escapes c) (list_all (is_shown escapes) cs) h in
      let here = both (not (is_control c)) (not (is_turned escapes c)) all.0 in
      ap (λ (t : Bool). (t && not (is_turned escapes c)) && list_all (stays escapes) cs) (ap (λ (t : Bool). t || (c == 10)) here.0)
      ∙ ap (λ (t : Bool). t && list_all (stays escapes) cs) here.1
      ∙ stay cs all.1

  module _ (text : List ℕ) (utf8 : IsUtf8 text) (all : list_all (is_shown escapes) (chars text) ≡ true) where
    pub shown-no_controls : has_no_controls text ≡ true
    shown-no_controls = no-controls (chars text) all

    plain : list_all is_not_escape text ≡ true
    plain = all-plain text (above-text text utf8 shown-no_controls)

    pub shown-good : HasGoodEscapes escapes text
    shown-good = plain-good escapes text plain

    pub shown-cleaned : cleaned escapes text ≡ text
    shown-cleaned = plain-cleaned escapes text plain (stay-cleaned escapes (chars text) (stay (chars text) all) ∙ encodes-chars text utf8)
