-- A text that begins with printable ASCII, as many bytes as a width has columns, or of which all is printable ASCII:
-- these bytes are what is kept.
use Rattle.std.proofs.Common.{◌≡◌, ◌≤◌, ◌<◌, ℕ, ◌+◌, ◌-◌, ◌==◌, ◌&&◌, ◌⊎◌, inl, inr, not, nat_le, nat_lt, true, false, cond, List, [], ◌∷◌, ◌++◌, length, min, take, drop, chars, encode_utf8_all, refl, ap, sym, ◌∙◌, arith}
use Rattle.std.specs.Int.{is_in_range}
use Rattle.std.specs.Str.{IsUtf8}
use Rattle.std.proofs.lemmas.Bool.{and_parts, cases_lt}
use Rattle.std.proofs.lemmas.Bool.Decides.{nat_tests}
use Rattle.std.proofs.lemmas.List.{drop_all, length-take-le, take-append-drop}
use Rattle.std.proofs.lemmas.Str.{IsUtf8-from_ascii, chars-IsAscii, chars-nil, encodes-chars}
use Rattle.ansi_scan.specs.Pieces.{pieces}
use Rattle.ansi_scan.specs.Sequences.{escape}
use Rattle.ansi_scan.proofs.Uniqueness.{pieces-joined}
use Rattle.ansi_str_search.proofs.Searches.{strip-byte}
use Rattle.ansi_str_search.specs.Text.StyledText.{strip}
use Rattle.grid_records_measure.specs.Cutting.{lacking}
use Rattle.grid_records_measure.specs.Filling.{behind_front, fitting_front, front_columns, has_room, used_behind}
use Rattle.grid_records_measure.specs.Measures.{are_printable, cost}
use Rattle.grid_records_measure.specs.TextLines.{is_line_feed}
use Rattle.grid_records_measure.proofs.Cuts.{FitsOn, fits-on, lacking-some}
use Rattle.grid_records_measure.proofs.Filling.{lacking-none}
use Rattle.grid_records_measure.proofs.Plain.{one-column}
use Rattle.grid_records_measure.proofs.PrintableWidth.{printable-ascii}

both : (b : ℕ) (bs : List ℕ) → are_printable (b ∷ bs) ≡ true → (is_in_range 0x20 0x7E b ≡ true) × (are_printable bs ≡ true)
both b bs h = and_parts (is_in_range 0x20 0x7E b) (are_printable bs) h

-- such bytes are shown, and so is what is shown after them
shown-behind : (bs cs : List ℕ) → are_printable bs ≡ true → strip (pieces (bs ++ cs)) ≡ bs ++ strip (pieces cs)
shown-behind [] cs h = refl
shown-behind (b ∷ bs) cs h =
    let other : (b == escape) ≡ false = printable-other b (both b bs h).0 in
    strip-byte b (bs ++ cs) (ap not other) ∙ ap (λ (bytes : List ℕ). b ∷ bytes) (shown-behind bs cs (both b bs h).1)
  where
    printable-other : (c : ℕ) → is_in_range 0x20 0x7E c ≡ true → (c == escape) ≡ false
    printable-other c is = grind (arith, nat_tests)

-- each costs one column
one-cost : (c : ℕ) → is_in_range 0x20 0x7E c ≡ true → cost c ≡ 1
one-cost c is = let one = one-column c (grind (arith, nat_tests)) in omega (arith, one)

no-feed : (c : ℕ) → is_in_range 0x20 0x7E c ≡ true → is_line_feed c ≡ false
no-feed c is = grind (arith, nat_tests)

module _ (width : ℕ) where
  behind-one : (used c : ℕ) → is_in_range 0x20 0x7E c ≡ true → used_behind used c ≡ used + 1
  behind-one used c is = ap (λ t. cond t 0 (used + cost c)) (no-feed c is) ∙ ap (λ n. used + n) (one-cost c is)

  room-one : (used c : ℕ) → is_in_range 0x20 0x7E c ≡ true → used < width → has_room width used c ≡ true
  room-one used c is less =
      let tests : nat_lt used width && nat_le (used + 1) width ≡ true = grind (arith, nat_tests) in
      ap (λ n. nat_lt used width && nat_le n width) (behind-one used c is) ∙ tests

  -- all of them fit
  all-fill : (used : ℕ) (bs : List ℕ) → are_printable bs ≡ true → used + length bs ≤ width
      → (fitting_front width used bs ≡ bs) × (behind_front width used bs ≡ []) × (front_columns width used bs ≡ used + length bs)
  all-fill used [] h fits = (refl, refl, omega arith)
  all-fill used (c ∷ cs) h fits =
      let here = room-one used c (both c cs h).0 (omega (arith, fits)) in
      let on = behind-one used c (both c cs h).0 in
      let rest = all-fill (used + 1) cs (both c cs h).1 (omega (arith, fits)) in
      let sum : used + 1 + length cs ≡ used + length (c ∷ cs) = omega arith in (
        ap (λ t. cond t (c ∷ fitting_front width (used_behind used c) cs) []) here ∙ ap (λ n. c ∷ fitting_front width n cs) on ∙ ap (λ (bytes : List ℕ). c ∷ bytes) rest.0,
        ap (λ t. cond t (behind_front width (used_behind used c) cs) (c ∷ cs)) here ∙ ap (λ n. behind_front width n cs) on ∙ rest.1,
        ap (λ t. cond t (front_columns width (used_behind used c) cs) used) here ∙ ap (λ n. front_columns width n cs) on ∙ rest.2 ∙ sum,
      )

  -- nothing fits into a full line
  full : (cs : List ℕ) → (fitting_front width width cs ≡ []) × (front_columns width width cs ≡ width)
  full [] = (refl, refl)
  full (c ∷ cs) =
      let less : nat_lt width width ≡ false = grind (arith, nat_tests) in
      let none : has_room width width c ≡ false = ap (λ t. t && nat_le (used_behind width c) width) less in (
        ap (λ t. cond t (c ∷ fitting_front width (used_behind width c) cs) []) none,
        ap (λ t. cond t (front_columns width (used_behind width c) cs) width) none,
      )

  module _ (bs rest : List ℕ) (printable : are_printable bs ≡ true) (utf8 : IsUtf8 bs) (fits : length bs ≤ width) (ends : (length bs ≡ width) ⊎ (rest ≡ [])) where
    abbrev shown : List ℕ
    shown = strip (pieces (bs ++ rest))

    own : chars bs ≡ bs
    own = chars-IsAscii bs (printable-ascii bs printable)

    filled : (fitting_front width 0 bs ≡ bs) × (behind_front width 0 bs ≡ []) × (front_columns width 0 bs ≡ 0 + length bs)
    filled = all-fill 0 bs printable (omega (arith, fits))

    columns : front_columns width 0 (chars bs) ≡ length bs
    columns = let none : 0 + length bs ≡ length bs = omega arith in ap (front_columns width 0) own ∙ filled.2 ∙ none

    on : FitsOn width 0 bs (strip (pieces rest))
    on = fits-on width 0 bs (strip (pieces rest)) utf8 (ap (behind_front width 0) own ∙ filled.1)

    -- what comes after them
    behind : (end : (length bs ≡ width) ⊎ (rest ≡ [])) → (length (encode_utf8_all (fitting_front width (length bs) (chars (strip (pieces rest))))) ≡ 0)
        × ((behind_front width (length bs) (chars (strip (pieces rest))) ≡ []) ⊎ (front_columns width (length bs) (chars (strip (pieces rest))) ≡ width))
    behind (inl all) =
        let none = full (chars (strip (pieces rest))) in (
          ap (λ n. length (encode_utf8_all (fitting_front width n (chars (strip (pieces rest)))))) all ∙ ap (λ cs. length (encode_utf8_all cs)) none.0,
          inr (ap (λ n. front_columns width n (chars (strip (pieces rest)))) all ∙ none.1),
        )
    behind (inr nothing) =
        let none : chars (strip (pieces rest)) ≡ [] = ap (λ bytes. chars (strip (pieces bytes))) nothing ∙ ap (λ ps. chars (strip ps)) (pieces-joined [] tt) ∙ chars-nil in (
          ap (λ cs. length (encode_utf8_all (fitting_front width (length bs) cs))) none,
          inl (ap (behind_front width (length bs)) none),
        )

    pub printable-place : length bs ≡ length (encode_utf8_all (fitting_front width 0 (chars shown)))
    printable-place =
        let first : length (encode_utf8_all (fitting_front width 0 (chars bs))) ≡ length bs =
        ap (λ cs. length (encode_utf8_all (fitting_front width 0 cs))) own ∙ ap (λ cs. length (encode_utf8_all cs)) (filled.0 ∙ sym own) ∙ ap length (encodes-chars bs utf8) in
        let last = ap (λ n. length (encode_utf8_all (fitting_front width n (chars (strip (pieces rest)))))) columns ∙ (behind ends).0 in
        omega (arith, first, last, on.len, ap (λ bytes. length (encode_utf8_all (fitting_front width 0 (chars bytes)))) (shown-behind bs rest printable))

    pub printable-lacks : 0 ≡ lacking width (fitting_front width 0 (chars shown)) (behind_front width 0 (chars shown))
    printable-lacks = by (behind_front width 0 (chars shown)) refl
      where
        left : behind_front width 0 (chars shown) ≡ behind_front width (length bs) (chars (strip (pieces rest)))
        left = ap (λ bytes. behind_front width 0 (chars bytes)) (shown-behind bs rest printable) ∙ on.left ∙ ap (λ n. behind_front width n (chars (strip (pieces rest)))) columns

        used : front_columns width 0 (chars shown) ≡ front_columns width (length bs) (chars (strip (pieces rest)))
        used = ap (λ bytes. front_columns width 0 (chars bytes)) (shown-behind bs rest printable) ∙ on.columns ∙ ap (λ n. front_columns width n (chars (strip (pieces rest)))) columns

        by : (others : List ℕ) → behind_front width 0 (chars shown) ≡ others → 0 ≡ lacking width (fitting_front width 0 (chars shown)) (behind_front width 0 (chars shown))
        by [] is = sym (lacking-none width (chars shown) is)
        by (c ∷ cs) is =
            let some : 0 < length (behind_front width 0 (chars shown)) = omega (arith, ap length is) in
            elim ((behind ends).1) [
              | inl none ↦ absurd (omega (arith, some, ap length (left ∙ none)))
              | inr all ↦ let none : 0 ≡ width - front_columns width 0 (chars shown) = omega (arith, used, all) in none ∙ sym (lacking-some width (chars shown) some)
            ]

-- so many bytes at the beginning of a text, as many as the width or all
pub printable-fitting_front : (width room : ℕ) (text : List ℕ) → room ≡ min width (length text) → are_printable (take room text) ≡ true
    → (room ≡ length (encode_utf8_all (fitting_front width 0 (chars (strip (pieces text))))))
    × (0 ≡ lacking width (fitting_front width 0 (chars (strip (pieces text)))) (behind_front width 0 (chars (strip (pieces text)))))
printable-fitting_front width room text is printable =
    let bs = take room text in
    let rest = drop room text in
    let whole : bs ++ rest ≡ text = take-append-drop room text in
    let within : room ≤ length text = omega (arith, is) in
    let size : length bs ≡ room = length-take-le room text within in
    let fits : length bs ≤ width = omega (arith, is, size) in
    let utf8 : IsUtf8 bs = IsUtf8-from_ascii bs (printable-ascii bs printable) in
    let ends : (length bs ≡ width) ⊎ (rest ≡ []) = elim (cases_lt (length text) width) [
      | inl less ↦ inr (drop_all room text (omega (arith, is, less)))
      | inr more ↦ inl (omega (arith, is, size, more))
    ] in (
      sym size ∙ printable-place width bs rest printable utf8 fits ends ∙ ap (λ bytes. length (encode_utf8_all (fitting_front width 0 (chars (strip (pieces bytes)))))) whole,
      printable-lacks width bs rest printable utf8 fits ends
          ∙ ap (λ bytes. lacking width (fitting_front width 0 (chars (strip (pieces bytes)))) (behind_front width 0 (chars (strip (pieces bytes))))) whole,
    )
