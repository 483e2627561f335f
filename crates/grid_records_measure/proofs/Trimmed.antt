-- A text without the white space at both its ends, as a function of it.
use Rattle.std.proofs.Common.{◌≡◌, ◌+◌, ◌∙◌, ◌&&◌, ◌==◌, ℕ, true, false, List, [], ◌∷◌, ◌++◌, ap, arith, length, refl, sym}
use Rattle.std.proofs.Math.Utf8.{scalars}
use Rattle.std.proofs.lemmas.Bool.{and_parts}
use Rattle.std.proofs.lemmas.Bool.Decides.{nat_tests}
use Rattle.std.proofs.lemmas.List.{length-append}
use Rattle.std.proofs.lemmas.Str.{chars-encodes, encodes-append, encodes-chars, scalars-chars}
use Rattle.std.specs.Char.{is_not_whitespace, is_whitespace}
use Rattle.std.specs.Str.{IsUtf8, NonePass, chars, drop_trailing_whitespace, encode_utf8_all, skip_leading_whitespace, trim, trim_end as without_end, trim_start}
use Rattle.ansi_scan.specs.Sequences.{Piece, ArePiecesOf}
use Rattle.ansi_scan.specs.Pieces.{pieces}
use Rattle.ansi_str.specs.StyledText.{strip}
use Rattle.ansi_str.proofs.Trims.{sizes}
use Rattle.ansi_str.specs.Keeping.{IsTrimmed, IsTrimmedAt, kept}
use Rattle.ansi_str_search.proofs.Finds.{IsUtf8-shown}
use Rattle.ansi_str_search.proofs.Searches.{of_pieces}
use Rattle.grid_records_measure.specs.Trimming.{trimmed, trimmed_from, trimmed_to}

-- ---- white space at the ends of some characters

front : (cs : List ℕ) → (before : List ℕ) × (cs ≡ before ++ skip_leading_whitespace cs) × NonePass is_not_whitespace before
front [] = ([], refl, tt)
front (c ∷ cs) = elim (is_whitespace c) as (λ b. is_whitespace c ≡ b → (before : List ℕ) × ((c ∷ cs) ≡ before ++ skip_leading_whitespace (c ∷ cs)) × NonePass is_not_whitespace before) [
  | true ↦ λ is.
      let others = front cs in
      (c ∷ others.0, rw is (ap (λ xs. c ∷ xs) others.1), (rw is refl, others.2))
  | false ↦ λ is. ([], rw is refl, tt)
] refl

back : (cs : List ℕ) → (behind : List ℕ) × (cs ≡ drop_trailing_whitespace cs ++ behind) × NonePass is_not_whitespace behind
back [] = ([], refl, tt)
back (c ∷ cs) =
    let others = back cs in
    elim (is_whitespace c && length (drop_trailing_whitespace cs) == 0) as (λ b. (is_whitespace c && length (drop_trailing_whitespace cs) == 0) ≡ b →
    (behind : List ℕ) × ((c ∷ cs) ≡ drop_trailing_whitespace (c ∷ cs) ++ behind) × NonePass is_not_whitespace behind) [
      | true ↦ λ is.
          let parts = and_parts (is_whitespace c) (length (drop_trailing_whitespace cs) == 0) is in
          let none : length (drop_trailing_whitespace cs) ≡ 0 = grind (arith, nat_tests, parts.1) in
          (c ∷ others.0, rw is (ap (λ xs. c ∷ xs) (others.1 ∙ ap (λ xs. xs ++ others.0) (nothing (drop_trailing_whitespace cs) none))), (rw parts.0 refl, others.2))
      | false ↦ λ is. (others.0, rw is (ap (λ xs. c ∷ xs) others.1), others.2)
    ] refl
  where
    nothing : (xs : List ℕ) → length xs ≡ 0 → xs ≡ []
    nothing [] e = refl
    nothing (x ∷ xs) e = absurd (omega (arith, e))

scalars_behind : (xs ys : List ℕ) → scalars (xs ++ ys) ≡ true → scalars ys ≡ true
scalars_behind [] ys all = all
scalars_behind (x ∷ xs) ys all = scalars_behind xs ys (and_parts _ (scalars (xs ++ ys)) all).1

-- ---- where they are in a text

end_is : (bytes : List ℕ) → without_end bytes ≡ encode_utf8_all (drop_trailing_whitespace (chars bytes))
unfolding without_end
end_is bytes = refl

-- a text in UTF-8 is trimmed where the function says
module _ (text : List ℕ) (utf8 : IsUtf8 text) where
  abbrev cs : List ℕ
  cs = chars text

  abbrev rest : List ℕ
  rest = skip_leading_whitespace cs

  abbrev inner : List ℕ
  inner = drop_trailing_whitespace rest

  abbrev white : List ℕ
  white = (front cs).0

  abbrev white_behind : List ℕ
  white_behind = (back rest).0

  start_is : trim_start text ≡ encode_utf8_all rest
  unfolding trim_start
  start_is = refl

  chars_left : chars (trim_start text) ≡ rest
  chars_left = ap chars start_is ∙ chars-encodes rest (scalars_behind white rest (ap scalars (sym (front cs).1) ∙ scalars-chars text utf8))

  both_is : trim text ≡ encode_utf8_all inner
  both_is = end_is (trim_start text) ∙ ap (λ xs. encode_utf8_all (drop_trailing_whitespace xs)) chars_left

  left_is : trim_start text ≡ encode_utf8_all inner ++ encode_utf8_all white_behind
  left_is = start_is ∙ ap encode_utf8_all (back rest).1 ∙ encodes-append inner white_behind

  parted : text ≡ encode_utf8_all white ++ (encode_utf8_all inner ++ encode_utf8_all white_behind)
  parted =
      sym (encodes-chars text utf8) ∙ ap encode_utf8_all (front cs).1 ∙ encodes-append white rest
      ∙ ap (λ bytes. encode_utf8_all white ++ bytes) (sym start_is ∙ left_is)

  begins_at : trimmed_from text ≡ length (encode_utf8_all white)
  begins_at =
      let whole = sizes text (encode_utf8_all white) (encode_utf8_all inner) (encode_utf8_all white_behind) parted in
      let left : length (trim_start text) ≡ length (encode_utf8_all inner) + length (encode_utf8_all white_behind) = ap length left_is ∙ length-append (encode_utf8_all inner) (encode_utf8_all white_behind) in
      omega (arith, whole, left)

  ends_at : trimmed_to text ≡ length (encode_utf8_all white) + length (encode_utf8_all inner)
  ends_at = ap (λ n. n + length (trim text)) begins_at ∙ ap (λ bytes. length (encode_utf8_all white) + length bytes) both_is

  trimmed_there : IsTrimmedAt text (length (encode_utf8_all white)) (length (encode_utf8_all white) + length (encode_utf8_all inner))
  trimmed_there = record {
    before = encode_utf8_all white;
    behind = encode_utf8_all white_behind;
    parted = parted ∙ ap (λ left. encode_utf8_all white ++ (left ++ encode_utf8_all white_behind)) (sym both_is);
    started = left_is ∙ ap (λ left. left ++ encode_utf8_all white_behind) (sym both_is);
    white_before = (white, refl, (front cs).2);
    white_behind = (white_behind, refl, (back rest).2);
    from = refl;
    to = ap (λ left. length (encode_utf8_all white) + length left) (sym both_is);
  }

  pub trimmed_at : IsTrimmedAt text (trimmed_from text) (trimmed_to text)
  trimmed_at = rw (ends_at, begins_at) trimmed_there

pub trimmed-is : (text : List ℕ) → IsUtf8 text → IsTrimmed (pieces text) (trimmed text)
unfolding trimmed
trimmed-is text utf8 =
    let shown = strip (pieces text) in
    (trimmed_from shown, trimmed_to shown, trimmed_at shown (IsUtf8-shown text utf8), refl)

-- ---- nothing else is

one_place : (text : List ℕ) (a b : ℕ) → IsTrimmedAt text a b → (a ≡ trimmed_from text) × (b ≡ trimmed_to text)
one_place text a b at =
    let started : length (trim_start text) ≡ length (trim text) + length at.behind = ap length at.started ∙ length-append (trim text) at.behind in
    let first : a ≡ trimmed_from text = omega (arith, at.from, sizes text at.before (trim text) at.behind at.parted, started) in
    (first, omega (arith, first, at.from, at.to))

same_trimmed : (text bytes : List ℕ) → IsTrimmed (pieces text) bytes → bytes ≡ trimmed text
unfolding trimmed
same_trimmed text bytes found =
    let places = one_place (strip (pieces text)) found.0 found.1 found.2 in
    found.3 ∙ ap (λ k. kept k found.1 (pieces text)) places.0 ∙ ap (λ k. kept (trimmed_from (strip (pieces text))) k (pieces text)) places.1

pub trimmed-one : (text bytes : List ℕ) (ps : List Piece) → ArePiecesOf text ps → IsTrimmed ps bytes → bytes ≡ trimmed text
trimmed-one text bytes ps of_text is = of_pieces (λ (qs : List Piece). IsTrimmed qs bytes → bytes ≡ trimmed text) text (same_trimmed text bytes) ps of_text is
