-- A line whose text is ASCII, of which each byte is a unit that costs one column, wrapped at each so many bytes.
use Rattle.std.proofs.Common.{◌≡◌, ◌≤◌, ◌<◌, ℕ, suc, ◌+◌, ◌-◌, Bool, true, false, cond, nat_le, nat_lt, List, [], ◌∷◌, ◌++◌, length, map, take, drop, ap, sym, ◌∙◌, arith, append-nil, append_assoc}
use Rattle.std.specs.Prelude.{encode_utf8, unwrap_or, Some, None}
use Rattle.std.specs.List.{AllByRecursion, join_with_byte, repeat}
use Rattle.std.specs.Str.{IsAscii}
use Rattle.std.proofs.lemmas.Bool.Decides.{nat_tests}
use Rattle.std.proofs.lemmas.List.{drop-drop, length-drop, length-take-le, take-append-drop}
use Rattle.std.proofs.lemmas.Str.{chars-IsAscii, encode_ascii, IsAscii-drop, IsAscii-take, IsCharBoundary-from_ascii}
use Rattle.unicode_width.specs.Width.{alone, char_width}
use Rattle.ansi_scan.specs.Sequences.{Piece}
use Rattle.ansi_scan.specs.Pieces.{pieces}
use Rattle.ansi_scan.specs.Attributes.{Attributes}
use Rattle.ansi_str.specs.Parts.{IsGoodBound}
use Rattle.ansi_str.specs.StyledText.{strip}
use Rattle.grid_records_measure.specs.Measures.{cost, own_width}
use Rattle.grid_records_measure.specs.TextLines.{line_feed}
use Rattle.tabled_size_wrap.specs.Units.{LineUnit, character_unit, unit_len}
use Rattle.tabled_size_wrap.specs.Wrapping.{line_part, lines_of_runs, replacement_bytes}
use Rattle.tabled_size_wrap.specs.Runs.{wrapped_lines, takes_unit, runs_of}
use Rattle.tabled_size_wrap.specs.Standing.{StandsAt}
use Rattle.tabled_size_wrap.proofs.Runs.{left_bytes, put, lines-all}
use Rattle.tabled_size_wrap.proofs.Standing.{stands-good}

-- ---- what a character costs

at-most-one : (low printable high : Bool) (n : ℕ) → high ≡ false → unwrap_or (cond low (cond printable (Some 1) None) (cond high (Some n) None)) 0 ≤ 1
at-most-one true true high n e = omega arith
at-most-one true false high n e = omega arith
at-most-one false printable true n e = absurd (cc e)
at-most-one false printable false n e = omega arith

ascii-width : (c : ℕ) → c < 128 → own_width c ≤ 1
unfolding char_width
ascii-width c ascii = let test : nat_le 0xA0 c ≡ false = grind (arith, nat_tests) in at-most-one (nat_lt c 0x7F) (nat_le 0x20 c) (nat_le 0xA0 c) (alone false c).0 test

ascii-cost : (c : ℕ) → c < 128 → cost c ≡ 1
ascii-cost c ascii = let most = ascii-width c ascii in omega (arith, most)

ascii-len : (c : ℕ) → c < 128 → unit_len (character_unit c) ≡ 1
ascii-len c ascii = ap length (append-nil (encode_utf8 c) ∙ encode_ascii c ascii)

abbrev EachAscii : List ℕ → Type 0
EachAscii bytes = AllByRecursion (λ b. b < 128) bytes

each-ascii : (bytes : List ℕ) → IsAscii bytes → EachAscii bytes
each-ascii [] ascii = tt
each-ascii (b ∷ bs) ascii = (ascii 0, each-ascii bs (λ i. ascii (suc i)))

-- ---- what is still to be written of such units

module _ (part : ℕ → ℕ → List ℕ) (mark : List ℕ) (width : ℕ) where
  abbrev left_of : ℕ → ℕ → ℕ → List LineUnit → List ℕ
  left_of a b used us = left_bytes part mark width a b used us

  abbrev put_first : ℕ → ℕ → ℕ → ℕ → List ℕ → List ℕ
  put_first a b used c cs = put part mark width (λ d e n. left_of d e n (map character_unit cs)) a b used (character_unit c)

  room-is : (used c : ℕ) → 0 < width → c < 128 → takes_unit width used (character_unit c) ≡ nat_le (used + 1) width
  room-is used c some ascii =
      let one = ascii-cost c ascii in
      let narrow : nat_le (cost c) width ≡ true = grind (arith, nat_tests) in
      ap (λ t. cond t (nat_le (used + cost c) width) (nat_lt used width)) narrow ∙ ap (λ n. nat_le (used + n) width) one

  -- a byte that fits is kept
  kept-one : (c : ℕ) (cs : List ℕ) (a b used : ℕ) → 0 < width → c < 128 → put_first a b used c cs ≡ left_of a (b + 1) (used + 1) (map character_unit cs)
  kept-one c cs a b used some ascii =
      let one = ascii-cost c ascii in
      let narrow : nat_le (cost c) width ≡ true = grind (arith, nat_tests) in
      let us = map character_unit cs in
      let len = unit_len (character_unit c) in
      ap (λ t. cond t (left_of a (b + len) (used + cost c) us) (part a b ++ (repeat (width - used) mark ++ left_of (b + len) (b + len) width us))) narrow
      ∙ ap (λ n. left_of a (b + n) (used + cost c) us) (ascii-len c ascii)
      ∙ ap (λ n. left_of a (b + 1) (used + n) us) one

  kept-on : (bytes others : List ℕ) (a b used : ℕ) → 0 < width → EachAscii bytes → used + length bytes ≤ width
      → left_of a b used (map character_unit (bytes ++ others)) ≡ left_of a (b + length bytes) (used + length bytes) (map character_unit others)
  kept-on [] others a b used some each fits =
      let place : b ≡ b + 0 = omega arith in
      let taken : used ≡ used + 0 = omega arith in
      ap (λ n. left_of a n used (map character_unit others)) place ∙ ap (λ n. left_of a (b + 0) n (map character_unit others)) taken
  kept-on (c ∷ bytes) others a b used some each fits =
      let fits-rest : used + 1 + length bytes ≤ width = omega (arith, fits) in
      let test : nat_le (used + 1) width ≡ true = grind (arith, nat_tests) in
      let place : b + 1 + length bytes ≡ b + length (c ∷ bytes) = omega arith in
      let taken : used + 1 + length bytes ≡ used + length (c ∷ bytes) = omega arith in
      ap (λ t. cond t (put_first a b used c (bytes ++ others)) (part a b ++ line_feed ∷ put_first b b 0 c (bytes ++ others))) (room-is used c some each.0 ∙ test)
      ∙ kept-one c (bytes ++ others) a b used some each.0
      ∙ kept-on bytes others a (b + 1) (used + 1) some each.1 fits-rest
      ∙ ap (λ n. left_of a n (used + 1 + length bytes) (map character_unit others)) place
      ∙ ap (λ n. left_of a (b + length (c ∷ bytes)) n (map character_unit others)) taken

  -- after a full line a new one begins
  begun-anew : (cs : List ℕ) (a b : ℕ) → 0 < width → EachAscii cs → 0 < length cs → left_of a b width (map character_unit cs) ≡ part a b ++ line_feed ∷ left_of b b 0 (map character_unit cs)
  begun-anew [] a b some each more = absurd (omega (arith, more))
  begun-anew (c ∷ cs) a b some each more =
      let full : nat_le (width + 1) width ≡ false = grind (arith, nat_tests) in
      let fresh : nat_le (0 + 1) width ≡ true = grind (arith, nat_tests) in
      ap (λ t. cond t (put_first a b width c cs) (part a b ++ line_feed ∷ put_first b b 0 c cs)) (room-is width c some each.0 ∙ full)
      ∙ ap (λ t. part a b ++ line_feed ∷ cond t (put_first b b 0 c cs) (part b b ++ line_feed ∷ put_first b b 0 c cs)) (sym (room-is 0 c some each.0 ∙ fresh))

-- ---- a walk by full lines

-- these bytes, and what the bytes that are left give, are all bytes
pub record Chunked (line : List Piece) (width : ℕ) (all out rest : List ℕ) (style : Attributes) (left : ℕ) : Type 0 where
  pub at : ℕ
  pub stands : StandsAt line at rest style
  pub sums : at + left ≡ length (strip line)
  pub goes_on : out ++ left_bytes (line_part line) replacement_bytes width at at 0 (map character_unit (drop at (strip line))) ≡ all

pub Chunked-start : (line : List Piece) (width : ℕ) (out rest : List ℕ) (style : Attributes) (left : ℕ) → StandsAt line 0 rest style → IsAscii (strip line) → left ≡ length (strip line)
    → Chunked line width (out ++ join_with_byte line_feed (wrapped_lines width false line)) out rest style left
Chunked-start line width out rest style left stands ascii size = record {
  at = 0;
  stands = stands;
  sums = omega (arith, size);
  goes_on =
      ap (λ bytes. out ++ bytes) (sym (lines-all (line_part line) replacement_bytes width (map character_unit (strip line))))
      ∙ ap (λ cs. out ++ join_with_byte line_feed (lines_of_runs unit_len (line_part line) replacement_bytes width 0 (runs_of width (map character_unit cs)))) (sym (chars-IsAscii (strip line) ascii));
}

module _ (line : List Piece) (width : ℕ) (all out rest : List ℕ) (style : Attributes) (left : ℕ) (chunked : Chunked line width all out rest style left) (ascii : IsAscii (strip line)) where
  -- a line may end after each byte
  pub chunk-good : (n : ℕ) → n ≤ left → IsGoodBound (strip (pieces rest)) n
  chunk-good n fits = stands-good line rest style n chunked.at chunked.stands (λ _. IsCharBoundary-from_ascii (strip line) (chunked.at + n) ascii (omega (arith, fits, chunked.sums)))

  size-left : length (drop chunked.at (strip line)) ≡ left
  size-left = omega (arith, length-drop chunked.at (strip line), chunked.sums)

  each-left : EachAscii (drop chunked.at (strip line))
  each-left = each-ascii (drop chunked.at (strip line)) (IsAscii-drop (strip line) chunked.at ascii)

  -- a full line more
  pub chunk-more : 0 < width → width < left → (end : List ℕ) (end_style : Attributes) → StandsAt line (chunked.at + width) end end_style
      → (written : List ℕ) → written ≡ (out ++ line_part line chunked.at (chunked.at + width)) ++ line_feed ∷ [] → Chunked line width all written end end_style (left - width)
  chunk-more some more end end_style stands written is =
      let at = chunked.at in
      let bytes = drop at (strip line) in
      let front = take width bytes in
      let others = drop width bytes in
      let there : others ≡ drop (at + width) (strip line) = drop-drop width at (strip line) in
      let room : width ≤ length bytes = omega (arith, more, size-left) in
      let size : length front ≡ width = length-take-le width bytes room in
      let front-fits : 0 + length front ≤ width = omega (arith, size) in
      let each-front = each-ascii front (IsAscii-take bytes width (IsAscii-drop (strip line) at ascii)) in
      let each-others = each-ascii others (IsAscii-drop bytes width (IsAscii-drop (strip line) at ascii)) in
      let some-others : 0 < length others = omega (arith, length-drop width bytes, size-left, more) in
      let taken : 0 + length front ≡ width = omega (arith, size) in
      let part = line_part line at (at + width) in
      let rest-left = left_bytes (line_part line) replacement_bytes width (at + width) (at + width) 0 in
      record {
        at = at + width;
        stands = stands;
        sums = omega (arith, chunked.sums, more);
        goes_on =
            ap (λ (bs : List ℕ). bs ++ rest-left (map character_unit (drop (at + width) (strip line)))) is
            ∙ append_assoc (out ++ part) (line_feed ∷ []) (rest-left (map character_unit (drop (at + width) (strip line))))
            ∙ append_assoc out part (line_feed ∷ rest-left (map character_unit (drop (at + width) (strip line))))
            ∙ ap (λ (bs : List ℕ). out ++ (part ++ line_feed ∷ rest-left (map character_unit bs))) (sym there)
            ∙ ap (λ (bs : List ℕ). out ++ bs) (sym (begun-anew (line_part line) replacement_bytes width others at (at + width) some each-others some-others))
            ∙ ap (λ n. out ++ left_bytes (line_part line) replacement_bytes width at (at + n) width (map character_unit others)) (sym size)
            ∙ ap (λ n. out ++ left_bytes (line_part line) replacement_bytes width at (at + length front) n (map character_unit others)) (sym taken)
            ∙ ap (λ (bs : List ℕ). out ++ bs) (sym (kept-on (line_part line) replacement_bytes width front others at at 0 some each-front front-fits))
            ∙ ap (λ (bs : List ℕ). out ++ left_bytes (line_part line) replacement_bytes width at at 0 (map character_unit bs)) (take-append-drop width bytes)
            ∙ chunked.goes_on;
      }

  -- the last line
  pub chunk-last : 0 < width → left ≤ width → out ++ line_part line chunked.at (chunked.at + left) ≡ all
  chunk-last some fits =
      let at = chunked.at in
      let bytes = drop at (strip line) in
      let fits-bytes : 0 + length bytes ≤ width = omega (arith, size-left, fits) in
      ap (λ n. out ++ line_part line at (at + n)) (sym size-left)
      ∙ ap (λ (bs : List ℕ). out ++ bs) (sym (kept-on (line_part line) replacement_bytes width bytes [] at at 0 some each-left fits-bytes))
      ∙ ap (λ (bs : List ℕ). out ++ left_bytes (line_part line) replacement_bytes width at at 0 (map character_unit bs)) (append-nil bytes)
      ∙ chunked.goes_on
