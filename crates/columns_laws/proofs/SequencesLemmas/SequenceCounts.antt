-- How many bytes the sequences of a text take, and those of its parts.
use Rattle.std.proofs.Common.{◌≡◌, ◌==◌, ◌+◌, ◌-◌, ◌<◌, ◌≤◌, ℕ, Bool, true, false, List, [], ◌∷◌, ◌++◌, length, take, if◌then◌else◌, refl, ap, sym, subst, ◌∙◌, arith, length-append}
use Rattle.std.proofs.lemmas.Bool.Decides.{nat_tests}
use Rattle.ansi_scan.specs.Attributes.{Attributes, IsRendition, plain_attributes}
use Rattle.ansi_scan.specs.Joining.{is_text_kind}
use Rattle.ansi_scan.specs.Pieces.{pieces}
use Rattle.ansi_scan.specs.Sequences.{NoneBroken, Piece, joined}
use Rattle.ansi_scan.specs.StartsAndEnds.{end_bytes, end_sequences, start_bytes, start_sequences}
use Rattle.ansi_scan.proofs.Effects.{end_bytes-sequences, start_bytes-sequences}
use Rattle.ansi_scan.proofs.Existence.{ArePiecesOf-pieces}
use Rattle.ansi_scan.proofs.StyleLemmas.Lengths.{length-end_bytes, length-start_bytes}
use Rattle.ansi_str.specs.Parts.{before_place, from_place, front_of, piece_from, split_part, through_place}
use Rattle.ansi_str.specs.StyledText.{strip, style_after_all, text_of}
use Rattle.ansi_str.specs.Walking.{sequence_of, sequences}
use Rattle.ansi_str.proofs.CutParts.{sequences-sequence, sequences-text}
use Rattle.ansi_str_search.proofs.Dressed.{cut, dressed_pieces, joined-renditions, long, pieces_of_part, rendition, renditions, short}
use Rattle.ansi_str_search.proofs.Parts.{text_of-sequence, text_of-text}
use Rattle.ansi_str_search.proofs.PiecesAtPlaces.{from-inside, from-past, has_text, through-inside, through-past}
use Rattle.ansi_str_search.proofs.Slices.{strip-renditions}

-- the bytes of the sequences of some pieces
abbrev pub taken_by : List Piece → ℕ
taken_by ps = length (sequences ps)

kinds : (p : Piece) (ps : List Piece) (text : Bool) → is_text_kind p.kind ≡ text → taken_by (p ∷ ps) + length (text_of p) ≡ taken_by ps + length p.bytes
kinds p ps true e = omega (arith, ap (λ (xs : List ℕ). length xs) (sequences-text p ps e), ap (λ (xs : List ℕ). length xs) (text_of-text p e))
kinds p ps false e = omega (arith, ap (λ (xs : List ℕ). length xs) (sequences-sequence p ps e), ap (λ (xs : List ℕ). length xs) (text_of-sequence p e), length-append p.bytes (sequences ps))

-- a text is its sequences and what it shows
pub taken-sum : (ps : List Piece) → taken_by ps + length (strip ps) ≡ length (joined ps)
taken-sum [] = refl
taken-sum (p ∷ ps) =
    let one = kinds p ps (is_text_kind p.kind) refl in
    omega (arith, one, taken-sum ps, length-append (text_of p) (strip ps), length-append p.bytes (joined ps))

pub one-piece : (p : Piece) (ps : List Piece) → taken_by ps ≤ taken_by (p ∷ ps)
one-piece p ps = omega (arith, length-append (sequence_of p) (sequences ps))

pub text-piece : (p : Piece) (ps : List Piece) → is_text_kind p.kind ≡ true → taken_by (p ∷ ps) ≡ taken_by ps
text-piece p ps e = ap (λ (xs : List ℕ). length xs) (sequences-text p ps e)

pub taken-append : (ps qs : List Piece) → taken_by (ps ++ qs) ≡ taken_by ps + taken_by qs
taken-append [] qs = omega arith
taken-append (p ∷ ps) qs = omega (arith, length-append (sequence_of p) (sequences (ps ++ qs)), length-append (sequence_of p) (sequences ps), taken-append ps qs)

pub taken-renditions : (xs : List (List ℕ)) (bytes : List ℕ) → bytes ≡ joined (renditions xs) → taken_by (renditions xs) ≡ length bytes
taken-renditions xs bytes same = omega (arith, taken-sum (renditions xs), ap (λ (found : List ℕ). length found) (strip-renditions xs), ap (λ (found : List ℕ). length found) same)

-- between a start and an end
pub taken-dressed : (style : Attributes) (slice : List Piece) → IsRendition style → taken_by (dressed_pieces style slice) ≤ taken_by slice + 243
taken-dressed style slice is =
    let last = style_after_all style slice in
    let starts = renditions (start_sequences style) in
    let ends = renditions (end_sequences last) in
    let begins = taken-renditions (start_sequences style) (start_bytes style) (start_bytes-sequences style ∙ sym (joined-renditions (start_sequences style))) in
    let stops = taken-renditions (end_sequences last) (end_bytes last) (end_bytes-sequences last ∙ sym (joined-renditions (end_sequences last))) in
    omega (arith, taken-append starts (slice ++ ends), taken-append slice ends, begins, stops, length-start_bytes style is, length-end_bytes last)

-- ---- places

pub taken-from : (n : ℕ) (ps : List Piece) → taken_by (from_place n ps) ≤ taken_by ps
taken-from n [] = omega arith
taken-from n (p ∷ ps) =
    elim (n == 0) as (λ b. (n == 0) ≡ b → taken_by (from_place n (p ∷ ps)) ≤ taken_by (p ∷ ps)) [
      | true ↦ λ e.
          let none : n ≡ 0 = grind (arith, nat_tests, e) in
          subst (λ (m : ℕ). taken_by (from_place m (p ∷ ps)) ≤ taken_by (p ∷ ps)) (sym none) (omega arith)
      | false ↦ λ e.
          let some : 0 < n = grind (arith, nat_tests, e) in
          elim (cut n p) [
            | short h ↦
                let text = has_text p n h in
                omega (arith, ap taken_by (from-inside n p ps some h), text-piece (piece_from n p) ps text, text-piece p ps text)
            | long h ↦ omega (arith, ap taken_by (from-past n p ps some h), taken-from (n - length (text_of p)) ps, one-piece p ps)
          ]
    ] refl

pub taken-front : (n : ℕ) (p : Piece) → is_text_kind p.kind ≡ true → taken_by (front_of n p) ≡ 0
taken-front n p text = by (n == 0)
  where
    by : (b : Bool) → taken_by (if b then [] else record { kind = p.kind; bytes = take n p.bytes } ∷ []) ≡ 0
    by true = refl
    by false = text-piece (record { kind = p.kind; bytes = take n p.bytes }) [] text

-- what is through a place, and what is after one more byte
pub taken-apart : (n : ℕ) (ps : List Piece) → taken_by (through_place n ps) + taken_by (from_place (n + 1) ps) ≤ taken_by ps
taken-apart n [] = omega arith
taken-apart n (p ∷ ps) =
    let some : 0 < n + 1 = omega arith in
    elim (cut n p) [
      | short h ↦
          let text = has_text p n h in
          elim (cut (n + 1) p) [
            | short more ↦ omega (arith, ap taken_by (through-inside n p ps h), taken-front n p text, ap taken_by (from-inside (n + 1) p ps some more), text-piece (piece_from (n + 1) p) ps text, text-piece p ps text)
            | long past ↦
                omega (arith, ap taken_by (through-inside n p ps h), taken-front n p text, ap taken_by (from-past (n + 1) p ps some past), taken-from (n + 1 - length (text_of p)) ps, text-piece p ps text)
          ]
      | long h ↦
          let past : length (text_of p) ≤ n + 1 = omega (arith, h) in
          let same : n + 1 - length (text_of p) ≡ n - length (text_of p) + 1 = omega (arith, h) in
          omega (
            arith,
            ap taken_by (through-past n p ps h),
            length-append (sequence_of p) (sequences (through_place (n - length (text_of p)) ps)),
            length-append (sequence_of p) (sequences ps),
            ap taken_by (from-past (n + 1) p ps some past ∙ ap (λ (m : ℕ). from_place m ps) same),
            taken-apart (n - length (text_of p)) ps,
          )
    ]

pub taken-through : (n : ℕ) (ps : List Piece) → taken_by (through_place n ps) ≤ taken_by ps
taken-through n ps = omega (arith, taken-apart n ps)

-- ---- parts

module _ (text : List ℕ) (whole : NoneBroken (pieces text)) where
  pub taken-part : (a b : ℕ) → a ≤ b → taken_by (pieces (split_part a b (pieces text))) ≤ taken_by (through_place (b - a) (from_place a (pieces text))) + 243
  taken-part a b ordered =
      let part = split_part a b (pieces text) in
      let is = pieces_of_part text (pieces text) (pieces part) a b ordered (ArePiecesOf-pieces text) whole (ArePiecesOf-pieces part) in
      let style = style_after_all plain_attributes (before_place a (pieces text)) in
      let slice = through_place (b - a) (from_place a (pieces text)) in
      omega (arith, ap taken_by is, taken-dressed style slice (rendition text (pieces text) (pieces part) a b ordered (ArePiecesOf-pieces text) whole (ArePiecesOf-pieces part)))

-- ---- texts

-- the sum of what a function says of each
abbrev pub total : {A : Type 0} → (A → ℕ) → List A → ℕ
total f [] = 0
total f (x ∷ xs) = f x + total f xs

-- what some texts take
abbrev pub texts_take : List (List ℕ) → ℕ
texts_take texts = total (λ text. taken_by (pieces text)) texts
