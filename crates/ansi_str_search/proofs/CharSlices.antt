-- The styled characters of a part are a slice of those of the text.
use Rattle.std.proofs.Common.{◌≡◌, ℕ, ◌+◌, ◌-◌, ◌<◌, ◌≤◌, List, [], ◌∷◌, ◌++◌, length, take, drop, refl, ap, sym, subst, ◌∙◌, arith, append_assoc, append-nil, length-append}
use Rattle.std.specs.Prelude.{chars}
use Rattle.std.specs.Str.{IsUtf8, IsCharBoundary}
use Rattle.std.proofs.Math.Seq.{take-append_seam, drop-append_seam, take-append-add}
use Rattle.std.proofs.lemmas.List.{length-map, length-take, map-append, take-append-drop}
use Rattle.std.proofs.lemmas.Str.{chars-nil, chars-append, IsUtf8-take}
use Rattle.ansi_scan.specs.Sequences.{Piece, ArePiecesOf, NoneBroken}
use Rattle.ansi_scan.specs.Attributes.{Attributes, plain_attributes}
use Rattle.ansi_str_search.specs.Text.StyledText.{text_of, strip, style_after, style_after_all, styled_from, styled}
use Rattle.ansi_str_search.proofs.TextLemmas.LastSequence.{strip-append}
use Rattle.ansi_str_search.specs.Parts.{from_place, before_place, through_place, split_part}
use Rattle.ansi_str_search.specs.Matches.{styled_slice}
use Rattle.ansi_str_search.proofs.PiecesAtPlaces.{none, inside, past, reach, has_text, from-past, before-inside, before-past, strip-from}
use Rattle.ansi_str_search.proofs.PlaceSums.{through-parted}
use Rattle.ansi_str_search.proofs.Dressed.{styled_from-append, styled-split_part}
use Rattle.ansi_str_search.proofs.Slices.{strip-through}
use Rattle.ansi_str_search.proofs.Chars.{both_hold}
use Rattle.ansi_str_search.proofs.Utf8.{EachUtf8, EachUtf8-pieces, EachUtf8-from, EachUtf8-through, IsUtf8-text_of, IsUtf8-strip, boundary-from, boundary-bytes, boundary-second}
use Rattle.ansi_str_search.proofs.Cuts.{with_style, styled_from-text, styled-behind}

-- ---- how many characters are shown

pub length-styled_from : (style : Attributes) (ps : List Piece) → EachUtf8 ps → length (styled_from style ps) ≡ length (chars (strip ps))
length-styled_from style [] each = ap length (sym chars-nil)
length-styled_from style (p ∷ ps) each =
    let here = chars (text_of p) in
    length-append (with_style style here) (styled_from (style_after style p) ps)
    ∙ ap (λ n. n + length (styled_from (style_after style p) ps)) (length-map here (λ x. (x, style)))
    ∙ ap (λ n. length here + n) (length-styled_from (style_after style p) ps each.1)
    ∙ sym (length-append here (chars (strip ps)))
    ∙ ap length (sym (chars-append (text_of p) (strip ps) (IsUtf8-text_of p each.0)))

-- ---- before a place and after it

abbrev style_at : Attributes → ℕ → List Piece → Attributes
style_at style n ps = style_after_all style (before_place n ps)

places-inside : (style : Attributes) (n : ℕ) (p : Piece) (ps : List Piece) → IsUtf8 p.bytes → IsCharBoundary p.bytes n → 0 < n → n < length (text_of p)
    → styled_from style (p ∷ ps) ≡ styled_from style (before_place n (p ∷ ps)) ++ styled_from (style_at style n (p ∷ ps)) (from_place n (p ∷ ps))
places-inside style n p ps utf8 boundary some h =
    let text = has_text p n h in
    let first = take n p.bytes in
    let last = drop n p.bytes in
    let fits : n ≤ length (text_of p) = omega arith in
    let shown : chars p.bytes ≡ chars first ++ chars last =
    ap chars (sym (take-append-drop n p.bytes)) ∙ chars-append first last (IsUtf8-take p.bytes n utf8 boundary) in
    let front : styled_from style (before_place n (p ∷ ps)) ≡ with_style style (chars first) =
    ap (styled_from style) (before-inside n p ps some h) ∙ styled_from-text style (record { kind = p.kind; bytes = first }) [] text ∙ append-nil (with_style style (chars first)) in
    styled_from-text style p ps text
    ∙ ap (λ characters. with_style style characters ++ styled_from style ps) shown
    ∙ ap (λ characters. characters ++ styled_from style ps) (map-append (λ x. (x, style)) (chars first) (chars last))
    ∙ append_assoc (with_style style (chars first)) (with_style style (chars last)) (styled_from style ps)
    ∙ ap (λ characters. with_style style (chars first) ++ characters) (sym (styled-behind style n p ps some fits text))
    ∙ ap (λ characters. characters ++ styled_from (style_at style n (p ∷ ps)) (from_place n (p ∷ ps))) (sym front)

styled-places : (style : Attributes) (n : ℕ) (ps : List Piece) → EachUtf8 ps → IsCharBoundary (strip ps) n
    → styled_from style ps ≡ styled_from style (before_place n ps) ++ styled_from (style_at style n ps) (from_place n ps)
styled-places style n [] each boundary = refl
styled-places style n (p ∷ ps) each boundary = elim (reach n p) [
  | none e ↦ ap (λ m. styled_from style (before_place m (p ∷ ps)) ++ styled_from (style_at style m (p ∷ ps)) (from_place m (p ∷ ps))) (sym e)
  | inside some h ↦ places-inside style n p ps each.0 (boundary-bytes n p ps h boundary) some h
  | past some h ↦
      let m = n - length (text_of p) in
      let here = with_style style (chars (text_of p)) in
      let next = style_after style p in
      ap (λ characters. here ++ characters) (styled-places next m ps each.1 (boundary-second (text_of p) (strip ps) n h boundary))
      ∙ sym (append_assoc here (styled_from next (before_place m ps)) (styled_from (style_at next m ps) (from_place m ps)))
      ∙ ap (λ found. styled_from style found ++ styled_from (style_after_all style found) (from_place m ps)) (sym (before-past n p ps some h))
      ∙ ap (λ found. styled_from style (before_place n (p ∷ ps)) ++ styled_from (style_at style n (p ∷ ps)) found) (sym (from-past n p ps some h))
]

strip-before : (n : ℕ) (ps : List Piece) → strip (before_place n ps) ≡ take n (strip ps)
strip-before n ps =
    let rest = through_place 0 (from_place n ps) in
    sym (append-nil (strip (before_place n ps))) ∙ ap (λ bytes. strip (before_place n ps) ++ bytes) (sym (strip-through 0 (from_place n ps)))
    ∙ sym (strip-append (before_place n ps) rest) ∙ ap strip (sym (through-parted n ps)) ∙ strip-through n ps

-- the pieces before a place, and the sequences at it
each-parted : (n : ℕ) (ps : List Piece) → EachUtf8 ps → IsCharBoundary (strip ps) n → EachUtf8 (before_place n ps) × EachUtf8 (through_place 0 (from_place n ps))
each-parted n ps each boundary =
    both_hold (λ p. IsUtf8 p.bytes) (before_place n ps) (through_place 0 (from_place n ps)) (subst EachUtf8 (through-parted n ps) (EachUtf8-through n ps each boundary))

length-before : (style : Attributes) (n : ℕ) (ps : List Piece) → EachUtf8 ps → IsCharBoundary (strip ps) n → length (styled_from style (before_place n ps)) ≡ length (chars (take n (strip ps)))
length-before style n ps each boundary =
    length-styled_from style (before_place n ps) (each-parted n ps each boundary).0 ∙ ap (λ bytes. length (chars bytes)) (strip-before n ps)

nothing : {A : Type 0} (xs : List A) → length xs ≡ 0 → xs ≡ []
nothing [] e = refl
nothing (x ∷ xs) e = absurd (omega (arith, e))

-- sequences show nothing
styled-through : (style : Attributes) (n : ℕ) (ps : List Piece) → EachUtf8 ps → IsCharBoundary (strip ps) n → styled_from style (through_place n ps) ≡ styled_from style (before_place n ps)
styled-through style n ps each boundary =
    let rest = through_place 0 (from_place n ps) in
    let none_shown : length (styled_from (style_at style n ps) rest) ≡ 0 =
    length-styled_from (style_at style n ps) rest (each-parted n ps each boundary).1 ∙ ap (λ bytes. length (chars bytes)) (strip-through 0 (from_place n ps)) ∙ ap length chars-nil in
    ap (styled_from style) (through-parted n ps) ∙ styled_from-append style (before_place n ps) rest
    ∙ ap (λ characters. styled_from style (before_place n ps) ++ characters) (nothing (styled_from (style_at style n ps) rest) none_shown)
    ∙ append-nil (styled_from style (before_place n ps))

drop-styled : (style : Attributes) (n : ℕ) (ps : List Piece) → EachUtf8 ps → IsCharBoundary (strip ps) n
    → drop (length (chars (take n (strip ps)))) (styled_from style ps) ≡ styled_from (style_at style n ps) (from_place n ps)
drop-styled style n ps each boundary =
    let front = styled_from style (before_place n ps) in
    let behind = styled_from (style_at style n ps) (from_place n ps) in
    ap (λ m. drop m (styled_from style ps)) (sym (length-before style n ps each boundary)) ∙ ap (drop (length front)) (styled-places style n ps each boundary) ∙ drop-append_seam front behind

take-styled : (style : Attributes) (n : ℕ) (ps : List Piece) → EachUtf8 ps → IsCharBoundary (strip ps) n
    → take (length (chars (take n (strip ps)))) (styled_from style ps) ≡ styled_from style (through_place n ps)
take-styled style n ps each boundary =
    let front = styled_from style (before_place n ps) in
    let behind = styled_from (style_at style n ps) (from_place n ps) in
    ap (λ m. take m (styled_from style ps)) (sym (length-before style n ps each boundary)) ∙ ap (take (length front)) (styled-places style n ps each boundary) ∙ take-append_seam front behind
    ∙ sym (styled-through style n ps each boundary)

-- ---- between two places

pub take-parts : (a b : ℕ) (bytes : List ℕ) → a ≤ b → a ≤ length bytes → take b bytes ≡ take a bytes ++ take (b - a) (drop a bytes)
take-parts a b bytes ordered fits =
    let front : length (take a bytes) ≡ a = omega (arith, length-take a bytes) in
    let sum : b ≡ length (take a bytes) + (b - a) = omega arith in
    ap (take b) (sym (take-append-drop a bytes)) ∙ ap (λ m. take m (take a bytes ++ drop a bytes)) sum ∙ take-append-add (take a bytes) (drop a bytes) (b - a)

count-between : (a b : ℕ) (bytes : List ℕ) → a ≤ b → IsUtf8 bytes → IsCharBoundary bytes a
    → length (chars (take b bytes)) - length (chars (take a bytes)) ≡ length (chars (take (b - a) (drop a bytes)))
count-between a b bytes ordered utf8 first =
    let sum : length (chars (take b bytes)) ≡ length (chars (take a bytes)) + length (chars (take (b - a) (drop a bytes))) =
    ap (λ bs. length (chars bs)) (take-parts a b bytes ordered first.0) ∙ ap length (chars-append (take a bytes) (take (b - a) (drop a bytes)) (IsUtf8-take bytes a utf8 first))
    ∙ length-append (chars (take a bytes)) (chars (take (b - a) (drop a bytes))) in
    omega arith

-- the styled characters between two places
pub styled-between : (ps : List Piece) (a b : ℕ) → a ≤ b → EachUtf8 ps → IsCharBoundary (strip ps) a → IsCharBoundary (strip ps) b
    → styled_slice ps a b ≡ styled_from (style_at plain_attributes a ps) (through_place (b - a) (from_place a ps))
styled-between ps a b ordered each first last =
    let start = length (chars (take a (strip ps))) in
    let end = length (chars (take b (strip ps))) in
    let left : strip (from_place a ps) ≡ drop a (strip ps) = strip-from a ps in
    let last_left : IsCharBoundary (strip (from_place a ps)) (b - a) = subst (λ bytes. IsCharBoundary bytes (b - a)) (sym left) (boundary-from (strip ps) a b ordered last) in
    let count : end - start ≡ length (chars (take (b - a) (strip (from_place a ps)))) =
    count-between a b (strip ps) ordered (IsUtf8-strip ps each) first ∙ ap (λ bytes. length (chars (take (b - a) bytes))) (sym left) in
    ap (take (end - start)) (drop-styled plain_attributes a ps each first)
    ∙ ap (λ n. take n (styled_from (style_at plain_attributes a ps) (from_place a ps))) count
    ∙ take-styled (style_at plain_attributes a ps) (b - a) (from_place a ps) (EachUtf8-from a ps each first) last_left

-- a part shows the characters of the text between its two places, each in its style
pub styled-slice : (text : List ℕ) (ps qs : List Piece) (a b : ℕ) → a ≤ b → IsUtf8 text → ArePiecesOf text ps → NoneBroken ps
    → IsCharBoundary (strip ps) a → IsCharBoundary (strip ps) b → ArePiecesOf (split_part a b ps) qs
    → styled qs ≡ styled_slice ps a b
styled-slice text ps qs a b ordered utf8 of_text whole first last of_part =
    styled-split_part text ps qs a b ordered of_text whole of_part
    ∙ sym (styled-between ps a b ordered (EachUtf8-pieces ps of_text.stand (subst IsUtf8 (sym of_text.joins) utf8)) first last)
