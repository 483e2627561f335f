-- Places add up: what is after or before a place, and after or before a place from there.
use Rattle.std.proofs.Common.{◌≡◌, ℕ, ◌+◌, ◌-◌, ◌<◌, ◌≤◌, List, [], ◌∷◌, ◌++◌, length, take, drop, refl, ap, sym, ◌∙◌, arith, length-append, if◌then◌else◌}
use Rattle.std.proofs.lemmas.List.{length-drop, drop-drop}
use Rattle.std.proofs.lemmas.List.Sums.{fold-append}
use Rattle.ansi_scan.specs.Sequences.{Piece, joined}
use Rattle.ansi_scan.specs.Attributes.{Attributes}
use Rattle.ansi_str_search.specs.Text.StyledText.{text_of, strip, style_after, style_after_all}
use Rattle.ansi_str_search.specs.Parts.{piece_from, from_place, before_place, through_place}
use Rattle.ansi_str_search.proofs.Parts.{text_of-text, style_by-text, not_zero}
use Rattle.ansi_str_search.proofs.PiecesAtPlaces.{none, inside, past, reach, has_text, from-inside, from-past, before-inside, before-past, through-inside, through-past}
use Rattle.ansi_str_search.proofs.TextLemmas.Seams.{joined-append}

-- the text of a piece that is cut
length-piece_from : (n : ℕ) (p : Piece) → n < length (text_of p) → length (text_of (piece_from n p)) ≡ length (text_of p) - n
length-piece_from n p h =
    let text = has_text p n h in
    ap length (text_of-text (piece_from n p) text) ∙ length-drop n p.bytes ∙ ap (λ bytes. length bytes - n) (sym (text_of-text p text))

-- ---- what is after

module _ (n m : ℕ) (p : Piece) (ps : List Piece) (some : 0 < n) (h : n < length (text_of p)) where
  size : length (text_of (piece_from n p)) ≡ length (text_of p) - n
  size = length-piece_from n p h

  from-inside_sum : from_place (n + m) (p ∷ ps) ≡ from_place m (piece_from n p ∷ ps)
  from-inside_sum = elim (reach m (piece_from n p)) [
    | none e ↦
        let same : n + m ≡ n = omega arith in
        ap (λ k. from_place k (p ∷ ps)) same ∙ from-inside n p ps some h ∙ ap (λ k. from_place k (piece_from n p ∷ ps)) (sym e)
    | inside more g ↦
        let sum_some : 0 < n + m = omega arith in
        let sum_short : n + m < length (text_of p) = omega (arith, size) in
        from-inside (n + m) p ps sum_some sum_short
        ∙ ap (λ bytes. record { kind = p.kind; bytes = bytes } ∷ ps) (sym (drop-drop m n p.bytes))
        ∙ sym (from-inside m (piece_from n p) ps more g)
    | past more g ↦
        let sum_some : 0 < n + m = omega arith in
        let sum_long : length (text_of p) ≤ n + m = omega (arith, size) in
        let left : n + m - length (text_of p) ≡ m - length (text_of (piece_from n p)) = omega (arith, size) in
        from-past (n + m) p ps sum_some sum_long ∙ ap (λ k. from_place k ps) left ∙ sym (from-past m (piece_from n p) ps more g)
  ]

pub from-from : (n m : ℕ) (ps : List Piece) → from_place (n + m) ps ≡ from_place m (from_place n ps)
from-from n m [] = refl
from-from n m (p ∷ ps) = elim (reach n p) [
  | none e ↦
      let same : n + m ≡ m = omega arith in
      ap (λ k. from_place k (p ∷ ps)) same ∙ ap (λ k. from_place m (from_place k (p ∷ ps))) (sym e)
  | inside some h ↦ from-inside_sum n m p ps some h ∙ ap (from_place m) (sym (from-inside n p ps some h))
  | past some h ↦
      let sum_some : 0 < n + m = omega arith in
      let sum_long : length (text_of p) ≤ n + m = omega arith in
      let left : n + m - length (text_of p) ≡ n - length (text_of p) + m = omega arith in
      from-past (n + m) p ps sum_some sum_long ∙ ap (λ k. from_place k ps) left
      ∙ from-from (n - length (text_of p)) m ps ∙ ap (from_place m) (sym (from-past n p ps some h))
]

-- ---- the style before

-- a piece of text changes no style
style-cut : (style : Attributes) (n : ℕ) (p : Piece) (bytes : List ℕ) → n < length (text_of p) → style_after style (record { kind = p.kind; bytes = bytes }) ≡ style
style-cut style n p bytes h = style_by-text style p.kind bytes (has_text p n h)

style-inside : (style : Attributes) (n : ℕ) (p : Piece) (ps : List Piece) → 0 < n → n < length (text_of p) → style_after_all style (before_place n (p ∷ ps)) ≡ style
style-inside style n p ps some h = ap (style_after_all style) (before-inside n p ps some h) ∙ style-cut style n p (take n p.bytes) h

module _ (n m : ℕ) (style : Attributes) (p : Piece) (ps : List Piece) (some : 0 < n) (h : n < length (text_of p)) where
  style-inside_sum : style_after_all style (before_place (n + m) (p ∷ ps)) ≡ style_after_all style (before_place m (piece_from n p ∷ ps))
  style-inside_sum = elim (reach m (piece_from n p)) [
    | none e ↦
        let same : n + m ≡ n = omega arith in
        ap (λ k. style_after_all style (before_place k (p ∷ ps))) same ∙ style-inside style n p ps some h
        ∙ ap (λ k. style_after_all style (before_place k (piece_from n p ∷ ps))) (sym e)
    | inside more g ↦
        let sum_some : 0 < n + m = omega arith in
        let sum_short : n + m < length (text_of p) = omega (arith, length-piece_from n p h) in
        style-inside style (n + m) p ps sum_some sum_short ∙ sym (style-inside style m (piece_from n p) ps more g)
    | past more g ↦
        let sum_some : 0 < n + m = omega arith in
        let sum_long : length (text_of p) ≤ n + m = omega (arith, length-piece_from n p h) in
        let left : n + m - length (text_of p) ≡ m - length (text_of (piece_from n p)) = omega (arith, length-piece_from n p h) in
        ap (style_after_all style) (before-past (n + m) p ps sum_some sum_long)
        ∙ ap (λ s. style_after_all s (before_place (n + m - length (text_of p)) ps)) (style-cut style n p p.bytes h ∙ sym (style-cut style n p (drop n p.bytes) h))
        ∙ ap (λ k. style_after_all (style_after style (piece_from n p)) (before_place k ps)) left
        ∙ ap (style_after_all style) (sym (before-past m (piece_from n p) ps more g))
  ]

pub style-before_sum : (n m : ℕ) (style : Attributes) (ps : List Piece)
    → style_after_all style (before_place (n + m) ps) ≡ style_after_all (style_after_all style (before_place n ps)) (before_place m (from_place n ps))
style-before_sum n m style [] = refl
style-before_sum n m style (p ∷ ps) = elim (reach n p) [
  | none e ↦
      let same : n + m ≡ m = omega arith in
      ap (λ k. style_after_all style (before_place k (p ∷ ps))) same
      ∙ ap (λ k. style_after_all (style_after_all style (before_place k (p ∷ ps))) (before_place m (from_place k (p ∷ ps)))) (sym e)
  | inside some h ↦
      style-inside_sum n m style p ps some h
      ∙ ap (λ s. style_after_all s (before_place m (piece_from n p ∷ ps))) (sym (style-inside style n p ps some h))
      ∙ ap (λ found. style_after_all (style_after_all style (before_place n (p ∷ ps))) (before_place m found)) (sym (from-inside n p ps some h))
  | past some h ↦
      let sum_some : 0 < n + m = omega arith in
      let sum_long : length (text_of p) ≤ n + m = omega arith in
      let left : n + m - length (text_of p) ≡ n - length (text_of p) + m = omega arith in
      ap (style_after_all style) (before-past (n + m) p ps sum_some sum_long)
      ∙ ap (λ k. style_after_all (style_after style p) (before_place k ps)) left
      ∙ style-before_sum (n - length (text_of p)) m (style_after style p) ps
      ∙ ap (λ found. style_after_all (style_after_all style found) (before_place m (from_place (n - length (text_of p)) ps))) (sym (before-past n p ps some h))
      ∙ ap (λ found. style_after_all (style_after_all style (before_place n (p ∷ ps))) (before_place m found)) (sym (from-past n p ps some h))
]

-- ---- through a place

-- after all the text nothing is left out
pub through-all : (n : ℕ) (ps : List Piece) → length (strip ps) ≤ n → through_place n ps ≡ ps
through-all n [] h = refl
through-all n (p ∷ ps) h =
    let long : length (text_of p) ≤ n = omega (arith, length-append (text_of p) (strip ps)) in
    let others : length (strip ps) ≤ n - length (text_of p) = omega (arith, length-append (text_of p) (strip ps)) in
    through-past n p ps long ∙ ap (λ rest. p ∷ rest) (through-all (n - length (text_of p)) ps others)

-- through a place: before it, and the sequences at it
pub through-parted : (n : ℕ) (ps : List Piece) → through_place n ps ≡ before_place n ps ++ through_place 0 (from_place n ps)
through-parted n [] = refl
through-parted n (p ∷ ps) = elim (reach n p) [
  | none e ↦ ap (λ k. through_place k (p ∷ ps)) e ∙ ap (λ k. before_place k (p ∷ ps) ++ through_place 0 (from_place k (p ∷ ps))) (sym e)
  | inside some h ↦
      let some_left : 0 < length (text_of (piece_from n p)) = omega (arith, length-piece_from n p h) in
      through-inside n p ps h ∙ ap (λ t. if t then [] else record { kind = p.kind; bytes = take n p.bytes } ∷ []) (not_zero n some)
      ∙ ap (λ found. (record { kind = p.kind; bytes = take n p.bytes } ∷ []) ++ found) (sym (through-inside 0 (piece_from n p) ps some_left))
      ∙ ap (λ found. found ++ through_place 0 (piece_from n p ∷ ps)) (sym (before-inside n p ps some h))
      ∙ ap (λ found. before_place n (p ∷ ps) ++ through_place 0 found) (sym (from-inside n p ps some h))
  | past some h ↦
      through-past n p ps h ∙ ap (λ rest. p ∷ rest) (through-parted (n - length (text_of p)) ps)
      ∙ ap (λ found. found ++ through_place 0 (from_place (n - length (text_of p)) ps)) (sym (before-past n p ps some h))
      ∙ ap (λ found. before_place n (p ∷ ps) ++ through_place 0 found) (sym (from-past n p ps some h))
]

pub through-split : (n : ℕ) (ps : List Piece) → joined (through_place n ps) ≡ joined (before_place n ps) ++ joined (through_place 0 (from_place n ps))
through-split n ps = ap joined (through-parted n ps) ∙ joined-append (before_place n ps) (through_place 0 (from_place n ps))

pub style-through_split : (n : ℕ) (style : Attributes) (ps : List Piece)
    → style_after_all style (through_place n ps) ≡ style_after_all (style_after_all style (before_place n ps)) (through_place 0 (from_place n ps))
style-through_split n style ps = ap (style_after_all style) (through-parted n ps) ∙ fold-append style_after style (before_place n ps) (through_place 0 (from_place n ps))
