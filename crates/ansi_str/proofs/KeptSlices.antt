-- The styled characters of what is kept of a whole text are a slice of those of the text.
use Rattle.std.proofs.Common.{◌≡◌, ℕ, ◌+◌, ◌-◌, ◌<◌, ◌≤◌, ◌==◌, Bool, true, false, List, [], ◌∷◌, ◌++◌, length, take, drop, slice_range, refl, ap, sym, subst, ◌∙◌, arith, append-nil}
use Rattle.std.specs.Prelude.{chars, nat_lt, if◌then◌else◌}
use Rattle.std.specs.Str.{IsUtf8, IsCharBoundary}
use Rattle.std.proofs.lemmas.Bool.Decides.{nat_tests}
use Rattle.std.proofs.lemmas.List.{drop_all, take_all, length-drop}
use Rattle.std.proofs.lemmas.Str.{chars-nil}
use Rattle.ansi_scan.specs.Sequences.{Piece, ArePiecesOf, NoneBroken}
use Rattle.ansi_scan.specs.Joining.{is_text_kind}
use Rattle.ansi_scan.specs.Attributes.{Attributes, plain_attributes}
use Rattle.ansi_str.specs.StyledText.{text_of, strip, style_after, style_after_all, styled_from, styled}
use Rattle.ansi_str.specs.Parts.{piece_from, from_place, before_place, through_place}
use Rattle.ansi_str.specs.Keeping.{kept}
use Rattle.ansi_str.specs.Matches.{styled_slice}
use Rattle.ansi_str_search.proofs.Parts.{text_of-text, text_of-sequence, style_by-text}
use Rattle.ansi_str_search.proofs.PiecesAtPlaces.{none, inside, past, reach, has_text, from-inside, from-past, before-inside, before-past, through-inside, through-past}
use Rattle.ansi_str_search.proofs.Cuts.{with_style, styled_from-text}
use Rattle.ansi_str_search.proofs.CharSlices.{styled-between}
use Rattle.ansi_str_search.proofs.Utf8.{EachUtf8-pieces}
use Rattle.ansi_str.proofs.Keeps.{empty_slice}
use Rattle.ansi_str.proofs.KeptPieces.{text_if, of_kind, kept_pieces, no_bytes, pieces_kept}

-- ---- what a piece shows of which a slice is kept

abbrev slice_shown : Attributes → ℕ → ℕ → Piece → List (ℕ × Attributes)
slice_shown style a b p = with_style style (chars (slice_range (text_of p) a b))

nothing_shown : (style : Attributes) (bytes : List ℕ) → bytes ≡ [] → with_style style (chars bytes) ≡ []
nothing_shown style bytes e = ap (λ bs. with_style style (chars bs)) e ∙ ap (with_style style) chars-nil

styled-text_if : (style : Attributes) (bytes : List ℕ) (rest : List Piece) (none : Bool) → (length bytes == 0) ≡ none
    → styled_from style (text_if bytes none ++ rest) ≡ with_style style (chars bytes) ++ styled_from style rest
styled-text_if style bytes rest true e = ap (λ cs. cs ++ styled_from style rest) (sym (nothing_shown style bytes (no_bytes bytes e)))
styled-text_if style bytes rest false e = refl

styled-of_kind : (style : Attributes) (a b : ℕ) (p : Piece) (rest : List Piece) (text : Bool) → is_text_kind p.kind ≡ text
    → styled_from style (of_kind text a b p ++ rest) ≡ slice_shown style a b p ++ styled_from (style_after style p) rest
styled-of_kind style a b p rest true e =
    let slice = slice_range p.bytes a b in
    styled-text_if style slice rest (length slice == 0) refl
    ∙ ap (λ bytes. with_style style (chars (slice_range bytes a b)) ++ styled_from style rest) (sym (text_of-text p e))
    ∙ ap (λ s. slice_shown style a b p ++ styled_from s rest) (sym (style_by-text style p.kind p.bytes e))
styled-of_kind style a b p rest false e =
    let none = text_of-sequence p e in
    ap (λ cs. cs ++ styled_from (style_after style p) rest)
    (nothing_shown style (text_of p) none ∙ sym (nothing_shown style (slice_range (text_of p) a b) (empty_slice a b (text_of p) none)))

abbrev kept_shown : ℕ → ℕ → ℕ → Attributes → List Piece → List (ℕ × Attributes)
kept_shown a b place style ps = styled_from style (kept_pieces a b place ps)

kept_shown-first : (a b place : ℕ) (style : Attributes) (p : Piece) (ps : List Piece)
    → kept_shown a b place style (p ∷ ps) ≡ slice_shown style (a - place) (b - place) p ++ kept_shown a b (place + length (text_of p)) (style_after style p) ps
kept_shown-first a b place style p ps = styled-of_kind style (a - place) (b - place) p (kept_pieces a b (place + length (text_of p)) ps) (is_text_kind p.kind) refl

-- ---- after the end nothing is shown

short_slice : (a b : ℕ) (xs : List ℕ) → b ≤ a → slice_range xs a b ≡ []
short_slice a b xs h = let none : b - a ≡ 0 = omega arith in ap (λ n. take n (drop a xs)) none

shown-behind : (a b place : ℕ) (style : Attributes) (ps : List Piece) → b ≤ place → kept_shown a b place style ps ≡ []
shown-behind a b place style [] h = refl
shown-behind a b place style (p ∷ ps) h =
    let short : b - place ≤ a - place = omega arith in
    let past : b ≤ place + length (text_of p) = omega arith in
    kept_shown-first a b place style p ps
    ∙ ap (λ cs. cs ++ kept_shown a b (place + length (text_of p)) (style_after style p) ps)
    (nothing_shown style (slice_range (text_of p) (a - place) (b - place)) (short_slice (a - place) (b - place) (text_of p) short))
    ∙ shown-behind a b (place + length (text_of p)) (style_after style p) ps past

-- ---- from the start on, up to the end

front_shown : (style : Attributes) (n : ℕ) (p : Piece) → n < length (text_of p) → styled_from style (through_place n (p ∷ [])) ≡ with_style style (chars (take n (text_of p)))
front_shown style n p h = elim (reach n p) [
  | none e ↦
      ap (λ m. styled_from style (through_place m (p ∷ []))) e ∙ ap (styled_from style) (through-inside 0 p [] (subst (λ m. m < length (text_of p)) e h))
      ∙ sym (nothing_shown style (take n (text_of p)) (ap (λ m. take m (text_of p)) e))
  | inside some h2 ↦
      let text = has_text p n h in
      ap (styled_from style) (through-inside n p [] h ∙ ap (λ t. if t then [] else record { kind = p.kind; bytes = take n p.bytes } ∷ []) (not_none n some))
      ∙ styled_from-text style (record { kind = p.kind; bytes = take n p.bytes }) [] text ∙ append-nil (with_style style (chars (take n p.bytes)))
      ∙ ap (λ bytes. with_style style (chars (take n bytes))) (sym (text_of-text p text))
  | past some h2 ↦ absurd (omega (arith, h, h2))
]
  where
    not_none : (m : ℕ) → 0 < m → (m == 0) ≡ false
    not_none m some = grind (arith, nat_tests)

shown-through : (a b place : ℕ) (style : Attributes) (ps : List Piece) → a ≤ place → place ≤ b → kept_shown a b place style ps ≡ styled_from style (through_place (b - place) ps)
shown-through a b place style [] begun unended = refl
shown-through a b place style (p ∷ ps) begun unended =
    by (nat_lt (b - place) (length (text_of p))) refl (λ begun_next left. shown-through a b (place + length (text_of p)) (style_after style p) ps begun_next left)
  where
    next : ℕ
    next = place + length (text_of p)

    start : slice_shown style (a - place) (b - place) p ≡ with_style style (chars (take (b - place) (text_of p)))
    start =
        let none : a - place ≡ 0 = omega arith in
        ap (λ n. slice_shown style n (b - place) p) none ∙ ap (λ n. with_style style (chars (take n (text_of p)))) (omega arith)

    by : (short : Bool) → nat_lt (b - place) (length (text_of p)) ≡ short
        → (a ≤ next → next ≤ b → kept_shown a b next (style_after style p) ps ≡ styled_from (style_after style p) (through_place (b - next) ps))
        → kept_shown a b place style (p ∷ ps) ≡ styled_from style (through_place (b - place) (p ∷ ps))
    by true e others =
        let h : b - place < length (text_of p) = grind (arith, nat_tests) in
        let past : b ≤ place + length (text_of p) = omega arith in
        kept_shown-first a b place style p ps
        ∙ ap (λ cs. slice_shown style (a - place) (b - place) p ++ cs) (shown-behind a b next (style_after style p) ps past)
        ∙ append-nil (slice_shown style (a - place) (b - place) p) ∙ start
        ∙ sym (front_shown style (b - place) p h)
        ∙ ap (styled_from style) (through-inside (b - place) p [] h ∙ sym (through-inside (b - place) p ps h))
    by false e others =
        let h : length (text_of p) ≤ b - place = grind (arith, nat_tests) in
        let left : place + length (text_of p) ≤ b = omega arith in
        let begun_next : a ≤ place + length (text_of p) = omega arith in
        let rest : b - (place + length (text_of p)) ≡ b - place - length (text_of p) = omega arith in
        kept_shown-first a b place style p ps
        ∙ ap (λ cs. cs ++ kept_shown a b next (style_after style p) ps) (start ∙ ap (λ bytes. with_style style (chars bytes)) (take_all (b - place) (text_of p) h))
        ∙ ap (λ cs. with_style style (chars (text_of p)) ++ cs)
        (others begun_next left ∙ ap (λ n. styled_from (style_after style p) (through_place n ps)) rest)
        ∙ ap (styled_from style) (sym (through-past (b - place) p ps h))

-- ---- up to the start

shown-from : (a b place : ℕ) (style : Attributes) (ps : List Piece) → a ≤ b → place ≤ a
    → kept_shown a b place style ps ≡ styled_from (style_after_all style (before_place (a - place) ps)) (through_place (b - a) (from_place (a - place) ps))
shown-from a b place style [] order before = refl
shown-from a b place style (p ∷ ps) order before = elim (reach (a - place) p) [
  | none e ↦
      let here : place ≡ a = omega (arith, e) in
      let size : b - place ≡ b - a = omega (arith, e) in
      let begun : a ≤ place = omega (arith, e) in
      let unended : place ≤ b = omega arith in
      shown-through a b place style (p ∷ ps) begun unended
      ∙ ap (λ n. styled_from style (through_place n (p ∷ ps))) size
      ∙ ap (λ m. styled_from (style_after_all style (before_place m (p ∷ ps))) (through_place (b - a) (from_place m (p ∷ ps)))) (sym e)
  | inside some h ↦
      let m = a - place in
      let text = has_text p m h in
      let left = piece_from m p in
      let whole = text_of-text p text in
      let size : length (text_of p) ≡ length p.bytes = ap length whole in
      let size_left : length (text_of left) ≡ length p.bytes - m = ap length (text_of-text left text) ∙ length-drop m p.bytes in
      let next : place + length (text_of p) ≡ a + length (text_of left) = omega (arith, size, size_left, h, before) in
      let count : b - place - m ≡ b - a = omega arith in
      let none : a - a ≡ 0 = omega arith in
      let count_left : b - a - 0 ≡ b - a = omega arith in
      let begun : a ≤ a = omega arith in
      kept_shown-first a b place style p ps
      ∙ ap (λ n. with_style style (chars (take n (drop m (text_of p)))) ++ kept_shown a b (place + length (text_of p)) (style_after style p) ps) count
      ∙ ap (λ bytes. with_style style (chars (take (b - a) (drop m bytes))) ++ kept_shown a b (place + length (text_of p)) (style_after style p) ps) whole
      ∙ ap (λ bytes. with_style style (chars (take (b - a) bytes)) ++ kept_shown a b (place + length (text_of p)) (style_after style p) ps) (sym (text_of-text left text))
      ∙ ap (λ n. with_style style (chars (take n (text_of left))) ++ kept_shown a b (place + length (text_of p)) (style_after style p) ps) (sym count_left)
      ∙ ap (λ n. slice_shown style n (b - a) left ++ kept_shown a b (place + length (text_of p)) (style_after style p) ps) (sym none)
      ∙ ap (λ n. slice_shown style (a - a) (b - a) left ++ kept_shown a b n (style_after style p) ps) next
      ∙ ap (λ s. slice_shown style (a - a) (b - a) left ++ kept_shown a b (a + length (text_of left)) s ps)
      (style_by-text style p.kind p.bytes text ∙ sym (style_by-text style p.kind (drop m p.bytes) text))
      ∙ sym (kept_shown-first a b a style left ps)
      ∙ shown-through a b a style (left ∷ ps) begun order
      ∙ ap (λ s. styled_from s (through_place (b - a) (left ∷ ps))) (sym (style_by-text style p.kind (take m p.bytes) text))
      ∙ ap (λ found. styled_from (style_after_all style found) (through_place (b - a) (left ∷ ps))) (sym (before-inside m p ps some h))
      ∙ ap (λ found. styled_from (style_after_all style (before_place m (p ∷ ps))) (through_place (b - a) found)) (sym (from-inside m p ps some h))
  | past some h ↦
      let m = a - place in
      let next = style_after style p in
      let before_next : place + length (text_of p) ≤ a = omega (arith, h, before) in
      let rest : a - (place + length (text_of p)) ≡ a - place - length (text_of p) = omega arith in
      kept_shown-first a b place style p ps
      ∙ ap (λ cs. cs ++ kept_shown a b (place + length (text_of p)) next ps)
      (nothing_shown style (slice_range (text_of p) m (b - place)) (ap (take (b - place - m)) (drop_all m (text_of p) h) ∙ take_all (b - place - m) [] (omega arith)))
      ∙ shown-from a b (place + length (text_of p)) next ps order before_next
      ∙ ap (λ n. styled_from (style_after_all next (before_place n ps)) (through_place (b - a) (from_place n ps))) rest
      ∙ ap (λ found. styled_from (style_after_all style found) (through_place (b - a) (from_place (m - length (text_of p)) ps))) (sym (before-past m p ps some h))
      ∙ ap (λ found. styled_from (style_after_all style (before_place m (p ∷ ps))) (through_place (b - a) found)) (sym (from-past m p ps some h))
]

-- ---- a slice

pub kept_slice : (a b : ℕ) (text : List ℕ) (ps left : List Piece) → a ≤ b → IsUtf8 text → ArePiecesOf text ps → NoneBroken ps
    → IsCharBoundary (strip ps) a → IsCharBoundary (strip ps) b → ArePiecesOf (kept a b ps) left
    → styled left ≡ styled_slice ps a b
kept_slice a b text ps left order utf8 of_text whole first last of_left =
    let none : a - 0 ≡ a = omega arith in
    let begun : 0 ≤ a = omega arith in
    ap styled (pieces_kept a b text ps left of_text whole of_left) ∙ shown-from a b 0 plain_attributes ps order begun
    ∙ ap (λ n. styled_from (style_after_all plain_attributes (before_place n ps)) (through_place (b - a) (from_place n ps))) none
    ∙ sym (styled-between ps a b order (EachUtf8-pieces ps of_text.stand (subst IsUtf8 (sym of_text.joins) utf8)) first last)
