-- A part of a part of a whole text is one part of the text.
use Rattle.std.proofs.Common.{◌≡◌, ℕ, ◌+◌, ◌-◌, ◌<◌, ◌≤◌, ◌==◌, Bool, true, false, List, [], ◌∷◌, ◌++◌, length, take, drop, refl, ap, sym, ◌∙◌, arith, append_assoc, append-nil, length-append, take-take, eqb-true, if◌then◌else◌}
use Rattle.std.proofs.lemmas.Bool.Decides.{nat_tests}
use Rattle.std.proofs.lemmas.List.{length-take, length-drop, drop-take}
use Rattle.std.proofs.lemmas.List.Sums.{fold-append}
use Rattle.ansi_scan.specs.declared.items.Kind.TheVariants.{Sgr}
use Rattle.ansi_scan.specs.Sequences.{Piece, joined, NoneBroken}
use Rattle.ansi_scan.specs.Attributes.{Attributes, IsRendition, plain_attributes}
use Rattle.ansi_scan.specs.Pieces.{pieces}
use Rattle.ansi_scan.specs.StartsAndEnds.{start_bytes, start_sequences, end_bytes, end_sequences}
use Rattle.ansi_scan.proofs.Effects.{start_from_plain, end_from_itself, start_bytes-sequences, end_bytes-sequences}
use Rattle.ansi_scan.proofs.Existence.{ArePiecesOf-pieces}
use Rattle.ansi_scan.proofs.Comparing.{not_zero}
use Rattle.ansi_str_search.specs.Text.StyledText.{text_of, strip, style_after, style_after_all}
use Rattle.ansi_str_search.proofs.TextLemmas.LastSequence.{strip-append}
use Rattle.ansi_str_search.proofs.TextLemmas.Seams.{joined-append}
use Rattle.ansi_str_search.specs.Parts.{piece_from, front_of, from_place, before_place, through_place, split_part, dressed}
use Rattle.ansi_str_search.proofs.Parts.{text_of-text}
use Rattle.ansi_str_search.proofs.PlainParts.{start_bytes-plain, end_bytes-plain}
use Rattle.ansi_str_search.proofs.PiecesAtPlaces.{none, inside, past, reach, has_text, from-none, before-none, from-inside, from-past, before-inside, before-past, through-inside, through-past, strip-from}
use Rattle.ansi_str_search.proofs.PlaceSums.{from-from, style-before_sum, through-all, style-through_split}
use Rattle.ansi_str_search.proofs.Styles.{split_part-slice}
use Rattle.ansi_str_search.proofs.Slices.{strip-through, strip-renditions}
use Rattle.ansi_str_search.proofs.Dressed.{short, long, cut, renditions, joined-renditions, style_after_all-renditions, dressed_pieces, pieces_of_part, rendition}

abbrev pub sgr : List ℕ → Piece
sgr bytes = record { kind = Sgr; bytes = bytes }

-- ---- pieces of sequences alone come before others

-- after the sequences of a start, text begins
pub from-start : (n : ℕ) (sequences : List (List ℕ)) (ps : List Piece) → 0 < n → from_place n (renditions sequences ++ ps) ≡ from_place n ps
from-start n [] ps some = refl
from-start n (bytes ∷ others) ps some =
    let long : 0 ≤ n = omega arith in
    let same : n - 0 ≡ n = omega arith in
    from-past n (sgr bytes) (renditions others ++ ps) some long ∙ ap (λ m. from_place m (renditions others ++ ps)) same ∙ from-start n others ps some

before-start : (n : ℕ) (sequences : List (List ℕ)) (ps : List Piece) → 0 < n → before_place n (renditions sequences ++ ps) ≡ renditions sequences ++ before_place n ps
before-start n [] ps some = refl
before-start n (bytes ∷ others) ps some =
    let long : 0 ≤ n = omega arith in
    let same : n - 0 ≡ n = omega arith in
    before-past n (sgr bytes) (renditions others ++ ps) some long
    ∙ ap (λ m. sgr bytes ∷ before_place m (renditions others ++ ps)) same
    ∙ ap (λ found. sgr bytes ∷ found) (before-start n others ps some)

pub through-start : (n : ℕ) (sequences : List (List ℕ)) (ps : List Piece) → through_place n (renditions sequences ++ ps) ≡ renditions sequences ++ through_place n ps
through-start n [] ps = refl
through-start n (bytes ∷ others) ps =
    let long : 0 ≤ n = omega arith in
    let same : n - 0 ≡ n = omega arith in
    through-past n (sgr bytes) (renditions others ++ ps) long
    ∙ ap (λ m. sgr bytes ∷ through_place m (renditions others ++ ps)) same
    ∙ ap (λ found. sgr bytes ∷ found) (through-start n others ps)

-- what begins with the sequences of a start, in the plain style, is what begins in the style of the start
module _ (style : Attributes) (is : IsRendition style) (ps : List Piece) where
  abbrev starts : List (List ℕ)
  starts = start_sequences style

  started : style_after_all plain_attributes (renditions starts) ≡ style
  started = style_after_all-renditions plain_attributes starts ∙ start_from_plain style is

  -- the style at a place
  start-style : (qs : List Piece) → style_after_all plain_attributes (renditions starts ++ qs) ≡ style_after_all style qs
  start-style qs = fold-append style_after plain_attributes (renditions starts) qs ∙ ap (λ s. style_after_all s qs) started

  start-dressed : (qs : List Piece) → dressed plain_attributes (renditions starts ++ qs) ≡ dressed style qs
  start-dressed qs =
      ap (λ bytes. bytes ++ (joined (renditions starts ++ qs) ++ end_bytes (style_after_all plain_attributes (renditions starts ++ qs)))) start_bytes-plain
      ∙ ap (λ s. joined (renditions starts ++ qs) ++ end_bytes s) (start-style qs)
      ∙ ap (λ bytes. bytes ++ end_bytes (style_after_all style qs)) (joined-append (renditions starts) qs ∙ ap (λ bytes. bytes ++ joined qs) (joined-renditions starts ∙ sym (start_bytes-sequences style)))
      ∙ append_assoc (start_bytes style) (joined qs) (end_bytes (style_after_all style qs))

  abbrev all : List Piece
  all = renditions starts ++ ps

  start-part : (u w : ℕ) (is_zero : Bool) → (u == 0) ≡ is_zero
      → dressed (style_after_all plain_attributes (before_place u all)) (through_place w (from_place u all)) ≡ dressed (style_after_all style (before_place u ps)) (through_place w (from_place u ps))
  start-part u w true e =
      let zero_u = eqb-true u 0 e in
      ap (λ n. dressed (style_after_all plain_attributes (before_place n all)) (through_place w (from_place n all))) zero_u
      ∙ ap (λ found. dressed (style_after_all plain_attributes found) (through_place w (from_place 0 all))) (before-none all)
      ∙ ap (λ found. dressed plain_attributes (through_place w found)) (from-none all)
      ∙ ap (dressed plain_attributes) (through-start w starts ps)
      ∙ start-dressed (through_place w ps)
      ∙ ap (λ found. dressed style (through_place w found)) (sym (from-none ps))
      ∙ ap (λ found. dressed (style_after_all style found) (through_place w (from_place 0 ps))) (sym (before-none ps))
      ∙ ap (λ n. dressed (style_after_all style (before_place n ps)) (through_place w (from_place n ps))) (sym zero_u)
  start-part u w false e =
      let some : 0 < u = grind (arith, nat_tests) in
      ap (λ found. dressed (style_after_all plain_attributes found) (through_place w (from_place u all))) (before-start u starts ps some)
      ∙ ap (λ s. dressed s (through_place w (from_place u all))) (start-style (before_place u ps))
      ∙ ap (λ found. dressed (style_after_all style (before_place u ps)) (through_place w found)) (from-start u starts ps some)

-- ---- pieces before others

pub from-append : (n : ℕ) (ps qs : List Piece) → n ≤ length (strip ps) → from_place n (ps ++ qs) ≡ from_place n ps ++ qs
from-append n [] qs fits = let gone : n ≡ 0 = omega arith in ap (λ m. from_place m qs) gone ∙ from-none qs
from-append n (p ∷ ps) qs fits = elim (reach n p) [
  | none e ↦ ap (λ m. from_place m (p ∷ (ps ++ qs))) e ∙ ap (λ m. from_place m (p ∷ ps) ++ qs) (sym e)
  | inside some h ↦ from-inside n p (ps ++ qs) some h ∙ ap (λ found. found ++ qs) (sym (from-inside n p ps some h))
  | past some h ↦
      let others : n - length (text_of p) ≤ length (strip ps) = omega (arith, length-append (text_of p) (strip ps)) in
      from-past n p (ps ++ qs) some h ∙ from-append (n - length (text_of p)) ps qs others ∙ ap (λ found. found ++ qs) (sym (from-past n p ps some h))
]

before-append : (n : ℕ) (ps qs : List Piece) → n ≤ length (strip ps) → before_place n (ps ++ qs) ≡ before_place n ps
before-append n [] qs fits = let gone : n ≡ 0 = omega arith in ap (λ m. before_place m qs) gone ∙ before-none qs
before-append n (p ∷ ps) qs fits = elim (reach n p) [
  | none e ↦ ap (λ m. before_place m (p ∷ (ps ++ qs))) e ∙ ap (λ m. before_place m (p ∷ ps)) (sym e)
  | inside some h ↦ before-inside n p (ps ++ qs) some h ∙ sym (before-inside n p ps some h)
  | past some h ↦
      let others : n - length (text_of p) ≤ length (strip ps) = omega (arith, length-append (text_of p) (strip ps)) in
      before-past n p (ps ++ qs) some h ∙ ap (λ found. p ∷ found) (before-append (n - length (text_of p)) ps qs others) ∙ sym (before-past n p ps some h)
]

pub through-append_short : (n : ℕ) (ps qs : List Piece) → n < length (strip ps) → through_place n (ps ++ qs) ≡ through_place n ps
through-append_short n [] qs fits = absurd (omega arith)
through-append_short n (p ∷ ps) qs fits = elim (cut n p) [
  | short h ↦ through-inside n p (ps ++ qs) h ∙ sym (through-inside n p ps h)
  | long h ↦
      let others : n - length (text_of p) < length (strip ps) = omega (arith, length-append (text_of p) (strip ps)) in
      through-past n p (ps ++ qs) h ∙ ap (λ found. p ∷ found) (through-append_short (n - length (text_of p)) ps qs others) ∙ sym (through-past n p ps h)
]

-- ---- the pieces through a place, cut once more

-- a piece of text without its first bytes
length-piece_from : (n : ℕ) (p : Piece) → n < length (text_of p) → length (text_of (piece_from n p)) ≡ length (text_of p) - n
length-piece_from n p h =
    let text = has_text p n h in
    ap length (text_of-text (piece_from n p) text) ∙ length-drop n p.bytes ∙ ap (λ bytes. length bytes - n) (sym (text_of-text p text))

-- and one of which the first bytes are taken
module _ (e : ℕ) (p : Piece) (ps : List Piece) (h : e < length (text_of p)) where
  abbrev q : Piece
  q = record { kind = p.kind; bytes = take e p.bytes }

  q-size : length (text_of q) ≡ e
  q-size =
      let text = has_text p e h in
      let size : length (text_of p) ≡ length p.bytes = ap length (text_of-text p text) in
      let shorter : e ≤ length p.bytes = omega (arith, size, h) in
      let taken : length (take e p.bytes) ≡ e = omega (arith, length-take e p.bytes, shorter) in
      ap length (text_of-text q text) ∙ taken

  some-front : 0 < e → through_place e (p ∷ ps) ≡ q ∷ []
  some-front some = through-inside e p ps h ∙ ap (λ t. if t then [] else q ∷ []) (not_zero e some)

  short-from : (u : ℕ) → 0 < u → u ≤ e → from_place u (through_place e (p ∷ ps)) ≡ through_place (e - u) (from_place u (p ∷ ps))
  short-from u some fits =
      let some_e : 0 < e = omega arith in
      let inside_p : u < length (text_of p) = omega arith in
      let size = q-size in
      let left : length (text_of (piece_from u p)) ≡ length (text_of p) - u = length-piece_from u p inside_p in
      let inside_left : e - u < length (text_of (piece_from u p)) = omega (arith, left) in
      ap (from_place u) (some-front some_e)
      ∙ elim (reach u q) [
        | none e' ↦ absurd (omega arith)
        | inside some' h' ↦
            let more : 0 < e - u = omega (arith, size) in
            let sum : e ≡ u + (e - u) = omega arith in
            from-inside u q [] some' h'
            ∙ ap (λ bytes. record { kind = p.kind; bytes = bytes } ∷ []) (ap (λ n. drop u (take n p.bytes)) sum ∙ drop-take u (e - u) p.bytes)
            ∙ ap (λ t. if t then [] else record { kind = p.kind; bytes = take (e - u) (drop u p.bytes) } ∷ []) (sym (not_zero (e - u) more))
        | past some' h' ↦
            let last : 0 ≡ e - u = omega (arith, size) in
            from-past u q [] some' h' ∙ ap (λ n. front_of n (piece_from u p)) last
      ]
      ∙ sym (through-inside (e - u) (piece_from u p) ps inside_left)
      ∙ ap (through_place (e - u)) (sym (from-inside u p ps some inside_p))

  short-before : (u : ℕ) → 0 < u → u ≤ e → before_place u (through_place e (p ∷ ps)) ≡ before_place u (p ∷ ps)
  short-before u some fits =
      let some_e : 0 < e = omega arith in
      let inside_p : u < length (text_of p) = omega arith in
      let size = q-size in
      ap (before_place u) (some-front some_e)
      ∙ elim (reach u q) [
        | none e' ↦ absurd (omega arith)
        | inside some' h' ↦ before-inside u q [] some' h' ∙ ap (λ bytes. record { kind = p.kind; bytes = bytes } ∷ []) (take-take u e p.bytes fits)
        | past some' h' ↦
            let last : e ≡ u = omega (arith, size) in
            before-past u q [] some' h' ∙ ap (λ n. record { kind = p.kind; bytes = take n p.bytes } ∷ []) last
      ]
      ∙ sym (before-inside u p ps some inside_p)

  short-through : (w : ℕ) (is_zero : Bool) → (e == 0) ≡ is_zero → w ≤ e → through_place w (through_place e (p ∷ ps)) ≡ through_place w (p ∷ ps)
  short-through w true e' fits =
      let none_e = eqb-true e 0 e' in
      let none_w : w ≡ 0 = omega (arith, none_e) in
      let inside_p : w < length (text_of p) = omega arith in
      ap (through_place w) (through-inside e p ps h ∙ ap (λ n. front_of n p) none_e)
      ∙ ap (λ n. front_of n p) (sym none_w)
      ∙ sym (through-inside w p ps inside_p)
  short-through w false e' fits =
      let some_e : 0 < e = grind (arith, nat_tests) in
      let inside_p : w < length (text_of p) = omega arith in
      let size = q-size in
      ap (through_place w) (some-front some_e)
      ∙ elim (cut w q) [
        | short h' ↦ through-inside w q [] h' ∙ ap (λ bytes. if w == 0 then [] else record { kind = p.kind; bytes = bytes } ∷ []) (take-take w e p.bytes fits)
        | long h' ↦
            let last : e ≡ w = omega (arith, size) in
            let some_w : 0 < w = omega arith in
            through-past w q [] h' ∙ ap (λ n. record { kind = p.kind; bytes = take n p.bytes } ∷ []) last
            ∙ ap (λ t. if t then [] else record { kind = p.kind; bytes = take w p.bytes } ∷ []) (sym (not_zero w some_w))
      ]
      ∙ sym (through-inside w p ps inside_p)

from-zero : (u e : ℕ) (ps : List Piece) → u ≡ 0 → from_place u (through_place e ps) ≡ through_place (e - u) (from_place u ps)
from-zero u e ps gone =
    let same : e ≡ e - u = omega arith in
    ap (λ n. from_place n (through_place e ps)) gone ∙ from-none (through_place e ps) ∙ ap (through_place e) (sym (from-none ps)) ∙ ap (λ n. through_place e (from_place n ps)) (sym gone) ∙ ap (λ n. through_place n (from_place u ps)) same

before-zero : (u : ℕ) (ps qs : List Piece) → u ≡ 0 → before_place u ps ≡ before_place u qs
before-zero u ps qs gone = ap (λ n. before_place n ps) gone ∙ before-none ps ∙ sym (before-none qs) ∙ ap (λ n. before_place n qs) (sym gone)

from-through : (u e : ℕ) (ps : List Piece) → u ≤ e → from_place u (through_place e ps) ≡ through_place (e - u) (from_place u ps)
from-through u e [] fits = refl
from-through u e (p ∷ ps) fits = elim (reach u p) [
  | none gone ↦ from-zero u e (p ∷ ps) gone
  | inside some g ↦ elim (cut e p) [
    | short h ↦ short-from e p ps h u some fits
    | long h ↦
        let left : length (text_of (piece_from u p)) ≡ length (text_of p) - u = length-piece_from u p g in
        let long_left : length (text_of (piece_from u p)) ≤ e - u = omega (arith, left) in
        let same : e - length (text_of p) ≡ e - u - length (text_of (piece_from u p)) = omega (arith, left) in
        ap (from_place u) (through-past e p ps h) ∙ from-inside u p (through_place (e - length (text_of p)) ps) some g
        ∙ ap (λ n. piece_from u p ∷ through_place n ps) same
        ∙ sym (through-past (e - u) (piece_from u p) ps long_left) ∙ ap (through_place (e - u)) (sym (from-inside u p ps some g))
  ]
  | past some g ↦ elim (cut e p) [
    | short h ↦ short-from e p ps h u some fits
    | long h ↦
        let others : u - length (text_of p) ≤ e - length (text_of p) = omega arith in
        let same : e - length (text_of p) - (u - length (text_of p)) ≡ e - u = omega arith in
        ap (from_place u) (through-past e p ps h) ∙ from-past u p (through_place (e - length (text_of p)) ps) some g
        ∙ from-through (u - length (text_of p)) (e - length (text_of p)) ps others
        ∙ ap (λ n. through_place n (from_place (u - length (text_of p)) ps)) same
        ∙ ap (through_place (e - u)) (sym (from-past u p ps some g))
  ]
]

before-through : (u e : ℕ) (ps : List Piece) → u ≤ e → before_place u (through_place e ps) ≡ before_place u ps
before-through u e [] fits = refl
before-through u e (p ∷ ps) fits = elim (reach u p) [
  | none gone ↦ before-zero u (through_place e (p ∷ ps)) (p ∷ ps) gone
  | inside some g ↦ elim (cut e p) [
    | short h ↦ short-before e p ps h u some fits
    | long h ↦ ap (before_place u) (through-past e p ps h) ∙ before-inside u p (through_place (e - length (text_of p)) ps) some g ∙ sym (before-inside u p ps some g)
  ]
  | past some g ↦ elim (cut e p) [
    | short h ↦ short-before e p ps h u some fits
    | long h ↦
        let others : u - length (text_of p) ≤ e - length (text_of p) = omega arith in
        ap (before_place u) (through-past e p ps h) ∙ before-past u p (through_place (e - length (text_of p)) ps) some g
        ∙ ap (λ found. p ∷ found) (before-through (u - length (text_of p)) (e - length (text_of p)) ps others)
        ∙ sym (before-past u p ps some g)
  ]
]

through-through : (w e : ℕ) (ps : List Piece) → w ≤ e → through_place w (through_place e ps) ≡ through_place w ps
through-through w e [] fits = refl
through-through w e (p ∷ ps) fits = elim (cut e p) [
  | short h ↦ short-through e p ps h w (e == 0) refl fits
  | long h ↦ elim (cut w p) [
    | short g ↦ ap (through_place w) (through-past e p ps h) ∙ through-inside w p (through_place (e - length (text_of p)) ps) g ∙ sym (through-inside w p ps g)
    | long g ↦
        let others : w - length (text_of p) ≤ e - length (text_of p) = omega arith in
        ap (through_place w) (through-past e p ps h) ∙ through-past w p (through_place (e - length (text_of p)) ps) g
        ∙ ap (λ found. p ∷ found) (through-through (w - length (text_of p)) (e - length (text_of p)) ps others) ∙ sym (through-past w p ps g)
  ]
]

-- ---- a slice that the end of its last style follows

module _ (style : Attributes) (slice : List Piece) where
  abbrev last_style : Attributes
  last_style = style_after_all style slice

  abbrev ends : List Piece
  ends = renditions (end_sequences last_style)

  -- the style after all of a slice, by way of a place in it
  style-at : (u w : ℕ) → length (strip slice) ≡ u + w → style_after_all (style_after_all style (before_place u slice)) (through_place w (from_place u slice)) ≡ last_style
  style-at u w all =
      let fits : length (strip slice) ≤ u + w = omega arith in
      style-through_split w (style_after_all style (before_place u slice)) (from_place u slice)
      ∙ ap (λ s. style_after_all s (through_place 0 (from_place w (from_place u slice)))) (sym (style-before_sum u w style slice))
      ∙ ap (λ ps. style_after_all (style_after_all style (before_place (u + w) slice)) (through_place 0 ps)) (sym (from-from u w slice))
      ∙ sym (style-through_split (u + w) style slice)
      ∙ ap (style_after_all style) (through-all (u + w) slice fits)

  -- the slice and its end, in the style that is known before them, are the slice: its end is written once
  ended : (first : Attributes) (ps : List Piece) → style_after_all first ps ≡ last_style → dressed first (ps ++ ends) ≡ dressed first ps
  ended first ps same =
      let plain : style_after_all first (ps ++ ends) ≡ plain_attributes =
      fold-append style_after first ps ends ∙ ap (λ s. style_after_all s ends) same ∙ style_after_all-renditions last_style (end_sequences last_style) ∙ end_from_itself last_style in
      ap (λ bytes. start_bytes first ++ bytes) (
      ap (λ s. joined (ps ++ ends) ++ end_bytes s) plain
      ∙ ap (λ bytes. joined (ps ++ ends) ++ bytes) end_bytes-plain
      ∙ append-nil (joined (ps ++ ends))
      ∙ joined-append ps ends
      ∙ ap (λ bytes. joined ps ++ bytes) (joined-renditions (end_sequences last_style) ∙ sym (end_bytes-sequences last_style) ∙ ap end_bytes (sym same)))

  end-part : (u w : ℕ) (is_last : Bool) → (u + w == length (strip slice)) ≡ is_last → u + w ≤ length (strip slice)
      → dressed (style_after_all style (before_place u (slice ++ ends))) (through_place w (from_place u (slice ++ ends))) ≡ dressed (style_after_all style (before_place u slice)) (through_place w (from_place u slice))
  end-part u w is_last e fits =
      let within : u ≤ length (strip slice) = omega arith in
      ap (λ ps. dressed (style_after_all style ps) (through_place w (from_place u (slice ++ ends)))) (before-append u slice ends within)
      ∙ ap (λ ps. dressed (style_after_all style (before_place u slice)) (through_place w ps)) (from-append u slice ends within)
      ∙ by is_last e
    where
      left : length (strip (from_place u slice)) ≡ length (strip slice) - u
      left = ap length (strip-from u slice) ∙ length-drop u (strip slice)

      by : (is_last : Bool) → (u + w == length (strip slice)) ≡ is_last → dressed (style_after_all style (before_place u slice)) (through_place w (from_place u slice ++ ends)) ≡ dressed (style_after_all style (before_place u slice)) (through_place w (from_place u slice))
      by true e =
          let same = eqb-true (u + w) (length (strip slice)) e in
          let all : length (strip (from_place u slice)) ≤ w = omega (arith, left, same) in
          let both : length (strip (from_place u slice ++ ends)) ≤ w = omega (arith, left, same, ap length (strip-append (from_place u slice) ends), length-append (strip (from_place u slice)) (strip ends), ap length (strip-renditions (end_sequences last_style))) in
          ap (dressed (style_after_all style (before_place u slice))) (through-all w (from_place u slice ++ ends) both)
          ∙ ended (style_after_all style (before_place u slice)) (from_place u slice) (ap (style_after_all (style_after_all style (before_place u slice))) (sym (through-all w (from_place u slice) all)) ∙ style-at u w (sym same))
          ∙ ap (dressed (style_after_all style (before_place u slice))) (sym (through-all w (from_place u slice) all))
      by false e =
          let more : u + w < length (strip slice) = grind (arith, nat_tests) in
          let short_left : w < length (strip (from_place u slice)) = omega (arith, left) in
          ap (dressed (style_after_all style (before_place u slice))) (through-append_short w (from_place u slice) ends short_left)

-- ---- a part of a part

module _ (text : List ℕ) (whole : NoneBroken (pieces text)) (a b : ℕ) (ordered : a ≤ b) (within : b ≤ length (strip (pieces text))) where
  abbrev ps : List Piece
  ps = pieces text

  abbrev style : Attributes
  style = style_after_all plain_attributes (before_place a ps)

  abbrev behind : List Piece
  behind = from_place a ps

  abbrev slice : List Piece
  slice = through_place (b - a) behind

  slice-size : length (strip slice) ≡ b - a
  slice-size = omega (arith, ap length (strip-through (b - a) behind), length-take (b - a) (strip behind), ap length (strip-from a ps), length-drop a (strip ps))

  read : pieces (split_part a b ps) ≡ dressed_pieces style slice
  read = pieces_of_part text ps (pieces (split_part a b ps)) a b ordered (ArePiecesOf-pieces text) whole (ArePiecesOf-pieces (split_part a b ps))

  is_rendition : IsRendition style
  is_rendition = rendition text ps (pieces (split_part a b ps)) a b ordered (ArePiecesOf-pieces text) whole (ArePiecesOf-pieces (split_part a b ps))

  pub part_of_part : (u v : ℕ) → u ≤ v → v ≤ b - a → split_part u v (pieces (split_part a b ps)) ≡ split_part (a + u) (a + v) ps
  part_of_part u v low high =
      let size = slice-size in
      let fits : u + (v - u) ≤ length (strip slice) = omega (arith, size) in
      let up_to : u ≤ b - a = omega arith in
      let rest : v - u ≤ b - a - u = omega arith in
      let both : a + u ≤ a + v = omega arith in
      let same : v - u ≡ a + v - (a + u) = omega arith in
      ap (split_part u v) read
      ∙ split_part-slice u v (dressed_pieces style slice) low
      ∙ start-part style is_rendition (slice ++ renditions (end_sequences (style_after_all style slice))) u (v - u) (u == 0) refl
      ∙ end-part style slice u (v - u) (u + (v - u) == length (strip slice)) refl fits
      ∙ ap (λ found. dressed (style_after_all style found) (through_place (v - u) (from_place u slice))) (before-through u (b - a) behind up_to)
      ∙ ap (λ found. dressed (style_after_all style (before_place u behind)) (through_place (v - u) found)) (from-through u (b - a) behind up_to)
      ∙ ap (dressed (style_after_all style (before_place u behind))) (through-through (v - u) (b - a - u) (from_place u behind) rest)
      ∙ ap (λ s. dressed s (through_place (v - u) (from_place u behind))) (sym (style-before_sum a u plain_attributes ps))
      ∙ ap (λ found. dressed (style_after_all plain_attributes (before_place (a + u) ps)) (through_place (v - u) found)) (sym (from-from a u ps))
      ∙ ap (λ n. dressed (style_after_all plain_attributes (before_place (a + u) ps)) (through_place n (from_place (a + u) ps))) same
      ∙ sym (split_part-slice (a + u) (a + v) ps both)
