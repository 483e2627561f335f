-- A line that a cell is wrapped into takes its own sequences of the cell's slice of the input, a start and an end.
use Rattle.std.proofs.Common.{◌≡◌, ◌+◌, ◌-◌, ◌<◌, ◌≤◌, ℕ, Bool, true, false, inl, inr, List, [], ◌∷◌, ◌++◌, length, drop, take, if◌then◌else◌, refl, ap, sym, subst, ◌∙◌, arith, length-append}
use Rattle.std.proofs.lemmas.Bool.{cases_lt}
use Rattle.std.proofs.lemmas.List.{length-drop}
use Rattle.ansi_scan.specs.Attributes.{Attributes, IsRendition, plain_attributes}
use Rattle.ansi_scan.specs.Joining.{is_text_kind}
use Rattle.ansi_scan.specs.Pieces.{pieces}
use Rattle.ansi_scan.specs.Sequences.{EachStands, NoneBroken, Piece}
use Rattle.ansi_scan.specs.StartsAndEnds.{end_bytes, end_sequences, start_bytes, start_sequences}
use Rattle.ansi_scan.proofs.Effects.{end_bytes-sequences, start_bytes-sequences}
use Rattle.ansi_scan.proofs.Kept.{IsRendition-plain}
use Rattle.ansi_scan.proofs.Uniqueness.{Stands-some, pieces-ArePiecesOf}
use Rattle.ansi_scan.proofs.StyleLemmas.Lengths.{length-end_bytes, length-start_bytes}
use Rattle.ansi_str.specs.Cuts.{cut_part, later_part}
use Rattle.ansi_str.specs.Parts.{before_place, dressed, from_place, piece_from, through_place}
use Rattle.ansi_str.specs.StyledText.{strip, style_after, style_after_all, text_of}
use Rattle.ansi_str.specs.Walking.{from_text, sequence_of, sequences}
use Rattle.ansi_str.proofs.SplitSteps.{EachStands-from_text, strip-from_text}
use Rattle.ansi_str.proofs.CutParts.{first_part-slice, later_part-slice}
use Rattle.ansi_str_search.proofs.TextLemmas.LastSequence.{strip-append}
use Rattle.ansi_str_search.proofs.ByteParts.{from-text}
use Rattle.ansi_str_search.proofs.Dressed.{ArePiecesOf-dressed, EachStands-through, IsClosed-dressed, IsRendition-after, NoneBroken-from, NoneBroken-through, dressed_pieces, joined-renditions, renditions}
use Rattle.ansi_str_search.proofs.Parts.{style_by-text, text_of-sequence, text_of-text}
use Rattle.ansi_str_search.proofs.PiecesAtPlaces.{EachStands-from, before-inside, before-past, from-inside, from-none, from-past, has_text, inside, none, past, reach, strip-from, through-inside, through-past}
use Rattle.ansi_str_search.proofs.PlaceSums.{from-from, style-through_split, through-all}
use Rattle.ansi_str_search.proofs.PlainParts.{end_bytes-plain, start_bytes-plain}
use Rattle.ansi_str_search.proofs.Slices.{strip-renditions}
use Rattle.columns_run.proofs.Nested.{from-append, from-start, through-append_short, through-start}
use Rattle.columns_laws.proofs.SequencesLemmas.SequenceCounts.{one-piece, taken-append, taken-front, taken-renditions, taken_by, text-piece}

-- ---- what comes after a place, from its text on

taken-from_text : (ps : List Piece) → taken_by (from_text ps) ≤ taken_by ps
taken-from_text [] = omega arith
taken-from_text (p ∷ ps) = by (is_text_kind p.kind) (taken-from_text ps)
  where
    by : (b : Bool) → taken_by (from_text ps) ≤ taken_by ps → taken_by (if b then p ∷ ps else from_text ps) ≤ taken_by (p ∷ ps)
    by true rest = omega arith
    by false rest = omega (arith, rest, one-piece p ps)

-- what is through a place, and what comes after it from its text on
pub taken-parted : (n : ℕ) (ps : List Piece) → EachStands ps → taken_by (through_place n ps) + taken_by (from_text (from_place n ps)) ≤ taken_by ps
taken-parted n [] each = omega arith
taken-parted n (p ∷ ps) each = elim (reach n p) [
  | none e ↦ subst (λ (m : ℕ). taken_by (through_place m (p ∷ ps)) + taken_by (from_text (from_place m (p ∷ ps))) ≤ taken_by (p ∷ ps)) (sym e) (at-first (is_text_kind p.kind) refl (taken-parted 0 ps each.1))
  | inside some h ↦
      let text = has_text p n h in
      let rest = taken-from_text (piece_from n p ∷ ps) in
      omega (arith, ap taken_by (through-inside n p ps h), taken-front n p text, ap (λ (xs : List Piece). taken_by (from_text xs)) (from-inside n p ps some h), rest, text-piece (piece_from n p) ps text, text-piece p ps text)
  | past some h ↦
      let m = n - length (text_of p) in
      omega (
        arith,
        ap taken_by (through-past n p ps h),
        length-append (sequence_of p) (sequences (through_place m ps)),
        length-append (sequence_of p) (sequences ps),
        ap (λ (xs : List Piece). taken_by (from_text xs)) (from-past n p ps some h),
        taken-parted m ps each.1,
      )
]
  where
    at-first : (b : Bool) → is_text_kind p.kind ≡ b → taken_by (through_place 0 ps) + taken_by (from_text (from_place 0 ps)) ≤ taken_by ps → taken_by (through_place 0 (p ∷ ps)) + taken_by (if b then p ∷ ps else from_text ps) ≤ taken_by (p ∷ ps)
    at-first true e rest =
        let some = Stands-some p.kind p.bytes ps each.0 in
        let inside_first : 0 < length (text_of p) = omega (arith, some, ap (λ (xs : List ℕ). length xs) (text_of-text p e)) in
        omega (arith, ap taken_by (through-inside 0 p ps inside_first))
    at-first false e rest =
        let gone : length (text_of p) ≡ 0 = ap (λ (xs : List ℕ). length xs) (text_of-sequence p e) in
        let over : length (text_of p) ≤ 0 = omega (arith, gone) in
        let left : 0 - length (text_of p) ≡ 0 = omega arith in
        omega (
          arith,
          ap taken_by (through-past 0 p ps over ∙ ap (λ (m : ℕ). p ∷ through_place m ps) left),
          length-append (sequence_of p) (sequences (through_place 0 ps)),
          length-append (sequence_of p) (sequences ps),
          ap (λ (xs : List Piece). taken_by (from_text xs)) (from-none ps),
          rest,
        )

-- ---- styles

style-from : (n : ℕ) (style : Attributes) (ps : List Piece) → style_after_all (style_after_all style (before_place n ps)) (from_place n ps) ≡ style_after_all style ps
style-from n style [] = refl
style-from n style (p ∷ ps) = elim (reach n p) [
  | none e ↦ ap (λ (m : ℕ). style_after_all (style_after_all style (before_place m (p ∷ ps))) (from_place m (p ∷ ps))) e
  | inside some h ↦
      let text = has_text p n h in
      ap (λ (xs : List Piece). style_after_all (style_after_all style xs) (from_place n (p ∷ ps))) (before-inside n p ps some h)
      ∙ ap (λ (s : Attributes). style_after_all s (from_place n (p ∷ ps))) (style_by-text style p.kind (take n p.bytes) text)
      ∙ ap (style_after_all style) (from-inside n p ps some h)
      ∙ ap (λ (s : Attributes). style_after_all s ps) (style_by-text style p.kind (drop n p.bytes) text ∙ sym (style_by-text style p.kind p.bytes text))
  | past some h ↦
      ap (λ (xs : List Piece). style_after_all (style_after_all style xs) (from_place n (p ∷ ps))) (before-past n p ps some h)
      ∙ ap (style_after_all (style_after_all (style_after style p) (before_place (n - length (text_of p)) ps))) (from-past n p ps some h)
      ∙ style-from (n - length (text_of p)) (style_after style p) ps
]

style-none : (style : Attributes) (ps : List Piece) → EachStands ps → style_after_all (style_after_all style (through_place 0 ps)) (from_text ps) ≡ style_after_all style ps
style-none style [] each = refl
style-none style (p ∷ ps) each = by (is_text_kind p.kind) refl (style-none (style_after style p) ps each.1)
  where
    by : (b : Bool) → is_text_kind p.kind ≡ b → style_after_all (style_after_all (style_after style p) (through_place 0 ps)) (from_text ps) ≡ style_after_all (style_after style p) ps
        → style_after_all (style_after_all style (through_place 0 (p ∷ ps))) (if b then p ∷ ps else from_text ps) ≡ style_after_all style (p ∷ ps)
    by true e rest =
        let some = Stands-some p.kind p.bytes ps each.0 in
        let inside_first : 0 < length (text_of p) = omega (arith, some, ap (λ (xs : List ℕ). length xs) (text_of-text p e)) in
        ap (λ (xs : List Piece). style_after_all (style_after_all style xs) (p ∷ ps)) (through-inside 0 p ps inside_first)
    by false e rest =
        let gone : length (text_of p) ≡ 0 = ap (λ (xs : List ℕ). length xs) (text_of-sequence p e) in
        let over : length (text_of p) ≤ 0 = omega (arith, gone) in
        let left : 0 - length (text_of p) ≡ 0 = omega arith in
        ap (λ (xs : List Piece). style_after_all (style_after_all style xs) (from_text ps)) (through-past 0 p ps over ∙ ap (λ (m : ℕ). p ∷ through_place m ps) left) ∙ rest

-- the style after all, by way of what is through a place
style-rest : (n : ℕ) (style : Attributes) (ps : List Piece) → EachStands ps → style_after_all (style_after_all style (through_place n ps)) (from_text (from_place n ps)) ≡ style_after_all style ps
style-rest n style ps each =
    ap (λ (s : Attributes). style_after_all s (from_text (from_place n ps))) (style-through_split n style ps)
    ∙ style-none (style_after_all style (before_place n ps)) (from_place n ps) (EachStands-from n ps each) ∙ style-from n style ps

-- ---- pieces with others after them

from_text-append : (ps qs : List Piece) → 0 < length (strip ps) → from_text (ps ++ qs) ≡ from_text ps ++ qs
from_text-append [] qs some = absurd (omega arith)
from_text-append (p ∷ ps) qs some = by (is_text_kind p.kind) refl (λ more. from_text-append ps qs more)
  where
    by : (b : Bool) → is_text_kind p.kind ≡ b → (0 < length (strip ps) → from_text (ps ++ qs) ≡ from_text ps ++ qs) → (if b then p ∷ (ps ++ qs) else from_text (ps ++ qs)) ≡ (if b then p ∷ ps else from_text ps) ++ qs
    by true e rest = refl
    by false e rest =
        let gone : length (text_of p) ≡ 0 = ap (λ (xs : List ℕ). length xs) (text_of-sequence p e) in
        rest (omega (arith, some, gone, length-append (text_of p) (strip ps)))

none-from_text : (ps : List Piece) → NoneBroken ps → NoneBroken (from_text ps)
none-from_text [] whole = tt
none-from_text (p ∷ ps) whole = by (is_text_kind p.kind) (none-from_text ps whole.1)
  where
    by : (b : Bool) → NoneBroken (from_text ps) → NoneBroken (if b then p ∷ ps else from_text ps)
    by true rest = whole
    by false rest = rest

-- ---- the lines of a cell, which is a slice between a start and an end

module _ (style : Attributes) (is : IsRendition style) (slice : List Piece) (each : EachStands slice) (whole : NoneBroken slice) where
  abbrev last : Attributes
  last = style_after_all style slice

  abbrev starts : List Piece
  starts = renditions (start_sequences style)

  abbrev ends : List Piece
  ends = renditions (end_sequences last)

  abbrev all : List Piece
  all = dressed_pieces style slice

  abbrev size : ℕ
  size = length (strip slice)

  all-stand : EachStands all
  all-stand = (ArePiecesOf-dressed style slice is each whole).stand

  all-whole : NoneBroken all
  all-whole = (IsClosed-dressed style slice is whole).none_broken

  all-plain : style_after_all plain_attributes all ≡ plain_attributes
  all-plain = (IsClosed-dressed style slice is whole).plain

  starts-are : taken_by starts ≡ length (start_bytes style)
  starts-are = taken-renditions (start_sequences style) (start_bytes style) (start_bytes-sequences style ∙ sym (joined-renditions (start_sequences style)))

  ends-of : (s : Attributes) → taken_by (renditions (end_sequences s)) ≡ length (end_bytes s)
  ends-of s = taken-renditions (end_sequences s) (end_bytes s) (end_bytes-sequences s ∙ sym (joined-renditions (end_sequences s)))

  -- a part by its pieces
  part-taken : (before : Attributes) (inner : List Piece) (bytes : List ℕ) → bytes ≡ dressed before inner → IsRendition before → EachStands inner → NoneBroken inner
      → taken_by (pieces bytes) ≡ length (start_bytes before) + (taken_by inner + length (end_bytes (style_after_all before inner)))
  part-taken before inner bytes same rendition stand none_broken =
      let after = style_after_all before inner in
      let first = renditions (start_sequences before) in
      let behind = renditions (end_sequences after) in
      let begins = taken-renditions (start_sequences before) (start_bytes before) (start_bytes-sequences before ∙ sym (joined-renditions (start_sequences before))) in
      let are : pieces bytes ≡ dressed_pieces before inner = ap pieces same ∙ pieces-ArePiecesOf (dressed before inner) (dressed_pieces before inner) (ArePiecesOf-dressed before inner rendition stand none_broken) in
      omega (arith, ap taken_by are, taken-append first (inner ++ behind), taken-append inner behind, begins, ends-of after)

  whole-dressed : (before : Attributes) (inner : List Piece) (bytes : List ℕ) → bytes ≡ dressed before inner → IsRendition before → EachStands inner → NoneBroken inner → NoneBroken (pieces bytes)
  whole-dressed before inner bytes same rendition stand none_broken =
      subst NoneBroken (sym (ap pieces same ∙ pieces-ArePiecesOf (dressed before inner) (dressed_pieces before inner) (ArePiecesOf-dressed before inner rendition stand none_broken)))
      (IsClosed-dressed before inner rendition none_broken).none_broken

  pub first-taken : (v : ℕ) → taken_by (pieces (cut_part 0 v all)) ≤ taken_by (through_place v slice) + 243
  first-taken v =
      let inner = through_place v all in
      let part = part-taken plain_attributes inner (cut_part 0 v all) (first_part-slice v all) IsRendition-plain (EachStands-through v all all-stand all-whole) (NoneBroken-through v all all-whole) in
      let none_before : length (start_bytes plain_attributes) ≡ 0 = ap (λ (xs : List ℕ). length xs) start_bytes-plain in
      elim (cases_lt v size) [
        | inl less ↦
            let are : inner ≡ starts ++ through_place v slice = through-start v (start_sequences style) (slice ++ ends) ∙ ap (λ (xs : List Piece). starts ++ xs) (through-append_short v slice ends less) in
            omega (arith, part, none_before, ap taken_by are, taken-append starts (through_place v slice), starts-are, length-start_bytes style is, length-end_bytes (style_after_all plain_attributes inner))
        | inr more ↦
            let fits : size ≤ v = omega (arith, more) in
            let whole_slice : through_place v slice ≡ slice = through-all v slice fits in
            let behind : length (strip (slice ++ ends)) ≤ v = omega (arith, fits, ap (λ (xs : List ℕ). length xs) (strip-append slice ends), length-append (strip slice) (strip ends), ap (λ (xs : List ℕ). length xs) (strip-renditions (end_sequences last))) in
            let are : inner ≡ all = through-start v (start_sequences style) (slice ++ ends) ∙ ap (λ (xs : List Piece). starts ++ xs) (through-all v (slice ++ ends) behind) in
            let none_behind : length (end_bytes (style_after_all plain_attributes inner)) ≡ 0 =
            ap (λ (xs : List Piece). length (end_bytes (style_after_all plain_attributes xs))) are ∙ ap (λ (s : Attributes). length (end_bytes s)) all-plain ∙ ap (λ (xs : List ℕ). length xs) end_bytes-plain in
            omega (
              arith,
              part,
              none_before,
              none_behind,
              ap taken_by are,
              ap taken_by whole_slice,
              taken-append starts (slice ++ ends),
              taken-append slice ends,
              starts-are,
              ends-of last,
              length-start_bytes style is,
              length-end_bytes last,
            )
      ]

  pub cut-whole : (v : ℕ) → NoneBroken (pieces (cut_part 0 v all))
  cut-whole v = whole-dressed plain_attributes (through_place v all) (cut_part 0 v all) (first_part-slice v all) IsRendition-plain (EachStands-through v all all-stand all-whole) (NoneBroken-through v all all-whole)

  pub later-whole : (u v : ℕ) → u ≤ v → NoneBroken (pieces (later_part u v all))
  later-whole u v low =
      let rest = from_text (from_place u all) in
      let rest_stand = EachStands-from_text (from_place u all) (EachStands-from u all all-stand) in
      let rest_whole : NoneBroken rest = none-from_text (from_place u all) (NoneBroken-from u all all-whole) in
      whole-dressed (style_after_all plain_attributes (through_place u all)) (through_place (v - u) rest) (later_part u v all) (later_part-slice u v all low all-stand)
      (IsRendition-after plain_attributes (through_place u all) IsRendition-plain) (EachStands-through (v - u) rest rest_stand rest_whole) (NoneBroken-through (v - u) rest rest_whole)

  module _ (u v : ℕ) (some : 0 < u) (order : u < v) (within : v ≤ size) where
    abbrev behind_u : List Piece
    behind_u = from_text (from_place u slice)

    from-u : from_text (from_place u all) ≡ behind_u ++ ends
    from-u =
        let low : u ≤ size = omega (arith, order, within) in
        let left : 0 < length (strip (from_place u slice)) = omega (arith, order, within, ap (λ (xs : List ℕ). length xs) (strip-from u slice), length-drop u (strip slice)) in
        ap from_text (from-start u (start_sequences style) (slice ++ ends) some ∙ from-append u slice ends low) ∙ from_text-append (from_place u slice) ends left

    behind-size : length (strip behind_u) ≡ size - u
    behind-size = ap (λ (xs : List ℕ). length xs) (strip-from_text (from_place u slice) ∙ strip-from u slice) ∙ length-drop u (strip slice)

    pub later-taken : taken_by (pieces (later_part u v all)) ≤ taken_by (through_place (v - u) behind_u) + 243
    later-taken =
        let before = style_after_all plain_attributes (through_place u all) in
        let rest = from_text (from_place u all) in
        let inner = through_place (v - u) rest in
        let low : u ≤ v = omega (arith, order) in
        let rest_stand = EachStands-from_text (from_place u all) (EachStands-from u all all-stand) in
        let rest_whole : NoneBroken rest = none-from_text (from_place u all) (NoneBroken-from u all all-whole) in
        let rendition = IsRendition-after plain_attributes (through_place u all) IsRendition-plain in
        let part = part-taken before inner (later_part u v all) (later_part-slice u v all low all-stand) rendition (EachStands-through (v - u) rest rest_stand rest_whole) (NoneBroken-through (v - u) rest rest_whole) in
        elim (cases_lt v size) [
          | inl less ↦
              let short_left : v - u < length (strip behind_u) = omega (arith, less, order, behind-size) in
              let are : inner ≡ through_place (v - u) behind_u = ap (through_place (v - u)) from-u ∙ through-append_short (v - u) behind_u ends short_left in
              omega (arith, part, ap taken_by are, length-start_bytes before rendition, length-end_bytes (style_after_all before inner))
          | inr more ↦
              let fits : length (strip behind_u) ≤ v - u = omega (arith, more, within, behind-size) in
              let both : length (strip (behind_u ++ ends)) ≤ v - u = omega (arith, fits, ap (λ (xs : List ℕ). length xs) (strip-append behind_u ends), length-append (strip behind_u) (strip ends), ap (λ (xs : List ℕ). length xs) (strip-renditions (end_sequences last))) in
              let are : inner ≡ behind_u ++ ends = ap (through_place (v - u)) from-u ∙ through-all (v - u) (behind_u ++ ends) both in
              let none_behind : length (end_bytes (style_after_all before inner)) ≡ 0 =
              ap (λ (xs : List Piece). length (end_bytes (style_after_all before xs))) (are ∙ sym from-u) ∙ ap (λ (s : Attributes). length (end_bytes s)) (style-rest u plain_attributes all all-stand ∙ all-plain) ∙ ap (λ (xs : List ℕ). length xs) end_bytes-plain in
              omega (arith, part, none_behind, ap taken_by are, ap taken_by (through-all (v - u) behind_u fits), taken-append behind_u ends, ends-of last, length-start_bytes before rendition, length-end_bytes last)
        ]

    -- the others come after
    pub later-parted : taken_by (through_place (v - u) behind_u) + taken_by (from_text (from_place v slice)) ≤ taken_by behind_u
    later-parted =
        let more : 0 < v - u = omega (arith, order) in
        let sum : u + (v - u) ≡ v = omega (arith, order) in
        let same : from_place (v - u) behind_u ≡ from_place v slice = from-text (v - u) (from_place u slice) more ∙ sym (from-from u (v - u) slice) ∙ ap (λ (m : ℕ). from_place m slice) sum in
        let parted = taken-parted (v - u) behind_u (EachStands-from_text (from_place u slice) (EachStands-from u slice each)) in
        omega (arith, parted, ap (λ (xs : List Piece). taken_by (from_text xs)) same)
