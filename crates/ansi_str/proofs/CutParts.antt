-- The parts of a cut and of a split at places are slices of the pieces.
use Rattle.std.proofs.Common.{◌≡◌, ℕ, suc, ◌+◌, ◌-◌, ◌<◌, ◌≤◌, ◌&&◌, nat_lt, nat_le, Bool, true, false, List, [], ◌∷◌, ◌++◌, length, take, drop, slice_range, refl, ap, sym, ◌∙◌, arith, append_assoc, length-append, if◌then◌else◌}
use Rattle.std.proofs.lemmas.Bool.Decides.{nat_tests}
use Rattle.std.proofs.lemmas.List.{length-drop, drop_all, take_all}
use Rattle.ansi_scan.specs.Sequences.{Piece, joined, EachStands}
use Rattle.ansi_scan.specs.Joining.{is_text_kind}
use Rattle.ansi_scan.specs.Attributes.{Attributes, plain_attributes}
use Rattle.ansi_scan.specs.StartsAndEnds.{start_bytes, end_bytes}
use Rattle.ansi_scan.proofs.Uniqueness.{Stands-some}
use Rattle.ansi_str.specs.StyledText.{text_of, strip, style_after, style_after_all}
use Rattle.ansi_str.specs.Parts.{Places, taken_piece, taken, style_where, piece_from, from_place, before_place, through_place, dressed}
use Rattle.ansi_str.specs.Walking.{from_text, sequence_of, sequences}
use Rattle.ansi_str.specs.Cuts.{cut_part, later_part}
use Rattle.ansi_str_search.proofs.Parts.{below, not_below, at_most, style_by-text, text_of-text, text_of-sequence, within, taken_piece-text, taken_piece-sequence, take_nil, taken-slice}
use Rattle.ansi_str_search.proofs.Styles.{either_style, style_where-through}
use Rattle.ansi_str_search.proofs.PiecesAtPlaces.{none, inside, past, reach, has_text, from-none, before-none, from-inside, from-past, before-inside, before-past, EachStands-from}
use Rattle.ansi_str_search.proofs.PlaceSums.{from-from, style-before_sum, through-all, style-through_split}
use Rattle.ansi_str_search.proofs.PlainParts.{start_bytes-plain}

-- ---- sequences that count, by their places

-- where two tests agree from a place on, they take the same there
module _ (c d : Places) (from : ℕ) (agree : (place : ℕ) → from ≤ place → c place ≡ d place) where
  pub taken-agree : (a b place : ℕ) (ps : List Piece) → from ≤ place → taken c a b place ps ≡ taken d a b place ps
  taken-agree a b place [] late = refl
  taken-agree a b place (p ∷ ps) late =
      let later : from ≤ place + length (text_of p) = omega arith in
      ap (λ t. (if is_text_kind p.kind then slice_range p.bytes (a - place) (b - place) else if t then p.bytes else []) ++ taken c a b (place + length (text_of p)) ps) (agree place late)
      ∙ ap (λ bytes. taken_piece d a b place p ++ bytes) (taken-agree a b (place + length (text_of p)) ps later)

  pub style_where-agree : (style : Attributes) (place : ℕ) (ps : List Piece) → from ≤ place → style_where c style place ps ≡ style_where d style place ps
  style_where-agree style place [] late = refl
  style_where-agree style place (p ∷ ps) late =
      let later : from ≤ place + length (text_of p) = omega arith in
      ap (λ t. style_where c (if t then style_after style p else style) (place + length (text_of p)) ps) (agree place late)
      ∙ style_where-agree (if d place then style_after style p else style) (place + length (text_of p)) ps later

pub style_where-never : (style : Attributes) (place : ℕ) (ps : List Piece) → style_where (λ _. false) style place ps ≡ style
style_where-never style place [] = refl
style_where-never style place (p ∷ ps) = style_where-never style (place + length (text_of p)) ps

pub sequences-text : (p : Piece) (ps : List Piece) → is_text_kind p.kind ≡ true → sequences (p ∷ ps) ≡ sequences ps
sequences-text p ps text = ap (λ t. (if t then [] else p.bytes) ++ sequences ps) text

pub sequences-sequence : (p : Piece) (ps : List Piece) → is_text_kind p.kind ≡ false → sequences (p ∷ ps) ≡ p.bytes ++ sequences ps
sequences-sequence p ps other = ap (λ t. (if t then [] else p.bytes) ++ sequences ps) other

-- ---- up to a place, where all sequences count or none does

abbrev pub chosen : Bool → List ℕ → List ℕ
chosen t bytes = if t then bytes else []

chosen-nil : (t : Bool) → chosen t [] ≡ []
chosen-nil true = refl
chosen-nil false = refl

chosen-append : (t : Bool) (xs ys : List ℕ) → chosen t xs ++ chosen t ys ≡ chosen t (xs ++ ys)
chosen-append true xs ys = refl
chosen-append false xs ys = refl

module _ (c : Places) (t : Bool) (a b : ℕ) (early : (place : ℕ) → place < a → c place ≡ t) where
  abbrev Parted : ℕ → List Piece → Type 0
  Parted place ps = taken c a b place ps ≡ chosen t (sequences (before_place (a - place) ps)) ++ taken c a b a (from_place (a - place) ps)

  parted-at : (place : ℕ) (ps : List Piece) → place ≡ a → Parted place ps
  parted-at place ps same =
      let over : 0 ≡ a - place = omega arith in
      ap (λ n. taken c a b n ps) same
      ∙ ap (λ bytes. bytes ++ taken c a b a ps) (sym (chosen-nil t))
      ∙ ap (λ found. chosen t (sequences found) ++ taken c a b a ps) (sym (before-none ps))
      ∙ ap (λ found. chosen t (sequences (before_place 0 ps)) ++ taken c a b a found) (sym (from-none ps))
      ∙ ap (λ n. chosen t (sequences (before_place n ps)) ++ taken c a b a (from_place n ps)) over

  parted-inside : (place : ℕ) (p : Piece) (ps : List Piece) → place < a → a - place < length (text_of p) → Parted place (p ∷ ps)
  parted-inside place p ps before h =
      let n = a - place in
      let text = has_text p n h in
      let some : 0 < n = omega arith in
      let behind = piece_from n p in
      let size : length (text_of p) ≡ length p.bytes = ap length (text_of-text p text) in
      let behind_size : length (text_of behind) ≡ length p.bytes - n = ap length (text_of-text behind text) ∙ length-drop n p.bytes in
      let from_start : 0 ≡ a - a = omega arith in
      let width : b - place - n ≡ b - a - 0 = omega arith in
      let next : place + length (text_of p) ≡ a + length (text_of behind) = omega arith in
      ap (λ bytes. bytes ++ taken c a b (place + length (text_of p)) ps) (taken_piece-text c a b place p text)
      ∙ ap (λ m. take m (drop n p.bytes) ++ taken c a b (place + length (text_of p)) ps) width
      ∙ ap (λ m. take (b - a - m) (drop m (drop n p.bytes)) ++ taken c a b (place + length (text_of p)) ps) from_start
      ∙ ap (λ m. slice_range (drop n p.bytes) (a - a) (b - a) ++ taken c a b m ps) next
      ∙ ap (λ bytes. bytes ++ taken c a b (a + length (text_of behind)) ps) (sym (taken_piece-text c a b a behind text))
      ∙ ap (λ found. taken c a b a found) (sym (from-inside n p ps some h))
      ∙ ap (λ bytes. bytes ++ taken c a b a (from_place n (p ∷ ps))) (sym (chosen-nil t))
      ∙ ap (λ bytes. chosen t bytes ++ taken c a b a (from_place n (p ∷ ps))) (sym (sequences-text (record { kind = p.kind; bytes = take n p.bytes }) [] text))
      ∙ ap (λ found. chosen t (sequences found) ++ taken c a b a (from_place n (p ∷ ps))) (sym (before-inside n p ps some h))

  -- over a whole piece, of which this is taken
  parted-past : (place : ℕ) (p : Piece) (ps : List Piece) → place < a → length (text_of p) ≤ a - place
      → taken_piece c a b place p ≡ chosen t (sequence_of p) → Parted (place + length (text_of p)) ps → Parted place (p ∷ ps)
  parted-past place p ps before h here others =
      let n = a - place in
      let some : 0 < n = omega arith in
      let left : a - (place + length (text_of p)) ≡ n - length (text_of p) = omega arith in
      let rest = from_place (n - length (text_of p)) ps in
      let first = sequences (before_place (n - length (text_of p)) ps) in
      ap (λ bytes. bytes ++ taken c a b (place + length (text_of p)) ps) here
      ∙ ap (λ bytes. chosen t (sequence_of p) ++ bytes) (others ∙ ap (λ m. chosen t (sequences (before_place m ps)) ++ taken c a b a (from_place m ps)) left)
      ∙ sym (append_assoc (chosen t (sequence_of p)) (chosen t first) (taken c a b a rest))
      ∙ ap (λ bytes. bytes ++ taken c a b a rest) (chosen-append t (sequence_of p) first)
      ∙ ap (λ found. chosen t (sequences found) ++ taken c a b a rest) (sym (before-past n p ps some h))
      ∙ ap (λ found. chosen t (sequences (before_place n (p ∷ ps))) ++ taken c a b a found) (sym (from-past n p ps some h))

  -- what is taken of a piece that ends at or before place a
  here-past : (place : ℕ) (p : Piece) (text : Bool) → place < a → length (text_of p) ≤ a - place → is_text_kind p.kind ≡ text → taken_piece c a b place p ≡ chosen t (sequence_of p)
  here-past place p true before h text =
      let long : length p.bytes ≤ a - place = omega (arith, ap length (text_of-text p text)) in
      taken_piece-text c a b place p text ∙ ap (take (b - place - (a - place))) (drop_all (a - place) p.bytes long) ∙ take_nil (b - place - (a - place))
      ∙ sym (chosen-nil t) ∙ ap (λ k. chosen t (if k then [] else p.bytes)) (sym text)
  here-past place p false before h other = taken_piece-sequence c a b place p t other (early place before) ∙ ap (λ k. chosen t (if k then [] else p.bytes)) (sym other)

  parted-or : (place : ℕ) (p : Piece) (ps : List Piece) (is_early : Bool) → place ≤ a → nat_lt place a ≡ is_early → (place + length (text_of p) ≤ a → Parted (place + length (text_of p)) ps) → Parted place (p ∷ ps)
  parted-or place p ps false order e others = let there : place ≡ a = grind (arith, nat_tests) in parted-at place (p ∷ ps) there
  parted-or place p ps true order e others =
      let before : place < a = grind (arith, nat_tests) in
      elim (reach (a - place) p) [
        | none same ↦ absurd (omega (arith, same, before))
        | inside some h ↦ parted-inside place p ps before h
        | past some h ↦ let next : place + length (text_of p) ≤ a = omega arith in parted-past place p ps before h (here-past place p (is_text_kind p.kind) before h refl) (others next)
      ]

  -- the sequences before place a, all or none, and what is taken from there on
  pub taken-parted : (place : ℕ) (ps : List Piece) → place ≤ a → Parted place ps
  taken-parted place [] order = sym (ap (λ bytes. bytes ++ []) (chosen-nil t))
  taken-parted place (p ∷ ps) order = parted-or place p ps (nat_lt place a) order refl (λ next. taken-parted (place + length (text_of p)) ps next)

-- ---- a cut

abbrev up_to : ℕ → Places
up_to b place = nat_le place b

up_to-early : (a b : ℕ) → a ≤ b → (place : ℕ) → place < a → up_to b place ≡ true
up_to-early a b order place before = let low : place ≤ b = omega arith in at_most place b low

up_to-within : (a b place : ℕ) → a ≤ place → up_to b place ≡ within a b place
up_to-within a b place late = ap (λ t. t && nat_le place b) (sym (at_most a place late))

-- a slice from where the pieces begin
pub taken-here : (a b : ℕ) (ps : List Piece) → a ≤ b → taken (within a b) a b a ps ≡ joined (through_place (b - a) ps)
taken-here a b ps order =
    let same : a ≤ a = omega arith in
    let over : a - a ≡ 0 = omega arith in
    taken-slice a b a ps order same ∙ ap (λ n. joined (through_place (b - a) (from_place n ps))) over ∙ ap (λ found. joined (through_place (b - a) found)) (from-none ps)

taken-cut : (a b : ℕ) (ps : List Piece) → a ≤ b → taken (up_to b) a b 0 ps ≡ sequences (before_place a ps) ++ joined (through_place (b - a) (from_place a ps))
taken-cut a b ps order =
    let low : 0 ≤ a = omega arith in
    let same : a ≤ a = omega arith in
    let start : a - 0 ≡ a = omega arith in
    taken-parted (up_to b) true a b (up_to-early a b order) 0 ps low
    ∙ ap (λ n. sequences (before_place n ps) ++ taken (up_to b) a b a (from_place n ps)) start
    ∙ ap (λ bytes. sequences (before_place a ps) ++ bytes)
    (taken-agree (up_to b) (within a b) a (up_to-within a b) a b a (from_place a ps) same ∙ taken-here a b (from_place a ps) order)

style_where-up_to : (b : ℕ) (style : Attributes) (ps : List Piece) → style_where (up_to b) style 0 ps ≡ style_after_all style (through_place b ps)
style_where-up_to b style ps =
    let low : 0 ≤ 0 = omega arith in
    let high : 0 ≤ b = omega arith in
    let all : b - 0 ≡ b = omega arith in
    style_where-agree (up_to b) (within 0 b) 0 (up_to-within 0 b) style 0 ps low
    ∙ style_where-through 0 b style 0 ps low high ∙ ap (λ n. style_after_all style (through_place n ps)) all

-- where the style before is plain
pub plain_start : (start : Attributes) (bytes : List ℕ) → start ≡ plain_attributes → start_bytes start ++ bytes ≡ bytes
plain_start start bytes plain = ap (λ s. start_bytes s ++ bytes) plain ∙ ap (λ first. first ++ bytes) start_bytes-plain

pub cut_part-slice : (a b : ℕ) (ps : List Piece) → a ≤ b
    → cut_part a b ps ≡ sequences (before_place a ps) ++ (joined (through_place (b - a) (from_place a ps)) ++ end_bytes (style_after_all plain_attributes (through_place b ps)))
cut_part-slice a b ps order =
    let start = style_where (λ _. false) plain_attributes 0 ps in
    let plain = style_where-never plain_attributes 0 ps in
    let slice = joined (through_place (b - a) (from_place a ps)) in
    let end = end_bytes (style_after_all plain_attributes (through_place b ps)) in
    plain_start start (taken (up_to b) a b 0 ps ++ end_bytes (style_where (up_to b) start 0 ps)) plain
    ∙ ap (λ s. taken (up_to b) a b 0 ps ++ end_bytes (style_where (up_to b) s 0 ps)) plain
    ∙ ap (λ s. taken (up_to b) a b 0 ps ++ end_bytes s) (style_where-up_to b plain_attributes ps)
    ∙ ap (λ bytes. bytes ++ end) (taken-cut a b ps order)
    ∙ append_assoc (sequences (before_place a ps)) slice end

-- the style at the end of a cut, by what is before it and in it
pub style-cut : (a b : ℕ) (style : Attributes) (ps : List Piece) → a ≤ b
    → style_after_all style (through_place b ps) ≡ style_after_all (style_after_all style (before_place a ps)) (through_place (b - a) (from_place a ps))
style-cut a b style ps order =
    let sum : b ≡ a + (b - a) = omega arith in
    ap (λ n. style_after_all style (through_place n ps)) sum ∙ style-through_split (a + (b - a)) style ps
    ∙ ap (λ s. style_after_all s (through_place 0 (from_place (a + (b - a)) ps))) (style-before_sum a (b - a) style ps)
    ∙ ap (λ found. style_after_all (style_after_all (style_after_all style (before_place a ps)) (before_place (b - a) (from_place a ps))) (through_place 0 found)) (from-from a (b - a) ps)
    ∙ sym (style-through_split (b - a) (style_after_all style (before_place a ps)) (from_place a ps))

-- ---- bounds past the end

module _ (a b m : ℕ) where
  abbrev Ends : ℕ → List Piece → Type 0
  Ends place ps = (place + length (strip ps) ≤ b) × (place + length (strip ps) ≤ m)

  ends-later : (place : ℕ) (p : Piece) (ps : List Piece) → Ends place (p ∷ ps) → Ends (place + length (text_of p)) ps
  ends-later place p ps ends = (omega (arith, ends.0, length-append (text_of p) (strip ps)), omega (arith, ends.1, length-append (text_of p) (strip ps)))

  end-here : (n place : ℕ) (p : Piece) → is_text_kind p.kind ≡ true → place + length (text_of p) ≤ n → slice_range p.bytes (a - place) (n - place) ≡ drop (a - place) p.bytes
  end-here n place p text fits =
      let size : length (text_of p) ≡ length p.bytes = ap length (text_of-text p text) in
      let long : length (drop (a - place) p.bytes) ≤ n - place - (a - place) = omega (arith, length-drop (a - place) p.bytes, size, fits) in
      take_all (n - place - (a - place)) (drop (a - place) p.bytes) long

  taken_piece-ends : (place : ℕ) (p : Piece) (ps : List Piece) (text : Bool) → is_text_kind p.kind ≡ text → Ends place (p ∷ ps) → taken_piece (up_to b) a b place p ≡ taken_piece (up_to m) a m place p
  taken_piece-ends place p ps true text ends =
      let first : place + length (text_of p) ≤ b = omega (arith, ends.0, length-append (text_of p) (strip ps)) in
      let second : place + length (text_of p) ≤ m = omega (arith, ends.1, length-append (text_of p) (strip ps)) in
      taken_piece-text (up_to b) a b place p text ∙ end-here b place p text first ∙ sym (end-here m place p text second) ∙ sym (taken_piece-text (up_to m) a m place p text)
  taken_piece-ends place p ps false other ends =
      let first : place ≤ b = omega (arith, ends.0) in
      let second : place ≤ m = omega (arith, ends.1) in
      taken_piece-sequence (up_to b) a b place p true other (at_most place b first) ∙ sym (taken_piece-sequence (up_to m) a m place p true other (at_most place m second))

  taken-ends : (place : ℕ) (ps : List Piece) → Ends place ps → taken (up_to b) a b place ps ≡ taken (up_to m) a m place ps
  taken-ends place [] ends = refl
  taken-ends place (p ∷ ps) ends =
      ap (λ bytes. bytes ++ taken (up_to b) a b (place + length (text_of p)) ps) (taken_piece-ends place p ps (is_text_kind p.kind) refl ends)
      ∙ ap (λ bytes. taken_piece (up_to m) a m place p ++ bytes) (taken-ends (place + length (text_of p)) ps (ends-later place p ps ends))

  -- ends past the text's are one end
  pub cut_part-ends : (ps : List Piece) → length (strip ps) ≤ b → length (strip ps) ≤ m → cut_part a b ps ≡ cut_part a m ps
  cut_part-ends ps first second =
      let start = style_where (λ _. false) plain_attributes 0 ps in
      let ends : Ends 0 ps = (omega (arith, first), omega (arith, second)) in
      let all : through_place b ps ≡ through_place m ps = through-all b ps first ∙ sym (through-all m ps second) in
      ap (λ bytes. start_bytes start ++ (bytes ++ end_bytes (style_where (up_to b) start 0 ps))) (taken-ends 0 ps ends)
      ∙ ap (λ s. start_bytes start ++ (taken (up_to m) a m 0 ps ++ end_bytes s))
      (style_where-up_to b start ps ∙ ap (style_after_all start) all ∙ sym (style_where-up_to m start ps))

-- ---- a part after another

abbrev behind : ℕ → ℕ → Places
behind a b place = nat_lt a place && nat_le place b

behind-early : (a b place : ℕ) → place ≤ a → behind a b place ≡ false
behind-early a b place low = ap (λ t. t && nat_le place b) (not_below a place low)

behind-within : (a b place : ℕ) → a < place → behind a b place ≡ within a b place
behind-within a b place late =
    let over : a ≤ place = omega arith in
    ap (λ t. t && nat_le place b) (below a place late) ∙ ap (λ t. t && nat_le place b) (sym (at_most a place over))

module _ (a b : ℕ) (order : a ≤ b) where
  -- from place a on: after the sequences there
  taken-first : (p : Piece) (ps : List Piece) (text : Bool) → is_text_kind p.kind ≡ text → 0 < length p.bytes → (taken (behind a b) a b a ps ≡ joined (through_place (b - a) (from_text ps)))
      → taken (behind a b) a b a (p ∷ ps) ≡ joined (through_place (b - a) (from_text (p ∷ ps)))
  taken-first p ps true text some others =
      let later : suc a ≤ a + length (text_of p) = omega (arith, ap length (text_of-text p text), some) in
      ap (λ bytes. bytes ++ taken (behind a b) a b (a + length (text_of p)) ps) (taken_piece-text (behind a b) a b a p text ∙ sym (taken_piece-text (within a b) a b a p text))
      ∙ ap (λ bytes. taken_piece (within a b) a b a p ++ bytes) (taken-agree (behind a b) (within a b) (suc a) (behind-within a b) a b (a + length (text_of p)) ps later)
      ∙ taken-here a b (p ∷ ps) order
      ∙ ap (λ t. joined (through_place (b - a) (if t then p ∷ ps else from_text ps))) (sym text)
  taken-first p ps false other some others =
      let same : a ≤ a = omega arith in
      let here : a + length (text_of p) ≡ a = omega (arith, ap length (text_of-sequence p other)) in
      ap (λ bytes. bytes ++ taken (behind a b) a b (a + length (text_of p)) ps) (taken_piece-sequence (behind a b) a b a p false other (behind-early a b a same))
      ∙ ap (λ n. taken (behind a b) a b n ps) here ∙ others
      ∙ ap (λ t. joined (through_place (b - a) (if t then p ∷ ps else from_text ps))) (sym other)

  taken-behind : (ps : List Piece) → EachStands ps → taken (behind a b) a b a ps ≡ joined (through_place (b - a) (from_text ps))
  taken-behind [] each = refl
  taken-behind (p ∷ ps) each = taken-first p ps (is_text_kind p.kind) refl (Stands-some p.kind p.bytes ps each.0) (taken-behind ps each.1)

  -- the style likewise
  style_where-here : (style : Attributes) (ps : List Piece) → style_where (within a b) style a ps ≡ style_after_all style (through_place (b - a) ps)
  style_where-here style ps = let same : a ≤ a = omega arith in style_where-through a b style a ps same order

  style_where-first : (style : Attributes) (p : Piece) (ps : List Piece) (text : Bool) → is_text_kind p.kind ≡ text → 0 < length p.bytes
      → (style_where (behind a b) style a ps ≡ style_after_all style (through_place (b - a) (from_text ps)))
      → style_where (behind a b) style a (p ∷ ps) ≡ style_after_all style (through_place (b - a) (from_text (p ∷ ps)))
  style_where-first style p ps true text some others =
      let later : suc a ≤ a + length (text_of p) = omega (arith, ap length (text_of-text p text), some) in
      let same = style_by-text style p.kind p.bytes text in
      ap (λ s. style_where (behind a b) s (a + length (text_of p)) ps) (either_style (behind a b a) style (style_after style p) same ∙ sym (either_style (within a b a) style (style_after style p) same))
      ∙ style_where-agree (behind a b) (within a b) (suc a) (behind-within a b) (if within a b a then style_after style p else style) (a + length (text_of p)) ps later
      ∙ style_where-here style (p ∷ ps)
      ∙ ap (λ t. style_after_all style (through_place (b - a) (if t then p ∷ ps else from_text ps))) (sym text)
  style_where-first style p ps false other some others =
      let same : a ≤ a = omega arith in
      let here : a + length (text_of p) ≡ a = omega (arith, ap length (text_of-sequence p other)) in
      ap (λ t. style_where (behind a b) (if t then style_after style p else style) (a + length (text_of p)) ps) (behind-early a b a same)
      ∙ ap (λ n. style_where (behind a b) style n ps) here ∙ others
      ∙ ap (λ t. style_after_all style (through_place (b - a) (if t then p ∷ ps else from_text ps))) (sym other)

  style_where-behind : (style : Attributes) (ps : List Piece) → EachStands ps → style_where (behind a b) style a ps ≡ style_after_all style (through_place (b - a) (from_text ps))
  style_where-behind style [] each = refl
  style_where-behind style (p ∷ ps) each = style_where-first style p ps (is_text_kind p.kind) refl (Stands-some p.kind p.bytes ps each.0) (style_where-behind style ps each.1)

-- no sequence counts before place a
module _ (c : Places) (a : ℕ) (early : (place : ℕ) → place < a → c place ≡ false) (style : Attributes) where
  abbrev Skipped : ℕ → List Piece → Type 0
  Skipped place ps = style_where c style place ps ≡ style_where c style a (from_place (a - place) ps)

  skipped-at : (place : ℕ) (ps : List Piece) → place ≡ a → Skipped place ps
  skipped-at place ps same =
      let over : 0 ≡ a - place = omega arith in
      ap (λ n. style_where c style n ps) same ∙ ap (style_where c style a) (sym (from-none ps)) ∙ ap (λ n. style_where c style a (from_place n ps)) over

  skipped-inside : (place : ℕ) (p : Piece) (ps : List Piece) → place < a → a - place < length (text_of p) → Skipped place (p ∷ ps)
  skipped-inside place p ps before h =
      let n = a - place in
      let text = has_text p n h in
      let some : 0 < n = omega arith in
      let rest = piece_from n p in
      let rest_size : length (text_of rest) ≡ length p.bytes - n = ap length (text_of-text rest text) ∙ length-drop n p.bytes in
      let next : place + length (text_of p) ≡ a + length (text_of rest) = omega (arith, ap length (text_of-text p text), rest_size, h, before) in
      ap (λ s. style_where c s (place + length (text_of p)) ps) (either_style (c place) style (style_after style p) (style_by-text style p.kind p.bytes text))
      ∙ ap (λ m. style_where c style m ps) next
      ∙ ap (λ s. style_where c s (a + length (text_of rest)) ps) (sym (either_style (c a) style (style_after style rest) (style_by-text style p.kind rest.bytes text)))
      ∙ ap (style_where c style a) (sym (from-inside n p ps some h))

  skipped-past : (place : ℕ) (p : Piece) (ps : List Piece) → place < a → length (text_of p) ≤ a - place → Skipped (place + length (text_of p)) ps → Skipped place (p ∷ ps)
  skipped-past place p ps before h others =
      let n = a - place in
      let some : 0 < n = omega arith in
      let left : a - (place + length (text_of p)) ≡ n - length (text_of p) = omega arith in
      ap (λ t. style_where c (if t then style_after style p else style) (place + length (text_of p)) ps) (early place before)
      ∙ others ∙ ap (λ m. style_where c style a (from_place m ps)) left
      ∙ ap (style_where c style a) (sym (from-past n p ps some h))

  skipped-or : (place : ℕ) (p : Piece) (ps : List Piece) (is_early : Bool) → place ≤ a → nat_lt place a ≡ is_early → (place + length (text_of p) ≤ a → Skipped (place + length (text_of p)) ps) → Skipped place (p ∷ ps)
  skipped-or place p ps false order e others = let there : place ≡ a = grind (arith, nat_tests) in skipped-at place (p ∷ ps) there
  skipped-or place p ps true order e others =
      let before : place < a = grind (arith, nat_tests) in
      elim (reach (a - place) p) [
        | none same ↦ absurd (omega (arith, same, before))
        | inside some h ↦ skipped-inside place p ps before h
        | past some h ↦ let next : place + length (text_of p) ≤ a = omega arith in skipped-past place p ps before h (others next)
      ]

  pub style_where-skipped : (place : ℕ) (ps : List Piece) → place ≤ a → Skipped place ps
  style_where-skipped place [] order = refl
  style_where-skipped place (p ∷ ps) order = skipped-or place p ps (nat_lt place a) order refl (λ next. style_where-skipped (place + length (text_of p)) ps next)

module _ (a b : ℕ) (ps : List Piece) (order : a ≤ b) (each : EachStands ps) where
  low : 0 ≤ a
  low = omega arith

  start : a - 0 ≡ a
  start = omega arith

  early : (place : ℕ) → place < a → behind a b place ≡ false
  early place before = let under : place ≤ a = omega arith in behind-early a b place under

  taken-later : taken (behind a b) a b 0 ps ≡ joined (through_place (b - a) (from_text (from_place a ps)))
  taken-later = taken-parted (behind a b) false a b early 0 ps low ∙ ap (λ n. taken (behind a b) a b a (from_place n ps)) start ∙ taken-behind a b order (from_place a ps) (EachStands-from a ps each)

  style_where-later : (style : Attributes) → style_where (behind a b) style 0 ps ≡ style_after_all style (through_place (b - a) (from_text (from_place a ps)))
  style_where-later style = style_where-skipped (behind a b) a early style 0 ps low ∙ ap (λ n. style_where (behind a b) style a (from_place n ps)) start ∙ style_where-behind a b order style (from_place a ps) (EachStands-from a ps each)

  pub later_part-slice : later_part a b ps ≡ dressed (style_after_all plain_attributes (through_place a ps)) (through_place (b - a) (from_text (from_place a ps)))
  later_part-slice =
      let begins = style_where (up_to a) plain_attributes 0 ps in
      let slice = through_place (b - a) (from_text (from_place a ps)) in
      ap (λ bytes. start_bytes begins ++ (bytes ++ end_bytes (style_where (behind a b) begins 0 ps))) taken-later
      ∙ ap (λ s. start_bytes begins ++ (joined slice ++ end_bytes s)) (style_where-later begins)
      ∙ ap (λ s. dressed s slice) (style_where-up_to a plain_attributes ps)

-- the first part of a split
pub first_part-slice : (b : ℕ) (ps : List Piece) → cut_part 0 b ps ≡ dressed plain_attributes (through_place b ps)
first_part-slice b ps =
    let low : 0 ≤ b = omega arith in
    let all : b - 0 ≡ b = omega arith in
    let end = end_bytes (style_after_all plain_attributes (through_place b ps)) in
    cut_part-slice 0 b ps low
    ∙ ap (λ found. sequences found ++ (joined (through_place (b - 0) (from_place 0 ps)) ++ end)) (before-none ps)
    ∙ ap (λ found. joined (through_place (b - 0) found) ++ end) (from-none ps)
    ∙ ap (λ n. joined (through_place n ps) ++ end) all
    ∙ sym (plain_start plain_attributes (joined (through_place b ps) ++ end) refl)
