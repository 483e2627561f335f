-- The characters of a text with their styles, cut at an ASCII character, are those of the parts of its split.
use Rattle.std.proofs.Common.{◌≡◌, ℕ, ◌+◌, ◌-◌, ◌<◌, ◌≤◌, ◌==◌, Bool, true, false, List, [], ◌∷◌, ◌++◌, length, get_or, map, take, drop, refl, ap, sym, subst, ◌∙◌, arith, append_assoc, append-nil, eqb-true, eq-eqb, ne_eqb}
use Rattle.std.specs.Prelude.{chars, if◌then◌else◌}
use Rattle.std.specs.List.{AllByRecursion, slice_split}
use Rattle.std.specs.Str.{IsUtf8, IsCharBoundary}
use Rattle.std.proofs.lemmas.List.{length-drop, length-take, drop-append-le, drop_more, drop_all, drop-drop, take-append-drop, take_rest, get_or-take, get_or-drop, map-append}
use Rattle.std.proofs.lemmas.List.Elements.{All-from_recursion, All-from_get_or, recursion_from_All}
use Rattle.std.proofs.lemmas.List.Splits.{slice_split_none, slice_split_at}
use Rattle.std.proofs.lemmas.Simd.{map-map}
use Rattle.std.proofs.lemmas.Str.{chars-nil, IsUtf8-from_ascii, IsCharBoundary-start, IsCharBoundary-before_ascii}
use Rattle.std.proofs.lemmas.Str.Ascii.{IsAscii-from_all}
use Rattle.ansi_scan.specs.Sequences.{Piece, ArePiecesOf, NoneBroken}
use Rattle.ansi_scan.specs.Joining.{is_text_kind}
use Rattle.ansi_scan.specs.Pieces.{pieces}
use Rattle.ansi_scan.specs.Attributes.{Attributes, plain_attributes}
use Rattle.ansi_scan.proofs.Existence.{ArePiecesOf-pieces}
use Rattle.ansi_str_search.specs.Text.StyledText.{text_of, strip, style_after, style_after_all, styled_from, styled}
pub use Rattle.ansi_str_search.proofs.TextLemmas.Shown.{with_style}
use Rattle.ansi_str_search.specs.Parts.{piece_from, from_place, before_place, through_place, split_part}
use Rattle.ansi_str_search.specs.Matches.{Occurs, AreMatchesFrom, AreMatches, bounds_between, split_bounds, styled_parts}
use Rattle.ansi_str_search.proofs.Parts.{style_by-text, text_of-text}
use Rattle.ansi_str_search.proofs.Styles.{front_of-style}
use Rattle.ansi_str_search.proofs.PiecesAtPlaces.{none, inside, past, reach, has_text, from-inside, from-past, before-inside, before-past, through-inside, through-past, from-none, before-none, drop-append_past, strip-from}
use Rattle.ansi_str_search.proofs.PlaceSums.{from-from, style-before_sum, through-all}
use Rattle.ansi_str_search.proofs.Dressed.{short, long, cut, styled-split_part}
use Rattle.ansi_str_search.proofs.Slices.{strip-through}
use Rattle.ansi_str_search.proofs.Chars.{both_hold, hold_both, Without, Without-chars, chars-around}
use Rattle.ansi_str_search.proofs.Utf8.{EachUtf8, EachUtf8-pieces, EachUtf8-from, EachUtf8-through, IsUtf8-text_of, IsUtf8-strip, boundary-from, boundary-behind_match, Occurs-fits}

-- ---- a text with an ASCII character in it

pub styled_from-text : (style : Attributes) (p : Piece) (ps : List Piece) → is_text_kind p.kind ≡ true → styled_from style (p ∷ ps) ≡ with_style style (chars p.bytes) ++ styled_from style ps
styled_from-text style p ps text =
    ap (λ bytes. with_style style (chars bytes) ++ styled_from (style_after style p) ps) (text_of-text p text)
    ∙ ap (λ s. with_style style (chars p.bytes) ++ styled_from s ps) (style_by-text style p.kind p.bytes text)

nothing_shown : (style : Attributes) (bytes : List ℕ) → bytes ≡ [] → with_style style (chars bytes) ≡ []
nothing_shown style bytes e = ap (λ bs. with_style style (chars bs)) e ∙ ap (with_style style) chars-nil

styled_from-front : (style : Attributes) (n : ℕ) (p : Piece) (is_zero : Bool) → is_text_kind p.kind ≡ true → (n == 0) ≡ is_zero
    → styled_from style (if is_zero then [] else record { kind = p.kind; bytes = take n p.bytes } ∷ []) ≡ with_style style (chars (take n p.bytes))
styled_from-front style n p true text e = sym (nothing_shown style (take n p.bytes) (ap (λ m. take m p.bytes) (eqb-true n 0 e)))
styled_from-front style n p false text e =
    styled_from-text style (record { kind = p.kind; bytes = take n p.bytes }) [] text ∙ append-nil (with_style style (chars (take n p.bytes)))

-- what is shown after some bytes of a text
pub styled-behind : (style : Attributes) (m : ℕ) (p : Piece) (ps : List Piece) → 0 < m → m ≤ length (text_of p) → is_text_kind p.kind ≡ true
    → styled_from (style_after_all style (before_place m (p ∷ ps))) (from_place m (p ∷ ps)) ≡ with_style style (chars (drop m p.bytes)) ++ styled_from style ps
styled-behind style m p ps some fits text = elim (reach m p) [
  | none e ↦ absurd (omega arith)
  | inside there h ↦
      ap (λ found. styled_from (style_after_all style found) (from_place m (p ∷ ps))) (before-inside m p ps there h)
      ∙ ap (λ s. styled_from s (from_place m (p ∷ ps))) (style_by-text style p.kind (take m p.bytes) text)
      ∙ ap (styled_from style) (from-inside m p ps there h)
      ∙ styled_from-text style (piece_from m p) ps text
  | past there h ↦
      let all : m - length (text_of p) ≡ 0 = omega arith in
      let size : length (text_of p) ≡ length p.bytes = ap length (text_of-text p text) in
      let gone : drop m p.bytes ≡ [] = drop_all m p.bytes (omega arith) in
      ap (λ found. styled_from (style_after_all style found) (from_place m (p ∷ ps))) (before-past m p ps there h)
      ∙ ap (λ k. styled_from (style_after_all (style_after style p) (before_place k ps)) (from_place m (p ∷ ps))) all
      ∙ ap (λ found. styled_from (style_after_all (style_after style p) found) (from_place m (p ∷ ps))) (before-none ps)
      ∙ ap (λ s. styled_from s (from_place m (p ∷ ps))) (style_by-text style p.kind p.bytes text)
      ∙ ap (styled_from style) (from-past m p ps there h ∙ ap (λ k. from_place k ps) all ∙ from-none ps)
      ∙ ap (λ characters. characters ++ styled_from style ps) (sym (nothing_shown style (drop m p.bytes) gone))
]

-- a list that holds this number at a place
parted : (xs ys zs : List ℕ) (c n : ℕ) → n < length xs → drop n (xs ++ ys) ≡ c ∷ zs → xs ≡ take n xs ++ c ∷ drop (n + 1) xs
parted xs ys zs c n h e =
    let fits : n ≤ length xs = omega arith in
    let first : get_or xs n 0 ∷ (drop (n + 1) xs ++ ys) ≡ c ∷ zs = ap (λ bs. bs ++ ys) (sym (drop_more xs n 0 h)) ∙ sym (drop-append-le n xs ys fits) ∙ e in
    let same : get_or xs n 0 ≡ c = cc first in
    sym (take-append-drop n xs) ∙ ap (λ bs. take n xs ++ bs) (drop_more xs n 0 h) ∙ ap (λ b. take n xs ++ b ∷ drop (n + 1) xs) same

-- the characters of pieces in which this one is at place n: those before it, itself, and those after it
abbrev IsCutAt : ℕ → ℕ → Attributes → List Piece → Type 0
IsCutAt c n style ps =
    styled_from style ps ≡ styled_from style (through_place n ps) ++ (c, style_after_all style (through_place n ps))
    ∷ styled_from (style_after_all style (before_place (n + 1) ps)) (from_place (n + 1) ps)

cut-inside : (c n : ℕ) (style : Attributes) (p : Piece) (ps : List Piece) (behind : List ℕ) → c < 128 → IsUtf8 p.bytes → n < length (text_of p)
    → drop n (strip (p ∷ ps)) ≡ c ∷ behind → IsCutAt c n style (p ∷ ps)
cut-inside c n style p ps behind low utf8 h e =
    let text = has_text p n h in
    let same = text_of-text p text in
    let first = take n p.bytes in
    let last = drop (n + 1) p.bytes in
    let size : length (text_of p) ≡ length p.bytes = ap length same in
    let shorter : n < length p.bytes = omega arith in
    let some : 0 < n + 1 = omega arith in
    let fits : n + 1 ≤ length (text_of p) = omega arith in
    let spelled : p.bytes ≡ first ++ c ∷ last = parted p.bytes (strip ps) behind c n shorter (ap (λ bytes. drop n (bytes ++ strip ps)) (sym same) ∙ e) in
    let shown : chars p.bytes ≡ chars first ++ c ∷ chars last = ap chars spelled ∙ chars-around first c last low (subst IsUtf8 spelled utf8) in
    let front : styled_from style (through_place n (p ∷ ps)) ≡ with_style style (chars first) =
    ap (styled_from style) (through-inside n p ps h) ∙ styled_from-front style n p (n == 0) text refl in
    let known : style_after_all style (through_place n (p ∷ ps)) ≡ style = ap (style_after_all style) (through-inside n p ps h) ∙ front_of-style style n p (n == 0) text refl in
    styled_from-text style p ps text
    ∙ ap (λ characters. with_style style characters ++ styled_from style ps) shown
    ∙ ap (λ characters. characters ++ styled_from style ps) (map-append (λ x. (x, style)) (chars first) (c ∷ chars last))
    ∙ append_assoc (with_style style (chars first)) ((c, style) ∷ with_style style (chars last)) (styled_from style ps)
    ∙ ap (λ characters. with_style style (chars first) ++ (c, style) ∷ characters) (sym (styled-behind style (n + 1) p ps some fits text))
    ∙ ap (λ characters. characters ++ (c, style) ∷ styled_from (style_after_all style (before_place (n + 1) (p ∷ ps))) (from_place (n + 1) (p ∷ ps))) (sym front)
    ∙ ap (λ s. styled_from style (through_place n (p ∷ ps)) ++ (c, s) ∷ styled_from (style_after_all style (before_place (n + 1) (p ∷ ps))) (from_place (n + 1) (p ∷ ps))) (sym known)

cut-past : (c n : ℕ) (style : Attributes) (p : Piece) (ps : List Piece) → length (text_of p) ≤ n → IsCutAt c (n - length (text_of p)) (style_after style p) ps → IsCutAt c n style (p ∷ ps)
cut-past c n style p ps h rest =
    let m = n - length (text_of p) in
    let next : n + 1 - length (text_of p) ≡ m + 1 = omega arith in
    let some : 0 < n + 1 = omega arith in
    let over : length (text_of p) ≤ n + 1 = omega arith in
    let here = with_style style (chars (text_of p)) in
    let left = through_place m ps in
    let known : before_place (n + 1) (p ∷ ps) ≡ p ∷ before_place (m + 1) ps = before-past (n + 1) p ps some over ∙ ap (λ k. p ∷ before_place k ps) next in
    let found : from_place (n + 1) (p ∷ ps) ≡ from_place (m + 1) ps = from-past (n + 1) p ps some over ∙ ap (λ k. from_place k ps) next in
    ap (λ characters. here ++ characters) rest
    ∙ sym (append_assoc here (styled_from (style_after style p) left)
    ((c, style_after_all (style_after style p) left) ∷ styled_from (style_after_all (style_after style p) (before_place (m + 1) ps)) (from_place (m + 1) ps)))
    ∙ ap (λ qs. styled_from style qs ++ (c, style_after_all style qs) ∷ styled_from (style_after_all (style_after style p) (before_place (m + 1) ps)) (from_place (m + 1) ps)) (sym (through-past n p ps h))
    ∙ ap (λ qs. styled_from style (through_place n (p ∷ ps)) ++ (c, style_after_all style (through_place n (p ∷ ps))) ∷ styled_from (style_after_all style qs) (from_place (m + 1) ps)) (sym known)
    ∙ ap (λ qs. styled_from style (through_place n (p ∷ ps)) ++ (c, style_after_all style (through_place n (p ∷ ps))) ∷ styled_from (style_after_all style (before_place (n + 1) (p ∷ ps))) qs) (sym found)

styled-cut : (c n : ℕ) (style : Attributes) (ps : List Piece) (behind : List ℕ) → c < 128 → EachUtf8 ps → drop n (strip ps) ≡ c ∷ behind → IsCutAt c n style ps
styled-cut c n style [] behind low each e = absurd (nothing_there n e)
  where
    nothing_there : (n : ℕ) → drop n [] ≡ c ∷ behind → ⊥
    nothing_there n e = let gone : [] ≡ c ∷ behind = sym (drop_all n [] (omega arith)) ∙ e in cc gone
styled-cut c n style (p ∷ ps) behind low each e = elim (cut n p) [
  | short h ↦ cut-inside c n style p ps behind low each.0 h e
  | long h ↦ cut-past c n style p ps h
      (styled-cut c (n - length (text_of p)) (style_after style p) ps behind low each.1 (sym (drop-append_past (text_of p) (strip ps) n h) ∙ e))
]

-- ---- no such character

abbrev WithoutStyled : ℕ → List (ℕ × Attributes) → Type 0
WithoutStyled c characters = AllByRecursion (λ x. (x.0 == c) ≡ false) characters

Without-with_style : (c : ℕ) (style : Attributes) (cs : List ℕ) → Without c cs → WithoutStyled c (with_style style cs)
Without-with_style c style [] h = tt
Without-with_style c style (x ∷ cs) h = (h.0, Without-with_style c style cs h.1)

Without-styled_from : (c : ℕ) (style : Attributes) (ps : List Piece) → c < 128 → EachUtf8 ps → Without c (strip ps) → WithoutStyled c (styled_from style ps)
Without-styled_from c style [] low each h = tt
Without-styled_from c style (p ∷ ps) low each h =
    let parts = both_hold (λ x. (x == c) ≡ false) (text_of p) (strip ps) h in
    hold_both (λ x. (x.0 == c) ≡ false) (with_style style (chars (text_of p))) (styled_from (style_after style p) ps)
    (Without-with_style c style (chars (text_of p)) (Without-chars c (text_of p) low (IsUtf8-text_of p each.0) parts.0))
    (Without-styled_from c (style_after style p) ps low each.1 parts.1)

-- an ASCII character matches wherever it is
pub Occurs-ascii : (c : ℕ) (text : List ℕ) (at : ℕ) → c < 128 → at < length text → get_or text at 0 ≡ c → Occurs (c ∷ []) text at
Occurs-ascii c text at low h same =
    let ascii : get_or text at 0 < 128 = omega arith in
    record {
      behind = drop (at + 1) text;
      stands = drop_more text at 0 h ∙ ap (λ b. b ∷ drop (at + 1) text) same;
      boundary = IsCharBoundary-before_ascii text at h ascii;
    }

-- so where it does not match, it is not
pub Without-unmatched : (c : ℕ) (text : List ℕ) (from end : ℕ) → c < 128 → end ≤ length text → ((other : ℕ) → from ≤ other → other < end → ¬ (Occurs (c ∷ []) text other))
    → Without c (take (end - from) (drop from text))
Without-unmatched c text from end low fits never =
    let part = take (end - from) (drop from text) in
    recursion_from_All (λ x. (x == c) ≡ false) part (All-from_get_or (λ x. (x == c) ≡ false) part 0 (λ i h. ne_eqb (get_or part i 0) c (λ same.
    let sizes : length part ≤ end - from = omega (arith, length-take (end - from) (drop from text)) in
    let whole : length part ≤ length text - from = omega (arith, length-take (end - from) (drop from text), length-drop from text) in
    let inside_part : i < end - from = omega arith in
    let there : get_or part i 0 ≡ get_or text (from + i) 0 = get_or-take (end - from) (drop from text) i 0 inside_part ∙ get_or-drop from text i 0 in
    let low_end : from ≤ from + i = omega arith in
    let high_end : from + i < end = omega arith in
    let in_text : from + i < length text = omega arith in
    never (from + i) low_end high_end (Occurs-ascii c text (from + i) low in_text (sym there ∙ same)))))

-- ---- the parts of a split

IsUtf8-ascii : (c : ℕ) → c < 128 → IsUtf8 (c ∷ [])
IsUtf8-ascii c low = IsUtf8-from_ascii (c ∷ []) (IsAscii-from_all (c ∷ []) (All-from_recursion (λ b. b < 128) (c ∷ []) (low, tt)))

module _ (c : ℕ) (text : List ℕ) (ps : List Piece) (low : c < 128) (utf8 : IsUtf8 text) (of_text : ArePiecesOf text ps) (whole : NoneBroken ps) where
  abbrev is_c : (ℕ × Attributes) → Bool
  is_c x = x.0 == c

  abbrev style_at : ℕ → Attributes
  style_at n = style_after_all plain_attributes (before_place n ps)

  abbrev part_of : (ℕ × ℕ) → List ℕ
  part_of bound = split_part bound.0 bound.1 ps

  abbrev shown_by : List ℕ → List (ℕ × Attributes)
  shown_by part = styled (pieces part)

  each_utf8 : EachUtf8 ps
  each_utf8 = EachUtf8-pieces ps of_text.stand (subst IsUtf8 (sym of_text.joins) utf8)

  part_shown : (a b : ℕ) → a ≤ b → shown_by (split_part a b ps) ≡ styled_from (style_at a) (through_place (b - a) (from_place a ps))
  part_shown a b ordered = styled-split_part text ps (pieces (split_part a b ps)) a b ordered of_text whole (ArePiecesOf-pieces (split_part a b ps))

  abbrev IsShownFrom : ℕ → List ℕ → Type 0
  IsShownFrom from matches =
      map (λ bound. shown_by (part_of bound)) (bounds_between 1 from (length (strip ps)) matches) ≡ slice_split is_c (styled_from (style_at from) (from_place from ps))

  -- the last part
  shown-last : (from : ℕ) → from ≤ length (strip ps) → IsCharBoundary (strip ps) from → AreMatchesFrom (c ∷ []) (strip ps) from [] → IsShownFrom from []
  shown-last from fits boundary never =
      let rest = from_place from ps in
      let size = length (strip ps) - from in
      let same : length (strip ps) ≤ length (strip ps) = omega arith in
      let left : strip rest ≡ drop from (strip ps) = strip-from from ps in
      let all : length (strip rest) ≤ size = omega (arith, ap length left, length-drop from (strip ps)) in
      let without : Without c (strip rest) =
      subst (Without c) (take_rest (strip ps) from ∙ sym left) (Without-unmatched c (strip ps) from (length (strip ps)) low same (λ other late _. never other late)) in
      let shown = Without-styled_from c (style_at from) rest low (EachUtf8-from from ps each_utf8 boundary) without in
      ap (λ part. part ∷ []) (part_shown from (length (strip ps)) fits ∙ ap (styled_from (style_at from)) (through-all size rest all))
      ∙ sym (slice_split_none is_c (styled_from (style_at from) rest) (All-from_recursion (λ x. is_c x ≡ false) (styled_from (style_at from) rest) shown))

  -- a part before a match
  shown-part : (from at : ℕ) (matches : List ℕ) → from ≤ at → at < length (strip ps) → IsCharBoundary (strip ps) from → Occurs (c ∷ []) (strip ps) at
      → ((other : ℕ) → from ≤ other → other < at → ¬ (Occurs (c ∷ []) (strip ps) other)) → IsShownFrom (at + 1) matches → IsShownFrom from (at ∷ matches)
  shown-part from at matches ordered fits boundary occurs never others =
      let rest = from_place from ps in
      let n = at - from in
      let sum : from + n ≡ at = omega arith in
      let more : from + (n + 1) ≡ at + 1 = omega arith in
      let up_to : at ≤ length (strip ps) = omega arith in
      let left : strip rest ≡ drop from (strip ps) = strip-from from ps in
      let each : EachUtf8 rest = EachUtf8-from from ps each_utf8 boundary in
      let stands : drop n (strip rest) ≡ c ∷ occurs.behind = ap (drop n) left ∙ drop-drop n from (strip ps) ∙ ap (λ m. drop m (strip ps)) sum ∙ occurs.stands in
      let end : IsCharBoundary (strip rest) n = subst (λ bytes. IsCharBoundary bytes n) (sym left) (boundary-from (strip ps) from at ordered occurs.boundary) in
      let front = styled_from (style_at from) (through_place n rest) in
      let without : Without c (strip (through_place n rest)) =
      subst (Without c) (sym (strip-through n rest ∙ ap (take n) left)) (Without-unmatched c (strip ps) from at low up_to never) in
      let shown = Without-styled_from c (style_at from) (through_place n rest) low (EachUtf8-through n rest each end) without in
      let style_there = style_after_all (style_at from) (through_place n rest) in
      let known : style_after_all (style_at from) (before_place (n + 1) rest) ≡ style_at (at + 1) = sym (style-before_sum from (n + 1) plain_attributes ps) ∙ ap style_at more in
      let found : from_place (n + 1) rest ≡ from_place (at + 1) ps = sym (from-from from (n + 1) ps) ∙ ap (λ m. from_place m ps) more in
      let behind = styled_from (style_at (at + 1)) (from_place (at + 1) ps) in
      let whole_rest : styled_from (style_at from) rest ≡ front ++ (c, style_there) ∷ behind =
      styled-cut c n (style_at from) rest occurs.behind low each stands
      ∙ ap (λ s. front ++ (c, style_there) ∷ styled_from s (from_place (n + 1) rest)) known
      ∙ ap (λ qs. front ++ (c, style_there) ∷ styled_from (style_at (at + 1)) qs) found in
      ap (λ part. part ∷ map (λ bound. shown_by (part_of bound)) (bounds_between 1 (at + 1) (length (strip ps)) matches)) (part_shown from at ordered)
      ∙ ap (λ parts. front ∷ parts) others
      ∙ sym (slice_split_at is_c front (c, style_there) behind (All-from_recursion (λ x. is_c x ≡ false) front shown) (eq-eqb c c refl))
      ∙ ap (slice_split is_c) (sym whole_rest)

  shown-from : (from : ℕ) (matches : List ℕ) → from ≤ length (strip ps) → IsCharBoundary (strip ps) from → AreMatchesFrom (c ∷ []) (strip ps) from matches → IsShownFrom from matches
  shown-from from [] fits boundary are = shown-last from fits boundary are
  shown-from from (at ∷ others) fits boundary are =
      let ordered : from ≤ at = are.0.not_before in
      let next : at + 1 ≤ length (strip ps) = Occurs-fits (c ∷ []) (strip ps) at are.0.occurs in
      let within : at < length (strip ps) = omega arith in
      let behind : IsCharBoundary (strip ps) (at + 1) = boundary-behind_match (c ∷ []) (strip ps) at (IsUtf8-ascii c low) (IsUtf8-strip ps each_utf8) are.0.occurs in
      shown-part from at others ordered within boundary are.0.occurs are.0.first (shown-from (at + 1) others next behind are.1)

  -- the parts show the characters of the text with their styles, cut at the character
  pub shown-parts : (matches : List ℕ) → AreMatches (c ∷ []) (strip ps) matches
      → map (λ part. styled (pieces part)) (styled_parts ps (split_bounds (c ∷ []) (strip ps) matches)) ≡ slice_split (λ x. x.0 == c) (styled ps)
  shown-parts matches are =
      let start : 0 ≤ length (strip ps) = omega arith in
      map-map shown_by part_of (split_bounds (c ∷ []) (strip ps) matches)
      ∙ shown-from 0 matches start (IsCharBoundary-start (strip ps) (IsUtf8-strip ps each_utf8)) are
      ∙ ap (λ qs. slice_split is_c (styled_from (style_after_all plain_attributes qs) (from_place 0 ps))) (before-none ps)
      ∙ ap (λ qs. slice_split is_c (styled qs)) (from-none ps)
