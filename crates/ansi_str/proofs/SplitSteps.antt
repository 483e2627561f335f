-- The parts of a split at places, one after the other.
use Rattle.std.proofs.Common.{◌≡◌, ℕ, suc, ◌+◌, ◌-◌, ◌<◌, ◌≤◌, ◌==◌, nat_lt, Bool, true, false, All, List, [], ◌∷◌, ◌++◌, length, get_or, take, drop, min, length-append, eqb-true, refl, ap, sym, subst, ◌∙◌, append_assoc, arith, if◌then◌else◌}
use Rattle.std.specs.List.Sorted.{IsStrictlyIncreasing}
use Rattle.std.specs.Str.{IsCharBoundary}
use Rattle.std.proofs.lemmas.Bool.Decides.{nat_tests}
use Rattle.std.proofs.lemmas.List.{length-drop, drop-drop}
use Rattle.std.proofs.lemmas.List.Elements.{All-head, All-tail}
use Rattle.ansi_scan.specs.Sequences.{Piece, joined, EachStands, ArePiecesOf}
use Rattle.ansi_scan.specs.Joining.{is_text_kind}
use Rattle.ansi_scan.specs.Pieces.{pieces}
use Rattle.ansi_scan.specs.Attributes.{Attributes, plain_attributes}
use Rattle.ansi_scan.specs.StartsAndEnds.{start_bytes, end_bytes}
use Rattle.ansi_scan.proofs.Existence.{ArePiecesOf-pieces}
use Rattle.ansi_scan.proofs.Uniqueness.{ArePiecesOf-unique, Stands-some}
use Rattle.ansi_str.specs.StyledText.{text_of, strip, style_after, style_after_all}
use Rattle.ansi_str.specs.Parts.{from_place, before_place, through_place, dressed, IsGoodBound}
use Rattle.ansi_str.specs.Walking.{from_text}
use Rattle.ansi_str.specs.Cuts.{AreSplitPlaces, parts_behind, parts_at}
use Rattle.ansi_str_search.proofs.Parts.{text_of-text, text_of-sequence}
use Rattle.ansi_str_search.proofs.PiecesAtPlaces.{strip-from, from-none, from-past, through-inside, through-past, EachStands-from}
use Rattle.ansi_str_search.proofs.PlaceSums.{from-from, through-all, style-through_split}
use Rattle.ansi_str_search.proofs.Rests.{strip-fits}
use Rattle.ansi_str.proofs.CutParts.{style-cut, first_part-slice, later_part-slice}
use Rattle.ansi_str.proofs.CutSteps.{slice-bytes, good-drop}

-- ---- the pieces from the first text on

by_kind : (p : Piece) (ps : List Piece) (text : Bool) → is_text_kind p.kind ≡ text → from_text (p ∷ ps) ≡ if text then p ∷ ps else from_text ps
by_kind p ps text e = ap (λ t. if t then p ∷ ps else from_text ps) e

pub EachStands-from_text : (ps : List Piece) → EachStands ps → EachStands (from_text ps)
EachStands-from_text [] each = tt
EachStands-from_text (p ∷ ps) each = by (is_text_kind p.kind) refl (EachStands-from_text ps each.1)
  where
    by : (text : Bool) → is_text_kind p.kind ≡ text → EachStands (from_text ps) → EachStands (from_text (p ∷ ps))
    by true e others = subst EachStands (sym (by_kind p ps true e)) each
    by false e others = subst EachStands (sym (by_kind p ps false e)) others

pub strip-from_text : (ps : List Piece) → strip (from_text ps) ≡ strip ps
strip-from_text [] = refl
strip-from_text (p ∷ ps) = by (is_text_kind p.kind) refl (strip-from_text ps)
  where
    by : (text : Bool) → is_text_kind p.kind ≡ text → strip (from_text ps) ≡ strip ps → strip (from_text (p ∷ ps)) ≡ strip (p ∷ ps)
    by true e others = ap strip (by_kind p ps true e)
    by false e others = ap strip (by_kind p ps false e) ∙ others ∙ ap (λ bytes. bytes ++ strip ps) (sym (text_of-sequence p e))

-- where no text is left, nothing is
no_text : (ps : List Piece) → EachStands ps → length (strip ps) ≤ 0 → from_text ps ≡ []
no_text [] each none = refl
no_text (p ∷ ps) each none = by (is_text_kind p.kind) refl (λ left. no_text ps each.1 left)
  where
    by : (text : Bool) → is_text_kind p.kind ≡ text → (length (strip ps) ≤ 0 → from_text ps ≡ []) → from_text (p ∷ ps) ≡ []
    by true e others =
        let some = Stands-some p.kind p.bytes ps each.0 in
        let size : length (text_of p ++ strip ps) ≡ length (p.bytes ++ strip ps) = ap (λ bytes. length (bytes ++ strip ps)) (text_of-text p e) in
        absurd (omega (arith, some, size, none, length-append p.bytes (strip ps)))
    by false e others =
        let size : length (text_of p ++ strip ps) ≡ length (strip ps) = ap (λ bytes. length (bytes ++ strip ps)) (text_of-sequence p e) in
        by_kind p ps false e ∙ others (omega (arith, size, none))

-- after m bytes, the sequences that come first do not count
from_text-behind : (m : ℕ) (ps : List Piece) → from_text (from_place m (from_text ps)) ≡ from_text (from_place m ps)
from_text-behind m [] = refl
from_text-behind m (p ∷ ps) = by (is_text_kind p.kind) (m == 0) refl refl (from_text-behind m ps)
  where
    by : (text is_zero : Bool) → is_text_kind p.kind ≡ text → (m == 0) ≡ is_zero → from_text (from_place m (from_text ps)) ≡ from_text (from_place m ps) → from_text (from_place m (from_text (p ∷ ps))) ≡ from_text (from_place m (p ∷ ps))
    by true is_zero e f others = ap (λ found. from_text (from_place m found)) (by_kind p ps true e)
    by false true e f others =
        let gone : m ≡ 0 = eqb-true m 0 f in
        ap (λ found. from_text (from_place m found)) (by_kind p ps false e) ∙ others
        ∙ ap (λ n. from_text (from_place n ps)) gone ∙ ap from_text (from-none ps)
        ∙ sym (by_kind p ps false e) ∙ ap (λ n. from_text (from_place n (p ∷ ps))) (sym gone)
    by false false e f others =
        let some : 0 < m = grind (arith, nat_tests) in
        let long : length (text_of p) ≤ m = omega (arith, ap length (text_of-sequence p e)) in
        let same : m ≡ m - length (text_of p) = omega (arith, ap length (text_of-sequence p e)) in
        ap (λ found. from_text (from_place m found)) (by_kind p ps false e) ∙ others
        ∙ ap (λ n. from_text (from_place n ps)) same ∙ ap from_text (sym (from-past m p ps some long))

-- the style through m bytes, in two steps: the sequences that come first, and what comes after them
style-first_text : (m : ℕ) (style : Attributes) (ps : List Piece) → EachStands ps
    → style_after_all (style_after_all style (through_place 0 ps)) (through_place m (from_text ps)) ≡ style_after_all style (through_place m ps)
style-first_text m style [] each = refl
style-first_text m style (p ∷ ps) each = by (is_text_kind p.kind) refl (style-first_text m (style_after style p) ps each.1)
  where
    by : (text : Bool) → is_text_kind p.kind ≡ text
        → style_after_all (style_after_all (style_after style p) (through_place 0 ps)) (through_place m (from_text ps)) ≡ style_after_all (style_after style p) (through_place m ps)
        → style_after_all (style_after_all style (through_place 0 (p ∷ ps))) (through_place m (from_text (p ∷ ps))) ≡ style_after_all style (through_place m (p ∷ ps))
    by true e others =
        let some : 0 < length (text_of p) = omega (arith, ap length (text_of-text p e), Stands-some p.kind p.bytes ps each.0) in
        ap (λ found. style_after_all (style_after_all style found) (through_place m (from_text (p ∷ ps)))) (through-inside 0 p ps some)
        ∙ ap (λ found. style_after_all style (through_place m found)) (by_kind p ps true e)
    by false e others =
        let none : length (text_of p) ≡ 0 = ap length (text_of-sequence p e) in
        let over : length (text_of p) ≤ 0 = omega (arith, none) in
        let long : length (text_of p) ≤ m = omega (arith, none) in
        let front : 0 - length (text_of p) ≡ 0 = omega (arith, none) in
        let same : m ≡ m - length (text_of p) = omega (arith, none) in
        ap (λ found. style_after_all (style_after_all style found) (through_place m (from_text (p ∷ ps)))) (through-past 0 p ps over)
        ∙ ap (λ n. style_after_all (style_after_all (style_after style p) (through_place n ps)) (through_place m (from_text (p ∷ ps)))) front
        ∙ ap (λ found. style_after_all (style_after_all (style_after style p) (through_place 0 ps)) (through_place m found)) (by_kind p ps false e)
        ∙ others
        ∙ ap (λ n. style_after_all (style_after style p) (through_place n ps)) same
        ∙ ap (style_after_all style) (sym (through-past m p ps long))

-- ---- from a place to a later one

module _ (a b : ℕ) (ps : List Piece) (order : a ≤ b) (each : EachStands ps) where
  abbrev here : List Piece
  here = from_text (from_place a ps)

  pub rest-between : from_text (from_place (b - a) here) ≡ from_text (from_place b ps)
  rest-between =
      let sum : a + (b - a) ≡ b = omega arith in
      from_text-behind (b - a) (from_place a ps) ∙ ap from_text (sym (from-from a (b - a) ps)) ∙ ap (λ n. from_text (from_place n ps)) sum

  pub style-between : (style : Attributes) → style_after_all (style_after_all style (through_place a ps)) (through_place (b - a) here) ≡ style_after_all style (through_place b ps)
  style-between style =
      ap (λ s. style_after_all s (through_place (b - a) here)) (style-through_split a style ps)
      ∙ style-first_text (b - a) (style_after_all style (before_place a ps)) (from_place a ps) (EachStands-from a ps each)
      ∙ sym (style-cut a b style ps order)

-- ---- the parts that are left

-- places that do not fall and are boundaries, the first not before `from`
abbrev pub AreSplitPlacesFrom : List ℕ → ℕ → List ℕ → Type 0
AreSplitPlacesFrom text from [] = Unit {0}
AreSplitPlacesFrom text from (at ∷ places) = (from ≤ at) × IsCharBoundary text at × AreSplitPlacesFrom text at places

-- the parts of pieces from `from` on, before which this style is known
abbrev pub parts_from : Attributes → List Piece → ℕ → List ℕ → List (List ℕ)
parts_from style ps from [] = dressed style ps ∷ []
parts_from style ps from (at ∷ places) =
    dressed style (through_place (at - from) ps)
    ∷ parts_from (style_after_all style (through_place (at - from) ps)) (from_text (from_place (at - from) ps)) at places

pub parts_from-behind : (a : ℕ) (places : List ℕ) (ps : List Piece) → EachStands ps → a ≤ length (strip ps) → AreSplitPlacesFrom (strip ps) a places
    → parts_from (style_after_all plain_attributes (through_place a ps)) (from_text (from_place a ps)) a places ≡ parts_behind a places ps
parts_from-behind a [] ps each fits can_split =
    let here = from_text (from_place a ps) in
    let size : length (strip here) ≡ length (strip ps) - a = ap length (strip-from_text (from_place a ps) ∙ strip-from a ps) ∙ length-drop a (strip ps) in
    let over : length (strip here) ≤ length (strip ps) - a = omega (arith, size) in
    ap (λ found. dressed (style_after_all plain_attributes (through_place a ps)) found ∷ []) (sym (through-all (length (strip ps) - a) here over))
    ∙ ap (λ bytes. bytes ∷ []) (sym (later_part-slice a (length (strip ps)) ps fits each))
parts_from-behind a (b ∷ places) ps each fits can_split =
    let style = style_after_all plain_attributes (through_place a ps) in
    let here = from_text (from_place a ps) in
    let first = dressed style (through_place (b - a) here) in
    ap (λ s. first ∷ parts_from s (from_text (from_place (b - a) here)) b places) (style-between a b ps can_split.0 each plain_attributes)
    ∙ ap (λ found. first ∷ parts_from (style_after_all plain_attributes (through_place b ps)) found b places) (rest-between a b ps can_split.0 each)
    ∙ ap (λ others. first ∷ others) (parts_from-behind b places ps each can_split.1.0 can_split.2)
    ∙ ap (λ bytes. bytes ∷ parts_behind b places ps) (sym (later_part-slice a b ps can_split.0 each))

-- all parts are those from the start
pub parts_from-all : (places : List ℕ) (ps : List Piece) → EachStands ps → AreSplitPlacesFrom (strip ps) 0 places → parts_from plain_attributes ps 0 places ≡ parts_at places ps
parts_from-all [] ps each can_split =
    let all : length (strip ps) ≤ length (strip ps) = omega arith in
    ap (λ found. dressed plain_attributes found ∷ []) (sym (through-all (length (strip ps)) ps all)) ∙ ap (λ bytes. bytes ∷ []) (sym (first_part-slice (length (strip ps)) ps))
parts_from-all (b ∷ places) ps each can_split =
    let same : b - 0 ≡ b = omega arith in
    ap (λ n. dressed plain_attributes (through_place n ps) ∷ parts_from (style_after_all plain_attributes (through_place n ps)) (from_text (from_place n ps)) b places) same
    ∙ ap (λ others. dressed plain_attributes (through_place b ps) ∷ others) (parts_from-behind b places ps each can_split.1.0 can_split.2)
    ∙ ap (λ bytes. bytes ∷ parts_behind b places ps) (sym (first_part-slice b ps))

-- ---- places that rise

pub rise-tail : (at : ℕ) (places : List ℕ) → IsStrictlyIncreasing (at ∷ places) → IsStrictlyIncreasing places
rise-tail at places rise k less =
    let fits : suc k + 1 < suc (length places) = omega (arith, less) in
    let next : suc k + 1 ≡ suc (k + 1) = omega arith in
    subst (λ m. get_or places k 0 < get_or (at ∷ places) m 0) next (rise (suc k) fits)

rise-head : (at next : ℕ) (places : List ℕ) → IsStrictlyIncreasing (at ∷ next ∷ places) → at ≤ next
rise-head at next places rise =
    let fits : 0 + 1 < suc (suc (length places)) = omega arith in
    let less : at < next = rise 0 fits in
    omega (arith, less)

places-rise : (text : List ℕ) (from : ℕ) (places : List ℕ) → ((at : ℕ) (others : List ℕ) → places ≡ at ∷ others → from ≤ at) → IsStrictlyIncreasing places → All (IsCharBoundary text) places → AreSplitPlacesFrom text from places
places-rise text from [] low rise all = tt
places-rise text from (at ∷ places) low rise all = (
  low at places refl,
  All-head (IsCharBoundary text) at places all,
  places-rise text at places (λ next others same. rise-head at next others (subst (λ found. IsStrictlyIncreasing (at ∷ found)) same rise))
      (rise-tail at places rise) (All-tail (IsCharBoundary text) at places all),
)

pub AreSplitPlacesFrom-all : (text places : List ℕ) → AreSplitPlaces text places → AreSplitPlacesFrom text 0 places
AreSplitPlacesFrom-all text places can_split = places-rise text 0 places (λ at others same. omega arith) can_split.rise can_split.boundaries

-- ---- a place past the end is the end

module _ (ps : List Piece) (each : EachStands ps) (mid : ℕ) where
  abbrev end : ℕ
  end = length (strip ps)

  nothing-past : (n : ℕ) → end ≤ n → from_text (from_place n ps) ≡ []
  nothing-past n over =
      let none : length (strip (from_place n ps)) ≤ 0 = omega (arith, ap length (strip-from n ps), length-drop n (strip ps), over) in
      no_text (from_place n ps) (EachStands-from n ps each) none

  same_place : (is_past : Bool) → nat_lt end mid ≡ is_past → (through_place (min mid end) ps ≡ through_place mid ps) × (from_text (from_place (min mid end) ps) ≡ from_text (from_place mid ps))
  same_place false e = let same : min mid end ≡ mid = grind (arith, nat_tests) in (ap (λ n. through_place n ps) same, ap (λ n. from_text (from_place n ps)) same)
  same_place true e =
      let past : end ≤ mid = grind (arith, nat_tests) in
      let least : end ≤ min mid end = omega arith in
      (through-all (min mid end) ps least ∙ sym (through-all mid ps past), nothing-past (min mid end) least ∙ sym (nothing-past mid past))

  -- the two parts of a split at one place
  pub parts_at-one : IsGoodBound (strip ps) mid → parts_at (min mid end ∷ []) ps
      ≡ dressed plain_attributes (through_place mid ps) ∷ dressed (style_after_all plain_attributes (through_place mid ps)) (from_text (from_place mid ps)) ∷ []
  parts_at-one good =
      let fits : min mid end ≤ end = omega arith in
      let low : 0 ≤ min mid end = omega arith in
      let places = same_place (nat_lt end mid) refl in
      ap (λ bytes. bytes ∷ parts_behind (min mid end) [] ps) (first_part-slice (min mid end) ps)
      ∙ ap (λ others. dressed plain_attributes (through_place (min mid end) ps) ∷ others) (sym (parts_from-behind (min mid end) [] ps each fits tt))
      ∙ ap (λ found. dressed plain_attributes found ∷ dressed (style_after_all plain_attributes found) (from_text (from_place (min mid end) ps)) ∷ []) places.0
      ∙ ap (λ found. dressed plain_attributes (through_place mid ps) ∷ dressed (style_after_all plain_attributes (through_place mid ps)) found ∷ []) places.1

-- ---- a part, by what is known of the places where it begins and ends

pub part-dressed : (rest : List ℕ) (style : Attributes) (n : ℕ) (end : List ℕ) (end_style : Attributes) → rest ≡ joined (through_place n (pieces rest)) ++ end
    → end_style ≡ style_after_all style (through_place n (pieces rest))
    → start_bytes style ++ (take (length rest - length end) rest ++ end_bytes end_style) ≡ dressed style (through_place n (pieces rest))
part-dressed rest style n end end_style sliced opened =
    ap (λ bytes. start_bytes style ++ (bytes ++ end_bytes end_style)) (slice-bytes rest (joined (through_place n (pieces rest))) end sliced)
    ∙ ap (λ s. start_bytes style ++ (joined (through_place n (pieces rest)) ++ end_bytes s)) opened

pub through-rest : (rest : List ℕ) → through_place (length rest) (pieces rest) ≡ pieces rest
through-rest rest = through-all (length rest) (pieces rest) (strip-fits rest)

-- ---- a walk over the places

-- the parts so far and those that are left are all parts
pub record Walked (text places : List ℕ) (parts : List (List ℕ)) (rest : List ℕ) (style : Attributes) (from : ℕ) (left : List ℕ) : Type 0 where
  pub all_parts : parts ++ parts_from style (pieces rest) from left ≡ parts_from plain_attributes (pieces text) 0 places
  pub shown : strip (pieces rest) ≡ drop from (strip (pieces text))
  pub can_split : AreSplitPlacesFrom (strip (pieces text)) from left

pub Walked-start : (text places rest : List ℕ) (style : Attributes) → AreSplitPlaces (strip (pieces text)) places → rest ≡ text → style ≡ plain_attributes → Walked text places [] rest style 0 places
Walked-start text places rest style can_split same plain = record {
  all_parts = ap (λ s. parts_from s (pieces rest) 0 places) plain ∙ ap (λ t. parts_from plain_attributes (pieces t) 0 places) same;
  shown = ap (λ t. strip (pieces t)) same;
  can_split = AreSplitPlacesFrom-all (strip (pieces text)) places can_split;
}

module _ (text places : List ℕ) (parts : List (List ℕ)) (rest : List ℕ) (style : Attributes) (from at : ℕ) (left : List ℕ) (walked : Walked text places parts rest style from (at ∷ left)) where
  pub walked-order : from ≤ at
  walked-order = walked.can_split.0

  pub walked-good : IsGoodBound (strip (pieces rest)) (at - from)
  walked-good = subst (λ bytes. IsGoodBound bytes (at - from)) (sym walked.shown) (good-drop (strip (pieces text)) from at walked.can_split.0 (λ _. walked.can_split.1))

  pub Walked-next : (part end : List ℕ) (end_style : Attributes) → part ≡ dressed style (through_place (at - from) (pieces rest)) → pieces end ≡ from_text (from_place (at - from) (pieces rest))
      → end_style ≡ style_after_all style (through_place (at - from) (pieces rest)) → Walked text places (parts ++ part ∷ []) end end_style at left
  Walked-next part end end_style is_part there opened =
      let n = at - from in
      let sum : from + n ≡ at = omega (arith, walked.can_split.0) in
      record {
        all_parts =
            append_assoc parts (part ∷ []) (parts_from end_style (pieces end) at left)
            ∙ ap (λ bytes. parts ++ bytes ∷ parts_from end_style (pieces end) at left) is_part
            ∙ ap (λ s. parts ++ dressed style (through_place n (pieces rest)) ∷ parts_from s (pieces end) at left) opened
            ∙ ap (λ ps. parts ++ dressed style (through_place n (pieces rest)) ∷ parts_from (style_after_all style (through_place n (pieces rest))) ps at left) there
            ∙ walked.all_parts;
        shown =
            ap strip there ∙ strip-from_text (from_place n (pieces rest)) ∙ strip-from n (pieces rest) ∙ ap (drop n) walked.shown
            ∙ drop-drop n from (strip (pieces text)) ∙ ap (λ m. drop m (strip (pieces text))) sum;
        can_split = walked.can_split.2;
      }

-- after the last place the part is all that is left
pub Walked-end : (text places : List ℕ) (parts : List (List ℕ)) (rest : List ℕ) (style : Attributes) (from : ℕ) → AreSplitPlaces (strip (pieces text)) places → Walked text places parts rest style from []
    → (part : List ℕ) → part ≡ dressed style (through_place (length rest) (pieces rest)) → (ps : List Piece) → ArePiecesOf text ps → parts ++ part ∷ [] ≡ parts_at places ps
Walked-end text places parts rest style from can_split walked part is_part ps of_text =
    ap (λ bytes. parts ++ bytes ∷ []) (is_part ∙ ap (dressed style) (through-rest rest)) ∙ walked.all_parts
    ∙ parts_from-all places (pieces text) (ArePiecesOf-pieces text).stand (AreSplitPlacesFrom-all (strip (pieces text)) places can_split)
    ∙ ap (parts_at places) (ArePiecesOf-unique text (pieces text) ps (ArePiecesOf-pieces text) of_text)
