-- What edits leave of a whole text shows a slice of its styled characters.
use Rattle.std.proofs.Common.{◌≡◌, ℕ, zero, suc, ◌+◌, ◌-◌, ◌<◌, ◌≤◌, min, nat_le, Bool, true, false, All, List, [], ◌∷◌, ◌++◌, length, map, take, drop, slice_range, Some, refl, ap, sym, subst, ◌∙◌, arith, length-append, append_assoc, append-nil}
use Rattle.std.specs.Prelude.{chars, slice_get}
use Rattle.std.specs.List.{AllByRecursion}
use Rattle.std.specs.Str.{IsUtf8, IsCharBoundary}
use Rattle.std.proofs.lemmas.Bool.Decides.{nat_tests}
use Rattle.std.proofs.lemmas.List.{take_all, take-append-drop, length-drop}
use Rattle.std.proofs.lemmas.List.Elements.{All-head, All-tail}
use Rattle.std.proofs.lemmas.Str.{IsCharBoundary-start, IsCharBoundary-end}
use Rattle.ansi_scan.specs.Sequences.{Piece, ArePiecesOf, NoneBroken}
use Rattle.ansi_scan.specs.Pieces.{pieces}
use Rattle.ansi_scan.specs.Attributes.{Attributes, plain_attributes}
use Rattle.ansi_scan.proofs.Existence.{ArePiecesOf-pieces}
use Rattle.ansi_scan.proofs.Uniqueness.{ArePiecesOf-unique}
use Rattle.ansi_str.specs.declared.edits.Edit.{Edit}
use Rattle.ansi_str.specs.declared.edits.Edit.TheVariants.{Cut, Left, Right, Part, Prefix, Suffix, Trim}
use Rattle.ansi_str.specs.StyledText.{text_of, strip, style_after_all, styled_from, styled}
use Rattle.ansi_str.specs.Parts.{from_place, before_place, through_place, split_part}
use Rattle.ansi_str.specs.Cuts.{AreGoodBounds, cut_part, later_part}
use Rattle.ansi_str.specs.Matches.{AreParts, split_bounds, styled_slice}
use Rattle.ansi_str.specs.Edits.{LeavesOf, TakesTo, TakeInTurn, ShowsItsSlice, IsInUtf8, StandAmong}
use Rattle.ansi_str_search.proofs.PiecesAtPlaces.{none, inside, past, reach, from-past, strip-from}
use Rattle.ansi_str_search.proofs.PlaceSums.{through-all}
use Rattle.ansi_str_search.proofs.CharSlices.{styled-between, styled-slice}
use Rattle.ansi_str_search.proofs.Utf8.{EachUtf8, EachUtf8-pieces, IsUtf8-strip, IsUtf8-split_part}
use Rattle.ansi_str_search.proofs.FirstPlaces.{ends-boundary}
use Rattle.ansi_str_search.proofs.SplitSlices.{bounds-between_characters}
use Rattle.ansi_str_search.proofs.EmptyPattern.{empty_range}
use Rattle.ansi_str.proofs.WholeSlices.{cut-shows}
use Rattle.ansi_str.proofs.CutSlices.{cut-slice, later_part-slice_shown}
use Rattle.ansi_str.proofs.KeptSlices.{kept_slice}
use Rattle.ansi_str.proofs.Trims.{begins-cut, by_places}
use Rattle.ansi_str.proofs.WholeEdits.{LeavesOf-whole}
use Rattle.ansi_str.proofs.EditUtf8.{boundary-within, boundary-min, IsUtf8-taken, IsUtf8-cut_part, IsUtf8-later_part, trimmed-first, trimmed-last}

-- ---- the part of a split with a number

-- the element that a function takes to the one of this number
record IsPicked {A B : Type 0} (f : A → B) (xs : List A) (i : ℕ) (y : B) : Type 0 where
  from : A
  there : slice_get xs i ≡ Some from
  same : f from ≡ y

picked-some : {A B : Type 0} (f : A → B) (xs : List A) (i : ℕ) (y : B) → slice_get (map f xs) i ≡ Some y → IsPicked f xs i y
picked-some f [] i y e = cc e
picked-some f (x ∷ xs) zero y e = record { from = x; there = refl; same = cc e }
picked-some f (x ∷ xs) (suc i) y e = let rest = picked-some f xs i y e in record { from = rest.from; there = rest.there; same = rest.same }

picked-holds : {A : Type 0} (P : A → Type 0) (xs : List A) (i : ℕ) (x : A) → AllByRecursion P xs → slice_get xs i ≡ Some x → P x
picked-holds P [] i x all e = cc e
picked-holds P (y ∷ ys) zero x all e = let same : y ≡ x = cc e in subst P same all.0
picked-holds P (y ∷ ys) (suc i) x all e = picked-holds P ys i x all.1 e

-- ---- a cut that may begin or end after the text

from-beyond : (n : ℕ) (ps : List Piece) → length (strip ps) < n → from_place n ps ≡ []
from-beyond n [] h = refl
from-beyond n (p ∷ ps) h =
    let size : length (strip (p ∷ ps)) ≡ length (text_of p) + length (strip ps) = length-append (text_of p) (strip ps) in
    elim (reach n p) [
      | none e ↦ absurd (omega arith)
      | inside some h2 ↦ absurd (omega arith)
      | past some h2 ↦ from-past n p ps some h2 ∙ from-beyond (n - length (text_of p)) ps (omega arith)
    ]

module _ (text : List ℕ) (ps : List Piece) (utf8 : IsUtf8 text) (of_text : ArePiecesOf text ps) where
  abbrev end : ℕ
  end = length (strip ps)

  each_utf8 : EachUtf8 ps
  each_utf8 = EachUtf8-pieces ps of_text.stand (subst IsUtf8 (sym of_text.joins) utf8)

  strip_utf8 : IsUtf8 (strip ps)
  strip_utf8 = IsUtf8-strip ps each_utf8

  start_cut : IsCharBoundary (strip ps) 0
  start_cut = IsCharBoundary-start (strip ps) strip_utf8

  end_cut : IsCharBoundary (strip ps) end
  end_cut = IsCharBoundary-end (strip ps)

  -- the bounds of a part of a split
  abbrev IsBound : (ℕ × ℕ) → Type 0
  IsBound bound = (bound.0 ≤ bound.1) × IsCharBoundary (strip ps) bound.0 × IsCharBoundary (strip ps) bound.1

  abbrev part_of : (ℕ × ℕ) → List ℕ
  part_of bound = split_part bound.0 bound.1 ps

  module _ (pattern : List ℕ) (pattern_utf8 : IsUtf8 pattern) (index : ℕ) (parts : List (List ℕ)) (left : List ℕ) (are : AreParts pattern ps parts) (found : slice_get parts index ≡ Some left) where
    abbrev bounds : List (ℕ × ℕ)
    bounds = split_bounds pattern (strip ps) are.matches

    picked : IsPicked part_of bounds index left
    picked = picked-some part_of bounds index left (subst (λ all. slice_get all index ≡ Some left) are.are_parts found)

    picked_bound : IsBound picked.from
    picked_bound =
        picked-holds IsBound bounds index picked.from
        (bounds-between_characters IsBound pattern (strip ps) are.matches strip_utf8 pattern_utf8 are.are_matches (λ a b order first last. (order, first, last)))
        picked.there

  -- a suffix ends the text
  module _ (suffix : List ℕ) (suffix_utf8 : IsUtf8 suffix) (before : List ℕ) (ends : strip ps ≡ before ++ suffix) where
    suffix_fits : end - length suffix + length suffix ≡ end
    suffix_fits =
        let size : end ≡ length before + length suffix = ap length ends ∙ length-append before suffix in
        omega arith

    suffix_cut : IsCharBoundary (strip ps) (end - length suffix)
    suffix_cut = ends-boundary suffix (strip ps) (end - length suffix) suffix_fits suffix_utf8 (before, ends)

  -- ---- what is left is in UTF-8

  LeavesOf-utf8 : (edit : Edit) (left : List ℕ) → IsInUtf8 edit → LeavesOf edit ps left → IsUtf8 left
  LeavesOf-utf8 (Cut start stop) left in_utf8 leaves =
      subst IsUtf8 (sym leaves.1) (IsUtf8-cut_part start stop ps each_utf8 leaves.0.ordered leaves.0.start_good leaves.0.end_good)
  LeavesOf-utf8 (Left mid) left in_utf8 leaves =
      let at = min mid end in
      let same : cut_part 0 at ps ≡ left = cc leaves.1 in
      subst IsUtf8 same (IsUtf8-cut_part 0 at ps each_utf8 (omega arith) (λ _. start_cut) (λ _. boundary-min (strip ps) mid leaves.0))
  LeavesOf-utf8 (Right mid) left in_utf8 leaves =
      let at = min mid end in
      let order : at ≤ end = omega arith in
      let same : later_part at end ps ≡ left = cc leaves.1 in
      subst IsUtf8 same (IsUtf8-later_part at end ps each_utf8 order (λ _. boundary-min (strip ps) mid leaves.0) (λ _. end_cut))
  LeavesOf-utf8 (Part pattern index) left in_utf8 leaves =
      let one = picked pattern.now in_utf8 index leaves.0 left leaves.1 leaves.2 in
      let bound = picked_bound pattern.now in_utf8 index leaves.0 left leaves.1 leaves.2 in
      subst IsUtf8 one.same (IsUtf8-split_part text ps one.from.0 one.from.1 bound.0 utf8 of_text bound.1 bound.2)
  LeavesOf-utf8 (Prefix prefix) left in_utf8 leaves =
      let first = begins-cut prefix.now (strip ps) in_utf8 strip_utf8 leaves.0 in
      subst IsUtf8 (sym leaves.1) (IsUtf8-taken (λ _. true) (length prefix.now) end ps each_utf8 first.0 (λ _. first) (λ _. end_cut))
  LeavesOf-utf8 (Suffix suffix) left in_utf8 leaves =
      subst IsUtf8 (sym leaves.1) (IsUtf8-taken (λ _. true) 0 (end - length suffix.now) ps each_utf8 (omega arith) (λ _. start_cut) (λ _. suffix_cut suffix.now in_utf8 leaves.0.0 leaves.0.1))
  LeavesOf-utf8 Trim left in_utf8 (a, b, at, same) =
      subst IsUtf8 (sym same) (IsUtf8-taken (λ _. true) a b ps each_utf8 (by_places (strip ps) a b at).ordered (λ _. trimmed-first (strip ps) a b strip_utf8 at) (λ _. trimmed-last (strip ps) a b strip_utf8 at))

  -- ---- what is left shows a slice

  module _ (whole : NoneBroken ps) where
    cut-within : (a b : ℕ) (qs : List Piece) (begun ended : Bool) → nat_le a end ≡ begun → nat_le b end ≡ ended → AreGoodBounds (strip ps) a (Some b) → ArePiecesOf (cut_part a b ps) qs → styled qs ≡ styled_slice ps a b
    cut-within a b qs true true e f good of_cut =
        let fits : a ≤ end = grind (arith, nat_tests) in
        let last_fits : b ≤ end = grind (arith, nat_tests) in
        cut-slice text ps qs a b good.ordered utf8 of_text whole (boundary-within (strip ps) a fits good.start_good) (boundary-within (strip ps) b last_fits good.end_good) of_cut
    cut-within a b qs true false e f good of_cut =
        let fits : a ≤ end = grind (arith, nat_tests) in
        let over : end < b = grind (arith, nat_tests) in
        let rest = from_place a ps in
        let known = style_after_all plain_attributes (before_place a ps) in
        let size : length (strip rest) ≡ end - a = ap length (strip-from a ps) ∙ length-drop a (strip ps) in
        let all : length (strip rest) ≤ b - a = omega arith in
        let all_left : length (strip rest) ≤ end - a = omega arith in
        let same : take end (strip ps) ≡ take b (strip ps) = take_all end (strip ps) (omega arith) ∙ sym (take_all b (strip ps) (omega arith)) in
        cut-shows text ps qs a b good.ordered of_text whole of_cut
        ∙ ap (styled_from known) (through-all (b - a) rest all ∙ sym (through-all (end - a) rest all_left))
        ∙ sym (styled-between ps a end fits each_utf8 (boundary-within (strip ps) a fits good.start_good) end_cut)
        ∙ ap (λ bytes. slice_range (styled ps) (length (chars (take a (strip ps)))) (length (chars bytes))) same
    cut-within a b qs false ended e f good of_cut =
        let order = good.ordered in
        let over : end < a = grind (arith, nat_tests) in
        let same : take a (strip ps) ≡ take b (strip ps) = take_all a (strip ps) (omega arith) ∙ sym (take_all b (strip ps) (omega arith)) in
        cut-shows text ps qs a b good.ordered of_text whole of_cut
        ∙ ap (λ found. styled_from (style_after_all plain_attributes (before_place a ps)) (through_place (b - a) found)) (from-beyond a ps over)
        ∙ sym (empty_range (length (chars (take a (strip ps)))) (styled ps))
        ∙ ap (λ bytes. slice_range (styled ps) (length (chars (take a (strip ps)))) (length (chars bytes))) same

    LeavesOf-shows : (edit : Edit) (left : List ℕ) (qs : List Piece) → IsInUtf8 edit → LeavesOf edit ps left → ArePiecesOf left qs → ShowsItsSlice edit ps qs
    LeavesOf-shows (Cut start stop) left qs in_utf8 leaves of_left = record {
      start = start;
      end = stop;
      ordered = leaves.0.ordered;
      told = (refl, refl);
      shown = cut-within start stop qs (nat_le start end) (nat_le stop end) refl refl leaves.0 (subst (λ bytes. ArePiecesOf bytes qs) leaves.1 of_left);
    }
    LeavesOf-shows (Left mid) left qs in_utf8 leaves of_left =
        let at = min mid end in
        let order : 0 ≤ at = omega arith in
        let same : left ≡ cut_part 0 at ps = cc leaves.1 in
        record {
          start = 0;
          end = at;
          ordered = order;
          told = (refl, refl);
          shown = cut-slice text ps qs 0 at order utf8 of_text whole start_cut (boundary-min (strip ps) mid leaves.0) (subst (λ bytes. ArePiecesOf bytes qs) same of_left);
        }
    LeavesOf-shows (Right mid) left qs in_utf8 leaves of_left =
        let at = min mid end in
        let order : at ≤ end = omega arith in
        let same : left ≡ later_part at end ps = cc leaves.1 in
        record {
          start = at;
          end = end;
          ordered = order;
          told = (refl, refl);
          shown = later_part-slice_shown text ps qs at end order utf8 of_text whole (boundary-min (strip ps) mid leaves.0) end_cut (subst (λ bytes. ArePiecesOf bytes qs) same of_left);
        }
    LeavesOf-shows (Part pattern index) left qs in_utf8 leaves of_left =
        let one = picked pattern.now in_utf8 index leaves.0 left leaves.1 leaves.2 in
        let bound = picked_bound pattern.now in_utf8 index leaves.0 left leaves.1 leaves.2 in
        record {
          start = one.from.0;
          end = one.from.1;
          ordered = bound.0;
          told = (leaves.1.matches, leaves.1.are_matches, one.there);
          shown = styled-slice text ps qs one.from.0 one.from.1 bound.0 utf8 of_text whole bound.1 bound.2 (subst (λ bytes. ArePiecesOf bytes qs) (sym one.same) of_left);
        }
    LeavesOf-shows (Prefix prefix) left qs in_utf8 leaves of_left =
        let first = begins-cut prefix.now (strip ps) in_utf8 strip_utf8 leaves.0 in
        record {
          start = length prefix.now;
          end = end;
          ordered = first.0;
          told = (refl, refl);
          shown = kept_slice (length prefix.now) end text ps qs first.0 utf8 of_text whole first end_cut (subst (λ bytes. ArePiecesOf bytes qs) leaves.1 of_left);
        }
    LeavesOf-shows (Suffix suffix) left qs in_utf8 leaves of_left =
        let order : 0 ≤ end - length suffix.now = omega arith in
        record {
          start = 0;
          end = end - length suffix.now;
          ordered = order;
          told = (refl, refl);
          shown = kept_slice 0 (end - length suffix.now) text ps qs order utf8 of_text whole start_cut (suffix_cut suffix.now in_utf8 leaves.0.0 leaves.0.1) (subst (λ bytes. ArePiecesOf bytes qs) leaves.1 of_left);
        }
    LeavesOf-shows Trim left qs in_utf8 (a, b, at, same) of_left = record {
      start = a;
      end = b;
      ordered = (by_places (strip ps) a b at).ordered;
      told = at;
      shown = kept_slice a b text ps qs (by_places (strip ps) a b at).ordered utf8 of_text whole (trimmed-first (strip ps) a b strip_utf8 at) (trimmed-last (strip ps) a b strip_utf8 at) (subst (λ bytes. ArePiecesOf bytes qs) same of_left);
    }

-- ---- an edit of a text

same_pieces : (P : List Piece → Type 0) (text : List ℕ) (ps qs : List Piece) → ArePiecesOf text ps → ArePiecesOf text qs → P ps → P qs
same_pieces P text ps qs of_text also holds = subst P (ArePiecesOf-unique text ps qs of_text also) holds

pub TakesTo-shows : (edit : Edit) (text left : List ℕ) (ps qs : List Piece) → IsInUtf8 edit → IsUtf8 text → ArePiecesOf text ps → NoneBroken ps → TakesTo edit text left → ArePiecesOf left qs → ShowsItsSlice edit ps qs
TakesTo-shows edit text left ps qs in_utf8 utf8 of_text whole takes of_left =
    LeavesOf-shows text ps utf8 of_text whole edit left qs in_utf8 (same_pieces (λ found. LeavesOf edit found left) text takes.pieces ps takes.of_text of_text takes.leaves) of_left

TakesTo-utf8 : (edit : Edit) (text left : List ℕ) → IsInUtf8 edit → IsUtf8 text → TakesTo edit text left → IsUtf8 left
TakesTo-utf8 edit text left in_utf8 utf8 takes = LeavesOf-utf8 text takes.pieces utf8 takes.of_text edit left in_utf8 takes.leaves

pub TakeInTurn-utf8 : (edits : List Edit) (text left : List ℕ) → All IsInUtf8 edits → IsUtf8 text → TakeInTurn edits text left → IsUtf8 left
TakeInTurn-utf8 [] text left in_utf8 utf8 taken = subst IsUtf8 (sym taken) utf8
TakeInTurn-utf8 (edit ∷ edits) text left in_utf8 utf8 (next, takes, behind) =
    TakeInTurn-utf8 edits next left (All-tail IsInUtf8 edit edits in_utf8) (TakesTo-utf8 edit text next (All-head IsInUtf8 edit edits in_utf8) utf8 takes) behind

-- ---- edits in turn

abbrev Shown : Type 0
Shown = List (ℕ × Attributes)

StandAmong-all : (whole part : Shown) → part ≡ whole → StandAmong part whole
StandAmong-all whole part same = record { before = []; behind = []; parted = sym same ∙ sym (append-nil part) }

StandAmong-slice : (whole part : Shown) (m n : ℕ) → part ≡ slice_range whole m n → StandAmong part whole
StandAmong-slice whole part m n same =
    let left = drop m whole in
    record {
      before = take m whole;
      behind = drop (n - m) left;
      parted =
          sym (take-append-drop m whole) ∙ ap (λ characters. take m whole ++ characters) (sym (take-append-drop (n - m) left))
          ∙ ap (λ characters. take m whole ++ (characters ++ drop (n - m) left)) (sym same);
    }

StandAmong-both : (part middle whole : Shown) → StandAmong part middle → StandAmong middle whole → StandAmong part whole
StandAmong-both part middle whole inner outer = record {
  before = outer.before ++ inner.before;
  behind = inner.behind ++ outer.behind;
  parted =
      outer.parted ∙ ap (λ characters. outer.before ++ (characters ++ outer.behind)) inner.parted
      ∙ ap (λ characters. outer.before ++ characters) (append_assoc inner.before (part ++ inner.behind) outer.behind
      ∙ ap (λ characters. inner.before ++ characters) (append_assoc part inner.behind outer.behind))
      ∙ sym (append_assoc outer.before inner.before (part ++ (inner.behind ++ outer.behind)));
}

pub TakeInTurn-shows : (edits : List Edit) (text left : List ℕ) (ps qs : List Piece) → All IsInUtf8 edits → IsUtf8 text → ArePiecesOf text ps → NoneBroken ps → TakeInTurn edits text left → ArePiecesOf left qs
    → StandAmong (styled qs) (styled ps)
TakeInTurn-shows [] text left ps qs in_utf8 utf8 of_text whole taken of_left =
    StandAmong-all (styled ps) (styled qs) (ap styled (ArePiecesOf-unique text qs ps (subst (λ bytes. ArePiecesOf bytes qs) taken of_left) of_text))
TakeInTurn-shows (edit ∷ edits) text left ps qs in_utf8 utf8 of_text whole (next, takes, behind) of_left =
    let first = All-head IsInUtf8 edit edits in_utf8 in
    let between = pieces next in
    let of_next = ArePiecesOf-pieces next in
    let leaves = same_pieces (λ found. LeavesOf edit found next) text takes.pieces ps takes.of_text of_text takes.leaves in
    let still = LeavesOf-whole text ps of_text whole edit next leaves in
    let still_whole : NoneBroken between = same_pieces NoneBroken next still.pieces between still.of_text of_next still.none_broken in
    let here = TakesTo-shows edit text next ps between first utf8 of_text whole takes of_next in
    StandAmong-both (styled qs) (styled between) (styled ps)
    (TakeInTurn-shows edits next left between qs (All-tail IsInUtf8 edit edits in_utf8) (TakesTo-utf8 edit text next first utf8 takes) of_next still_whole behind of_left)
    (StandAmong-slice (styled ps) (styled between) _ _ here.shown)
