-- Places that rise and are boundaries of a text, one after the other.
use Rattle.std.proofs.Common.{◌≡◌, ℕ, zero, suc, ◌+◌, ◌-◌, ◌<◌, ◌≤◌, List, [], ◌∷◌, length, get_or, drop, ap, sym, subst, ◌∙◌, arith}
use Rattle.std.specs.List.Sorted.{IsStrictlyIncreasing}
use Rattle.std.specs.Str.{IsCharBoundary, IsUtf8}
use Rattle.std.proofs.lemmas.List.Elements.{All-cons, All-head, All-nil, All-tail}
use Rattle.std.proofs.lemmas.Str.{IsCharBoundary-from_rest}
use Rattle.ansi_scan.specs.Sequences.{joined}
use Rattle.ansi_scan.specs.Pieces.{pieces}
use Rattle.ansi_scan.proofs.Existence.{ArePiecesOf-pieces}
use Rattle.ansi_str.specs.StyledText.{strip}
use Rattle.ansi_str.specs.Parts.{from_place}
use Rattle.ansi_str.specs.Cuts.{AreSplitPlaces}
use Rattle.ansi_str_search.proofs.PiecesAtPlaces.{strip-from}
use Rattle.ansi_str_search.proofs.Utf8.{EachUtf8-from, EachUtf8-pieces, IsUtf8-joined, boundary-from}
use Rattle.ansi_str_search.proofs.PlaceSums.{from-from}
use Rattle.ansi_str.proofs.SplitSteps.{rise-tail}

-- each place is a boundary, and after the one before it, the first after `from`
abbrev pub RiseFrom : List ℕ → ℕ → List ℕ → Type 0
RiseFrom text from [] = Unit {0}
RiseFrom text from (at ∷ places) = (from < at) × IsCharBoundary text at × RiseFrom text at places

rise-cons : (at next : ℕ) (places : List ℕ) → at < next → IsStrictlyIncreasing (next ∷ places) → IsStrictlyIncreasing (at ∷ next ∷ places)
rise-cons at next places less rise zero fits = less
rise-cons at next places less rise (suc k) fits =
    let inner : k + 1 < suc (length places) = omega (arith, fits) in
    let same : suc (k + 1) ≡ suc k + 1 = omega arith in
    subst (λ m. get_or (next ∷ places) k 0 < get_or (at ∷ next ∷ places) m 0) same (rise k inner)

pub AreSplitPlaces-none : (text : List ℕ) → AreSplitPlaces text []
AreSplitPlaces-none text = record { rise = λ k fits. absurd (omega (arith, fits)); boundaries = All-nil (IsCharBoundary text) }

pub AreSplitPlaces-cons : (text : List ℕ) (at : ℕ) (places : List ℕ) → IsCharBoundary text at → RiseFrom text at places → AreSplitPlaces text (at ∷ places)
AreSplitPlaces-cons text at [] here rise = record {
  rise = λ k fits. absurd (omega (arith, fits));
  boundaries = All-cons (IsCharBoundary text) at [] here (All-nil (IsCharBoundary text));
}
AreSplitPlaces-cons text at (next ∷ places) here rise =
    let others = AreSplitPlaces-cons text next places rise.1 rise.2 in
    record {
      rise = rise-cons at next places rise.0 others.rise;
      boundaries = All-cons (IsCharBoundary text) at (next ∷ places) here others.boundaries;
    }

pub AreSplitPlaces-rise : (text : List ℕ) (at : ℕ) (places : List ℕ) → AreSplitPlaces text (at ∷ places) → RiseFrom text at places
AreSplitPlaces-rise text at [] can_split = tt
AreSplitPlaces-rise text at (next ∷ places) can_split =
    let first : 0 + 1 < suc (suc (length places)) = omega arith in
    let less : at < next = can_split.rise 0 first in
    let others : AreSplitPlaces text (next ∷ places) = record { rise = rise-tail at (next ∷ places) can_split.rise; boundaries = All-tail (IsCharBoundary text) at (next ∷ places) can_split.boundaries } in (
      less,
      All-head (IsCharBoundary text) next places others.boundaries,
      AreSplitPlaces-rise text next places others,
    )

pub AreSplitPlaces-first : (text : List ℕ) (at : ℕ) (places : List ℕ) → AreSplitPlaces text (at ∷ places) → IsCharBoundary text at
AreSplitPlaces-first text at places can_split = All-head (IsCharBoundary text) at places can_split.boundaries

-- what comes after a boundary is text
pub IsUtf8-behind : (text rest : List ℕ) (n : ℕ) → IsUtf8 text → IsCharBoundary (strip (pieces text)) n → pieces rest ≡ from_place n (pieces text) → IsUtf8 rest
IsUtf8-behind text rest n utf8 here there =
    let all = ArePiecesOf-pieces text in
    let each = EachUtf8-from n (pieces text) (EachUtf8-pieces (pieces text) all.stand (subst IsUtf8 (sym all.joins) utf8)) here in
    subst IsUtf8 (ap joined (sym there) ∙ (ArePiecesOf-pieces rest).joins) (IsUtf8-joined (from_place n (pieces text)) each)

-- ---- a walk over the places

-- a text can be split at all places exactly where those that are left rise from here on
pub record Tested (text places : List ℕ) (rest : List ℕ) (from : ℕ) (others : List ℕ) : Type 0 where
  pub all : AreSplitPlaces (strip (pieces text)) places → RiseFrom (strip (pieces text)) from others
  pub left : RiseFrom (strip (pieces text)) from others → AreSplitPlaces (strip (pieces text)) places
  pub there : pieces rest ≡ from_place from (pieces text)
  pub fits : from ≤ length (strip (pieces text))

pub Tested-start : (text places rest : List ℕ) (at : ℕ) (others : List ℕ) → places ≡ at ∷ others → IsCharBoundary (strip (pieces text)) at → pieces rest ≡ from_place at (pieces text)
    → Tested text places rest at others
Tested-start text places rest at others same here there = record {
  all = λ can_split. AreSplitPlaces-rise (strip (pieces text)) at others (subst (AreSplitPlaces (strip (pieces text))) same can_split);
  left = λ rise. subst (AreSplitPlaces (strip (pieces text))) (sym same) (AreSplitPlaces-cons (strip (pieces text)) at others here rise);
  there = there;
  fits = here.0;
}

module _ (text places rest : List ℕ) (from at : ℕ) (others : List ℕ) (tested : Tested text places rest from (at ∷ others)) where
  abbrev shown : List ℕ
  shown = strip (pieces text)

  -- what is shown from here on
  shown-here : strip (pieces rest) ≡ drop from shown
  shown-here = ap strip tested.there ∙ strip-from from (pieces text)

  -- a place that does not rise
  pub Tested-falls : at ≤ from → ¬ (AreSplitPlaces shown places)
  Tested-falls low can_split = let less = (tested.all can_split).0 in absurd (omega (arith, low, less))

  -- a place that is no boundary
  pub Tested-inside : from < at → ¬ (IsCharBoundary (strip (pieces rest)) (at - from)) → ¬ (AreSplitPlaces shown places)
  Tested-inside less inside can_split =
      let order : from ≤ at = omega (arith, less) in
      absurd (inside (subst (λ bytes. IsCharBoundary bytes (at - from)) (sym shown-here) (boundary-from shown from at order (tested.all can_split).1)))

  pub Tested-next : (behind : List ℕ) → from < at → IsCharBoundary (strip (pieces rest)) (at - from) → pieces behind ≡ from_place (at - from) (pieces rest) → Tested text places behind at others
  Tested-next behind less here there =
      let sum : from + (at - from) ≡ at = omega (arith, less) in
      let bound = subst (IsCharBoundary shown) sum (IsCharBoundary-from_rest shown from (at - from) tested.fits (subst (λ bytes. IsCharBoundary bytes (at - from)) shown-here here)) in
      record {
        all = λ can_split. (tested.all can_split).2;
        left = λ rise. tested.left (less, bound, rise);
        there = there ∙ ap (from_place (at - from)) tested.there ∙ sym (from-from from (at - from) (pieces text)) ∙ ap (λ n. from_place n (pieces text)) sum;
        fits = bound.0;
      }

pub Tested-end : (text places rest : List ℕ) (from : ℕ) → Tested text places rest from [] → AreSplitPlaces (strip (pieces text)) places
Tested-end text places rest from tested = tested.left tt
