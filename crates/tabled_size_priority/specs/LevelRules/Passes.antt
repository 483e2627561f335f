-- What two passes over the columns move together: what a rule moves at a number, and then the rest in an order.
use Rattle.std.proofs.Common.{◌≡◌, ℕ, ◌+◌, ◌-◌, ◌^◌, ◌<◌, ◌≤◌, List, [], ◌∷◌, length, map, get_or, sum, refl, ◌∙◌, ap, subst, arith, inl, inr}
use Rattle.std.specs.Prelude.{Some}
use Rattle.std.specs.List.{range_with_len}
use Rattle.std.proofs.lemmas.List.Sums.{get_or-le-sum_by}
use Rattle.std.proofs.lemmas.Bool.{cases_lt}
use Rattle.std.proofs.lemmas.List.{get_or_past}
use Rattle.tabled_size_priority.specs.declared.levels.rule.Rule.{Rule}
use Rattle.tabled_size_priority.specs.declared.levels.order.Order.{Order}
use Rattle.tabled_size_priority.specs.LevelRules.Lists.{sum-added, sum-cons, map-le, map-equal}
use Rattle.tabled_size_priority.specs.LevelRules.Moving.{moved, moved_sum, next_of, place_of, Gives, Takes, IsGiven, IsMovedInOrder, IsTaken, amount_of}
use Rattle.tabled_size_priority.specs.LevelRules.Steps.{moved-zero, taken-limit, taken-further, given-further, all-taken, all-given}

-- no width is above their sum
pub width-fits : (widths : List ℕ) (i : ℕ) → sum widths < 2 ^ 64 → get_or widths i 0 < 2 ^ 64
width-fits widths i fits = elim (cases_lt i (length widths)) [
  | inl inside ↦ let most : get_or widths i 0 ≤ sum widths = get_or-le-sum_by (λ (x : ℕ). x) widths i 0 inside in omega arith
  | inr outside ↦ let none : get_or widths i 0 ≡ 0 = get_or_past widths i 0 outside in omega arith
]

zeros-sum : (xs : List ℕ) → sum (map (λ (i : ℕ). 0) xs) ≡ 0
zeros-sum [] = refl
zeros-sum (x ∷ xs) = let rest : sum (map (λ (i : ℕ). 0) xs) ≡ 0 = zeros-sum xs in omega (arith, sum-cons 0 (map (λ (i : ℕ). 0) xs))

-- at 0 nothing moves
pub none-moved : (rule : Rule) (least widths : List ℕ) → sum widths < 2 ^ 64 → moved_sum rule 0 least widths ≡ 0
none-moved rule least widths fits =
    let at : ℕ → ℕ = λ (i : ℕ). moved rule 0 (get_or widths i 0) (get_or least i 0) in
    let le : sum (map at (range_with_len 0 (length widths))) ≤ sum (map (λ (i : ℕ). 0) (range_with_len 0 (length widths))) =
    map-le at (λ (i : ℕ). 0) (length widths) (λ i below. let none : at i ≡ 0 = moved-zero rule (get_or widths i 0) (get_or least i 0) (width-fits widths i fits) in omega arith) in
    let zero_sum : sum (map (λ (i : ℕ). 0) (range_with_len 0 (length widths))) ≡ 0 = zeros-sum (range_with_len 0 (length widths)) in
    omega arith

-- what moves at a number, and what moves then, are together what moves at the next
pub further-sum : (rule : Rule) (number : ℕ) (least widths first : List ℕ) (then_at : ℕ → ℕ) → length first ≡ length widths
    → ((i : ℕ) → moved rule number (get_or widths i 0) (get_or least i 0) + then_at i ≡ moved rule (number + 1) (get_or widths i 0) (get_or least i 0))
    → ((i : ℕ) → i < length widths → moved rule (next_of rule number) (get_or first i 0) (get_or least i 0) ≡ then_at i)
    → moved_sum rule number least widths + moved_sum rule (next_of rule number) least first ≡ moved_sum rule (number + 1) least widths
further-sum rule number least widths first then_at size further same =
    let n : ℕ = length widths in
    let now : ℕ → ℕ = λ (i : ℕ). moved rule number (get_or widths i 0) (get_or least i 0) in
    let next : ℕ → ℕ = λ (i : ℕ). moved rule (number + 1) (get_or widths i 0) (get_or least i 0) in
    let at : ℕ → ℕ = λ (i : ℕ). moved rule (next_of rule number) (get_or first i 0) (get_or least i 0) in
    let first_sum : sum (map at (range_with_len 0 (length first))) ≡ sum (map at (range_with_len 0 n)) = ap (λ (m : ℕ). sum (map at (range_with_len 0 m))) size in
    let at_sum : sum (map at (range_with_len 0 n)) ≡ sum (map then_at (range_with_len 0 n)) = ap sum (map-equal at then_at n same) in
    let added : sum (map now (range_with_len 0 n)) + sum (map then_at (range_with_len 0 n)) ≡ sum (map next (range_with_len 0 n)) = sum-added now then_at next (range_with_len 0 n) further in
    omega arith

-- a change in order, after another change of all columns
pub in-order-further : (place now further to change then_change : ℕ → ℕ) (count column : ℕ) → IsMovedInOrder place (λ (i : ℕ). 0) further then_change count column
    → ((i : ℕ) → i < count → change i ≡ now i + then_change i) → ((i : ℕ) → i < count → now i + further i ≡ to i) → IsMovedInOrder place now to change count column
in-order-further place now further to change then_change count column order is all =
    let inside : column < count = order.inside in
    let here : change column ≡ now column + then_change column = is column inside in
    let full : now column + further column ≡ to column = all column inside in
    let more : 0 < then_change column = order.more in
    let at_most : then_change column ≤ further column = order.at_most in
    record {
      inside = inside;
      more = omega arith;
      at_most = omega arith;
      before = λ other below earlier.
          let there : change other ≡ now other + then_change other = is other below in
          let whole : then_change other ≡ further other = order.before other below earlier in
          let full_there : now other + further other ≡ to other = all other below in
          omega arith;
      behind = λ other below later.
          let there : change other ≡ now other + then_change other = is other below in
          let none : then_change other ≡ 0 = order.behind other below later in
          omega arith;
    }

-- what two passes take
pub first-taken : (rule : Rule) (number : ℕ) (least widths first : List ℕ) → Takes rule → length first ≡ length widths
    → ((i : ℕ) → i < length widths → get_or first i 0 ≡ get_or widths i 0 - moved rule number (get_or widths i 0) (get_or least i 0))
    → sum first + moved_sum rule number least widths ≡ sum widths
first-taken rule number least widths first takes size is =
    all-taken (λ (i : ℕ). i) (λ (i : ℕ). moved rule number (get_or widths i 0) (get_or least i 0)) widths first (length widths) size (λ i below. below)
    (λ i. let le : moved rule number (get_or widths i 0) (get_or least i 0) ≤ get_or widths i 0 - get_or least i 0 = taken-limit rule takes number (get_or widths i 0) (get_or least i 0) in omega arith)
    (λ i below. inl (below, is i below))

pub taken-enough : (rule : Rule) (number : ℕ) (least widths first : List ℕ) → Takes rule → length first ≡ length widths
    → ((i : ℕ) → i < length widths → get_or first i 0 ≡ get_or widths i 0 - moved rule number (get_or widths i 0) (get_or least i 0))
    → moved_sum rule number least widths + moved_sum rule (next_of rule number) least first ≡ moved_sum rule (number + 1) least widths
taken-enough rule number least widths first takes size is =
    further-sum rule number least widths first
    (λ (i : ℕ). moved rule (next_of rule number) (get_or widths i 0 - moved rule number (get_or widths i 0) (get_or least i 0)) (get_or least i 0))
    size
    (λ i. taken-further rule takes number (get_or widths i 0) (get_or least i 0))
    (λ i below. ap (λ (w : ℕ). moved rule (next_of rule number) w (get_or least i 0)) (is i below))

pub taken-well : (rule : Rule) (order : Order) (number : ℕ) (least : List ℕ) (by : ℕ) (widths first sizes : List ℕ) (column rest : ℕ) → Takes rule → length first ≡ length widths
    → ((i : ℕ) → i < length widths → get_or first i 0 ≡ get_or widths i 0 - moved rule number (get_or widths i 0) (get_or least i 0))
    → IsMovedInOrder (place_of order (length first)) (λ (i : ℕ). 0) (λ (i : ℕ). moved rule (next_of rule number) (get_or first i 0) (get_or least i 0)) (λ (i : ℕ). get_or first i 0 - get_or sizes i 0) (length first) column
    → ((i : ℕ) → i < length first → get_or sizes i 0 ≤ get_or first i 0) → sum sizes + rest ≡ sum first → rest + moved_sum rule number least widths ≡ amount_of rule least by widths
    → IsTaken rule (place_of order (length widths)) least by widths sizes (Some column)
taken-well rule order number least by widths first sizes column rest takes size is in_order lower sums amount =
    let Q : ℕ → Type 0 = λ (m : ℕ). IsMovedInOrder (place_of order m) (λ (i : ℕ). 0) (λ (i : ℕ). moved rule (next_of rule number) (get_or first i 0) (get_or least i 0)) (λ (i : ℕ). get_or first i 0 - get_or sizes i 0) m column in
    let now : ℕ → ℕ = λ (i : ℕ). moved rule number (get_or widths i 0) (get_or least i 0) in
    let limit : (i : ℕ) → now i ≤ get_or widths i 0 - get_or least i 0 = λ i. taken-limit rule takes number (get_or widths i 0) (get_or least i 0) in
    let first_sum : sum first + moved_sum rule number least widths ≡ sum widths = first-taken rule number least widths first takes size is in
    record {
      lower = λ i below.
          let at_first : get_or first i 0 ≡ get_or widths i 0 - now i = is i below in
          let le : get_or sizes i 0 ≤ get_or first i 0 = lower i (omega arith) in
          omega arith;
      sums = omega arith;
      taken = (
        number,
        in-order-further (place_of order (length widths)) now
            (λ (i : ℕ). moved rule (next_of rule number) (get_or first i 0) (get_or least i 0))
            (λ (i : ℕ). moved rule (number + 1) (get_or widths i 0) (get_or least i 0))
            (λ (i : ℕ). get_or widths i 0 - get_or sizes i 0)
            (λ (i : ℕ). get_or first i 0 - get_or sizes i 0)
            (length widths) column (subst Q size in_order)
            (λ i below.
            let at_first : get_or first i 0 ≡ get_or widths i 0 - now i = is i below in
            let most : now i ≤ get_or widths i 0 - get_or least i 0 = limit i in
            let le : get_or sizes i 0 ≤ get_or first i 0 = lower i (omega arith) in
            omega arith)
            (λ i below.
            ap (λ (w : ℕ). now i + moved rule (next_of rule number) w (get_or least i 0)) (is i below) ∙ taken-further rule takes number (get_or widths i 0) (get_or least i 0)),
      );
    }

-- what two passes give
pub first-given : (rule : Rule) (number : ℕ) (widths first : List ℕ) → length first ≡ length widths
    → ((i : ℕ) → i < length widths → get_or first i 0 ≡ get_or widths i 0 + moved rule number (get_or widths i 0) 0)
    → sum first ≡ sum widths + moved_sum rule number [] widths
first-given rule number widths first size is =
    let now : ℕ → ℕ = λ (i : ℕ). moved rule number (get_or widths i 0) 0 in
    all-given (λ (i : ℕ). i) now widths first (length widths) size (λ i below. below) (λ i below. inl (below, is i below))

pub given-enough : (rule : Rule) (number : ℕ) (widths first : List ℕ) → Gives rule → length first ≡ length widths
    → ((i : ℕ) → i < length widths → get_or first i 0 ≡ get_or widths i 0 + moved rule number (get_or widths i 0) 0)
    → moved_sum rule number [] widths + moved_sum rule (next_of rule number) [] first ≡ moved_sum rule (number + 1) [] widths
given-enough rule number widths first gives size is =
    further-sum rule number [] widths first
    (λ (i : ℕ). moved rule (next_of rule number) (get_or widths i 0 + moved rule number (get_or widths i 0) 0) 0)
    size
    (λ i. given-further rule gives number (get_or widths i 0) 0)
    (λ i below. ap (λ (w : ℕ). moved rule (next_of rule number) w 0) (is i below))

pub given-well : (rule : Rule) (order : Order) (number by : ℕ) (widths first sizes : List ℕ) (column rest : ℕ) → Gives rule → length first ≡ length widths
    → ((i : ℕ) → i < length widths → get_or first i 0 ≡ get_or widths i 0 + moved rule number (get_or widths i 0) 0)
    → IsMovedInOrder (place_of order (length first)) (λ (i : ℕ). 0) (λ (i : ℕ). moved rule (next_of rule number) (get_or first i 0) 0) (λ (i : ℕ). get_or sizes i 0 - get_or first i 0) (length first) column
    → ((i : ℕ) → i < length first → get_or first i 0 ≤ get_or sizes i 0) → sum sizes ≡ sum first + rest → rest + moved_sum rule number [] widths ≡ amount_of rule [] by widths
    → IsGiven rule (place_of order (length widths)) by widths sizes (Some column)
given-well rule order number by widths first sizes column rest gives size is in_order higher sums amount =
    let Q : ℕ → Type 0 = λ (m : ℕ). IsMovedInOrder (place_of order m) (λ (i : ℕ). 0) (λ (i : ℕ). moved rule (next_of rule number) (get_or first i 0) 0) (λ (i : ℕ). get_or sizes i 0 - get_or first i 0) m column in
    let now : ℕ → ℕ = λ (i : ℕ). moved rule number (get_or widths i 0) 0 in
    let first_sum : sum first ≡ sum widths + moved_sum rule number [] widths = first-given rule number widths first size is in
    record {
      higher = λ i below.
          let at_first : get_or first i 0 ≡ get_or widths i 0 + now i = is i below in
          let le : get_or first i 0 ≤ get_or sizes i 0 = higher i (omega arith) in
          omega arith;
      sums = omega arith;
      given = (
        number,
        in-order-further (place_of order (length widths)) now
            (λ (i : ℕ). moved rule (next_of rule number) (get_or first i 0) 0)
            (λ (i : ℕ). moved rule (number + 1) (get_or widths i 0) 0)
            (λ (i : ℕ). get_or sizes i 0 - get_or widths i 0)
            (λ (i : ℕ). get_or sizes i 0 - get_or first i 0)
            (length widths) column (subst Q size in_order)
            (λ i below.
            let at_first : get_or first i 0 ≡ get_or widths i 0 + now i = is i below in
            let le : get_or first i 0 ≤ get_or sizes i 0 = higher i (omega arith) in
            omega arith)
            (λ i below.
            ap (λ (w : ℕ). now i + moved rule (next_of rule number) w 0) (is i below) ∙ given-further rule gives number (get_or widths i 0) 0),
      );
    }
