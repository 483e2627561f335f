-- Calls by their numbers: what they leave for a cell, in which order they come, and new numbers.
use Rattle.std.proofs.Common.{◌≡◌, ℕ, zero, suc, ◌+◌, ◌<◌, ◌≤◌, Bool, true, false, cond, List, [], ◌∷◌, ◌++◌, map, length, get_or, set, insert, nat_lt}
use Rattle.std.proofs.Common.{◌⊎◌, Option, None, Some, refl, ap, ap₂, sym, ◌∙◌, arith}
use Rattle.std.specs.Prelude.{⊤}
use Rattle.std.specs.List.{AllByRecursion}
use Rattle.std.proofs.lemmas.Bool.Decides.{nat_tests}
use Rattle.std.proofs.lemmas.List.{map-append}
use Rattle.grid_config_values.specs.declared.entity.Entity.{Entity}
use Rattle.grid_config_values.specs.declared.entity.Entity.TheVariants.{Column, Row}
use Rattle.grid_config_values.specs.declared.numbered.Numbered.{Numbered}
use Rattle.grid_config_values.specs.declared.position.Position.{Position}
use Rattle.grid_config_values.specs.Entities.{covers}
use Rattle.grid_config_values.specs.Numbers.{AreBelow, AreParted, Call, by_number, call_for, calls_for, cell_at, in_order, later, moved, numbers, numbers_of, put, renumbered, value_or}
use Rattle.grid_config_values.specs.Settings.{value_after}

-- ---- what holds of each of some numbers

module _ (P : ℕ → Type 0) where
  pub each_append : (xs ys : List ℕ) → AllByRecursion P xs → AllByRecursion P ys → AllByRecursion P (xs ++ ys)
  each_append [] ys none all = all
  each_append (x ∷ xs) ys some all = (some.0, each_append xs ys some.1 all)

  pub each_left : (xs ys : List ℕ) → AllByRecursion P (xs ++ ys) → AllByRecursion P xs
  each_left [] ys all = tt
  each_left (x ∷ xs) ys all = (all.0, each_left xs ys all.1)

  pub each_right : (xs ys : List ℕ) → AllByRecursion P (xs ++ ys) → AllByRecursion P ys
  each_right [] ys all = all
  each_right (x ∷ xs) ys all = each_right xs ys all.1

  pub each_set : (xs : List ℕ) (i n : ℕ) → AllByRecursion P xs → P n → AllByRecursion P (set xs i n)
  each_set [] i n all one = tt
  each_set (x ∷ xs) zero n all one = (one, all.1)
  each_set (x ∷ xs) (suc i) n all one = (all.0, each_set xs i n all.1 one)

  pub each_insert : (xs : List ℕ) (i n : ℕ) → AllByRecursion P xs → P n → AllByRecursion P (insert xs i n)
  each_insert xs zero n all one = (one, all)
  each_insert [] (suc i) n all one = (one, tt)
  each_insert (x ∷ xs) (suc i) n all one = (all.0, each_insert xs i n all.1 one)

  pub each_weaker : (Q : ℕ → Type 0) → ((n : ℕ) → P n → Q n) → (xs : List ℕ) → AllByRecursion P xs → AllByRecursion Q xs
  each_weaker Q so [] all = tt
  each_weaker Q so (x ∷ xs) all = (so x all.0, each_weaker Q so xs all.1)

pub below_weaker : (m n : ℕ) → m ≤ n → (ns : List ℕ) → AreBelow m ns → AreBelow n ns
below_weaker m n le ns all = each_weaker (λ k. k < m) (λ k. k < n) (λ k lt. omega arith) ns all

-- ---- of two numbered values the later

module _ {T : Type 0} where
  -- its number is at least this one
  abbrev pub IsFrom : ℕ → Option (ℕ × T) → Type 0
  IsFrom n None = ⊤
  IsFrom n (Some a) = n ≤ a.0

  abbrev pub IsBelow : ℕ → Option (ℕ × T) → Type 0
  IsBelow n None = ⊤
  IsBelow n (Some a) = a.0 < n

  pub later_none : (a : Option (ℕ × T)) → later a None ≡ a
  later_none None = refl
  later_none (Some a) = refl

  pub later_assoc : (a b c : Option (ℕ × T)) → later (later a b) c ≡ later a (later b c)
  later_assoc None b c = refl
  later_assoc (Some a) None c = refl
  later_assoc (Some a) (Some b) None = later_none (later (Some a) (Some b))
  later_assoc (Some a) (Some b) (Some c) =
      into_first (nat_lt b.0 a.0)
      ∙ chosen (nat_lt b.0 a.0) (nat_lt c.0 b.0) (nat_lt c.0 a.0) (λ first second. grind (arith, nat_tests)) (λ first second. grind (arith, nat_tests))
      ∙ sym (into_second (nat_lt c.0 b.0))
    where
      into_first : (x : Bool) → later (cond x (Some a) (Some b)) (Some c) ≡ cond x (later (Some a) (Some c)) (later (Some b) (Some c))
      into_first true = refl
      into_first false = refl

      into_second : (y : Bool) → later (Some a) (cond y (Some b) (Some c)) ≡ cond y (later (Some a) (Some b)) (later (Some a) (Some c))
      into_second true = refl
      into_second false = refl

      chosen : (x y z : Bool) → (x ≡ true → y ≡ true → z ≡ true) → (x ≡ false → y ≡ false → z ≡ false) →
          cond x (cond z (Some a) (Some c)) (cond y (Some b) (Some c)) ≡ cond y (cond x (Some a) (Some b)) (cond z (Some a) (Some c))
      chosen true true z less more = ap (λ (t : Bool). cond t (Some a) (Some c)) (less refl refl)
      chosen true false z less more = refl
      chosen false true z less more = refl
      chosen false false z less more = sym (ap (λ (t : Bool). cond t (Some a) (Some c)) (more refl refl))

  one_or_other : (P : Option (ℕ × T) → Type 0) (b : Bool) (x y : Option (ℕ × T)) → P x → P y → P (cond b x y)
  one_or_other P true x y first second = first
  one_or_other P false x y first second = second

  later_from : (n : ℕ) (a b : Option (ℕ × T)) → IsFrom n a → IsFrom n b → IsFrom n (later a b)
  later_from n None b first second = second
  later_from n (Some a) None first second = first
  later_from n (Some a) (Some b) first second = one_or_other (IsFrom n) (nat_lt b.0 a.0) (Some a) (Some b) first second

  later_below : (n : ℕ) (a b : Option (ℕ × T)) → IsBelow n a → IsBelow n b → IsBelow n (later a b)
  later_below n None b first second = second
  later_below n (Some a) None first second = first
  later_below n (Some a) (Some b) first second = one_or_other (IsBelow n) (nat_lt b.0 a.0) (Some a) (Some b) first second

  -- the greater number is the later on either side
  later_left : (x : ℕ × T) (a : Option (ℕ × T)) → IsBelow x.0 a → later (Some x) a ≡ Some x
  later_left x None below = refl
  later_left x (Some a) below =
      let less : nat_lt a.0 x.0 ≡ true = grind (arith, nat_tests) in
      ap (λ (t : Bool). cond t (Some x) (Some a)) less

  later_right : (x : ℕ × T) (a : Option (ℕ × T)) → IsBelow x.0 a → later a (Some x) ≡ Some x
  later_right x None below = refl
  later_right x (Some a) below =
      let not_less : nat_lt x.0 a.0 ≡ false = grind (arith, nat_tests) in
      ap (λ (t : Bool). cond t (Some a) (Some x)) not_less

  -- the two change places, where their numbers differ
  turned : (x y : ℕ × T) (b c : Bool) → y.0 < x.0 → later (cond b (Some y) None) (cond c (Some x) None) ≡ later (cond c (Some x) None) (cond b (Some y) None)
  turned x y true true less = later_right x (Some y) less ∙ sym (later_left x (Some y) less)
  turned x y true false less = refl
  turned x y false true less = refl
  turned x y false false less = refl

  -- one with a greater number than all in its place
  abbrev pub over : Bool → (ℕ × T) → Option (ℕ × T) → Option (ℕ × T)
  over b x a = cond b (Some x) a

  over_first : (b : Bool) (x : ℕ × T) (a : Option (ℕ × T)) → IsBelow x.0 a → later (cond b (Some x) None) a ≡ over b x a
  over_first true x a below = later_left x a below
  over_first false x a below = refl

  over_left : (b : Bool) (x : ℕ × T) (a c : Option (ℕ × T)) → IsBelow x.0 c → later (over b x a) c ≡ over b x (later a c)
  over_left true x a c below = later_left x c below
  over_left false x a c below = refl

  over_right : (b : Bool) (x : ℕ × T) (a c : Option (ℕ × T)) → IsBelow x.0 a → later a (over b x c) ≡ over b x (later a c)
  over_right true x a c below = later_right x a below
  over_right false x a c below = refl

  over_again : (b : Bool) (x y : ℕ × T) (a : Option (ℕ × T)) → IsBelow x.0 a → later (cond b (Some x) None) a ≡ over b x (later (cond b (Some y) None) a)
  over_again true x y a below = later_left x a below
  over_again false x y a below = refl

  value_over : (otherwise : T) (b : Bool) (x : ℕ × T) (a : Option (ℕ × T)) → value_or otherwise (over b x a) ≡ cond b x.1 (value_or otherwise a)
  value_over otherwise true x a = refl
  value_over otherwise false x a = refl

-- ---- the newest of some calls for a position

module _ {T : Type 0} where
  abbrev pub set_by : Call T → Position → Option (ℕ × T)
  set_by call p = cond (covers call.1.0 p) (Some (call.0, call.1.1)) None

  abbrev pub newest : List (Call T) → Position → Option (ℕ × T)
  newest [] p = None
  newest (call ∷ calls) p = later (set_by call p) (newest calls p)

  pub newest-append : (xs ys : List (Call T)) (p : Position) → newest (xs ++ ys) p ≡ later (newest xs p) (newest ys p)
  newest-append [] ys p = refl
  newest-append (x ∷ xs) ys p = ap (later (set_by x p)) (newest-append xs ys p) ∙ sym (later_assoc (set_by x p) (newest xs p) (newest ys p))

  set_from : (n : ℕ) (b : Bool) (x : ℕ × T) → n ≤ x.0 → IsFrom n (cond b (Some x) None)
  set_from n true x le = le
  set_from n false x le = tt

  set_below : (n : ℕ) (b : Bool) (x : ℕ × T) → x.0 < n → IsBelow n (cond b (Some x) None)
  set_below n true x lt = lt
  set_below n false x lt = tt

  newest_from : (n : ℕ) (calls : List (Call T)) (p : Position) → AllByRecursion (λ k. n ≤ k) (numbers calls) → IsFrom n (newest calls p)
  newest_from n [] p all = tt
  newest_from n (x ∷ calls) p all = later_from n (set_by x p) (newest calls p) (set_from n (covers x.1.0 p) (x.0, x.1.1) all.0) (newest_from n calls p all.1)

  pub newest_below : (n : ℕ) (calls : List (Call T)) (p : Position) → AreBelow n (numbers calls) → IsBelow n (newest calls p)
  newest_below n [] p all = tt
  newest_below n (x ∷ calls) p all = later_below n (set_by x p) (newest calls p) (set_below n (covers x.1.0 p) (x.0, x.1.1) all.0) (newest_below n calls p all.1)

  -- a call with a number above all, put in at any place
  pub newest-insert : (calls : List (Call T)) (i : ℕ) (x : Call T) (p : Position) → AreBelow x.0 (numbers calls) →
      newest (insert calls i x) p ≡ over (covers x.1.0 p) (x.0, x.1.1) (newest calls p)
  newest-insert calls zero x p below = over_first (covers x.1.0 p) (x.0, x.1.1) (newest calls p) (newest_below x.0 calls p below)
  newest-insert [] (suc i) x p below = over_first (covers x.1.0 p) (x.0, x.1.1) None tt
  newest-insert (y ∷ calls) (suc i) x p below =
      ap (later (set_by y p)) (newest-insert calls i x p below.1)
      ∙ over_right (covers x.1.0 p) (x.0, x.1.1) (set_by y p) (newest calls p) (set_below x.0 (covers y.1.0 p) (y.0, y.1.1) below.0)

  -- or in place of one for the same entity
  pub newest-set : (calls : List (Call T)) (i : ℕ) (x : Call T) (p : Position) → AreBelow x.0 (numbers calls) → i < length calls → ((d : Call T) → (get_or calls i d).1.0 ≡ x.1.0) →
      newest (set calls i x) p ≡ over (covers x.1.0 p) (x.0, x.1.1) (newest calls p)
  newest-set [] i x p below inside same = absurd (omega arith)
  newest-set (y ∷ calls) zero x p below inside same =
      let entity : y.1.0 ≡ x.1.0 = same y in
      over_again (covers x.1.0 p) (x.0, x.1.1) (y.0, y.1.1) (newest calls p) (newest_below x.0 calls p below.1)
      ∙ ap (λ (e : Entity). over (covers x.1.0 p) (x.0, x.1.1) (later (cond (covers e p) (Some (y.0, y.1.1)) None) (newest calls p))) (sym entity)
  newest-set (y ∷ calls) (suc i) x p below inside same =
      ap (later (set_by y p)) (newest-set calls i x p below.1 (omega arith) same)
      ∙ over_right (covers x.1.0 p) (x.0, x.1.1) (set_by y p) (newest calls p) (set_below x.0 (covers y.1.0 p) (y.0, y.1.1) below.0)

  -- one that is newer than all in a part is newer than all
  pub newer_left : (b : Bool) (x : ℕ × T) (old new rest : List (Call T)) (p : Position) → newest new p ≡ over b x (newest old p) → AreBelow x.0 (numbers rest) →
      newest (new ++ rest) p ≡ over b x (newest (old ++ rest) p)
  newer_left b x old new rest p newer below =
      newest-append new rest p ∙ ap (λ (a : Option (ℕ × T)). later a (newest rest p)) newer
      ∙ over_left b x (newest old p) (newest rest p) (newest_below x.0 rest p below) ∙ ap (over b x) (sym (newest-append old rest p))

  pub newer_right : (b : Bool) (x : ℕ × T) (first old new : List (Call T)) (p : Position) → newest new p ≡ over b x (newest old p) → AreBelow x.0 (numbers first) →
      newest (first ++ new) p ≡ over b x (newest (first ++ old) p)
  newer_right b x first old new p newer below =
      newest-append first new p ∙ ap (later (newest first p)) newer
      ∙ over_right b x (newest first p) (newest old p) (newest_below x.0 first p below) ∙ ap (over b x) (sym (newest-append first old p))

  -- ---- calls in order

  abbrev pub IsInOrder : List (Call T) → Type 0
  IsInOrder [] = ⊤
  IsInOrder (x ∷ calls) = AllByRecursion (λ k. x.0 ≤ k) (numbers calls) × IsInOrder calls

  newest_put : (x : Call T) (calls : List (Call T)) (p : Position) → newest (put x calls) p ≡ newest (x ∷ calls) p
  newest_put x [] p = refl
  newest_put x (y ∷ calls) p = chosen (nat_lt y.0 x.0) (λ is. grind (arith, nat_tests)) (newest_put x calls p)
    where
      chosen : (b : Bool) → (b ≡ true → y.0 < x.0) → newest (put x calls) p ≡ newest (x ∷ calls) p →
          newest (cond b (y ∷ put x calls) (x ∷ (y ∷ calls))) p ≡ newest (x ∷ (y ∷ calls)) p
      chosen true less rest =
          ap (later (set_by y p)) rest
          ∙ sym (later_assoc (set_by y p) (set_by x p) (newest calls p))
          ∙ ap (λ (a : Option (ℕ × T)). later a (newest calls p)) (turned (x.0, x.1.1) (y.0, y.1.1) (covers y.1.0 p) (covers x.1.0 p) (less refl))
          ∙ later_assoc (set_by x p) (set_by y p) (newest calls p)
      chosen false less rest = refl

  newest_by_number : (calls : List (Call T)) (p : Position) → newest (by_number calls) p ≡ newest calls p
  newest_by_number [] p = refl
  newest_by_number (x ∷ calls) p = newest_put x (by_number calls) p ∙ ap (later (set_by x p)) (newest_by_number calls p)

  each_put : (P : ℕ → Type 0) (x : Call T) (calls : List (Call T)) → P x.0 → AllByRecursion P (numbers calls) → AllByRecursion P (numbers (put x calls))
  each_put P x [] one all = (one, tt)
  each_put P x (y ∷ calls) one all = chosen (nat_lt y.0 x.0) (each_put P x calls one all.1)
    where
      chosen : (b : Bool) → AllByRecursion P (numbers (put x calls)) → AllByRecursion P (numbers (cond b (y ∷ put x calls) (x ∷ (y ∷ calls))))
      chosen true rest = (all.0, rest)
      chosen false rest = (one, all)

  pub each_by_number : (P : ℕ → Type 0) (calls : List (Call T)) → AllByRecursion P (numbers calls) → AllByRecursion P (numbers (by_number calls))
  each_by_number P [] all = tt
  each_by_number P (x ∷ calls) all = each_put P x (by_number calls) all.0 (each_by_number P calls all.1)

  put_in_order : (x : Call T) (calls : List (Call T)) → IsInOrder calls → IsInOrder (put x calls)
  put_in_order x [] ordered = (tt, tt)
  put_in_order x (y ∷ calls) ordered =
      chosen (nat_lt y.0 x.0) (λ is. grind (arith, nat_tests)) (λ is. grind (arith, nat_tests)) (put_in_order x calls ordered.1)
    where
      chosen : (b : Bool) → (b ≡ true → y.0 ≤ x.0) → (b ≡ false → x.0 ≤ y.0) → IsInOrder (put x calls) → IsInOrder (cond b (y ∷ put x calls) (x ∷ (y ∷ calls)))
      chosen true less more rest = (each_put (λ k. y.0 ≤ k) x calls (less refl) ordered.0, rest)
      chosen false less more rest =
          let le : x.0 ≤ y.0 = more refl in
          ((le, each_weaker (λ k. y.0 ≤ k) (λ k. x.0 ≤ k) (λ k from. omega arith) (numbers calls) ordered.0), ordered)

  by_number_in_order : (calls : List (Call T)) → IsInOrder (by_number calls)
  by_number_in_order [] = tt
  by_number_in_order (x ∷ calls) = put_in_order x (by_number calls) (by_number_in_order calls)

  -- in that order the last one that covers a position is the newest
  last_is_newest : (value : T) (calls : List (Call T)) (p : Position) → IsInOrder calls → value_after value (map (λ call. call.1) calls) p ≡ value_or value (newest calls p)
  last_is_newest value [] p ordered = refl
  last_is_newest value (x ∷ calls) p ordered =
      last_is_newest (cond (covers x.1.0 p) x.1.1 value) calls p ordered.1 ∙ step (covers x.1.0 p) (newest calls p) (newest_from x.0 calls p ordered.0)
    where
      not_less : (b : Bool) (a : ℕ × T) → (b ≡ true → ⊥) → a.1 ≡ value_or value (cond b (Some (x.0, x.1.1)) (Some a))
      not_less true a never = absurd (never refl)
      not_less false a never = refl

      step : (b : Bool) (a : Option (ℕ × T)) → IsFrom x.0 a → value_or (cond b x.1.1 value) a ≡ value_or value (later (cond b (Some (x.0, x.1.1)) None) a)
      step true None from = refl
      step true (Some a) from = not_less (nat_lt a.0 x.0) a (λ is. let less : a.0 < x.0 = grind (arith, nat_tests) in absurd (omega arith))
      step false None from = refl
      step false (Some a) from = refl

  pub value_in_order : (value : T) (calls : List (Call T)) (p : Position) → value_after value (in_order calls) p ≡ value_or value (newest calls p)
  value_in_order value calls p = last_is_newest value (by_number calls) p (by_number_in_order calls) ∙ ap (value_or value) (newest_by_number calls p)

  -- one that is newer than all decides where it covers the position
  pub value_of_newer : (value : T) (old new : List (Call T)) (x : Call T) (p : Position) → newest new p ≡ over (covers x.1.0 p) (x.0, x.1.1) (newest old p) →
      value_after value (in_order new) p ≡ cond (covers x.1.0 p) x.1.1 (value_after value (in_order old) p)
  value_of_newer value old new x p newer =
      value_in_order value new p ∙ ap (value_or value) newer ∙ value_over value (covers x.1.0 p) (x.0, x.1.1) (newest old p)
      ∙ ap (cond (covers x.1.0 p) x.1.1) (sym (value_in_order value old p))

  -- ---- other numbers in the same order

  abbrev pub moved_call : ℕ → ℕ → Call T → Call T
  moved_call from to call = (moved from to call.0, call.1)

  module _ (f : ℕ → ℕ) (P : ℕ → Type 0) (keeps : (a b : ℕ) → P a → P b → nat_lt (f a) (f b) ≡ nat_lt a b) where
    abbrev pub with_number : Call T → Call T
    with_number call = (f call.0, call.1)

    put_again : (x : Call T) (calls : List (Call T)) → P x.0 → AllByRecursion P (numbers calls) → put (with_number x) (map with_number calls) ≡ map with_number (put x calls)
    put_again x [] one all = refl
    put_again x (y ∷ calls) one all =
        ap (λ (b : Bool). cond b (with_number y ∷ put (with_number x) (map with_number calls)) (with_number x ∷ (with_number y ∷ map with_number calls))) (keeps y.0 x.0 all.0 one)
        ∙ chosen (nat_lt y.0 x.0) (put_again x calls one all.1)
      where
        chosen : (b : Bool) → put (with_number x) (map with_number calls) ≡ map with_number (put x calls) → cond b (with_number y ∷ put (with_number x) (map with_number calls)) (with_number x ∷ (with_number y ∷ map with_number calls))
            ≡ map with_number (cond b (y ∷ put x calls) (x ∷ (y ∷ calls)))
        chosen true again = ap (λ (rest : List (Call T)). with_number y ∷ rest) again
        chosen false again = refl

    by_number_again : (calls : List (Call T)) → AllByRecursion P (numbers calls) → by_number (map with_number calls) ≡ map with_number (by_number calls)
    by_number_again [] all = refl
    by_number_again (x ∷ calls) all =
        ap (put (with_number x)) (by_number_again calls all.1) ∙ put_again x (by_number calls) all.0 (each_by_number P calls all.1)

    same_calls : (calls : List (Call T)) → map (λ call. call.1) (map with_number calls) ≡ map (λ call. call.1) calls
    same_calls [] = refl
    same_calls (x ∷ calls) = ap (λ (rest : List (Entity × T)). x.1 ∷ rest) (same_calls calls)

    in_order_again : (calls : List (Call T)) → AllByRecursion P (numbers calls) → in_order (map with_number calls) ≡ in_order calls
    in_order_again calls all = ap (map (λ call. call.1)) (by_number_again calls all) ∙ same_calls (by_number calls)

  -- the least number from one on becomes that one
  pub in_order-moved : (calls : List (Call T)) (from to : ℕ) → to ≤ from → AreParted to from (numbers calls) → in_order (map (moved_call from to) calls) ≡ in_order calls
  in_order-moved calls from to le parted =
      in_order_again (moved from to) (λ n. (n < to) ⊎ (from ≤ n)) (λ a b one other. grind (arith, nat_tests)) calls parted

  pub numbers-moved : (from to : ℕ) (calls : List (Call T)) → numbers (map (moved_call from to) calls) ≡ map (moved from to) (numbers calls)
  numbers-moved from to [] = refl
  numbers-moved from to (x ∷ calls) = ap (λ (rest : List ℕ). moved from to x.0 ∷ rest) (numbers-moved from to calls)

-- ---- how many numbers are below one

abbrev pub count_below : ℕ → List ℕ → ℕ
count_below n [] = 0
count_below n (k ∷ ns) = cond (nat_lt k n) 1 0 + count_below n ns

pub count_below-le-length : (n : ℕ) (ns : List ℕ) → count_below n ns ≤ length ns
count_below-le-length n [] = omega arith
count_below-le-length n (k ∷ ns) = grind (arith, nat_tests, count_below-le-length n ns)

module _ (from to : ℕ) (le : to ≤ from) where
  none_fewer : (ns : List ℕ) → AreParted to from ns → count_below to ns ≤ count_below (to + 1) (map (moved from to) ns)
  none_fewer [] parted = omega arith
  none_fewer (k ∷ ns) parted = grind (arith, nat_tests, none_fewer ns parted.1, parted.0)

  pub one_more : (ns : List ℕ) → AreParted to from ns → (k : ℕ) → k < length ns → get_or ns k from ≡ from → count_below to ns + 1 ≤ count_below (to + 1) (map (moved from to) ns)
  one_more [] parted k inside is = absurd (omega arith)
  one_more (n ∷ ns) parted zero inside is = grind (arith, nat_tests, none_fewer ns parted.1)
  one_more (n ∷ ns) parted (suc k) inside is = grind (arith, nat_tests, one_more ns parted.1 k (omega arith) is, parted.0)

  pub below-moved : (most : ℕ) → to < most → (ns : List ℕ) → AreBelow most ns → AreBelow most (map (moved from to) ns)
  below-moved most lt [] below = tt
  below-moved most lt (k ∷ ns) below = (grind (arith, nat_tests, below.0), below-moved most lt ns below.1)

-- ---- the numbers of what is kept

module _ {K T : Type 0} (entity_of : K → Entity) where
  pub numbers_for : (kept : List (Numbered K T)) → numbers (map (call_for entity_of) kept) ≡ numbers_of kept
  numbers_for [] = refl
  numbers_for (one ∷ kept) = ap (λ (rest : List ℕ). one.number ∷ rest) (numbers_for kept)

  pub calls-renumbered : (from to : ℕ) (kept : List (Numbered K T)) → map (call_for entity_of) (map (renumbered from to) kept) ≡ map (moved_call from to) (map (call_for entity_of) kept)
  calls-renumbered from to [] = refl
  calls-renumbered from to (one ∷ kept) = ap (λ (rest : List (Call T)). moved_call from to (call_for entity_of one) ∷ rest) (calls-renumbered from to kept)

module _ {T : Type 0} where
  -- the numbers of columns, rows and cells, one after the other
  pub numbers_of_all : (columns rows : List (Numbered ℕ T)) (cells : List (Numbered Position T)) →
      numbers (calls_for columns rows cells) ≡ numbers_of columns ++ (numbers_of rows ++ numbers_of cells)
  numbers_of_all columns rows cells =
      map-append (λ (call : Call T). call.0) (map (call_for Column) columns) (map (call_for Row) rows ++ map (call_for cell_at) cells)
      ∙ ap (λ (rest : List ℕ). numbers (map (call_for Column) columns) ++ rest) (map-append (λ (call : Call T). call.0) (map (call_for Row) rows) (map (call_for cell_at) cells))
      ∙ ap₂ (λ (xs ys : List ℕ). xs ++ ys) (numbers_for Column columns) (ap₂ (λ (xs ys : List ℕ). xs ++ ys) (numbers_for Row rows) (numbers_for cell_at cells))

  pub calls_for-renumbered : (from to : ℕ) (columns rows : List (Numbered ℕ T)) (cells : List (Numbered Position T)) →
      calls_for (map (renumbered from to) columns) (map (renumbered from to) rows) (map (renumbered from to) cells) ≡ map (moved_call from to) (calls_for columns rows cells)
  calls_for-renumbered from to columns rows cells =
      ap₂ (λ (xs ys : List (Call T)). xs ++ ys) (calls-renumbered Column from to columns) (ap₂ (λ (xs ys : List (Call T)). xs ++ ys) (calls-renumbered Row from to rows) (calls-renumbered cell_at from to cells))
      ∙ ap (λ (rest : List (Call T)). map (moved_call from to) (map (call_for Column) columns) ++ rest) (sym (map-append (moved_call from to) (map (call_for Row) rows) (map (call_for cell_at) cells)))
      ∙ sym (map-append (moved_call from to) (map (call_for Column) columns) (map (call_for Row) rows ++ map (call_for cell_at) cells))
