-- One need more among those that were collected.
use Rattle.std.proofs.Common.{◌≡◌, ℕ, suc, ◌==◌, ◌<◌, Bool, true, false, not, max, if◌then◌else◌, List, [], ◌∷◌, ◌++◌, map, length, get_or, refl, ap, sym, ◌∙◌, arith, Some, None}
use Rattle.std.specs.List.{filter}
use Rattle.std.proofs.lemmas.Bool.Decides.{nat_tests}
use Rattle.grid_records_estimate.specs.declared.need.Need.{Need}
use Rattle.grid_records_estimate.specs.Estimates.{greatest}
use Rattle.grid_records_estimate.specs.Collecting.{Collected, HasCollected, is_of_one_track, size_alone}

pub greatest-append : (xs ys : List ℕ) → greatest (xs ++ ys) ≡ max (greatest xs) (greatest ys)
greatest-append [] ys = omega arith
greatest-append (x ∷ xs) ys = let rest = greatest-append xs ys in omega (arith, rest)

pub map-push : {X Y : Type 0} (f : X → Y) (xs : List X) (x : X) → map f (xs ++ x ∷ []) ≡ map f xs ++ f x ∷ []
map-push f [] x = refl
map-push f (y ∷ ys) x = ap (λ zs. f y ∷ zs) (map-push f ys x)

pub greatest-push : {X : Type 0} (f : X → ℕ) (xs : List X) (x : X) → greatest (map f (xs ++ x ∷ [])) ≡ max (greatest (map f xs)) (f x)
greatest-push f xs x =
    let last : greatest (f x ∷ []) ≡ f x = omega arith in
    ap greatest (map-push f xs x) ∙ greatest-append (map f xs) (f x ∷ []) ∙ ap (λ n. max (greatest (map f xs)) n) last

filter-push_yes : {X : Type 0} (p : X → Bool) (xs : List X) (x : X) → p x ≡ true → filter p (xs ++ x ∷ []) ≡ filter p xs ++ x ∷ []
filter-push_yes p [] x h = grind (arith, h)
filter-push_yes p (y ∷ ys) x h = grind (arith, filter-push_yes p ys x h)

filter-push_no : {X : Type 0} (p : X → Bool) (xs : List X) (x : X) → p x ≡ false → filter p (xs ++ x ∷ []) ≡ filter p xs
filter-push_no p [] x h = grind (arith, h)
filter-push_no p (y ∷ ys) x h = grind (arith, filter-push_no p ys x h)

raised-asks : (first k old size : ℕ) → (if k == first then max old size else old) ≡ max old (if first == k then size else 0)
raised-asks first k old size = grind (arith, nat_tests)

pub HasCollected-plain : (old new : Collected) (needs : List Need) (need : Need) → is_of_one_track need ≡ true
    → new.others ≡ old.others
    → ((k : ℕ) → get_or new.sizes k 0 ≡ (if k == need.first then max (get_or old.sizes k 0) need.size else get_or old.sizes k 0))
    → HasCollected old needs → HasCollected new (needs ++ need ∷ [])
HasCollected-plain old new needs need plain same raised h = record {
  sizes = λ k.
      let all = greatest-push (size_alone k) needs need in
      let before = h.sizes k in
      let now = raised k in
      let asks : size_alone k need ≡ (if need.first == k then need.size else 0) = grind (arith, plain) in
      now ∙ raised-asks need.first k (get_or old.sizes k 0) need.size ∙ ap (λ n. max n (if need.first == k then need.size else 0)) before
      ∙ ap (λ n. max (greatest (map (size_alone k) needs)) n) (sym asks) ∙ sym all;
  others = same ∙ h.others ∙ sym (filter-push_no (λ n. not (is_of_one_track n)) needs need (ap not plain));
}

pub HasCollected-other : (old new : Collected) (needs : List Need) (need : Need) → is_of_one_track need ≡ false
    → new.sizes ≡ old.sizes → new.others ≡ old.others ++ need ∷ []
    → HasCollected old needs → HasCollected new (needs ++ need ∷ [])
HasCollected-other old new needs need other same pushed h = record {
  sizes = λ k.
      let all = greatest-push (size_alone k) needs need in
      let before = h.sizes k in
      let asks : size_alone k need ≡ 0 = grind (arith, other) in
      ap (λ xs. get_or xs k 0) same ∙ before ∙ omega (arith, all, asks);
  others = pushed ∙ ap (λ xs. xs ++ need ∷ []) h.others ∙ sym (filter-push_yes (λ n. not (is_of_one_track n)) needs need (ap not other));
}

-- a list that was changed element by element
pub map-by_index : {X : Type 0} (f : X → X) (xs ys : List X) → length ys ≡ length xs → ((k : ℕ) (d : X) → k < length xs → get_or ys k d ≡ f (get_or xs k d)) → ys ≡ map f xs
map-by_index f [] [] e h = refl
map-by_index f [] (y ∷ ys) e h = absurd (omega arith)
map-by_index f (x ∷ xs) [] e h = absurd (omega arith)
map-by_index f (x ∷ xs) (y ∷ ys) e h =
    let first : y ≡ f x = h 0 x (omega arith) in
    ap (λ z. z ∷ ys) first ∙ ap (λ zs. f x ∷ zs) (map-by_index f xs ys (omega arith) (λ k d below. h (suc k) d (omega arith)))

pub from_Some : (b : Bool) (size n : ℕ) → Some size ≡ (if b then Some n else None) → (b ≡ true) × (size ≡ n)
from_Some true size n e = (refl, cc)
from_Some false size n e = absurd (cc)

pub from_None : (b : Bool) (n : ℕ) → None ≡ (if b then Some n else None) → b ≡ false
from_None true n e = absurd (cc)
from_None false n e = refl
