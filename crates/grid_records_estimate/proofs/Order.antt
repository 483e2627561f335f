-- Needs in the order in which they are met.
use Rattle.std.proofs.Common.{◌≡◌, ℕ, suc, ◌+◌, ◌<◌, ◌≤◌, false, List, [], ◌∷◌, ◌++◌, length, get_or, sym, subst, arith}
use Rattle.std.specs.List.Sorted.{IsSorted}
use Rattle.std.specs.Ordering.{is_lt}
use Rattle.std.proofs.lemmas.Bool.Decides.{nat_tests}
use Rattle.grid_records_estimate.specs.contracts.need.NeedOrd.TheImpl.{ghosts as order}
use Rattle.grid_records_estimate.specs.declared.need.Need.{Need}
use Rattle.grid_records_estimate.proofs.Each.{Each, Each-append, Each-map}

-- the first need is met no later than the second
pub record Le (a b : Need) : Type 0 where
  pub length : a.length ≤ b.length
  pub first : a.length ≡ b.length → a.first ≤ b.first
  pub cross_track : a.length ≡ b.length → a.first ≡ b.first → a.cross_track ≤ b.cross_track
  pub size : a.length ≡ b.length → a.first ≡ b.first → a.cross_track ≡ b.cross_track → a.size ≤ b.size

pub same_need : (a b : Need) → a.length ≡ b.length → a.first ≡ b.first → a.cross_track ≡ b.cross_track → a.size ≡ b.size → a ≡ b
same_need a b l f c s = λ i. record { length = l i; first = f i; cross_track = c i; size = s i }

pub Le-trans : (a b c : Need) → Le a b → Le b c → Le a c
Le-trans a b c g h = record {
  length = let x : a.length ≤ b.length = g.length in let y : b.length ≤ c.length = h.length in omega arith;
  first = λ l. let x = g.length in let y = h.length in
      let p : a.length ≡ b.length = omega arith in let q : b.length ≡ c.length = omega arith in
      let u = g.first p in let v = h.first q in omega arith;
  cross_track = λ l f. let x = g.length in let y = h.length in
      let p : a.length ≡ b.length = omega arith in let q : b.length ≡ c.length = omega arith in
      let u = g.first p in let v = h.first q in
      let r : a.first ≡ b.first = omega arith in let s : b.first ≡ c.first = omega arith in
      let w = g.cross_track p r in let z = h.cross_track q s in omega arith;
  size = λ l f k. let x = g.length in let y = h.length in
      let p : a.length ≡ b.length = omega arith in let q : b.length ≡ c.length = omega arith in
      let u = g.first p in let v = h.first q in
      let r : a.first ≡ b.first = omega arith in let s : b.first ≡ c.first = omega arith in
      let w = g.cross_track p r in let z = h.cross_track q s in
      let m : a.cross_track ≡ b.cross_track = omega arith in let n : b.cross_track ≡ c.cross_track = omega arith in
      let i = g.size p r m in let j = h.size q s n in omega arith;
}

pub Le-antisym : (a b : Need) → Le a b → Le b a → a ≡ b
Le-antisym a b g h =
    let x = g.length in let y = h.length in
    let l : a.length ≡ b.length = omega arith in
    let u = g.first l in let v = h.first (sym l) in
    let f : a.first ≡ b.first = omega arith in
    let w = g.cross_track l f in let z = h.cross_track (sym l) (sym f) in
    let c : a.cross_track ≡ b.cross_track = omega arith in
    let i = g.size l f c in let j = h.size (sym l) (sym f) (sym c) in
    let s : a.size ≡ b.size = omega arith in
    same_need a b l f c s

-- what the derived order returns
pub Le-from_cmp : (a b : Need) → is_lt (order.cmp b a) ≡ false → Le a b
Le-from_cmp a b h = record {
  length = grind (arith, nat_tests);
  first = λ l. grind (arith, nat_tests);
  cross_track = λ l f. grind (arith, nat_tests);
  size = λ l f c. grind (arith, nat_tests);
}

abbrev pub Sorted : List Need → Type 0
Sorted [] = Unit {0}
Sorted (x ∷ xs) = Each (Le x) xs × Sorted xs

adjacent : (x : Need) (xs : List Need) → ((d : Need) → 0 < length xs → Le x (get_or xs 0 d)) → Sorted xs → Each (Le x) xs
adjacent x [] h s = tt
adjacent x (y ∷ ys) h s =
    let le : Le x y = h x (omega arith) in
    (le, Each-map (Le y) (Le x) (λ z u. Le-trans x y z le u) ys s.0)

pub Sorted-from_adjacent : (xs : List Need) → ((k : ℕ) (d : Need) → k + 1 < length xs → Le (get_or xs k d) (get_or xs (k + 1) d)) → Sorted xs
Sorted-from_adjacent [] h = tt
Sorted-from_adjacent (x ∷ xs) h =
    let rest = Sorted-from_adjacent xs (λ k d below. let step : Le (get_or (x ∷ xs) (suc k) d) (get_or (x ∷ xs) (suc k + 1) d) = h (suc k) d (omega arith) in
    let e : suc k + 1 ≡ suc (k + 1) = omega arith in let P : ℕ → Type 0 = λ n. Le (get_or xs k d) (get_or (x ∷ xs) n d) in subst P e step) in
    (adjacent x xs (λ d some. h 0 d (omega arith)) rest, rest)

pub Sorted-from_sort : (xs : List Need) → IsSorted order.cmp xs → Sorted xs
Sorted-from_sort xs h = Sorted-from_adjacent xs (λ k d below. Le-from_cmp (get_or xs k d) (get_or xs (k + 1) d) (h k d (omega arith) below))

pub Sorted-append : (xs ys : List Need) → Sorted xs → Sorted ys → Each (λ x. Each (Le x) ys) xs → Sorted (xs ++ ys)
Sorted-append [] ys s t h = t
Sorted-append (x ∷ xs) ys s t h = (Each-append (Le x) xs ys s.0 h.0, Sorted-append xs ys s.1 t h.1)
