-- The least number from one on, and new numbers one after the other.
use Rattle.std.proofs.Common.{◌≡◌, ◌≢◌, ℕ, ◌+◌, ◌<◌, ◌≤◌, List, [], ◌∷◌, ◌++◌, map, length, get_or, take, drop, Vec, ◌⊎◌, inl, inr, Contains, refl, ap, ap₂, sym, subst, ◌∙◌, arith, length-append, length-drop}
use Rattle.std.proofs.lemmas.Bool.Decides.{nat_tests}
use Rattle.std.proofs.lemmas.List.{length-map, length-take-le, map-append, take_more}
use Rattle.std.proofs.lemmas.List.Elements.{Contains-append_left, Contains-append_right, Contains-push}
use Rattle.grid_config_values.specs.declared.numbered.Numbered.{Numbered}
use Rattle.grid_config_values.specs.declared.position.Position.{Position}
use Rattle.grid_config_values.specs.Numbers.{AreBelow, AreParted, AreRenumbered, Call, IsLeastFrom, calls_for, in_order, keys_of, moved, numbers, numbers_of, renumbered}
use Rattle.grid_config_values.proofs.Numbers.{below-moved, calls_for-renumbered, count_below, count_below-le-length, each_append, each_weaker, in_order-moved, numbers-moved, numbers_of_all, one_more}

-- ---- the least number

pub least_of_none : (from most : ℕ) → from ≤ most → IsLeastFrom from most [] most
least_of_none from most le = record { at_least = le; at_most = omega arith; parted = tt; stands = inl refl }

module _ (from most least : ℕ) (ns : List ℕ) (before : IsLeastFrom from most ns least) (n : ℕ) where
  -- one more number, which is less
  pub least_taken : from ≤ n → n < least → IsLeastFrom from most (ns ++ n ∷ []) n
  least_taken le lt = record {
    at_least = le;
    at_most = omega (arith, before.at_most);
    parted = each_append (λ k. (k < from) ⊎ (n ≤ k)) ns (n ∷ [])
        (each_weaker (λ k. (k < from) ⊎ (least ≤ k)) (λ k. (k < from) ⊎ (n ≤ k)) (λ k it. elim it [ inl low ↦ inl low | inr high ↦ inr (omega arith) ]) ns before.parted)
        (inr (omega arith), tt);
    stands = inr (Contains-push ns n);
  }

  -- or which is not
  pub least_left : (n < from) ⊎ (least ≤ n) → IsLeastFrom from most (ns ++ n ∷ []) least
  least_left apart = record {
    at_least = before.at_least;
    at_most = before.at_most;
    parted = each_append (λ k. (k < from) ⊎ (least ≤ k)) ns (n ∷ []) before.parted (apart, tt);
    stands = elim before.stands [ inl none ↦ inl none | inr some ↦ inr (Contains-append_left ns (n ∷ []) least some) ];
  }

-- the numbers of one more
pub numbers_more : {K T : Type 0} (kept : List (Numbered K T)) (i : ℕ) (one : Numbered K T) → i < length kept → one ≡ get_or kept i one →
    numbers_of (take (i + 1) kept) ≡ numbers_of (take i kept) ++ one.number ∷ []
numbers_more {K = K} {T = T} kept i one inside is =
    ap (λ (some : List (Numbered K T)). numbers_of some) (take_more kept i one inside ∙ ap (λ (next : Numbered K T). take i kept ++ next ∷ []) (sym is))
    ∙ map-append (λ (some : Numbered K T). some.number) (take i kept) (one ∷ [])

-- that of two lists, looked at one after the other
pub least_joined : (from most a b : ℕ) (xs ys : List ℕ) → IsLeastFrom from most xs a → IsLeastFrom from a ys b → IsLeastFrom from most (xs ++ ys) b
least_joined from most a b xs ys first second = record {
  at_least = second.at_least;
  at_most = omega (arith, first.at_most, second.at_most);
  parted = each_append (λ k. (k < from) ⊎ (b ≤ k)) xs ys
      (each_weaker (λ k. (k < from) ⊎ (a ≤ k)) (λ k. (k < from) ⊎ (b ≤ k)) (λ k it. elim it [ inl low ↦ inl low | inr high ↦ inr (omega (arith, second.at_most)) ]) xs first.parted)
      second.parted;
  stands = elim second.stands [
    | inl same ↦ elim first.stands [
      | inl none ↦ inl (same ∙ none)
      | inr some ↦ inr (Contains-append_left xs ys b (subst (Contains xs) (sym same) some))
    ]
    | inr some ↦ inr (Contains-append_right xs ys b some)
  ];
}

-- ---- new numbers

keys-renumbered : {K T : Type 0} (from to : ℕ) (kept : List (Numbered K T)) → keys_of (map (renumbered from to) kept) ≡ keys_of kept
keys-renumbered from to [] = refl
keys-renumbered {K = K} from to (one ∷ kept) = ap (λ (rest : List K). one.key ∷ rest) (keys-renumbered from to kept)

pub renumbered-same : {K T : Type 0} (from to : ℕ) (one : Numbered K T) → one.number ≢ from → renumbered from to one ≡ one
renumbered-same from to one unlike =
    let number : moved from to one.number ≡ one.number = grind (arith, nat_tests) in
    λ i. record { key = one.key; number = number i; value = one.value }

pub renumbered-changed : {K T : Type 0} (from to : ℕ) (one : Numbered K T) → one.number ≡ from → renumbered from to one ≡ record { key = one.key; number = to; value = one.value }
renumbered-changed from to one same =
    let number : moved from to one.number ≡ to = grind (arith, nat_tests) in
    λ i. record { key = one.key; number = number i; value = one.value }

pub same_items : {X Z : Type 0} (v w : Vec X Z) → v ≡ w → v.items ≡ w.items
same_items {X = X} {Z = Z} v w same = ap (λ (it : Vec X Z). it.items) same

pub mapped_length : {X : Type 0} (f : X → X) (xs : List X) (i : ℕ) → i ≤ length xs → length (map f (take i xs) ++ drop i xs) ≡ length xs
mapped_length f xs i le = omega (arith, length-append (map f (take i xs)) (drop i xs), length-map (take i xs) f, length-take-le i xs le, length-drop i xs)

both : (from most least : ℕ) (ns : List ℕ) → most ≤ least → AreBelow most ns → AreParted from least ns → AreBelow from ns
both from most least [] le below parted = tt
both from most least (n ∷ ns) le below parted =
    (elim parted.0 [ inl low ↦ low | inr high ↦ absurd (let lt : n < most = below.0 in omega arith) ], both from most least ns le below.1 parted.1)

module _ {T : Type 0} where
  -- the calls that were there, of which those below the next number have theirs
  pub record AreUnderWay (most : ℕ) (columns rows : List (Numbered ℕ T)) (cells : List (Numbered Position T))
      (columns' rows' : List (Numbered ℕ T)) (cells' : List (Numbered Position T)) (next least : ℕ) : Type 0 where
    pub same : AreRenumbered columns rows cells columns' rows' cells'
    pub below : AreBelow most (numbers (calls_for columns' rows' cells'))
    pub few : next ≤ count_below next (numbers (calls_for columns' rows' cells'))
    pub least_is : IsLeastFrom next most (numbers (calls_for columns' rows' cells')) least

  module _ (most : ℕ) (columns rows : List (Numbered ℕ T)) (cells : List (Numbered Position T)) where
    pub begun : (least : ℕ) → AreBelow most (numbers (calls_for columns rows cells)) → IsLeastFrom 0 most (numbers (calls_for columns rows cells)) least →
        AreUnderWay most columns rows cells columns rows cells 0 least
    begun least below least_is = record {
      same = record { calls = refl; columns = refl; rows = refl; cells = refl };
      below = below;
      few = omega arith;
      least_is = least_is;
    }

    module _ (columns' rows' : List (Numbered ℕ T)) (cells' : List (Numbered Position T)) (next least : ℕ) (way : AreUnderWay most columns rows cells columns' rows' cells' next least) where
      abbrev pub change : {K : Type 0} → List (Numbered K T) → List (Numbered K T)
      change kept = map (renumbered least next) kept

      abbrev pub before : List ℕ
      before = numbers (calls_for columns' rows' cells')

      changed : numbers (calls_for (change columns') (change rows') (change cells')) ≡ map (moved least next) before
      changed = ap (λ (calls : List (Call T)). numbers calls) (calls_for-renumbered least next columns' rows' cells') ∙ numbers-moved least next (calls_for columns' rows' cells')

      -- the least number that is left becomes the next one
      pub one_step : least < most → (least' : ℕ) → IsLeastFrom (next + 1) most (numbers (calls_for (change columns') (change rows') (change cells'))) least' →
          AreUnderWay most columns rows cells (change columns') (change rows') (change cells') (next + 1) least'
      one_step lt least' least_is = record {
        same = record {
          calls = ap (λ (calls : List (Call T)). in_order calls) (calls_for-renumbered least next columns' rows' cells') ∙ in_order-moved (calls_for columns' rows' cells') least next way.least_is.at_least way.least_is.parted ∙ way.same.calls;
          columns = keys-renumbered least next columns' ∙ way.same.columns;
          rows = keys-renumbered least next rows' ∙ way.same.rows;
          cells = keys-renumbered least next cells' ∙ way.same.cells;
        };
        below = subst (AreBelow most) (sym changed) (below-moved least next way.least_is.at_least most (omega (arith, way.least_is.at_least)) before way.below);
        few = subst (λ (ns : List ℕ). next + 1 ≤ count_below (next + 1) ns) (sym changed) (elim way.least_is.stands [
          | inl none ↦ absurd (omega arith)
          | inr (k, inside, is) ↦ omega (arith, way.few, one_more least next way.least_is.at_least before way.least_is.parted k inside is)
        ]);
        least_is = least_is;
      }

      pub next_step : (columns'' rows'' : List (Numbered ℕ T)) (cells'' : List (Numbered Position T)) → columns'' ≡ change columns' → rows'' ≡ change rows' → cells'' ≡ change cells' →
          least < most → (least' : ℕ) → IsLeastFrom (next + 1) most (numbers (calls_for columns'' rows'' cells'')) least' → AreUnderWay most columns rows cells columns'' rows'' cells'' (next + 1) least'
      next_step columns'' rows'' cells'' in_columns in_rows in_cells lt least' least_is =
          let all : calls_for columns'' rows'' cells'' ≡ calls_for (change columns') (change rows') (change cells') = (λ i. calls_for (in_columns i) (in_rows i) (in_cells i)) in
          subst (λ (xs : List (Numbered ℕ T)). AreUnderWay most columns rows cells xs rows'' cells'' (next + 1) least') (sym in_columns)
          (subst (λ (xs : List (Numbered ℕ T)). AreUnderWay most columns rows cells (change columns') xs cells'' (next + 1) least') (sym in_rows)
          (subst (λ (xs : List (Numbered Position T)). AreUnderWay most columns rows cells (change columns') (change rows') xs (next + 1) least') (sym in_cells)
          (one_step lt least' (subst (λ (calls : List (Call T)). IsLeastFrom (next + 1) most (numbers calls) least') all least_is))))

      pub finished : most ≤ least → AreBelow next before
      finished le = both next most least before le way.below way.least_is.parted

      -- there are no more numbers than calls
      pub few_numbers : next ≤ length columns' + (length rows' + length cells')
      few_numbers =
          let all : length before ≡ length columns' + (length rows' + length cells') =
          ap length (numbers_of_all columns' rows' cells')
          ∙ length-append (numbers_of columns') (numbers_of rows' ++ numbers_of cells')
          ∙ ap₂ (λ (a b : ℕ). a + b) (length-map columns' (λ one. one.number)) (length-append (numbers_of rows') (numbers_of cells') ∙ ap₂ (λ (a b : ℕ). a + b) (length-map rows' (λ one. one.number)) (length-map cells' (λ one. one.number))) in
          omega (arith, way.few, count_below-le-length next before, all)
