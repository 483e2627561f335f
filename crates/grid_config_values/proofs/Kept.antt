-- What is kept for keys that rise: where a search finds it, and what one more changes.
use Rattle.std.proofs.Common.{◌≡◌, ◌≢◌, ◌==◌, ℕ, zero, suc, ◌+◌, ◌-◌, ◌<◌, ◌≤◌, Bool, true, false, cond, List, [], ◌∷◌, map, length, get_or, set, insert, is_eq, is_lt}
use Rattle.std.proofs.Common.{inl, inr, Option, None, Some, Result, Ok, Err, IfOk, IfErr, refl, ap, ap₂, sym, subst, ◌∙◌, arith, eq-or-lt_of_le, Ordering, Less, Equal, Greater}
use Rattle.std.specs.Cmp.{IsTotalOrder}
use Rattle.std.specs.List.{slice_get}
use Rattle.std.specs.List.Sorted.{IsSearchInRange, IsBinarySearchResult, IsNonDecreasingBy}
use Rattle.std.specs.Ordering.{ordering_index, ordering_reverse}
use Rattle.std.proofs.lemmas.Bool.{cases_lt}
use Rattle.std.proofs.lemmas.List.{get_or-map, get_or_read, length-map, map-set, set-get_or}
use Rattle.std.proofs.lemmas.List.Edits.{get_or-insert_below, get_or-insert_at, get_or-insert_above, length-insert}
use Rattle.std.proofs.lemmas.List.Sorted.{searchable_from_sorted}
use Rattle.std.proofs.lemmas.Option.{get_or_from_slice_get, slice_get_within}
use Rattle.grid_config_values.specs.declared.entity.Entity.{Entity}
use Rattle.grid_config_values.specs.declared.numbered.Numbered.{Numbered}
use Rattle.grid_config_values.specs.declared.position.Position.{Position}
use Rattle.grid_config_values.specs.Entities.{covers}
use Rattle.grid_config_values.specs.Numbers.{AreBelow, AreRising, Call, IsAt, IsFound, IsGapFor, Keeps, call_for, keys_of, later, numbers_of}
use Rattle.grid_config_values.proofs.Numbers.{below_weaker, each_insert, each_set, newest, newest-insert, newest-set, numbers_for, over}

pub map-insert : {A B : Type 0} (f : A → B) (xs : List A) (i : ℕ) (x : A) → map f (insert xs i x) ≡ insert (map f xs) i (f x)
map-insert f xs zero x = refl
map-insert f [] (suc i) x = refl
map-insert {B = B} f (y ∷ xs) (suc i) x = ap (λ (rest : List B). f y ∷ rest) (map-insert f xs i x)

-- what `==` finds to be `Less` is
pub is_less : (o : Ordering) → (ordering_index o == 0) ≡ true → o ≡ Less
is_less Less e = refl
is_less Equal e = cc
is_less Greater e = cc

-- what holds of the key of the one at a place holds of the key at that place
key_at : {K T : Type 0} (kept : List (Numbered K T)) (i : ℕ) (d : K) (P : K → Type 0) → i < length kept → ((one : Numbered K T) → P (get_or kept i one).key) → P (get_or (keys_of kept) i d)
key_at [] i d P inside each = absurd (omega arith)
key_at (one ∷ kept) i d P inside each = subst P (sym (get_or-map (λ one. one.key) (one ∷ kept) i one d inside)) (each one)

module _ {K : Type 0} (cmp : K → K → Ordering) (total : IsTotalOrder cmp) where
  greater : (a b : K) → cmp a b ≡ Less → cmp b a ≡ Greater
  greater a b less = total.antisymm b a ∙ ap ordering_reverse less

  less_from : (a b : K) → cmp a b ≡ Greater → cmp b a ≡ Less
  less_from a b more = total.antisymm b a ∙ ap ordering_reverse more

  -- what is at a place with the key is what is kept for the key
  pub found_there : {T : Type 0} (kept : List (Numbered K T)) (key : K) (place : ℕ) (one : Numbered K T) → place < length kept → one ≡ get_or kept place one → cmp one.key key ≡ Equal →
      IsFound cmp kept key (Some (one.number, one.value))
  found_there {T = T} kept key place one inside is equal =
      let read = λ (d : Numbered K T). get_or_read kept place one inside is d in (
        place,
        record {
          inside = omega (arith, length-map kept (λ one. one.key));
          is = λ d. key_at kept place d (λ k. cmp k key ≡ Equal) inside (λ e. ap (λ it. cmp it.key key) (sym (read e)) ∙ equal);
        },
        λ d. ap (λ it. (it.number, it.value)) (read d),
      )

  -- where there are none, nothing is kept for any key
  pub none_kept : {T : Type 0} (kept : List (Numbered K T)) (key : K) → length kept ≡ 0 → IsFound cmp kept key None
  none_kept [] key none = (0, record { inside = omega arith; before = λ j d below. absurd (omega arith); after = λ j d from below. absurd (omega arith) })
  none_kept (one ∷ kept) key none = absurd (omega arith)

  module _ {T : Type 0} (kept : List (Numbered K T)) (key : K) (rising : AreRising cmp (keys_of kept)) where
    -- the answers rise, as a search asks
    answers_rise : IsNonDecreasingBy (λ one. ordering_index (cmp one.key key)) kept
    answers_rise = searchable_from_sorted total (λ one. one.key) kept key (λ k d low high.
        let same : length (keys_of kept) ≡ length kept = length-map kept (λ one. one.key) in
        let first : get_or (keys_of kept) k d.key ≡ (get_or kept k d).key = get_or-map (λ one. one.key) kept k d d.key (omega arith) in
        let second : get_or (keys_of kept) (k + 1) d.key ≡ (get_or kept (k + 1) d).key = get_or-map (λ one. one.key) kept (k + 1) d d.key high in
        let less : cmp (get_or kept k d).key (get_or kept (k + 1) d).key ≡ Less = ap₂ cmp (sym first) (sym second) ∙ rising k (k + 1) d.key (omega arith) (omega arith) in
        ap is_lt (greater (get_or kept k d).key (get_or kept (k + 1) d).key less))

    -- so it ends at the key or at the gap for it
    pub searched : (r : Result ℕ ℕ) → IsSearchInRange r (length kept) → IsBinarySearchResult (λ one. cmp one.key key) kept r →
        record { at : IfOk r (IsAt cmp (keys_of kept) key); gap : IfErr r (IsGapFor cmp (keys_of kept) key) }
    searched (Ok place) inside equal = record {
      at = record { inside = omega (arith, length-map kept (λ one. one.key)); is = λ d. key_at kept place d (λ k. cmp k key ≡ Equal) inside equal };
      gap = tt;
    }
    searched (Err place) inside parted = record {
      at = tt;
      gap = record {
        inside = omega (arith, length-map kept (λ one. one.key));
        before = λ j d lt. key_at kept j d (λ k. cmp k key ≡ Less) (omega arith) (λ one. (parted answers_rise).0 j one (omega arith) lt);
        after = λ j d le lt.
            let inside : j < length kept = omega (arith, length-map kept (λ one. one.key)) in
            key_at kept j d (λ k. cmp k key ≡ Greater) inside (λ one. (parted answers_rise).1 j one le inside);
      };
    }

    -- one that is greater than the last goes past it
    pub past_last : (last : Numbered K T) → slice_get kept (length kept - 1) ≡ Some last → cmp last.key key ≡ Less → IsGapFor cmp (keys_of kept) key (length kept)
    past_last last is less =
        let inside : length kept - 1 < length kept = slice_get_within kept (length kept - 1) last is in
        let less_at_end : (d : K) → cmp (get_or (keys_of kept) (length kept - 1) d) key ≡ Less =
        (λ d. key_at kept (length kept - 1) d (λ k. cmp k key ≡ Less) inside (λ one. subst (λ (it : Numbered K T). cmp it.key key ≡ Less) (sym (get_or_from_slice_get kept (length kept - 1) last one is)) less)) in
        record {
          inside = omega (arith, length-map kept (λ one. one.key));
          before = λ j d lt.
              let at_most : j ≤ length kept - 1 = omega arith in
              elim (eq-or-lt_of_le at_most) [
                | inl here ↦ subst (λ (i : ℕ). cmp (get_or (keys_of kept) i d) key ≡ Less) (sym here) (less_at_end d)
                | inr below ↦ total.trans (get_or (keys_of kept) j d) (get_or (keys_of kept) (length kept - 1) d) key (rising j (length kept - 1) d below (omega (arith, length-map kept (λ one. one.key)))) (less_at_end d)
              ];
          after = λ j d le lt. absurd (omega (arith, length-map kept (λ one. one.key)));
        }

  -- a key put in its gap
  rising-insert : (keys : List K) (place : ℕ) (key : K) → IsGapFor cmp keys key place → AreRising cmp keys → AreRising cmp (insert keys place key)
  rising-insert keys place key gap rising i j d lt inside =
      elim (cases_lt j place) [
        | inl below ↦ ap₂ cmp (old_below i (omega arith)) (old_below j below) ∙ rising i j d lt (omega (arith, gap.inside))
        | inr from ↦ elim (eq-or-lt_of_le from) [
          | inl here ↦ ap₂ cmp (old_below i (omega arith)) (at_place j (sym here)) ∙ gap.before i d (omega arith)
          | inr above ↦ elim (cases_lt i place) [
            | inl below ↦ ap₂ cmp (old_below i below) (old_above j above) ∙ rising i (j - 1) d (omega arith) (omega (arith, length-insert keys place key gap.inside))
            | inr from ↦ elim (eq-or-lt_of_le from) [
              | inl here ↦ ap₂ cmp (at_place i (sym here)) (old_above j above) ∙ less_from (get_or keys (j - 1) d) key (gap.after (j - 1) d (omega arith) (omega (arith, length-insert keys place key gap.inside)))
              | inr higher ↦ ap₂ cmp (old_above i higher) (old_above j above) ∙ rising (i - 1) (j - 1) d (omega arith) (omega (arith, length-insert keys place key gap.inside))
            ]
          ]
        ]
      ]
    where
      old_below : (k : ℕ) → k < place → get_or (insert keys place key) k d ≡ get_or keys k d
      old_below k below = get_or-insert_below keys place key d k below gap.inside

      at_place : (k : ℕ) → k ≡ place → get_or (insert keys place key) k d ≡ key
      at_place k here = subst (λ (q : ℕ). get_or (insert keys place key) q d ≡ key) (sym here) (get_or-insert_at keys place key d gap.inside)

      old_above : (k : ℕ) → place < k → get_or (insert keys place key) k d ≡ get_or keys (k - 1) d
      old_above k above = subst (λ (q : ℕ). get_or (insert keys place key) q d ≡ get_or keys (k - 1) d) {x = k - 1 + 1} (omega arith) (get_or-insert_above keys place key d (k - 1) (omega arith) gap.inside)

  module _ (same : (a b : K) → cmp a b ≡ Equal → a ≡ b) where
    -- of keys that rise the others are unlike the one at its place
    others : (keys : List K) (key : K) (place : ℕ) → IsAt cmp keys key place → AreRising cmp keys → (j : ℕ) (d : K) → j ≢ place → j < length keys → is_eq (cmp (get_or keys j d) key) ≡ false
    others keys key place at rising j d unlike inside =
        let it : get_or keys place d ≡ key = same (get_or keys place d) key (at.is d) in
        elim (cases_lt j place) [
          | inl below ↦ ap is_eq (subst (λ (k : K). cmp (get_or keys j d) k ≡ Less) it (rising j place d below at.inside))
          | inr from ↦ ap is_eq (greater key (get_or keys j d) (subst (λ (k : K). cmp k (get_or keys j d) ≡ Less) it (rising place j d (omega arith) inside)))
        ]

    module _ {T : Type 0} (entity_of : K → Entity) where
      abbrev pub calls : List (Numbered K T) → List (Call T)
      calls kept = map (call_for entity_of) kept

      newest_none : (kept : List (Numbered K T)) (p : Position) → ((j : ℕ) (d : K) → j < length (keys_of kept) → covers (entity_of (get_or (keys_of kept) j d)) p ≡ false) → newest (calls kept) p ≡ None
      newest_none [] p none = refl
      newest_none (one ∷ kept) p none =
          let here : covers (entity_of one.key) p ≡ false = none 0 one.key (omega arith) in
          ap (λ (b : Bool). later (cond b (Some (one.number, one.value)) None) (newest (calls kept) p)) here ∙ newest_none kept p (λ j d inside. none (suc j) d (omega arith))

      newest_one : (kept : List (Numbered K T)) (p : Position) (place : ℕ) → place < length kept → ((d : K) → covers (entity_of (get_or (keys_of kept) place d)) p ≡ true) →
          ((j : ℕ) (d : K) → j ≢ place → j < length (keys_of kept) → covers (entity_of (get_or (keys_of kept) j d)) p ≡ false) →
          (d : Numbered K T) → newest (calls kept) p ≡ Some ((get_or kept place d).number, (get_or kept place d).value)
      newest_one [] p place inside it none d = absurd (omega arith)
      newest_one (one ∷ kept) p zero inside it none d =
          let here : covers (entity_of one.key) p ≡ true = it one.key in
          ap (λ (b : Bool). later (cond b (Some (one.number, one.value)) None) (newest (calls kept) p)) here
          ∙ ap (later (Some (one.number, one.value))) (newest_none kept p (λ j e within. none (suc j) e (omega arith) (omega arith)))
      newest_one (one ∷ kept) p (suc place) inside it none d =
          let here : covers (entity_of one.key) p ≡ false = none 0 one.key (omega arith) (omega arith) in
          ap (λ (b : Bool). later (cond b (Some (one.number, one.value)) None) (newest (calls kept) p)) here
          ∙ newest_one kept p place (omega arith) it (λ j e unlike within. none (suc j) e (omega arith) (omega arith)) d

      -- what is found for the key is the newest that covers a position which it names
      pub newest_found : (kept : List (Numbered K T)) (p : Position) (key : K) → ((k : K) → covers (entity_of k) p ≡ is_eq (cmp k key)) → AreRising cmp (keys_of kept) →
          (found : Option (ℕ × T)) → IsFound cmp kept key found → newest (calls kept) p ≡ found
      newest_found kept p key names rising None (place, gap) =
          newest_none kept p (λ j d inside. names (get_or (keys_of kept) j d) ∙ elim (cases_lt j place) [
            | inl below ↦ ap is_eq (gap.before j d below)
            | inr from ↦ ap is_eq (gap.after j d from inside)
          ])
      newest_found [] p key names rising (Some one) (place, at, is) = absurd (let inside = at.inside in omega arith)
      newest_found (first ∷ kept) p key names rising (Some one) (place, at, is) =
          newest_one (first ∷ kept) p place (omega (arith, at.inside, length-map (first ∷ kept) (λ one. one.key)))
          (λ d. names (get_or (keys_of (first ∷ kept)) place d) ∙ ap is_eq (at.is d))
          (λ j d unlike inside. names (get_or (keys_of (first ∷ kept)) j d) ∙ others (keys_of (first ∷ kept)) key place at rising j d unlike inside)
          first
          ∙ ap Some (sym (is first))

      at_call : (kept : List (Numbered K T)) (key : K) (place : ℕ) → place < length kept → (d : Call T) → ((e : K) → cmp (get_or (keys_of kept) place e) key ≡ Equal) → (get_or (calls kept) place d).1.0 ≡ entity_of key
      at_call [] key place inside d is = absurd (omega arith)
      at_call (first ∷ kept) key zero inside d is = ap entity_of (same first.key key (is first.key))
      at_call (first ∷ kept) key (suc place) inside d is = at_call kept key place (omega arith) d is

      module _ (old new : List (Numbered K T)) (one : Numbered K T) where
        pub newest_kept : (p : Position) → Keeps cmp old new one → AreBelow one.number (numbers_of old) →
            newest (calls new) p ≡ over (covers (entity_of one.key) p) (one.number, one.value) (newest (calls old) p)
        newest_kept p (inl (place, at, is)) below =
            let inside : place < length old = omega (arith, at.inside, length-map old (λ one. one.key)) in
            ap (λ (kept : List (Numbered K T)). newest (calls kept) p) is
            ∙ ap (λ (all : List (Call T)). newest all p) (map-set (call_for entity_of) old place one)
            ∙ newest-set (calls old) place (call_for entity_of one) p (subst (AreBelow one.number) (sym (numbers_for entity_of old)) below) (omega (arith, length-map old (call_for {T = T} entity_of)))
            (λ d. at_call old one.key place inside d at.is)
        newest_kept p (inr (place, gap, is)) below =
            ap (λ (kept : List (Numbered K T)). newest (calls kept) p) is
            ∙ ap (λ (all : List (Call T)). newest all p) (map-insert (call_for entity_of) old place one)
            ∙ newest-insert (calls old) place (call_for entity_of one) p (subst (AreBelow one.number) (sym (numbers_for entity_of old)) below)

        pub below_kept : Keeps cmp old new one → AreBelow one.number (numbers_of old) → AreBelow (one.number + 1) (numbers_of new)
        below_kept (inl (place, at, is)) below =
            subst (AreBelow (one.number + 1)) (sym (ap (λ (kept : List (Numbered K T)). numbers_of kept) is ∙ map-set (λ (one : Numbered K T). one.number) old place one))
            (each_set (λ n. n < one.number + 1) (numbers_of old) place one.number (below_weaker one.number (one.number + 1) (omega arith) (numbers_of old) below) (omega arith))
        below_kept (inr (place, gap, is)) below =
            subst (AreBelow (one.number + 1)) (sym (ap (λ (kept : List (Numbered K T)). numbers_of kept) is ∙ map-insert (λ (one : Numbered K T). one.number) old place one))
            (each_insert (λ n. n < one.number + 1) (numbers_of old) place one.number (below_weaker one.number (one.number + 1) (omega arith) (numbers_of old) below) (omega arith))

        pub rising_kept : Keeps cmp old new one → AreRising cmp (keys_of old) → AreRising cmp (keys_of new)
        rising_kept (inl (place, at, is)) rising =
            let it : get_or (keys_of old) place one.key ≡ one.key = same (get_or (keys_of old) place one.key) one.key (at.is one.key) in
            let unchanged : keys_of new ≡ keys_of old = ap (λ (kept : List (Numbered K T)). keys_of kept) is ∙ map-set (λ (one : Numbered K T). one.key) old place one ∙ ap (set (keys_of old) place) (sym it) ∙ set-get_or (keys_of old) place one.key in
            subst (AreRising cmp) (sym unchanged) rising
        rising_kept (inr (place, gap, is)) rising =
            subst (AreRising cmp) (sym (ap (λ (kept : List (Numbered K T)). keys_of kept) is ∙ map-insert (λ (one : Numbered K T). one.key) old place one)) (rising-insert (keys_of old) place one.key gap rising)
