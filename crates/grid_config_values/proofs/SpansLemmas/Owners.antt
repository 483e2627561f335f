-- The cell that is seen at a place: what it is, and that a search among the spans finds it.
use Rattle.std.proofs.Common.{◌≡◌, ◌≢◌, ◌==◌, ◌+◌, ◌-◌, ◌*◌, ◌<◌, ◌≤◌, ℕ, zero, suc, Bool, true, false, not, List, [], ◌∷◌, ◌++◌, map, flat_map, Option, None, Some, refl, sym, ap, subst, ◌∙◌, unwrap_or, ◌⊎◌, inl, inr, IsTrue, is_none, ◌↔◌, arith}
use Rattle.std.proofs.lemmas.Bool.{and_parts}
use Rattle.std.proofs.lemmas.Bool.Decides.{nat_tests}
use Rattle.std.proofs.Math.Nat.{mul-le-mul_right}
use Rattle.std.specs.List.{All, AllByRecursion, filter, find, list_any, range_with_len}
use Rattle.std.specs.List.Sorted.{IsStrictlySortedBy}
use Rattle.std.specs.Map.{lookup}
use Rattle.std.specs.Ordering.{is_gt, is_le}
use Rattle.std.specs.BTreeMap.Range.{range_contains}
use Rattle.std.specs.declared.ops.Bound.TheVariants.{Included, Unbounded}
use Rattle.std.specs.declared.cmp.Ordering.TheVariants.{Less}
use Rattle.grid_config_values.specs.declared.position.Position.{Position}
use Rattle.grid_config_values.specs.Entities.{table_positions}
use Rattle.grid_config_values.specs.Order.{position_cmp, same_place}
use Rattle.grid_config_values.specs.declared.spans.extent.Extent.{Extent}
use Rattle.grid_config_values.specs.Spans.Owners.{InRows, IsFirst, UpTo, hides, owner}
use Rattle.grid_config_values.specs.Spans.Rectangles.{Holds}
use Rattle.grid_config_values.specs.Spans.Search.{begins_before, begins_from, holds}
use Rattle.grid_config_values.specs.Spans.Spans.{AreGood, ArePositive, IsInTable, IsVisible, extent_at, single}
use Rattle.grid_config_values.proofs.SpansLemmas.Order.{is_le_cmp, same_position, same_itself}
use Rattle.grid_config_values.proofs.SpansLemmas.Visible.{Kept, NotKept, any_from_lookup, extent_kept, holds_shown, holds_tested, first_passes, kept_or_single, le_from_not_gt, single_holds}
use Rattle.grid_config_values.proofs.SpansLemmas.Good.{is_false}
use Rattle.grid_config_values.proofs.SpansLemmas.Parting.{holder_is_visible, in_table_before, visible_apart, visible_without}

-- ---- the first place that passes

both_ways : (a b : Position) → is_le (position_cmp a b) ≡ true → is_le (position_cmp b a) ≡ true → a ≡ b
both_ways a b le ge =
    let same : same_place a b ≡ true = grind (arith, nat_tests, sym (is_le_cmp a b) ∙ le, sym (is_le_cmp b a) ∙ ge) in
    same_position a b same

first_unique : (test : Position → Bool) (among : Position → Type 0) (r s : Option Position) → IsFirst test among r → IsFirst test among s → r ≡ s
first_unique test among None None a b = refl
first_unique test among None (Some y) a b = absurd (grind (arith, a y b.1, b.0))
first_unique test among (Some x) None a b = absurd (grind (arith, b x a.1, a.0))
first_unique test among (Some x) (Some y) a b = ap Some (both_ways x y (a.2 y b.1 b.0) (b.2 x a.1 a.0))

-- what is found, or else the next
abbrev or_next : Option Position → Option Position → Option Position
or_next None next = next
or_next (Some found) next = Some found

find_joined : (test : Position → Bool) (xs ys : List Position) → find test (xs ++ ys) ≡ or_next (find test xs) (find test ys)
find_joined test [] ys = refl
find_joined test (x ∷ xs) ys = elim (test x) as (λ b. test x ≡ b → find test ((x ∷ xs) ++ ys) ≡ or_next (find test (x ∷ xs)) (find test ys)) [
  | true ↦ λ e. rw e refl
  | false ↦ λ e. rw e (find_joined test xs ys)
] refl

-- the first of two parts, of which one is before the other
first_joined : (test : Position → Bool) (front back all : Position → Type 0) (r s : Option Position) →
    ((p q : Position) → front p → back q → is_le (position_cmp p q) ≡ true) → ((p : Position) → all p → front p ⊎ back p) →
    ((p : Position) → front p → all p) → ((p : Position) → back p → all p) → IsFirst test front r → IsFirst test back s → IsFirst test all (or_next r s)
first_joined test front back all None None before parted of_front of_back none others = λ p there. elim (parted p there) [
  | inl here ↦ none p here
  | inr here ↦ others p here
]
first_joined test front back all None (Some y) before parted of_front of_back none found = (
  found.0,
  of_back y found.1,
  λ p there passes. elim (parted p there) [
    | inl here ↦ absurd (grind (arith, none p here, passes))
    | inr here ↦ found.2 p here passes
  ],
)
first_joined test front back all (Some x) s before parted of_front of_back found others = (
  found.0,
  of_front x found.1,
  λ p there passes. elim (parted p there) [
    | inl here ↦ found.2 p here passes
    | inr here ↦ before x p found.1 here
  ],
)

abbrev at : ℕ → ℕ → Position
at row col = record { row = row; col = col }

-- in a row, from a column on
abbrev InRow : ℕ → ℕ → ℕ → Position → Type 0
InRow row col n p = (p.row ≡ row) × (col ≤ p.col) × (p.col < col + n)

first_alone : (test : Position → Bool) (x : Position) → IsFirst test (λ p. p ≡ x) (find test (x ∷ []))
first_alone test x = elim (test x) as (λ b. test x ≡ b → IsFirst test (λ p. p ≡ x) (find test (x ∷ []))) [
  | true ↦ λ e. rw e (e, refl, λ p same passes. rw same (is_le_cmp x x ∙ grind (arith, nat_tests)))
  | false ↦ λ e. rw e (λ p same. ap test same ∙ e)
] refl

first_in_row : (test : Position → Bool) (row col n : ℕ) → IsFirst test (InRow row col n) (find test (map (at row) (range_with_len col n)))
first_in_row test row col zero = λ p there. absurd (omega (arith, there.1, there.2))
first_in_row test row col (suc n) =
    rw (find_joined test (at row col ∷ []) (map (at row) (range_with_len (col + 1) n)))
    (first_joined test (λ p. p ≡ at row col) (InRow row (col + 1) n) (InRow row col (suc n)) (find test (at row col ∷ [])) (find test (map (at row) (range_with_len (col + 1) n)))
    (λ p q here there. rw here (is_le_cmp (at row col) q ∙ grind (arith, nat_tests, there.0, there.1)))
    (λ p there. elim (same_place p (at row col)) as (λ b. same_place p (at row col) ≡ b → (p ≡ at row col) ⊎ InRow row (col + 1) n p) [
      | true ↦ λ e. inl (same_position p (at row col) e)
      | false ↦ λ e. inr (there.0, grind (arith, nat_tests, e, there.0, there.1), omega (arith, there.2))
    ] refl)
    (λ p here. rw here (refl, omega arith, omega arith))
    (λ p there. (there.0, omega (arith, there.1), omega (arith, there.2)))
    (first_alone test (at row col)) (first_in_row test row (col + 1) n))

first_in_rows : (test : Position → Bool) (columns row n : ℕ) → IsFirst test (InRows columns row n) (find test (flat_map (λ i. map (at i) (range_with_len 0 columns)) (range_with_len row n)))
first_in_rows test columns row zero = λ p there. absurd (omega (arith, there.0, there.1))
first_in_rows test columns row (suc n) =
    let others = flat_map (λ i. map (at i) (range_with_len 0 columns)) (range_with_len (row + 1) n) in
    rw (find_joined test (map (at row) (range_with_len 0 columns)) others)
    (first_joined test (InRow row 0 columns) (InRows columns (row + 1) n) (InRows columns row (suc n)) (find test (map (at row) (range_with_len 0 columns))) (find test others)
    (λ p q here there. is_le_cmp p q ∙ grind (arith, nat_tests, here.0, there.0))
    (λ p there. elim (p.row == row) as (λ b. p.row == row ≡ b → InRow row 0 columns p ⊎ InRows columns (row + 1) n p) [
      | true ↦ λ e. inl (grind (arith, nat_tests, e), omega arith, omega (arith, there.2))
      | false ↦ λ e. inr (grind (arith, nat_tests, e, there.0), omega (arith, there.1), there.2)
    ] refl)
    (λ p here. (omega (arith, here.0), omega (arith, here.0), omega (arith, here.2)))
    (λ p there. (omega (arith, there.0), omega (arith, there.1), there.2))
    (first_in_row test row 0 columns) (first_in_rows test columns (row + 1) n))

first_of_table : (extent : Position → Extent) (place : Position) → IsFirst (hides extent place) (UpTo place) (find (hides extent place) (table_positions (place.row + 1) (place.col + 1)))
first_of_table extent place = first_in_rows (hides extent place) (place.col + 1) 0 (place.row + 1)

-- ---- owners

hides_shown : (extent : Position → Extent) (place p : Position) → hides extent place p ≡ true → Holds p (extent p) place × (p ≢ place)
hides_shown extent place p e =
    let parts = and_parts (holds p (extent p) place) (not (same_place p place)) e in
    (holds_shown p (extent p) place parts.0, λ same. let itself : same_place p place ≡ true = rw same (same_itself place) in grind (arith, parts.1, itself))

hides_tested : (extent : Position → Extent) (place p : Position) → Holds p (extent p) place → same_place p place ≡ false → hides extent place p ≡ true
hides_tested extent place p held other = grind (arith, holds_tested p (extent p) place held, other)

up_to : (extent : Extent) (place p : Position) → Holds p extent place → UpTo place p
up_to extent place p held = (omega arith, omega (arith, held.below), omega (arith, held.right))

none_hides : (extent : Position → Extent) (place : Position) → IsFirst (hides extent place) (UpTo place) None → (p : Position) → Holds p (extent p) place → p ≡ place
none_hides extent place first p held = elim (same_place p place) as (λ b. same_place p place ≡ b → p ≡ place) [
  | true ↦ λ same. same_position p place same
  | false ↦ λ other. absurd (grind (arith, first p (up_to (extent p) place p held), hides_tested extent place p held other))
] refl

-- a place is its own owner, and no other cell holds it; or another cell that holds it is
pub data IsOwned (extent : Position → Extent) (place : Position) : Type 0 where
  Itself : owner extent place ≡ place → ((p : Position) → Holds p (extent p) place → p ≡ place) → IsOwned extent place
  Held : Holds (owner extent place) (extent (owner extent place)) place → owner extent place ≢ place → IsOwned extent place

pub is_owned : (extent : Position → Extent) (place : Position) → IsOwned extent place
is_owned extent place = decided (find (hides extent place) (table_positions (place.row + 1) (place.col + 1))) refl (first_of_table extent place)
  where
    decided : (found : Option Position) → find (hides extent place) (table_positions (place.row + 1) (place.col + 1)) ≡ found → IsFirst (hides extent place) (UpTo place) found → IsOwned extent place
    decided None is first = Itself (ap (λ o. unwrap_or o place) is) (none_hides extent place first)
    decided (Some a) is first =
        let shown = hides_shown extent place a first.0 in
        let same : owner extent place ≡ a = ap (λ o. unwrap_or o place) is in
        Held (rw same shown.0) (rw same shown.1)

pub owner_holds : (spans : List (Position × Extent)) (place : Position) → ArePositive spans → Holds (owner (extent_at spans) place) (extent_at spans (owner (extent_at spans) place)) place
owner_holds spans place positive = elim (is_owned (extent_at spans) place) [
  | Itself same only ↦ rw same (record { below = omega arith; above = omega (arith, (positive place).0); right = omega arith; left = omega (arith, (positive place).1) })
  | Held held other ↦ held
]

pub owner_is_visible : (spans : List (Position × Extent)) (rows columns : ℕ) (place : Position) → AreGood spans rows columns → IsInTable rows columns place → IsVisible spans (owner (extent_at spans) place)
owner_is_visible spans rows columns place good in_table = elim (is_owned (extent_at spans) place) [
  | Itself same only ↦ subst (IsVisible spans) (sym same) only
  | Held held other ↦ holder_is_visible spans rows columns (owner (extent_at spans) place) place good in_table held other
]

pub owner_in_table : (spans : List (Position × Extent)) (rows columns : ℕ) (place : Position) → IsInTable rows columns place → IsInTable rows columns (owner (extent_at spans) place)
owner_in_table spans rows columns place in_table = elim (is_owned (extent_at spans) place) [
  | Itself same only ↦ subst (IsInTable rows columns) (sym same) in_table
  | Held held other ↦ in_table_before rows columns (owner (extent_at spans) place) place (extent_at spans (owner (extent_at spans) place)) in_table held
]

-- the one visible cell that holds a place owns it
pub owner_is_only : (spans : List (Position × Extent)) (rows columns : ℕ) (a place : Position) → ArePositive spans → AreGood spans rows columns → IsInTable rows columns place →
    IsVisible spans a → Holds a (extent_at spans a) place → a ≡ owner (extent_at spans) place
owner_is_only spans rows columns a place positive good in_table seen held =
    visible_apart spans rows columns a (owner (extent_at spans) place) place good in_table seen (owner_is_visible spans rows columns place good in_table) held (owner_holds spans place positive)

-- the owner of a place owns every place that its rectangle holds
pub owner_goes_on : (spans : List (Position × Extent)) (rows columns : ℕ) (place other : Position) → ArePositive spans → AreGood spans rows columns → IsInTable rows columns place → IsInTable rows columns other →
    Holds (owner (extent_at spans) place) (extent_at spans (owner (extent_at spans) place)) other → owner (extent_at spans) other ≡ owner (extent_at spans) place
owner_goes_on spans rows columns place other positive good in_table other_in held =
    sym (owner_is_only spans rows columns (owner (extent_at spans) place) other positive good other_in (owner_is_visible spans rows columns place good in_table) held)

pub own_if_visible : (spans : List (Position × Extent)) (place : Position) → IsVisible spans place → owner (extent_at spans) place ≡ place
own_if_visible spans place seen = elim (is_owned (extent_at spans) place) [
  | Itself same only ↦ same
  | Held held other ↦ seen (owner (extent_at spans) place) held
]

pub visible_if_own : (spans : List (Position × Extent)) (place : Position) → owner (extent_at spans) place ≡ place → IsVisible spans place
visible_if_own spans place own = elim (is_owned (extent_at spans) place) [
  | Itself same only ↦ only
  | Held held other ↦ absurd (other own)
]

pub own_decides : (spans : List (Position × Extent)) (place : Position) → IsTrue (same_place (owner (extent_at spans) place) place) ↔ IsVisible spans place
own_decides spans place = (
  λ same. visible_if_own spans place (same_position (owner (extent_at spans) place) place same),
  λ seen. rw (own_if_visible spans place seen) (same_itself place),
)

pub owner_without : (place : Position) → owner (extent_at []) place ≡ place
owner_without place = own_if_visible [] place (visible_without place)

-- single cells own themselves
pub owner_single : (place : Position) → owner (λ _. single) place ≡ place
owner_single place = elim (is_owned (λ _. single) place) [
  | Itself same only ↦ same
  | Held held other ↦ single_holds (owner (λ _. single) place) place held
]

-- ---- the search among the spans

-- what is found passes, and has what all have
pub found_passes : {X : Type 0} (P : X → Type 0) (test : X → Bool) (xs : List X) (found : X) → All P xs → find test xs ≡ Some found → (test found ≡ true) × P found
found_passes P test [] found all is = cc
found_passes P test (x ∷ xs) found all is = elim (test x) as (λ b. test x ≡ b → (test found ≡ true) × P found) [
  | true ↦ λ passes.
      let same : x ≡ found = some_same (grind (arith, is, passes)) in
      (subst (λ y. test y ≡ true) same passes, subst P same (all 0 x (omega arith)))
  | false ↦ λ fails.
      let rest : find test xs ≡ Some found = grind (arith, is, fails) in
      found_passes P test xs found (λ k d lt. all (suc k) d (omega arith)) rest
] refl
  where
    some_same : Some x ≡ Some found → x ≡ found
    some_same e = ap (λ o. unwrap_or o x) e

pub none_passes : {X : Type 0} (test : X → Bool) (xs : List X) → find test xs ≡ None → list_any test xs ≡ false
none_passes test [] none = refl
none_passes test (x ∷ xs) none = elim (test x) as (λ b. test x ≡ b → list_any test (x ∷ xs) ≡ false) [
  | true ↦ λ passes. absurd (grind (arith, none, passes))
  | false ↦ λ fails.
      let rest : find test xs ≡ None = grind (arith, none, fails) in
      grind (arith, fails, none_passes test xs rest)
] refl

-- what is kept at a place has what all places have
at_kept : (P : Position → Type 0) (spans : List (Position × Extent)) (place : Position) (extent : Extent) → AllByRecursion P (map (λ span. span.0) spans) → lookup (same_place place) spans ≡ Some extent → P place
at_kept P [] place extent all found = cc
at_kept P (span ∷ spans) place extent all found = elim (same_place place span.0) as (λ b. same_place place span.0 ≡ b → P place) [
  | true ↦ λ same. subst P (sym (same_position place span.0 same)) all.0
  | false ↦ λ other.
      let there : lookup (same_place place) spans ≡ Some extent = grind (arith, found, other) in
      at_kept P spans place extent all.1 there
] refl

-- of spans in order the one that is found begins before all others that pass
pub found_first : (test : Position × Extent → Bool) (spans : List (Position × Extent)) (found : Position × Extent) → IsStrictlySortedBy position_cmp (map (λ span. span.0) spans) → find test spans ≡ Some found →
    (p : Position) (extent : Extent) → lookup (same_place p) spans ≡ Some extent → test (p, extent) ≡ true → is_le (position_cmp found.0 p) ≡ true
unfolding IsStrictlySortedBy
found_first test [] found ordered is p extent kept passes = cc
found_first test (span ∷ spans) found ordered is p extent kept passes = elim (same_place p span.0) as (λ b. same_place p span.0 ≡ b → is_le (position_cmp found.0 p) ≡ true) [
  | true ↦ λ same.
      let here : Some span.1 ≡ Some extent = grind (arith, kept, same) in
      let found_here : find test (span ∷ spans) ≡ Some span = grind (arith, first_passes test span p extent same here passes) in
      let found_is : found ≡ span = ap (λ o. unwrap_or o span) (sym is ∙ found_here) in
      rw (found_is, ← same_position p span.0 same) (is_le_cmp p p ∙ grind (arith, nat_tests))
  | false ↦ λ other.
      let there : lookup (same_place p) spans ≡ Some extent = grind (arith, kept, other) in
      elim (test span) as (λ b. test span ≡ b → is_le (position_cmp found.0 p) ≡ true) [
        | true ↦ λ here.
            let found_here : find test (span ∷ spans) ≡ Some span = grind (arith, here) in
            let found_is : found ≡ span = ap (λ o. unwrap_or o span) (sym is ∙ found_here) in
            rw found_is (ap is_le (at_kept (λ q. position_cmp span.0 q ≡ Less) spans p extent ordered.0 there))
        | false ↦ λ fails.
            let rest : find test spans ≡ Some found = grind (arith, is, fails) in
            found_first test spans found ordered.1 rest p extent there passes
      ] refl
] refl

differs : (p place : Position) → p ≢ place → same_place p place ≡ false
differs p place other = is_false (same_place p place) (λ same. other (same_position p place same))

-- what hides another place is kept
hider_kept : (spans : List (Position × Extent)) (place p : Position) → hides (extent_at spans) place p ≡ true → (extent : Extent) × (lookup (same_place p) spans ≡ Some extent)
hider_kept spans place p passes =
    let shown = hides_shown (extent_at spans) place p passes in
    elim (kept_or_single spans p) [
      | Kept extent found is ↦ (extent, found)
      | NotKept is ↦ absurd (shown.1 (single_holds p place (subst (λ (e : Extent). Holds p e place) is shown.0)))
    ]

module _ (spans : List (Position × Extent)) (place : Position) where
  -- no cell that begins before this place hides the other one
  abbrev pub NoneBefore : Position → Type 0
  NoneBefore from = (p : Position) → hides (extent_at spans) place p ≡ true → is_le (position_cmp from p) ≡ true

  pub none_before_first : (first : Position) → ((anchor : Position) → Holds anchor (extent_at spans anchor) place → is_gt (position_cmp first anchor) ≡ false) → NoneBefore first
  none_before_first first from p passes = le_from_not_gt (position_cmp first p) (from p (hides_shown (extent_at spans) place p passes).0)

  module _ (ordered : IsStrictlySortedBy position_cmp (map (λ span. span.0) spans)) (from : Position) (none : NoneBefore from) where
    -- what is found from there on begins before all that hide the place
    found_before : (span : Position × Extent) → find (begins_from from) spans ≡ Some span → NoneBefore span.0
    found_before span is p passes =
        let has = hider_kept spans place p passes in
        found_first (begins_from from) spans span ordered is p has.0 has.1 (none p passes)

    pub none_left : find (begins_from from) spans ≡ None → IsFirst (hides (extent_at spans) place) (UpTo place) None
    none_left is p there = is_false (hides (extent_at spans) place p) (λ passes.
        let has = hider_kept spans place p passes in
        grind (arith, any_from_lookup (begins_from from) spans p has.0 has.1 (none p passes), none_passes (begins_from from) spans is))

    pub none_hides_before : (span : Position × Extent) → find (begins_from from) spans ≡ Some span → begins_before span.0 place ≡ false → IsFirst (hides (extent_at spans) place) (UpTo place) None
    none_hides_before span is past p there = is_false (hides (extent_at spans) place p) (λ passes.
        let shown = hides_shown (extent_at spans) place p passes in
        let order = sym (is_le_cmp span.0 p) ∙ found_before span is p passes in
        grind (arith, nat_tests, order, past, shown.0.below, shown.0.right, differs p place shown.1))

    pub found_hides : (span : Position × Extent) → find (begins_from from) spans ≡ Some span → lookup (same_place span.0) spans ≡ Some span.1 → begins_before span.0 place ≡ true → holds span.0 span.1 place ≡ true → IsFirst (hides (extent_at spans) place) (UpTo place) (Some span.0)
    found_hides span is kept before holds_it =
        let held : Holds span.0 (extent_at spans span.0) place = subst (λ (e : Extent). Holds span.0 e place) (sym (extent_kept spans span.0 span.1 kept)) (holds_shown span.0 span.1 place holds_it) in
        let other : same_place span.0 place ≡ false = grind (arith, nat_tests, before) in (
          hides_tested (extent_at spans) place span.0 held other,
          up_to (extent_at spans span.0) place span.0 held,
          λ p there passes. found_before span is p passes,
        )

    pub none_before_next : (span : Position × Extent) (next : Position) → find (begins_from from) spans ≡ Some span → lookup (same_place span.0) spans ≡ Some span.1 → holds span.0 span.1 place ≡ false
        → ((p : Position) → begins_before span.0 p ≡ true → Holds p (extent_at spans p) place → is_le (position_cmp next p) ≡ true) → NoneBefore next
    none_before_next span next is kept fails past p passes =
        let shown = hides_shown (extent_at spans) place p passes in
        let other : same_place p span.0 ≡ false = is_false (same_place p span.0) (λ same.
        let holds_it : Holds span.0 span.1 place = subst (λ (e : Extent). Holds span.0 e place) (extent_kept spans span.0 span.1 kept) (subst (λ (q : Position). Holds q (extent_at spans q) place) (same_position p span.0 same) shown.0) in
        grind (arith, fails, holds_tested span.0 span.1 place holds_it)) in
        let order = sym (is_le_cmp span.0 p) ∙ found_before span is p passes in
        past p (grind (arith, nat_tests, order, other)) shown.0

  -- the first that holds the place, and else the place, is the owner
  pub owner_found : (result : Option Position) → IsFirst (hides (extent_at spans) place) (UpTo place) result → unwrap_or result place ≡ owner (extent_at spans) place
  owner_found result first = ap (λ o. unwrap_or o place) (first_unique (hides (extent_at spans) place) (UpTo place) _ _ first (first_of_table (extent_at spans) place))

  -- nothing is found exactly where the place is visible
  pub search_decides : (result : Option Position) → IsFirst (hides (extent_at spans) place) (UpTo place) result → IsTrue (is_none result) ↔ IsVisible spans place
  search_decides None none = (λ _. none_hides (extent_at spans) place none, λ _. refl)
  search_decides (Some a) found = (
    λ h. cc,
    λ seen.
        let shown = hides_shown (extent_at spans) place a found.0 in
        absurd (shown.1 (seen a shown.0)),
  )

-- ---- what is passed over

-- the search resumes after what it found
pub goes_on : (from anchor next : Position) → is_le (position_cmp from anchor) ≡ true → begins_before anchor next ≡ true → begins_before from next ≡ true
goes_on from anchor next behind further = let order = sym (is_le_cmp from anchor) ∙ behind in grind (arith, nat_tests, order, further)

-- what is left of rows of so many columns
abbrev pub left_of : Position → Position → ℕ
left_of pos from = (pos.row - from.row) * (pos.col + 1) + (pos.col - from.col)

pub less_left : (pos from next : Position) → begins_before from next ≡ true → next.row ≤ pos.row → next.col ≤ pos.col → left_of pos next < left_of pos from
less_left pos from next before row col = elim (from.row == next.row) as (λ b. (from.row == next.row) ≡ b → left_of pos next < left_of pos from) [
  | true ↦ λ same.
      let rows : from.row ≡ next.row = grind (arith, nat_tests, same) in
      let cols : from.col < next.col = grind (arith, nat_tests, same, before) in
      omega (arith, ap (λ n. (pos.row - n) * (pos.col + 1)) rows, cols, col)
  | false ↦ λ other.
      let rows : from.row < next.row = grind (arith, nat_tests, other, before) in
      let fewer : (pos.row - next.row) + 1 ≤ pos.row - from.row = omega (arith, rows, row) in
      let less : ((pos.row - next.row) + 1) * (pos.col + 1) ≤ (pos.row - from.row) * (pos.col + 1) = mul-le-mul_right (pos.col + 1) fewer in
      omega (arith, less, col)
] refl

module _ (anchor p place : Position) (extent : Extent) (most : ℕ) (held : Holds p extent place) (bounded : extent.columns ≤ most) (behind : begins_before anchor p ≡ true) where
  pub past_left : anchor.col < place.col - (most - 1) → is_le (position_cmp (at anchor.row (place.col - (most - 1))) p) ≡ true
  past_left left = is_le_cmp (at anchor.row (place.col - (most - 1))) p ∙ grind (arith, nat_tests, left, behind, bounded, held.right, held.left)

  pub past_itself : is_le (position_cmp (at anchor.row (anchor.col + 1)) p) ≡ true
  past_itself = is_le_cmp (at anchor.row (anchor.col + 1)) p ∙ grind (arith, nat_tests, behind)

  pub past_row : place.col ≤ anchor.col → is_le (position_cmp (at (anchor.row + 1) (place.col - (most - 1))) p) ≡ true
  past_row right = is_le_cmp (at (anchor.row + 1) (place.col - (most - 1))) p ∙ grind (arith, nat_tests, right, behind, bounded, held.right, held.left)

-- what a filter keeps first is found, where both tests are the same
pub found_in_head : {X : Type 0} (picks test : X → Bool) → ((x : X) → picks x ≡ test x) → (xs ys : List X) (x : X) → filter picks xs ≡ x ∷ ys → find test xs ≡ Some x
found_in_head picks test same [] ys x is = cc
found_in_head picks test same (y ∷ xs) ys x is = elim (picks y) as (λ b. picks y ≡ b → find test (y ∷ xs) ≡ Some x) [
  | true ↦ λ passes. grind (arith, passes, is, same y)
  | false ↦ λ fails.
      let rest : filter picks xs ≡ x ∷ ys = grind (arith, is, fails) in
      grind (arith, fails, same y, found_in_head picks test same xs ys x rest)
] refl

pub found_in_none : {X : Type 0} (picks test : X → Bool) → ((x : X) → picks x ≡ test x) → (xs : List X) → filter picks xs ≡ [] → find test xs ≡ None
found_in_none picks test same [] is = refl
found_in_none picks test same (y ∷ xs) is = elim (picks y) as (λ b. picks y ≡ b → find test (y ∷ xs) ≡ None) [
  | true ↦ λ passes. absurd (grind (arith, passes, is))
  | false ↦ λ fails.
      let rest : filter picks xs ≡ [] = grind (arith, is, fails) in
      grind (arith, fails, same y, found_in_none picks test same xs rest)
] refl

-- of spans that are picked by where they begin alone
pub same_range : (from : Position) (span : Position × Extent) → range_contains position_cmp (Included from) Unbounded span.0 ≡ begins_from from span
same_range from span = grind arith
