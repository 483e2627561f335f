-- One step back over an additive character, before what a text of them begins with.
use Rattle.std.proofs.Common.{◌≡◌, ◌==◌, ℕ, ◌+◌, ◌<◌, ◌≤◌, nat_lt, Bool, true, false, cond, List, refl, ap, sym, ◌∙◌, arith, ⊎_elim, ◌⊎◌}
use Rattle.std.specs.Int.{is_in_range}
use Rattle.std.specs.List.{list_all}
use Rattle.std.proofs.lemmas.Bool.{cases_lt, eqb-true, or_cases}
use Rattle.std.proofs.lemmas.Bool.Decides.{nat_tests}
use Rattle.unicode_width.specs.declared.state.After.{After}
use Rattle.unicode_width.specs.declared.state.After.TheVariants.{Nothing, Emoji, Lamed}
use Rattle.unicode_width.specs.Kind.{is_ligature_transparent}
use Rattle.unicode_width.specs.Width.{added, alone, before, char_width, in_context, joins, past_emoji, past_selectors, plain, step}
use Rattle.grid_records_measure.specs.Measures.{own_width}
use Rattle.grid_records_measure.specs.PlainCharacters.{is_in_ranges}
use Rattle.grid_records_measure.proofs.Plain.{width-low}
use Rattle.tables_laws.specs.Characters.AdditiveCharacters.{columns_of, high_ranges, is_additive, wide_ranges, zero_width_ranges}
use Rattle.tables_laws.proofs.CharactersLemmas.OwnColumns.{IsAlone, from, high-alone, is_still, passed-zero}

-- ---- what an additive character is not

pub not-named : (c k : ℕ) → is_additive c ≡ true → is_additive k ≡ false → (c == k) ≡ false
not-named c k additive other = by_test (c == k) refl
  where
    by_test : (same : Bool) → (c == k) ≡ same → (c == k) ≡ false
    by_test false e = e
    by_test true e =
        let is : c ≡ k = eqb-true c k e in
        let both : true ≡ false = sym additive ∙ ap is_additive is ∙ other in
        absurd (cc both)

-- ---- printable ASCII, and NO-BREAK SPACE

step-low : (c t : ℕ) (after : After) → 0x20 ≤ c → c ≤ 0xA0 → step false c (t, before after) ≡ (t + 1, plain)
unfolding step past_emoji
step-low c t after low high = grind (arith, nat_tests, low, high)

none-below : (ranges : List (ℕ × ℕ)) (n c : ℕ) → list_all (λ range. nat_lt n range.0) ranges ≡ true → c ≤ n → is_in_ranges ranges c ≡ false
none-below ranges n c all below = by_test (is_in_ranges ranges c) refl
  where
    by_test : (b : Bool) → is_in_ranges ranges c ≡ b → is_in_ranges ranges c ≡ false
    by_test false e = e
    by_test true e = absurd (omega (arith, from n ranges c all e, below))

columns-low : (c : ℕ) → c ≤ 0xA0 → columns_of c ≡ 1
columns-low c low =
    ap (λ b. cond b 0 (cond (is_in_ranges wide_ranges c) 2 1)) (none-below zero_width_ranges 0xA0 c refl low)
    ∙ ap (λ b. cond b 2 1) (none-below wide_ranges 0xA0 c refl low)

-- ---- beyond

-- what its state is to the one before, where that state is still
high-nothing : (c t : ℕ) → nat_lt 0xA0 c ≡ true → step false c (t, before Nothing) ≡ added t (alone false c)
unfolding step past_emoji
high-nothing c t high = grind (arith, nat_tests)

high-emoji : (c t : ℕ) → nat_lt 0xA0 c ≡ true → (c == 0xFE0F) ≡ false → (c == 0xFE01) ≡ false → (c == 0xFE0E) ≡ false → (c == 0x200D) ≡ false
    → step false c (t, before Emoji) ≡ added t (alone false c)
unfolding step past_emoji in_context past_selectors joins
high-emoji c t high a b d e = grind (arith, nat_tests)

high-lamed : (c t : ℕ) → nat_lt 0xA0 c ≡ true → (c == 0xFE0F) ≡ false → (c == 0xFE01) ≡ false → (c == 0xFE0E) ≡ false → (c == 0x200D) ≡ false
    → step false c (t, before Lamed) ≡ cond (is_ligature_transparent c) (t, before Lamed) (added t (alone false c))
unfolding step past_emoji in_context past_selectors joins
high-lamed c t high a b d e = grind (arith, nat_tests)

-- ---- a step

-- so many columns more, and the text begins so that it joins no additive character
pub record Steps (c columns t : ℕ) (after : After) : Type 0 where
  pub next : After
  pub still : is_still next ≡ true
  pub is : step false c (t, before after) ≡ (t + columns, before next)

module _ (c t : ℕ) where
  low : (after : After) → 0x20 ≤ c → c ≤ 0xA0 → Steps c (columns_of c) t after
  low after least most = record { next = Nothing; still = refl; is = step-low c t after least most ∙ ap (λ n. (t + n, plain)) (sym (columns-low c most)) }

  by-itself : (after : After) → step false c (t, before after) ≡ added t (alone false c) → IsAlone c (columns_of c) → Steps c (columns_of c) t after
  by-itself after is own = record { next = own.next; still = own.still; is = is ∙ ap (added t) own.is }

  module _ (additive : is_additive c ≡ true) (inside : is_in_ranges high_ranges c ≡ true) (high : nat_lt 0xA0 c ≡ true) where
    lamed : Steps c (columns_of c) t Lamed
    lamed = by_test (is_ligature_transparent c) refl
      where
        is : step false c (t, before Lamed) ≡ cond (is_ligature_transparent c) (t, before Lamed) (added t (alone false c))
        is = high-lamed c t high (not-named c 0xFE0F additive refl) (not-named c 0xFE01 additive refl) (not-named c 0xFE0E additive refl) (not-named c 0x200D additive refl)

        by_test : (b : Bool) → is_ligature_transparent c ≡ b → Steps c (columns_of c) t Lamed
        by_test true e =
            let same : t ≡ t + columns_of c = omega (arith, passed-zero c inside e) in
            record { next = Lamed; still = refl; is = is ∙ ap (λ b. cond b (t, before Lamed) (added t (alone false c))) e ∙ ap (λ n. (n, before Lamed)) same }
        by_test false e = by-itself Lamed (is ∙ ap (λ b. cond b (t, before Lamed) (added t (alone false c))) e) (high-alone c inside)

    beyond : (after : After) → is_still after ≡ true → Steps c (columns_of c) t after
    beyond Nothing still = by-itself Nothing (high-nothing c t high) (high-alone c inside)
    beyond Emoji still =
        by-itself Emoji (high-emoji c t high (not-named c 0xFE0F additive refl) (not-named c 0xFE01 additive refl) (not-named c 0xFE0E additive refl) (not-named c 0x200D additive refl)) (high-alone c inside)
    beyond Lamed still = lamed
    beyond _ still = absurd (cc still)

-- printable ASCII, or a character of the blocks
pub low-or-high : (c : ℕ) → is_additive c ≡ true → (is_in_range 0x20 0x7E c ≡ true) ⊎ (is_in_ranges high_ranges c ≡ true)
low-or-high c additive = or_cases (is_in_range 0x20 0x7E c) (is_in_ranges high_ranges c) additive

pub high-from : (c : ℕ) → is_in_ranges high_ranges c ≡ true → 0x9F < c
high-from c inside = from 0x9F high_ranges c refl inside

pub step-additive : (c t : ℕ) (after : After) → is_additive c ≡ true → is_still after ≡ true → Steps c (columns_of c) t after
step-additive c t after additive still =
    ⊎_elim (λ (ascii : is_in_range 0x20 0x7E c ≡ true).
    let least : 0x20 ≤ c = grind (arith, nat_tests, ascii) in
    let most : c ≤ 0xA0 = grind (arith, nat_tests, ascii) in
    low c t after least most)
    (λ inside.
    let above = high-from c inside in
    ⊎_elim (λ (high : 0xA0 < c). let test : nat_lt 0xA0 c ≡ true = grind (arith, nat_tests, high) in beyond c t additive inside test after still)
    (λ most. low c t after (omega (arith, above)) most)
    (cases_lt 0xA0 c))
    (low-or-high c additive)

-- ---- its own columns

own-high : (c : ℕ) → 0xA0 ≤ c → own_width c ≡ (alone false c).0
unfolding char_width
own-high c high = grind (arith, nat_tests, high)

pub own-additive : (c : ℕ) → is_additive c ≡ true → own_width c ≡ columns_of c
own-additive c additive =
    ⊎_elim (λ (ascii : is_in_range 0x20 0x7E c ≡ true).
    let most : c ≤ 0xA0 = grind (arith, nat_tests, ascii) in
    width-low c ascii ∙ sym (columns-low c most))
    (λ inside. own-high c (omega (arith, high-from c inside)) ∙ ap (λ own. own.0) (high-alone c inside).is)
    (low-or-high c additive)

pub columns-few : (c : ℕ) → columns_of c ≤ 2
columns-few c = by_tests (is_in_ranges zero_width_ranges c) (is_in_ranges wide_ranges c)
  where
    by_tests : (zero wide : Bool) → cond zero 0 (cond wide 2 1) ≤ 2
    by_tests true wide = omega arith
    by_tests false true = omega arith
    by_tests false false = omega arith
