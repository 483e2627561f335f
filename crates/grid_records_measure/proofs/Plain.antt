-- The measure of plain characters is the sum of their columns.
use Rattle.std.proofs.Common.{◌≡◌, ◌==◌, ℕ, ◌+◌, not, ◌&&◌, ◌||◌, nat_lt, Bool, true, false, List, [], ◌∷◌, refl, ap, sym, ◌∙◌, arith, add_comm, ◌⊎◌, inl, inr, ⊎_elim}
use Rattle.std.specs.Int.{is_in_range}
use Rattle.std.specs.List.{list_all, sum_by}
use Rattle.std.proofs.lemmas.Bool.{and_parts, or_cases, eqb-true}
use Rattle.std.proofs.lemmas.Bool.Decides.{nat_tests}
use Rattle.std.proofs.lemmas.List.Sums.{sum_by-cons}
use Rattle.ucd_table.specs.Rows.{in_ranges}
use Rattle.ucd_table.proofs.Computing.{tables}
use Rattle.ucd_table.proofs.Stepped.{Stepped, of_ranges, zip_stepped}
use Rattle.ucd_table.proofs.Facts.{always, ends_by, Stepped-everywhere}
use Rattle.unicode_width.specs.declared.kind.Kind.{Kind}
use Rattle.unicode_width.specs.declared.kind.Kind.TheVariants as kinds
use Rattle.unicode_width.specs.declared.state.State.{State}
use Rattle.unicode_width.specs.declared.state.After.TheVariants.{Emoji}
use Rattle.unicode_width.specs.Kind.{kind}
use Rattle.unicode_width.specs.Width.{before, plain, of_kind, alone, char_width, joins, past_selectors, in_context, past_emoji, step, read_before, str_width}
use Rattle.unicode_width.proofs.KindLemmas.{kind_stepped}
use Rattle.grid_records_measure.specs.Measures.{measure, own_width, cost, line_cost}
use Rattle.grid_records_measure.specs.PlainCharacters.{one_column_ranges, two_column_ranges, is_in_ranges, is_one_column, is_two_columns, is_plain_character}

-- ---- the kinds of plain characters

abbrev is_narrow_kind : Kind → Bool
is_narrow_kind kinds.Narrow = true
is_narrow_kind kinds.Ambiguous = true
is_narrow_kind _ = false

abbrev is_wide_kind : Kind → Bool
is_wide_kind kinds.Wide = true
is_wide_kind kinds.Emoji = true
is_wide_kind _ = false

pub in_ranges-any : (ranges : List (ℕ × ℕ)) (c : ℕ) → in_ranges ranges c ≡ is_in_ranges ranges c
unfolding in_ranges
in_ranges-any [] c = refl
in_ranges-any (range ∷ ranges) c = ap (λ b. is_in_range range.0 range.1 c || b) (in_ranges-any ranges c)

narrow-stepped : Stepped (λ c. not (in_ranges one_column_ranges c) || is_narrow_kind (kind c))
unfolding tables
narrow-stepped = zip_stepped (λ inside k. not inside || is_narrow_kind k) (in_ranges one_column_ranges) kind (of_ranges one_column_ranges refl) kind_stepped

narrow-everywhere : (always (λ c. not (in_ranges one_column_ranges c) || is_narrow_kind (kind c)) narrow-stepped && (ends_by 0x11_0000 narrow-stepped.steps && narrow-stepped.default)) ≡ true
unfolding tables kind_stepped narrow-stepped
narrow-everywhere = refl

wide-stepped : Stepped (λ c. not (in_ranges two_column_ranges c) || is_wide_kind (kind c))
unfolding tables
wide-stepped = zip_stepped (λ inside k. not inside || is_wide_kind k) (in_ranges two_column_ranges) kind (of_ranges two_column_ranges refl) kind_stepped

wide-everywhere : (always (λ c. not (in_ranges two_column_ranges c) || is_wide_kind (kind c)) wide-stepped && (ends_by 0x11_0000 wide-stepped.steps && wide-stepped.default)) ≡ true
unfolding tables kind_stepped wide-stepped
wide-everywhere = refl

pub inside-test : (inside test : Bool) → inside ≡ true → not inside || test ≡ true → test ≡ true
inside-test true test e h = h
inside-test false test e h = absurd (cc e)

pub narrow-kind : (c : ℕ) → is_one_column c ≡ true → is_narrow_kind (kind c) ≡ true
narrow-kind c e =
    inside-test (in_ranges one_column_ranges c) (is_narrow_kind (kind c)) (in_ranges-any one_column_ranges c ∙ e)
    (Stepped-everywhere (λ x. not (in_ranges one_column_ranges x) || is_narrow_kind (kind x)) narrow-stepped narrow-everywhere c)

pub wide-kind : (c : ℕ) → is_two_columns c ≡ true → is_wide_kind (kind c) ≡ true
wide-kind c e =
    inside-test (in_ranges two_column_ranges c) (is_wide_kind (kind c)) (in_ranges-any two_column_ranges c ∙ e)
    (Stepped-everywhere (λ x. not (in_ranges two_column_ranges x) || is_wide_kind (kind x)) wide-stepped wide-everywhere c)

-- ---- a step over a plain character, after which the text begins with anything or with an emoji

data Quiet (s : State) : Type 0 where
  nothing : s ≡ plain → Quiet s
  emoji : s ≡ before Emoji → Quiet s

-- not a control, nor one of the characters that join an emoji
not-named : (c k : ℕ) → is_plain_character c ≡ true → is_plain_character k ≡ false → (c == k) ≡ false
not-named c k plain other = by_test (c == k) refl
  where
    by_test : (same : Bool) → (c == k) ≡ same → (c == k) ≡ false
    by_test false e = e
    by_test true e =
        let is : c ≡ k = eqb-true c k e in
        let both : true ≡ false = sym plain ∙ ap is_plain_character is ∙ other in
        absurd (cc both)

-- a printable character of ASCII, or one beyond the controls of eight bits
low-or-high : (c : ℕ) → is_plain_character c ≡ true → (is_in_range 0x20 0x7E c ≡ true) ⊎ (nat_lt 0xA0 c ≡ true)
low-or-high c plain = by_test (nat_lt 0xA0 c) refl
  where
    by_test : (high : Bool) → nat_lt 0xA0 c ≡ high → (is_in_range 0x20 0x7E c ≡ true) ⊎ (nat_lt 0xA0 c ≡ true)
    by_test true e = inr e
    by_test false e = inl (grind (arith, nat_tests, plain))

step-low : (c total : ℕ) → is_in_range 0x20 0x7E c ≡ true → step false c (total, plain) ≡ (total + own_width c, plain)
unfolding step past_emoji char_width
step-low c total low = grind (arith, nat_tests)

step-low_emoji : (c total : ℕ) → is_in_range 0x20 0x7E c ≡ true → step false c (total, before Emoji) ≡ (total + own_width c, plain)
unfolding step past_emoji char_width
step-low_emoji c total low = grind (arith, nat_tests)

step-high : (c total : ℕ) → nat_lt 0xA0 c ≡ true → step false c (total, plain) ≡ (total + own_width c, (alone false c).1)
unfolding step past_emoji char_width
step-high c total high = grind (arith, nat_tests)

step-high_emoji : (c total : ℕ) → nat_lt 0xA0 c ≡ true → (c == 0xFE0F) ≡ false → (c == 0xFE01) ≡ false → (c == 0xFE0E) ≡ false → (c == 0x200D) ≡ false
    → step false c (total, before Emoji) ≡ (total + own_width c, (alone false c).1)
unfolding step past_emoji in_context past_selectors joins char_width
step-high_emoji c total high a b d e = grind (arith, nat_tests)

-- ---- the state after a plain character

quiet-kind : (c : ℕ) (k : Kind) → is_narrow_kind k || is_wide_kind k ≡ true → Quiet (of_kind false c k).1
quiet-kind c kinds.Zero h = absurd (cc h)
quiet-kind c kinds.Narrow h = nothing refl
quiet-kind c kinds.Wide h = nothing refl
quiet-kind c kinds.Ambiguous h = nothing refl
quiet-kind c kinds.Alef h = absurd (cc h)
quiet-kind c kinds.KhmerLetter h = absurd (cc h)
quiet-kind c kinds.TifinaghConsonant h = absurd (cc h)
quiet-kind c kinds.LisuTone h = absurd (cc h)
quiet-kind c kinds.RegionalIndicator h = absurd (cc h)
quiet-kind c kinds.EmojiModifier h = absurd (cc h)
quiet-kind c kinds.Emoji h = emoji refl
quiet-kind c kinds.Single h = absurd (cc h)

pub or-first : (a b : Bool) → a ≡ true → a || b ≡ true
or-first true b e = refl
or-first false b e = absurd (cc e)

pub or-second : (a b : Bool) → b ≡ true → a || b ≡ true
or-second true b e = refl
or-second false b e = e

plain-kind : (c : ℕ) → is_plain_character c ≡ true → is_narrow_kind (kind c) || is_wide_kind (kind c) ≡ true
plain-kind c e =
    ⊎_elim (λ one. or-first (is_narrow_kind (kind c)) (is_wide_kind (kind c)) (narrow-kind c one))
    (λ two. or-second (is_narrow_kind (kind c)) (is_wide_kind (kind c)) (wide-kind c two))
    (or_cases (is_one_column c) (is_two_columns c) e)

quiet-alone : (c : ℕ) → is_plain_character c ≡ true → Quiet (alone false c).1
unfolding alone
quiet-alone c e = quiet-kind c (kind c) (plain-kind c e)

-- a reading of so many columns, before which nothing joins what plain characters end with
record Reads (reading : ℕ × State) (total : ℕ) : Type 0 where
  state : State
  is : reading ≡ (total, state)
  quiet : Quiet state

step-quiet : (c total : ℕ) (s : State) → is_plain_character c ≡ true → Quiet s → Reads (step false c (total, s)) (total + own_width c)
step-quiet c total s e (nothing is) =
    ⊎_elim (λ low. record { state = plain; is = ap (λ t. step false c (total, t)) is ∙ step-low c total low; quiet = nothing refl })
    (λ high. record { state = (alone false c).1; is = ap (λ t. step false c (total, t)) is ∙ step-high c total high; quiet = quiet-alone c e })
    (low-or-high c e)
step-quiet c total s e (emoji is) =
    ⊎_elim (λ low. record { state = plain; is = ap (λ t. step false c (total, t)) is ∙ step-low_emoji c total low; quiet = nothing refl })
    (λ high. record {
      state = (alone false c).1;
      is = ap (λ t. step false c (total, t)) is ∙ step-high_emoji c total high (not-named c 0xFE0F e refl) (not-named c 0xFE01 e refl) (not-named c 0xFE0E e refl) (not-named c 0x200D e refl);
      quiet = quiet-alone c e;
    })
    (low-or-high c e)

reads-plain : (cs : List ℕ) → list_all is_plain_character cs ≡ true → Reads (read_before false cs (0, plain)) (sum_by own_width cs)
reads-plain [] all = record { state = plain; is = refl; quiet = nothing refl }
reads-plain (c ∷ cs) all =
    let parts = and_parts (is_plain_character c) (list_all is_plain_character cs) all in
    let rest = reads-plain cs parts.1 in
    let here = step-quiet c (sum_by own_width cs) rest.state parts.0 rest.quiet in
    record {
      state = here.state;
      is = ap (step false c) rest.is ∙ here.is ∙ ap (λ n. (n, here.state)) (add_comm (sum_by own_width cs) (own_width c) ∙ sym (sum_by-cons own_width c cs));
      quiet = here.quiet;
    }

pub measure-plain : (cs : List ℕ) → list_all is_plain_character cs ≡ true → measure cs ≡ sum_by own_width cs
unfolding str_width
measure-plain cs all = ap (λ r. r.0) (reads-plain cs all).is

-- ---- one column, or two

one-kind : (c : ℕ) (k : Kind) → is_narrow_kind k ≡ true → (of_kind false c k).0 ≡ 1
one-kind c kinds.Zero h = absurd (cc h)
one-kind c kinds.Narrow h = refl
one-kind c kinds.Wide h = absurd (cc h)
one-kind c kinds.Ambiguous h = refl
one-kind c kinds.Alef h = absurd (cc h)
one-kind c kinds.KhmerLetter h = absurd (cc h)
one-kind c kinds.TifinaghConsonant h = absurd (cc h)
one-kind c kinds.LisuTone h = absurd (cc h)
one-kind c kinds.RegionalIndicator h = absurd (cc h)
one-kind c kinds.EmojiModifier h = absurd (cc h)
one-kind c kinds.Emoji h = absurd (cc h)
one-kind c kinds.Single h = absurd (cc h)

two-kind : (c : ℕ) (k : Kind) → is_wide_kind k ≡ true → (of_kind false c k).0 ≡ 2
two-kind c kinds.Zero h = absurd (cc h)
two-kind c kinds.Narrow h = absurd (cc h)
two-kind c kinds.Wide h = refl
two-kind c kinds.Ambiguous h = absurd (cc h)
two-kind c kinds.Alef h = absurd (cc h)
two-kind c kinds.KhmerLetter h = absurd (cc h)
two-kind c kinds.TifinaghConsonant h = absurd (cc h)
two-kind c kinds.LisuTone h = absurd (cc h)
two-kind c kinds.RegionalIndicator h = absurd (cc h)
two-kind c kinds.EmojiModifier h = absurd (cc h)
two-kind c kinds.Emoji h = refl
two-kind c kinds.Single h = absurd (cc h)

pub width-low : (c : ℕ) → is_in_range 0x20 0x7E c ≡ true → own_width c ≡ 1
unfolding char_width
width-low c low = grind (arith, nat_tests)

pub width-high : (c : ℕ) → nat_lt 0xA0 c ≡ true → own_width c ≡ (alone false c).0
unfolding char_width
width-high c high = grind (arith, nat_tests)

pub one-column : (c : ℕ) → is_one_column c ≡ true → own_width c ≡ 1
unfolding alone
one-column c e =
    ⊎_elim (width-low c) (λ high. width-high c high ∙ one-kind c (kind c) (narrow-kind c e))
    (low-or-high c (or-first (is_one_column c) (is_two_columns c) e))

not-low : (c : ℕ) → is_two_columns c ≡ true → nat_lt 0xA0 c ≡ true
not-low c e = grind (arith, nat_tests, e)

pub two-columns : (c : ℕ) → is_two_columns c ≡ true → own_width c ≡ 2
unfolding alone
two-columns c e = width-high c (not-low c e) ∙ two-kind c (kind c) (wide-kind c e)

cost-plain : (c : ℕ) → is_plain_character c ≡ true → cost c ≡ own_width c
cost-plain c e =
    ⊎_elim (λ one. let width = one-column c one in omega (arith, width)) (λ two. let width = two-columns c two in omega (arith, width))
    (or_cases (is_one_column c) (is_two_columns c) e)

pub line_cost-plain : (cs : List ℕ) → list_all is_plain_character cs ≡ true → line_cost cs ≡ sum_by own_width cs
line_cost-plain [] all = refl
line_cost-plain (c ∷ cs) all =
    let parts = and_parts (is_plain_character c) (list_all is_plain_character cs) all in
    sum_by-cons cost c cs ∙ ap (λ n. n + line_cost cs) (cost-plain c parts.0) ∙ ap (λ n. own_width c + n) (line_cost-plain cs parts.1) ∙ sym (sum_by-cons own_width c cs)
