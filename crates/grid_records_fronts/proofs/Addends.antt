-- What takes its columns whatever is beside it: simple characters, flags, and emoji that joiners make one.
use Rattle.std.proofs.Common.{◌≡◌, ℕ, zero, suc, ◌+◌, ◌≤◌, ◌<◌, ◌&&◌, ◌==◌, nat_le, Bool, true, false, List, [], ◌∷◌, ◌++◌, length, refl, ap, sym, subst, ◌∙◌, arith, ⊎_elim, append-nil, length-append, add_assoc}
use Rattle.std.specs.List.{list_all}
use Rattle.std.proofs.lemmas.Bool.{and_parts, eqb-true, or_cases}
use Rattle.std.proofs.lemmas.Bool.Decides.{nat_tests}
use Rattle.std.proofs.lemmas.List.Folds.{list_all-append}
use Rattle.ucd_emoji.specs.Binary.{is_emoji_modifier_base, is_emoji_variation_base}
use Rattle.unicode_width.specs.declared.state.After.{After}
use Rattle.unicode_width.specs.declared.state.After.TheVariants.{Nothing, Emoji, RegionalIndicators, ZwjEmoji}
use Rattle.unicode_width.specs.Width.{before, read_before, step}
use Rattle.grid_records_fronts.proofs.BoundsLemmas.Spaces.{read-append}
use Rattle.grid_records_measure.specs.SimpleCharacters.{takes}
use Rattle.grid_records_fronts.specs.Emoji.{is_element, is_flag, is_indicator, is_modifier, is_pictograph, joiner, selector, zwj_sequence}
use Rattle.grid_records_fronts.proofs.EmojiKinds.{base-apart, pictograph-apart, variation-shown}
use Rattle.grid_records_fronts.proofs.EmojiSteps.{is_apart, joined-modifier, joined-pictograph, joined-selector, joined-variation, step-base, step-indicator, step-joiner, step-modifier, step-pictograph, step-second, step-selector, step-simple, step-variation}

abbrev pub is_shown : ℕ → Bool
is_shown c = nat_le 0x20 c

-- so many columns, whatever comes after that joins nothing before it; and then it is such a beginning itself
pub record IsAddend (characters : List ℕ) (columns : ℕ) : Type 0 where
  pub next : After
  pub apart : is_apart next ≡ true
  pub reads : (t : ℕ) (after : After) → is_apart after ≡ true → read_before false characters (t, before after) ≡ (t + columns, before next)
  pub shown : list_all is_shown characters ≡ true
  pub some : 0 < length characters
  pub few : columns ≤ 2

-- ---- simple characters

simple-shown : (c columns : ℕ) → takes c columns ≡ true → is_shown c ≡ true
simple-shown c zero h = grind (arith, nat_tests, h)
simple-shown c (suc zero) h = grind (arith, nat_tests, h)
simple-shown c (suc (suc zero)) h = grind (arith, nat_tests, h)
simple-shown c (suc (suc (suc n))) h = absurd (cc h)

simple-few : (c columns : ℕ) → takes c columns ≡ true → columns ≤ 2
simple-few c zero h = omega arith
simple-few c (suc zero) h = omega arith
simple-few c (suc (suc zero)) h = omega arith
simple-few c (suc (suc (suc n))) h = absurd (cc h)

pub simple-addend : (c columns : ℕ) → takes c columns ≡ true → IsAddend (c ∷ []) columns
simple-addend c columns h = record {
  next = Nothing;
  apart = refl;
  reads = λ t after a. step-simple columns c t after a h;
  shown = ap (λ b. b && true) (simple-shown c columns h);
  some = omega arith;
  few = simple-few c columns h;
}

-- ---- flags

indicator-shown : (c : ℕ) → is_indicator c ≡ true → is_shown c ≡ true
indicator-shown c h = grind (arith, nat_tests, h)

pub flag-addend : (characters : List ℕ) → is_flag characters ≡ true → IsAddend characters 2
flag-addend [] h = absurd (cc h)
flag-addend (a ∷ []) h = absurd (cc h)
flag-addend (a ∷ b ∷ []) h =
    let both = and_parts (is_indicator a) (is_indicator b) h in
    record {
      next = RegionalIndicators;
      apart = refl;
      reads = λ t after apart.
          ap (step false a) (step-indicator b t after apart both.1) ∙ step-second a (t + 1) after apart both.0 ∙ ap (λ n. (n, before RegionalIndicators)) (add_assoc t 1 1);
      shown = ap (λ p. p && (is_shown b && true)) (indicator-shown a both.0) ∙ ap (λ p. p && true) (indicator-shown b both.1);
      some = omega arith;
      few = omega arith;
    }
flag-addend (a ∷ b ∷ c ∷ cs) h = absurd (cc h)

-- ---- emoji

-- one emoji takes two columns, and none where a joiner joins it to one after it
record IsEmoji (characters : List ℕ) : Type 0 where
  alone : (t : ℕ) (after : After) → is_apart after ≡ true → read_before false characters (t, before after) ≡ (t + 2, before Emoji)
  joined : (t : ℕ) → read_before false characters (t, before ZwjEmoji) ≡ (t, before Emoji)
  shown : list_all is_shown characters ≡ true
  some : 0 < length characters

pictograph-shown : (c : ℕ) → is_pictograph c ≡ true → is_shown c ≡ true
pictograph-shown c h = grind (arith, nat_tests, pictograph-apart c h)

base-shown : (c : ℕ) → is_emoji_modifier_base c ≡ true → is_shown c ≡ true
base-shown c h = grind (arith, nat_tests, base-apart c h)

selected-shown : (c : ℕ) → is_emoji_variation_base c ≡ true → is_shown c ≡ true
selected-shown c h = grind (arith, nat_tests, variation-shown c h)

modifier-shown : (c : ℕ) → is_modifier c ≡ true → is_shown c ≡ true
modifier-shown c h = grind (arith, nat_tests, h)

of-pictograph : (c : ℕ) → is_pictograph c ≡ true → IsEmoji (c ∷ [])
of-pictograph c h = record {
  alone = λ t after a. step-pictograph c t after a h;
  joined = λ t. joined-pictograph c t h;
  shown = ap (λ b. b && true) (pictograph-shown c h);
  some = omega arith;
}

of-selected : (c : ℕ) → is_emoji_variation_base c ≡ true → IsEmoji (c ∷ selector ∷ [])
of-selected c h = record {
  alone = λ t after a. ap (step false c) (step-selector t after a) ∙ step-variation c t h;
  joined = λ t. ap (step false c) (joined-selector t) ∙ joined-variation c t h;
  shown = ap (λ b. b && true) (selected-shown c h);
  some = omega arith;
}

of-modified : (c mark : ℕ) → is_modifier mark ≡ true → is_emoji_modifier_base c ≡ true → IsEmoji (c ∷ mark ∷ [])
of-modified c mark m h = record {
  alone = λ t after a. ap (step false c) (step-modifier mark t after a m) ∙ step-base c (t + 2) h;
  joined = λ t. ap (step false c) (joined-modifier mark t m) ∙ step-base c t h;
  shown = ap (λ p. p && (is_shown mark && true)) (base-shown c h) ∙ ap (λ p. p && true) (modifier-shown mark m);
  some = omega arith;
}

of-marked : (c mark : ℕ) → is_element (c ∷ mark ∷ []) ≡ true → IsEmoji (c ∷ mark ∷ [])
of-marked c mark h =
    ⊎_elim
    (λ selects.
    let both = and_parts (mark == selector) (is_emoji_variation_base c) selects in
    subst (λ m. IsEmoji (c ∷ m ∷ [])) (sym (eqb-true mark selector both.0)) (of-selected c both.1))
    (λ modifies.
    let both = and_parts (is_modifier mark) (is_emoji_modifier_base c) modifies in
    of-modified c mark both.0 both.1)
    (or_cases ((mark == selector) && is_emoji_variation_base c) (is_modifier mark && is_emoji_modifier_base c) h)

of-element : (characters : List ℕ) → is_element characters ≡ true → IsEmoji characters
of-element [] h = absurd (cc h)
of-element (c ∷ []) h = of-pictograph c h
of-element (c ∷ mark ∷ []) h = of-marked c mark h
of-element (c ∷ mark ∷ d ∷ cs) h = absurd (cc h)

-- emoji, a joiner, and emoji
of-two : (first others : List ℕ) → IsEmoji first → IsEmoji others → IsEmoji (first ++ joiner ∷ others)
of-two first others one two = record {
  alone = λ t after a.
      read-append first (joiner ∷ others) (t, before after) ∙ ap (read_before false first) (ap (step false joiner) (two.alone t after a) ∙ step-joiner (t + 2)) ∙ one.joined (t + 2);
  joined = λ t.
      read-append first (joiner ∷ others) (t, before ZwjEmoji) ∙ ap (read_before false first) (ap (step false joiner) (two.joined t) ∙ step-joiner t) ∙ one.joined t;
  shown = list_all-append is_shown first (joiner ∷ others) ∙ ap (λ b. b && list_all is_shown others) one.shown ∙ two.shown;
  some = let more = one.some in omega (arith, more, length-append first (joiner ∷ others));
}

of-joined : (first : List ℕ) (others : List (List ℕ)) → list_all is_element (first ∷ others) ≡ true → IsEmoji (zwj_sequence first others)
of-joined first [] h = subst IsEmoji (sym (append-nil first)) (of-element first (and_parts (is_element first) true h).0)
of-joined first (other ∷ others) h =
    let parts = and_parts (is_element first) (list_all is_element (other ∷ others)) h in
    of-two first (zwj_sequence other others) (of-element first parts.0) (of-joined other others parts.1)

pub joined-addend : (first : List ℕ) (others : List (List ℕ)) → list_all is_element (first ∷ others) ≡ true → IsAddend (zwj_sequence first others) 2
joined-addend first others h =
    let emoji = of-joined first others h in
    record { next = Emoji; apart = refl; reads = emoji.alone; shown = emoji.shown; some = emoji.some; few = omega arith }
