-- One step back over a part of an emoji, or over a simple character, before what a text may begin with after it.
use Rattle.std.proofs.Common.{◌≡◌, ℕ, zero, suc, ◌+◌, Bool, true, false, List, [], ◌∷◌, refl, ap, sym, ◌∙◌, arith, ⊎_elim}
use Rattle.std.specs.Int.{is_in_range}
use Rattle.std.proofs.lemmas.Bool.{eqb-true, or_cases}
use Rattle.std.proofs.lemmas.Bool.Decides.{nat_tests}
use Rattle.ucd_emoji.specs.Binary.{is_emoji_modifier_base, is_emoji_variation_base}
use Rattle.unicode_width.specs.declared.kind.Kind.{Kind}
use Rattle.unicode_width.specs.declared.kind.Kind.TheVariants as kinds
use Rattle.unicode_width.specs.declared.state.After.{After}
use Rattle.unicode_width.specs.declared.state.After.TheVariants.{Nothing, Emoji, EmojiModifier, RegionalIndicator, RegionalIndicators, ZwjEmoji}
use Rattle.unicode_width.specs.declared.state.State.{State}
use Rattle.unicode_width.specs.Kind.{kind}
use Rattle.unicode_width.specs.Width.{added, alone, before, in_context, joins, of_kind, past_emoji, past_selectors, plain, step}
use Rattle.unicode_width.proofs.Computing.{unicode_width}
use Rattle.grid_records_measure.specs.PlainCharacters.{is_in_ranges}
use Rattle.grid_records_measure.specs.SimpleCharacters.{high_letter_ranges, takes}
use Rattle.grid_records_measure.proofs.AddingColumns.{adds, ideogram-kind, letter-kind, mark-kind}
use Rattle.grid_records_fronts.specs.Emoji.{is_indicator, is_modifier, is_pictograph, joiner, selector}
use Rattle.grid_records_fronts.proofs.EmojiKinds.{apart_ranges, base-apart, indicator-kind, modifier-kind, pictograph-apart, pictograph-kind}

-- ---- what joins no simple character before it

-- how a text may begin that comes after simple characters and emoji
abbrev pub is_apart : After → Bool
is_apart Nothing = true
is_apart Emoji = true
is_apart RegionalIndicators = true
is_apart _ = false

-- above U+00A0, no variation selector, no joiner and no regional indicator
abbrev outside_ranges : List (ℕ × ℕ)
outside_ranges = (0xA1, 0x200C) ∷ (0x200E, 0xFDFF) ∷ (0xFE10, 0x1F1E5) ∷ (0x1F200, 0x10FFFF) ∷ []

step-alone : (c t : ℕ) (after : After) → is_apart after ≡ true → is_in_ranges outside_ranges c ≡ true → step false c (t, before after) ≡ added t (alone false c)
unfolding step past_emoji in_context past_selectors joins
step-alone c t Nothing a h = grind (arith, nat_tests, h)
step-alone c t Emoji a h = grind (arith, nat_tests, h)
step-alone c t RegionalIndicators a h = grind (arith, nat_tests, h)
step-alone c t _ a h = absurd (cc a)

-- printable ASCII
step-printable : (c t : ℕ) (after : After) → is_in_range 0x20 0x7E c ≡ true → step false c (t, before after) ≡ (t + 1, plain)
unfolding step past_emoji
step-printable c t after h = grind (arith, nat_tests, h)

kind-alone : (columns c : ℕ) (k : Kind) → adds columns k ≡ true → of_kind false c k ≡ (columns, plain)
kind-alone columns c kinds.Zero h = ap (λ n. (n, plain)) (sym (eqb-true columns 0 h))
kind-alone columns c kinds.Narrow h = ap (λ n. (n, plain)) (sym (eqb-true columns 1 h))
kind-alone columns c kinds.Wide h = ap (λ n. (n, plain)) (sym (eqb-true columns 2 h))
kind-alone columns c kinds.Ambiguous h = ap (λ n. (n, plain)) (sym (eqb-true columns 1 h))
kind-alone columns c kinds.Alef h = absurd (cc h)
kind-alone columns c kinds.KhmerLetter h = absurd (cc h)
kind-alone columns c kinds.TifinaghConsonant h = absurd (cc h)
kind-alone columns c kinds.LisuTone h = absurd (cc h)
kind-alone columns c kinds.RegionalIndicator h = absurd (cc h)
kind-alone columns c kinds.EmojiModifier h = absurd (cc h)
kind-alone columns c kinds.Emoji h = absurd (cc h)
kind-alone columns c kinds.Single h = absurd (cc h)

alone-adds : (columns c : ℕ) → adds columns (kind c) ≡ true → alone false c ≡ (columns, plain)
unfolding alone
alone-adds columns c h = kind-alone columns c (kind c) h

high-step : (columns c t : ℕ) (after : After) → is_apart after ≡ true → is_in_ranges outside_ranges c ≡ true → adds columns (kind c) ≡ true
    → step false c (t, before after) ≡ (t + columns, plain)
high-step columns c t after a outside h = step-alone c t after a outside ∙ ap (added t) (alone-adds columns c h)

mark-outside : (c : ℕ) → takes c 0 ≡ true → is_in_ranges outside_ranges c ≡ true
mark-outside c h = grind (arith, nat_tests, h)

letter-outside : (c : ℕ) → is_in_ranges high_letter_ranges c ≡ true → is_in_ranges outside_ranges c ≡ true
letter-outside c h = grind (arith, nat_tests, h)

ideogram-outside : (c : ℕ) → takes c 2 ≡ true → is_in_ranges outside_ranges c ≡ true
ideogram-outside c h = grind (arith, nat_tests, h)

-- a simple character takes its columns, and joins nothing after it
pub step-simple : (columns c t : ℕ) (after : After) → is_apart after ≡ true → takes c columns ≡ true → step false c (t, before after) ≡ (t + columns, plain)
step-simple zero c t after a h = high-step 0 c t after a (mark-outside c h) (mark-kind c h)
step-simple (suc zero) c t after a h =
    ⊎_elim (λ low. step-printable c t after low) (λ high. high-step 1 c t after a (letter-outside c high) (letter-kind c h))
    (or_cases (is_in_range 0x20 0x7E c) (is_in_ranges high_letter_ranges c) h)
step-simple (suc (suc zero)) c t after a h = high-step 2 c t after a (ideogram-outside c h) (ideogram-kind c h)
step-simple (suc (suc (suc n))) c t after a h = absurd (cc h)

-- ---- a pictograph

apart-outside : (c : ℕ) → is_in_ranges apart_ranges c ≡ true → is_in_ranges outside_ranges c ≡ true
apart-outside c h = grind (arith, nat_tests, h)

alone-pictograph : (c : ℕ) → kind c ≡ kinds.Emoji → alone false c ≡ (2, before Emoji)
unfolding alone
alone-pictograph c k = ap (λ l. of_kind false c l) k

pub step-pictograph : (c t : ℕ) (after : After) → is_apart after ≡ true → is_pictograph c ≡ true → step false c (t, before after) ≡ (t + 2, before Emoji)
step-pictograph c t after a h = step-alone c t after a (apart-outside c (pictograph-apart c h)) ∙ ap (added t) (alone-pictograph c (pictograph-kind c h))

joined-kind : (c t : ℕ) → is_in_ranges apart_ranges c ≡ true → kind c ≡ kinds.Emoji → step false c (t, before ZwjEmoji) ≡ (t, before Emoji)
unfolding step past_emoji in_context past_selectors joins
joined-kind c t h k = grind (arith, nat_tests, h, k)

pub joined-pictograph : (c t : ℕ) → is_pictograph c ≡ true → step false c (t, before ZwjEmoji) ≡ (t, before Emoji)
joined-pictograph c t h = joined-kind c t (pictograph-apart c h) (pictograph-kind c h)

-- ---- the selector, and the character before it

-- a text that begins with the selector, which joins no joiner after it
abbrev pub selected : State
selected = record plain { emoji = true }

abbrev pub joined_selected : State
joined_selected = record (before ZwjEmoji) { emoji = true }

pub step-selector : (t : ℕ) (after : After) → is_apart after ≡ true → step false selector (t, before after) ≡ (t, selected)
unfolding unicode_width
step-selector t Nothing a = ap (λ n. (n, selected)) (let same : t + 0 ≡ t = omega arith in same)
step-selector t Emoji a = refl
step-selector t RegionalIndicators a = refl
step-selector t _ a = absurd (cc a)

pub joined-selector : (t : ℕ) → step false selector (t, before ZwjEmoji) ≡ (t, joined_selected)
unfolding unicode_width
joined-selector t = refl

pub step-variation : (c t : ℕ) → is_emoji_variation_base c ≡ true → step false c (t, selected) ≡ (t + 2, before Emoji)
unfolding step
step-variation c t h = grind (arith, h)

pub joined-variation : (c t : ℕ) → is_emoji_variation_base c ≡ true → step false c (t, joined_selected) ≡ (t, before Emoji)
unfolding step
joined-variation c t h = grind (arith, h)

-- ---- a modifier, and the character before it

modifier-range : (c : ℕ) → is_modifier c ≡ true → is_in_ranges ((0x1F3FB, 0x1F3FF) ∷ []) c ≡ true
modifier-range c h = grind (arith, nat_tests, h)

modifier-outside : (c : ℕ) → is_modifier c ≡ true → is_in_ranges outside_ranges c ≡ true
modifier-outside c h = grind (arith, nat_tests, h)

alone-modifier : (c : ℕ) → kind c ≡ kinds.EmojiModifier → alone false c ≡ (2, before EmojiModifier)
unfolding alone
alone-modifier c k = ap (λ l. of_kind false c l) k

pub step-modifier : (c t : ℕ) (after : After) → is_apart after ≡ true → is_modifier c ≡ true → step false c (t, before after) ≡ (t + 2, before EmojiModifier)
step-modifier c t after a h = step-alone c t after a (modifier-outside c h) ∙ ap (added t) (alone-modifier c (modifier-kind c (modifier-range c h)))

pub joined-modifier : (c t : ℕ) → is_modifier c ≡ true → step false c (t, before ZwjEmoji) ≡ (t, before EmojiModifier)
unfolding step past_emoji in_context past_selectors joins
joined-modifier c t h = grind (arith, nat_tests, h)

based : (c t : ℕ) → is_in_ranges apart_ranges c ≡ true → is_emoji_modifier_base c ≡ true → step false c (t, before EmojiModifier) ≡ (t, before Emoji)
unfolding step past_emoji in_context past_selectors joins
based c t apart h = grind (arith, nat_tests, apart, h)

pub step-base : (c t : ℕ) → is_emoji_modifier_base c ≡ true → step false c (t, before EmojiModifier) ≡ (t, before Emoji)
step-base c t h = based c t (base-apart c h) h

-- ---- a joiner

pub step-joiner : (t : ℕ) → step false joiner (t, before Emoji) ≡ (t, before ZwjEmoji)
unfolding unicode_width
step-joiner t = refl

-- ---- a regional indicator

indicator-range : (c : ℕ) → is_indicator c ≡ true → is_in_ranges ((0x1F1E6, 0x1F1FF) ∷ []) c ≡ true
indicator-range c h = grind (arith, nat_tests, h)

alone-indicator : (c : ℕ) → kind c ≡ kinds.RegionalIndicator → alone false c ≡ (1, before RegionalIndicator)
unfolding alone
alone-indicator c k = ap (λ l. of_kind false c l) k

-- what the second indicator of a flag leaves
abbrev pub flag_after : After → After
flag_after RegionalIndicators = RegionalIndicators
flag_after _ = RegionalIndicator

indicator-step : (c t : ℕ) (after : After) → is_apart after ≡ true → is_indicator c ≡ true → alone false c ≡ (1, before RegionalIndicator) → step false c (t, before after) ≡ (t + 1, before (flag_after after))
unfolding step past_emoji in_context past_selectors joins
indicator-step c t Nothing a h own = grind (arith, nat_tests, h, own)
indicator-step c t Emoji a h own = grind (arith, nat_tests, h, own)
indicator-step c t RegionalIndicators a h own = grind (arith, nat_tests, h, own)
indicator-step c t _ a h own = absurd (cc a)

pub step-indicator : (c t : ℕ) (after : After) → is_apart after ≡ true → is_indicator c ≡ true → step false c (t, before after) ≡ (t + 1, before (flag_after after))
step-indicator c t after a h = indicator-step c t after a h (alone-indicator c (indicator-kind c (indicator-range c h)))

pub step-second : (c t : ℕ) (after : After) → is_apart after ≡ true → is_indicator c ≡ true → step false c (t, before (flag_after after)) ≡ (t + 1, before RegionalIndicators)
unfolding step past_emoji in_context past_selectors joins
step-second c t Nothing a h = grind (arith, nat_tests, h)
step-second c t Emoji a h = grind (arith, nat_tests, h)
step-second c t RegionalIndicators a h = grind (arith, nat_tests, h)
step-second c t _ a h = absurd (cc a)
