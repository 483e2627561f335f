-- The kinds of the characters that emoji are made of, by a computation over the steps of Unicode's tables.
use Rattle.std.proofs.Common.{◌≡◌, ℕ, not, ◌&&◌, ◌||◌, Bool, true, false, List, [], ◌∷◌, refl, sym, ◌∙◌}
use Rattle.ucd_table.specs.Rows.{in_ranges}
use Rattle.ucd_table.proofs.Computing.{tables}
use Rattle.ucd_table.proofs.StepsLemmas.{range_rows, rises_from}
use Rattle.ucd_table.proofs.Stepped.{Stepped, of_ranges, zip_stepped}
use Rattle.ucd_table.proofs.Facts.{always, ends_by, Stepped-everywhere}
use Rattle.ucd_emoji.specs.Binary.{is_emoji_modifier_base, is_emoji_variation_base}
use Rattle.ucd_emoji.proofs.BinaryLemmas.{is_emoji_modifier_base_stepped, is_emoji_variation_base_stepped}
use Rattle.ucd_emoji.proofs.Computing.{ucd_emoji}
use Rattle.unicode_width.specs.declared.kind.Kind.{Kind}
use Rattle.unicode_width.specs.declared.kind.Kind.TheVariants as kinds
use Rattle.unicode_width.specs.Kind.{kind}
use Rattle.unicode_width.proofs.KindLemmas.{kind_stepped}
use Rattle.grid_records_measure.specs.PlainCharacters.{is_in_ranges}
use Rattle.grid_records_measure.proofs.Plain.{in_ranges-any, inside-test}
use Rattle.grid_records_fronts.specs.Emoji.{is_pictograph, pictograph_ranges}

-- ---- a kind in ranges

abbrev is_emoji_kind : Kind → Bool
is_emoji_kind kinds.Emoji = true
is_emoji_kind _ = false

abbrev is_modifier_kind : Kind → Bool
is_modifier_kind kinds.EmojiModifier = true
is_modifier_kind _ = false

abbrev is_indicator_kind : Kind → Bool
is_indicator_kind kinds.RegionalIndicator = true
is_indicator_kind _ = false

module _ (test : Kind → Bool) (ranges : List (ℕ × ℕ)) (rises : rises_from 0 (range_rows ranges) ≡ true) where
  abbrev in-kind : ℕ → Bool
  in-kind c = not (in_ranges ranges c) || test (kind c)

  abbrev in-kind-stepped : Stepped in-kind
  in-kind-stepped = zip_stepped (λ inside k. not inside || test k) (in_ranges ranges) kind (of_ranges ranges rises) kind_stepped

  kind-everywhere : (always in-kind in-kind-stepped && (ends_by 0x11_0000 in-kind-stepped.steps && in-kind-stepped.default)) ≡ true
      → (c : ℕ) → is_in_ranges ranges c ≡ true → test (kind c) ≡ true
  kind-everywhere e c h = inside-test (in_ranges ranges c) (test (kind c)) (in_ranges-any ranges c ∙ h) (Stepped-everywhere in-kind in-kind-stepped e c)

pictographs-pass : (c : ℕ) → is_pictograph c ≡ true → is_emoji_kind (kind c) ≡ true
unfolding tables kind_stepped
pictographs-pass = kind-everywhere is_emoji_kind pictograph_ranges refl refl

modifiers-pass : (c : ℕ) → is_in_ranges ((0x1F3FB, 0x1F3FF) ∷ []) c ≡ true → is_modifier_kind (kind c) ≡ true
unfolding tables kind_stepped
modifiers-pass = kind-everywhere is_modifier_kind ((0x1F3FB, 0x1F3FF) ∷ []) refl refl

indicators-pass : (c : ℕ) → is_in_ranges ((0x1F1E6, 0x1F1FF) ∷ []) c ≡ true → is_indicator_kind (kind c) ≡ true
unfolding tables kind_stepped
indicators-pass = kind-everywhere is_indicator_kind ((0x1F1E6, 0x1F1FF) ∷ []) refl refl

is-emoji : (k : Kind) → is_emoji_kind k ≡ true → k ≡ kinds.Emoji
is-emoji kinds.Emoji h = refl
is-emoji kinds.Zero h = absurd (cc h)
is-emoji kinds.Narrow h = absurd (cc h)
is-emoji kinds.Wide h = absurd (cc h)
is-emoji kinds.Ambiguous h = absurd (cc h)
is-emoji kinds.Alef h = absurd (cc h)
is-emoji kinds.KhmerLetter h = absurd (cc h)
is-emoji kinds.TifinaghConsonant h = absurd (cc h)
is-emoji kinds.LisuTone h = absurd (cc h)
is-emoji kinds.RegionalIndicator h = absurd (cc h)
is-emoji kinds.EmojiModifier h = absurd (cc h)
is-emoji kinds.Single h = absurd (cc h)

is-modifier : (k : Kind) → is_modifier_kind k ≡ true → k ≡ kinds.EmojiModifier
is-modifier kinds.EmojiModifier h = refl
is-modifier kinds.Zero h = absurd (cc h)
is-modifier kinds.Narrow h = absurd (cc h)
is-modifier kinds.Wide h = absurd (cc h)
is-modifier kinds.Ambiguous h = absurd (cc h)
is-modifier kinds.Alef h = absurd (cc h)
is-modifier kinds.KhmerLetter h = absurd (cc h)
is-modifier kinds.TifinaghConsonant h = absurd (cc h)
is-modifier kinds.LisuTone h = absurd (cc h)
is-modifier kinds.RegionalIndicator h = absurd (cc h)
is-modifier kinds.Emoji h = absurd (cc h)
is-modifier kinds.Single h = absurd (cc h)

is-indicator : (k : Kind) → is_indicator_kind k ≡ true → k ≡ kinds.RegionalIndicator
is-indicator kinds.RegionalIndicator h = refl
is-indicator kinds.Zero h = absurd (cc h)
is-indicator kinds.Narrow h = absurd (cc h)
is-indicator kinds.Wide h = absurd (cc h)
is-indicator kinds.Ambiguous h = absurd (cc h)
is-indicator kinds.Alef h = absurd (cc h)
is-indicator kinds.KhmerLetter h = absurd (cc h)
is-indicator kinds.TifinaghConsonant h = absurd (cc h)
is-indicator kinds.LisuTone h = absurd (cc h)
is-indicator kinds.EmojiModifier h = absurd (cc h)
is-indicator kinds.Emoji h = absurd (cc h)
is-indicator kinds.Single h = absurd (cc h)

pub pictograph-kind : (c : ℕ) → is_pictograph c ≡ true → kind c ≡ kinds.Emoji
pictograph-kind c h = is-emoji (kind c) (pictographs-pass c h)

pub modifier-kind : (c : ℕ) → is_in_ranges ((0x1F3FB, 0x1F3FF) ∷ []) c ≡ true → kind c ≡ kinds.EmojiModifier
modifier-kind c h = is-modifier (kind c) (modifiers-pass c h)

pub indicator-kind : (c : ℕ) → is_in_ranges ((0x1F1E6, 0x1F1FF) ∷ []) c ≡ true → kind c ≡ kinds.RegionalIndicator
indicator-kind c h = is-indicator (kind c) (indicators-pass c h)

-- ---- where pictographs and the bases of modifiers are

abbrev pub apart_ranges : List (ℕ × ℕ)
apart_ranges = (0x2100, 0x2fff) ∷ (0x1f300, 0x1f3fa) ∷ (0x1f400, 0x1fbff) ∷ []

module _ (test : ℕ → Bool) (stepped : Stepped test) (ranges : List (ℕ × ℕ)) (rises : rises_from 0 (range_rows ranges) ≡ true) where
  abbrev is-inside : ℕ → Bool
  is-inside c = not (test c) || in_ranges ranges c

  abbrev is-inside-stepped : Stepped is-inside
  is-inside-stepped = zip_stepped (λ passes inside. not passes || inside) test (in_ranges ranges) stepped (of_ranges ranges rises)

  inside-everywhere : (always is-inside is-inside-stepped && (ends_by 0x11_0000 is-inside-stepped.steps && is-inside-stepped.default)) ≡ true
      → (c : ℕ) → test c ≡ true → is_in_ranges ranges c ≡ true
  inside-everywhere e c h = sym (in_ranges-any ranges c) ∙ inside-test (test c) (in_ranges ranges c) h (Stepped-everywhere is-inside is-inside-stepped e c)

abbrev pictographs-stepped : (rises_from 0 (range_rows pictograph_ranges) ≡ true) → Stepped (in_ranges pictograph_ranges)
pictographs-stepped rises = of_ranges pictograph_ranges rises

pictographs-apart : (c : ℕ) → in_ranges pictograph_ranges c ≡ true → is_in_ranges apart_ranges c ≡ true
unfolding tables
pictographs-apart = inside-everywhere (in_ranges pictograph_ranges) (pictographs-stepped refl) apart_ranges refl refl

pub pictograph-apart : (c : ℕ) → is_pictograph c ≡ true → is_in_ranges apart_ranges c ≡ true
pictograph-apart c h = pictographs-apart c (in_ranges-any pictograph_ranges c ∙ h)

-- none of them is a control character
pub variation-shown : (c : ℕ) → is_emoji_variation_base c ≡ true → is_in_ranges ((0x23, 0xff) ∷ (0x2000, 0x2fff) ∷ (0x3000, 0x32ff) ∷ (0x1f000, 0x1ffff) ∷ []) c ≡ true
unfolding tables ucd_emoji
variation-shown = inside-everywhere is_emoji_variation_base is_emoji_variation_base_stepped ((0x23, 0xff) ∷ (0x2000, 0x2fff) ∷ (0x3000, 0x32ff) ∷ (0x1f000, 0x1ffff) ∷ []) refl refl

pub base-apart : (c : ℕ) → is_emoji_modifier_base c ≡ true → is_in_ranges apart_ranges c ≡ true
unfolding tables ucd_emoji
base-apart = inside-everywhere is_emoji_modifier_base is_emoji_modifier_base_stepped apart_ranges refl refl
