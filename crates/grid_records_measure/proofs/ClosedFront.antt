-- Ideograms and syllables that join nothing after them, whatever it is: they add their columns to those of the text
-- after them.
use Rattle.std.proofs.Common.{◌≡◌, ◌≢◌, ℕ, ◌+◌, ◌≤◌, ◌<◌, not, ◌&&◌, ◌||◌, Bool, true, false, List, [], ◌∷◌, length, drop, get_or, refl, ap, ◌∙◌, arith}
use Rattle.std.specs.Prelude.{chars}
use Rattle.std.specs.Str.{IsUtf8}
use Rattle.std.proofs.lemmas.Bool.Decides.{nat_tests}
use Rattle.ucd_table.specs.Rows.{in_ranges}
use Rattle.ucd_table.proofs.Computing.{tables}
use Rattle.ucd_table.proofs.Stepped.{Stepped, of_ranges, zip_stepped, map_stepped}
use Rattle.ucd_table.proofs.Facts.{always, ends_by, Stepped-everywhere}
use Rattle.ucd_emoji.specs.Binary.{is_emoji_modifier_base, is_emoji_variation_base}
use Rattle.ucd_emoji.proofs.BinaryLemmas.{is_emoji_modifier_base_stepped, is_emoji_variation_base_stepped}
use Rattle.ucd_emoji.proofs.Computing.{ucd_emoji}
use Rattle.ucd_bidi.specs.JoiningGroup.{joining_group, joining_group_eq}
use Rattle.ucd_bidi.specs.declared.JoiningGroup.TheVariants.{Lam}
use Rattle.ucd_bidi.proofs.JoiningGroupLemmas.{joining_group_stepped}
use Rattle.ucd_bidi.proofs.Computing.{ucd_bidi}
use Rattle.unicode_width.specs.declared.kind.Kind.{Kind}
use Rattle.unicode_width.specs.declared.kind.Kind.TheVariants as kinds
use Rattle.unicode_width.specs.declared.state.After.{After}
use Rattle.unicode_width.specs.declared.state.After.TheVariants.{Nothing, LineFeed, EmojiModifier, RegionalIndicator, RegionalIndicators, Emoji, ZwjEmoji, KeycapZwjEmoji, IndicatorZwj, EvenIndicatorsZwj, OddIndicatorsZwj, TagEnd, TagDigit1, TagDigit2, TagDigit3, TagLetter1, TagLetter2, TagLetter3, TagLetter4, TagLetter5, TagLetter6, KiratE, KiratAi, Alef, Solidus, SolidusAlef, Lamed, ZwjLamed, Ya, ZwjYa, VowelZwjYa, Tifinagh, ZwjTifinagh, JoinerTifinagh, LisuTone, OrkhonI, ZwjOrkhonI, KhmerLetter}
use Rattle.unicode_width.specs.declared.state.State.{State}
use Rattle.unicode_width.specs.Kind.{kind, is_ligature_transparent, is_text_presentation_base}
use Rattle.unicode_width.specs.Width.{alone, before_alef, if_kept, in_context, is_lam, joins, of_kind, past_emoji, past_selectors, plain, read_before, step, str_width}
use Rattle.unicode_width.proofs.KindLemmas.{kind_stepped, is_ligature_transparent_stepped, is_text_presentation_base_stepped}
use Rattle.grid_records_measure.specs.Measures.{measure}
use Rattle.grid_records_measure.specs.PlainCharacters.{is_in_ranges}
use Rattle.grid_records_measure.proofs.FirstCharacter.{first-three}
use Rattle.grid_records_measure.proofs.Plain.{in_ranges-any, inside-test}

-- ---- what no rule names of them

abbrev closed_ranges : List (ℕ × ℕ)
closed_ranges = (0x4000, 0x9fff) ∷ (0xac00, 0xd77f) ∷ []

abbrev is_wide_kind : Kind → Bool
is_wide_kind kinds.Wide = true
is_wide_kind _ = false

abbrev is_apart : Bool → Bool → Bool → Bool → Bool → Bool → Bool
is_apart wide variation text ligature modifier lam = wide && ((not variation && not text) && ((not ligature && not modifier) && not lam))

abbrev stands_apart : ℕ → Bool
stands_apart c = is_apart (is_wide_kind (kind c)) (is_emoji_variation_base c) (is_text_presentation_base c) (is_ligature_transparent c) (is_emoji_modifier_base c) (is_lam c)

abbrev apart-stepped : Stepped stands_apart
apart-stepped =
    zip_stepped (λ (f : Bool → Bool) l. f l) (λ c. is_apart (is_wide_kind (kind c)) (is_emoji_variation_base c) (is_text_presentation_base c) (is_ligature_transparent c) (is_emoji_modifier_base c)) is_lam
    (zip_stepped (λ (f : Bool → Bool → Bool) m. f m) (λ c. is_apart (is_wide_kind (kind c)) (is_emoji_variation_base c) (is_text_presentation_base c) (is_ligature_transparent c)) is_emoji_modifier_base
    (zip_stepped (λ (f : Bool → Bool → Bool → Bool) t. f t) (λ c. is_apart (is_wide_kind (kind c)) (is_emoji_variation_base c) (is_text_presentation_base c)) is_ligature_transparent
    (zip_stepped (λ (f : Bool → Bool → Bool → Bool → Bool) t. f t) (λ c. is_apart (is_wide_kind (kind c)) (is_emoji_variation_base c)) is_text_presentation_base
    (zip_stepped (λ k v. is_apart (is_wide_kind k) v) kind is_emoji_variation_base kind_stepped is_emoji_variation_base_stepped)
    is_text_presentation_base_stepped) is_ligature_transparent_stepped) is_emoji_modifier_base_stepped)
    (map_stepped (λ g. joining_group_eq g Lam) joining_group joining_group_stepped)

abbrev closed-stepped : Stepped (λ c. not (in_ranges closed_ranges c) || stands_apart c)
unfolding tables
closed-stepped = zip_stepped (λ inside apart. not inside || apart) (in_ranges closed_ranges) stands_apart (of_ranges closed_ranges refl) apart-stepped

closed-everywhere : (always (λ c. not (in_ranges closed_ranges c) || stands_apart c) closed-stepped && (ends_by 0x11_0000 closed-stepped.steps && closed-stepped.default)) ≡ true
unfolding tables kind_stepped ucd_emoji ucd_bidi is_ligature_transparent_stepped is_text_presentation_base_stepped
closed-everywhere = refl

closed-apart : (c : ℕ) → is_in_ranges closed_ranges c ≡ true → stands_apart c ≡ true
closed-apart c e =
    inside-test (in_ranges closed_ranges c) (stands_apart c) (in_ranges-any closed_ranges c ∙ e)
    (Stepped-everywhere (λ x. not (in_ranges closed_ranges x) || stands_apart x) closed-stepped closed-everywhere c)

-- ---- a step over one

-- what is known of such a character
record IsApart (c : ℕ) : Type 0 where
  wide : kind c ≡ kinds.Wide
  no-variation : is_emoji_variation_base c ≡ false
  no-text : is_text_presentation_base c ≡ false
  no-ligature : is_ligature_transparent c ≡ false
  no-modifier : is_emoji_modifier_base c ≡ false
  no-lam : is_lam c ≡ false

is-wide : (k : Kind) → is_wide_kind k ≡ true → k ≡ kinds.Wide
is-wide kinds.Wide h = refl
is-wide kinds.Zero h = absurd (cc h)
is-wide kinds.Narrow h = absurd (cc h)
is-wide kinds.Ambiguous h = absurd (cc h)
is-wide kinds.Alef h = absurd (cc h)
is-wide kinds.KhmerLetter h = absurd (cc h)
is-wide kinds.TifinaghConsonant h = absurd (cc h)
is-wide kinds.LisuTone h = absurd (cc h)
is-wide kinds.RegionalIndicator h = absurd (cc h)
is-wide kinds.EmojiModifier h = absurd (cc h)
is-wide kinds.Emoji h = absurd (cc h)
is-wide kinds.Single h = absurd (cc h)

-- the tests one by one
record AreNot (wide variation text ligature modifier lam : Bool) : Type 0 where
  is : wide ≡ true
  first : variation ≡ false
  second : text ≡ false
  third : ligature ≡ false
  fourth : modifier ≡ false
  fifth : lam ≡ false

are-not : (wide variation text ligature modifier lam : Bool) → is_apart wide variation text ligature modifier lam ≡ true → AreNot wide variation text ligature modifier lam
are-not true false false false false false h = record { is = refl; first = refl; second = refl; third = refl; fourth = refl; fifth = refl }
are-not true false false false false true h = absurd (cc h)
are-not true false false false true lam h = absurd (cc h)
are-not true false false true modifier lam h = absurd (cc h)
are-not true false true ligature modifier lam h = absurd (cc h)
are-not true true text ligature modifier lam h = absurd (cc h)
are-not false variation text ligature modifier lam h = absurd (cc h)

apart-of : (c : ℕ) → is_in_ranges closed_ranges c ≡ true → IsApart c
apart-of c e =
    let known = are-not (is_wide_kind (kind c)) (is_emoji_variation_base c) (is_text_presentation_base c) (is_ligature_transparent c) (is_emoji_modifier_base c) (is_lam c) (closed-apart c e) in
    record { wide = is-wide (kind c) known.is; no-variation = known.first; no-text = known.second; no-ligature = known.third; no-modifier = known.fourth; no-lam = known.fifth }

alone-closed : (c : ℕ) → IsApart c → alone false c ≡ (2, plain)
unfolding alone
alone-closed c apart = ap (λ k. of_kind false c k) apart.wide

module _ (c : ℕ) (e : is_in_ranges closed_ranges c ≡ true) (apart : IsApart c) where
  past-nothing : (total : ℕ) → past_selectors false c total Nothing ≡ (total + 2, plain)
  unfolding past_selectors joins before_alef
  past-nothing total = grind (arith, nat_tests, e, alone-closed c apart, apart.wide, apart.no-ligature, apart.no-modifier, apart.no-lam)

  past-linefeed : (total : ℕ) → past_selectors false c total LineFeed ≡ (total + 2, plain)
  unfolding past_selectors joins before_alef
  past-linefeed total = grind (arith, nat_tests, e, alone-closed c apart, apart.wide, apart.no-ligature, apart.no-modifier, apart.no-lam)

  past-emojimodifier : (total : ℕ) → past_selectors false c total EmojiModifier ≡ (total + 2, plain)
  unfolding past_selectors joins before_alef
  past-emojimodifier total = grind (arith, nat_tests, e, alone-closed c apart, apart.wide, apart.no-ligature, apart.no-modifier, apart.no-lam)

  past-regionalindicator : (total : ℕ) → past_selectors false c total RegionalIndicator ≡ (total + 2, plain)
  unfolding past_selectors joins before_alef
  past-regionalindicator total = grind (arith, nat_tests, e, alone-closed c apart, apart.wide, apart.no-ligature, apart.no-modifier, apart.no-lam)

  past-regionalindicators : (total : ℕ) → past_selectors false c total RegionalIndicators ≡ (total + 2, plain)
  unfolding past_selectors joins before_alef
  past-regionalindicators total = grind (arith, nat_tests, e, alone-closed c apart, apart.wide, apart.no-ligature, apart.no-modifier, apart.no-lam)

  past-emoji : (total : ℕ) → past_selectors false c total Emoji ≡ (total + 2, plain)
  unfolding past_selectors joins before_alef
  past-emoji total = grind (arith, nat_tests, e, alone-closed c apart, apart.wide, apart.no-ligature, apart.no-modifier, apart.no-lam)

  past-zwjemoji : (total : ℕ) → past_selectors false c total ZwjEmoji ≡ (total + 2, plain)
  unfolding past_selectors joins before_alef
  past-zwjemoji total = grind (arith, nat_tests, e, alone-closed c apart, apart.wide, apart.no-ligature, apart.no-modifier, apart.no-lam)

  past-keycapzwjemoji : (total : ℕ) → past_selectors false c total KeycapZwjEmoji ≡ (total + 2, plain)
  unfolding past_selectors joins before_alef
  past-keycapzwjemoji total = grind (arith, nat_tests, e, alone-closed c apart, apart.wide, apart.no-ligature, apart.no-modifier, apart.no-lam)

  past-indicatorzwj : (total : ℕ) → past_selectors false c total IndicatorZwj ≡ (total + 2, plain)
  unfolding past_selectors joins before_alef
  past-indicatorzwj total = grind (arith, nat_tests, e, alone-closed c apart, apart.wide, apart.no-ligature, apart.no-modifier, apart.no-lam)

  past-evenindicatorszwj : (total : ℕ) → past_selectors false c total EvenIndicatorsZwj ≡ (total + 2, plain)
  unfolding past_selectors joins before_alef
  past-evenindicatorszwj total = grind (arith, nat_tests, e, alone-closed c apart, apart.wide, apart.no-ligature, apart.no-modifier, apart.no-lam)

  past-oddindicatorszwj : (total : ℕ) → past_selectors false c total OddIndicatorsZwj ≡ (total + 2, plain)
  unfolding past_selectors joins before_alef
  past-oddindicatorszwj total = grind (arith, nat_tests, e, alone-closed c apart, apart.wide, apart.no-ligature, apart.no-modifier, apart.no-lam)

  past-tagend : (total : ℕ) → past_selectors false c total TagEnd ≡ (total + 2, plain)
  unfolding past_selectors joins before_alef
  past-tagend total = grind (arith, nat_tests, e, alone-closed c apart, apart.wide, apart.no-ligature, apart.no-modifier, apart.no-lam)

  past-tagdigit1 : (total : ℕ) → past_selectors false c total TagDigit1 ≡ (total + 2, plain)
  unfolding past_selectors joins before_alef
  past-tagdigit1 total = grind (arith, nat_tests, e, alone-closed c apart, apart.wide, apart.no-ligature, apart.no-modifier, apart.no-lam)

  past-tagdigit2 : (total : ℕ) → past_selectors false c total TagDigit2 ≡ (total + 2, plain)
  unfolding past_selectors joins before_alef
  past-tagdigit2 total = grind (arith, nat_tests, e, alone-closed c apart, apart.wide, apart.no-ligature, apart.no-modifier, apart.no-lam)

  past-tagdigit3 : (total : ℕ) → past_selectors false c total TagDigit3 ≡ (total + 2, plain)
  unfolding past_selectors joins before_alef
  past-tagdigit3 total = grind (arith, nat_tests, e, alone-closed c apart, apart.wide, apart.no-ligature, apart.no-modifier, apart.no-lam)

  past-tagletter1 : (total : ℕ) → past_selectors false c total TagLetter1 ≡ (total + 2, plain)
  unfolding past_selectors joins before_alef
  past-tagletter1 total = grind (arith, nat_tests, e, alone-closed c apart, apart.wide, apart.no-ligature, apart.no-modifier, apart.no-lam)

  past-tagletter2 : (total : ℕ) → past_selectors false c total TagLetter2 ≡ (total + 2, plain)
  unfolding past_selectors joins before_alef
  past-tagletter2 total = grind (arith, nat_tests, e, alone-closed c apart, apart.wide, apart.no-ligature, apart.no-modifier, apart.no-lam)

  past-tagletter3 : (total : ℕ) → past_selectors false c total TagLetter3 ≡ (total + 2, plain)
  unfolding past_selectors joins before_alef
  past-tagletter3 total = grind (arith, nat_tests, e, alone-closed c apart, apart.wide, apart.no-ligature, apart.no-modifier, apart.no-lam)

  past-tagletter4 : (total : ℕ) → past_selectors false c total TagLetter4 ≡ (total + 2, plain)
  unfolding past_selectors joins before_alef
  past-tagletter4 total = grind (arith, nat_tests, e, alone-closed c apart, apart.wide, apart.no-ligature, apart.no-modifier, apart.no-lam)

  past-tagletter5 : (total : ℕ) → past_selectors false c total TagLetter5 ≡ (total + 2, plain)
  unfolding past_selectors joins before_alef
  past-tagletter5 total = grind (arith, nat_tests, e, alone-closed c apart, apart.wide, apart.no-ligature, apart.no-modifier, apart.no-lam)

  past-tagletter6 : (total : ℕ) → past_selectors false c total TagLetter6 ≡ (total + 2, plain)
  unfolding past_selectors joins before_alef
  past-tagletter6 total = grind (arith, nat_tests, e, alone-closed c apart, apart.wide, apart.no-ligature, apart.no-modifier, apart.no-lam)

  past-kirate : (total : ℕ) → past_selectors false c total KiratE ≡ (total + 2, plain)
  unfolding past_selectors joins before_alef
  past-kirate total = grind (arith, nat_tests, e, alone-closed c apart, apart.wide, apart.no-ligature, apart.no-modifier, apart.no-lam)

  past-kiratai : (total : ℕ) → past_selectors false c total KiratAi ≡ (total + 2, plain)
  unfolding past_selectors joins before_alef
  past-kiratai total = grind (arith, nat_tests, e, alone-closed c apart, apart.wide, apart.no-ligature, apart.no-modifier, apart.no-lam)

  past-alef : (total : ℕ) → past_selectors false c total Alef ≡ (total + 2, plain)
  unfolding past_selectors joins before_alef
  past-alef total = grind (arith, nat_tests, e, alone-closed c apart, apart.wide, apart.no-ligature, apart.no-modifier, apart.no-lam)

  past-solidus : (total : ℕ) → past_selectors false c total Solidus ≡ (total + 2, plain)
  unfolding past_selectors joins before_alef
  past-solidus total = grind (arith, nat_tests, e, alone-closed c apart, apart.wide, apart.no-ligature, apart.no-modifier, apart.no-lam)

  past-solidusalef : (total : ℕ) → past_selectors false c total SolidusAlef ≡ (total + 2, plain)
  unfolding past_selectors joins before_alef
  past-solidusalef total = grind (arith, nat_tests, e, alone-closed c apart, apart.wide, apart.no-ligature, apart.no-modifier, apart.no-lam)

  past-lamed : (total : ℕ) → past_selectors false c total Lamed ≡ (total + 2, plain)
  unfolding past_selectors joins before_alef
  past-lamed total = grind (arith, nat_tests, e, alone-closed c apart, apart.wide, apart.no-ligature, apart.no-modifier, apart.no-lam)

  past-zwjlamed : (total : ℕ) → past_selectors false c total ZwjLamed ≡ (total + 2, plain)
  unfolding past_selectors joins before_alef
  past-zwjlamed total = grind (arith, nat_tests, e, alone-closed c apart, apart.wide, apart.no-ligature, apart.no-modifier, apart.no-lam)

  past-ya : (total : ℕ) → past_selectors false c total Ya ≡ (total + 2, plain)
  unfolding past_selectors joins before_alef
  past-ya total = grind (arith, nat_tests, e, alone-closed c apart, apart.wide, apart.no-ligature, apart.no-modifier, apart.no-lam)

  past-zwjya : (total : ℕ) → past_selectors false c total ZwjYa ≡ (total + 2, plain)
  unfolding past_selectors joins before_alef
  past-zwjya total = grind (arith, nat_tests, e, alone-closed c apart, apart.wide, apart.no-ligature, apart.no-modifier, apart.no-lam)

  past-vowelzwjya : (total : ℕ) → past_selectors false c total VowelZwjYa ≡ (total + 2, plain)
  unfolding past_selectors joins before_alef
  past-vowelzwjya total = grind (arith, nat_tests, e, alone-closed c apart, apart.wide, apart.no-ligature, apart.no-modifier, apart.no-lam)

  past-tifinagh : (total : ℕ) → past_selectors false c total Tifinagh ≡ (total + 2, plain)
  unfolding past_selectors joins before_alef
  past-tifinagh total = grind (arith, nat_tests, e, alone-closed c apart, apart.wide, apart.no-ligature, apart.no-modifier, apart.no-lam)

  past-zwjtifinagh : (total : ℕ) → past_selectors false c total ZwjTifinagh ≡ (total + 2, plain)
  unfolding past_selectors joins before_alef
  past-zwjtifinagh total = grind (arith, nat_tests, e, alone-closed c apart, apart.wide, apart.no-ligature, apart.no-modifier, apart.no-lam)

  past-joinertifinagh : (total : ℕ) → past_selectors false c total JoinerTifinagh ≡ (total + 2, plain)
  unfolding past_selectors joins before_alef
  past-joinertifinagh total = grind (arith, nat_tests, e, alone-closed c apart, apart.wide, apart.no-ligature, apart.no-modifier, apart.no-lam)

  past-lisutone : (total : ℕ) → past_selectors false c total LisuTone ≡ (total + 2, plain)
  unfolding past_selectors joins before_alef
  past-lisutone total = grind (arith, nat_tests, e, alone-closed c apart, apart.wide, apart.no-ligature, apart.no-modifier, apart.no-lam)

  past-orkhoni : (total : ℕ) → past_selectors false c total OrkhonI ≡ (total + 2, plain)
  unfolding past_selectors joins before_alef
  past-orkhoni total = grind (arith, nat_tests, e, alone-closed c apart, apart.wide, apart.no-ligature, apart.no-modifier, apart.no-lam)

  past-zwjorkhoni : (total : ℕ) → past_selectors false c total ZwjOrkhonI ≡ (total + 2, plain)
  unfolding past_selectors joins before_alef
  past-zwjorkhoni total = grind (arith, nat_tests, e, alone-closed c apart, apart.wide, apart.no-ligature, apart.no-modifier, apart.no-lam)

  past-khmerletter : (total : ℕ) → past_selectors false c total KhmerLetter ≡ (total + 2, plain)
  unfolding past_selectors joins before_alef
  past-khmerletter total = grind (arith, nat_tests, e, alone-closed c apart, apart.wide, apart.no-ligature, apart.no-modifier, apart.no-lam)

  past-closed : (total : ℕ) (after : After) → past_selectors false c total after ≡ (total + 2, plain)
  past-closed total Nothing = past-nothing total
  past-closed total LineFeed = past-linefeed total
  past-closed total EmojiModifier = past-emojimodifier total
  past-closed total RegionalIndicator = past-regionalindicator total
  past-closed total RegionalIndicators = past-regionalindicators total
  past-closed total Emoji = past-emoji total
  past-closed total ZwjEmoji = past-zwjemoji total
  past-closed total KeycapZwjEmoji = past-keycapzwjemoji total
  past-closed total IndicatorZwj = past-indicatorzwj total
  past-closed total EvenIndicatorsZwj = past-evenindicatorszwj total
  past-closed total OddIndicatorsZwj = past-oddindicatorszwj total
  past-closed total TagEnd = past-tagend total
  past-closed total TagDigit1 = past-tagdigit1 total
  past-closed total TagDigit2 = past-tagdigit2 total
  past-closed total TagDigit3 = past-tagdigit3 total
  past-closed total TagLetter1 = past-tagletter1 total
  past-closed total TagLetter2 = past-tagletter2 total
  past-closed total TagLetter3 = past-tagletter3 total
  past-closed total TagLetter4 = past-tagletter4 total
  past-closed total TagLetter5 = past-tagletter5 total
  past-closed total TagLetter6 = past-tagletter6 total
  past-closed total KiratE = past-kirate total
  past-closed total KiratAi = past-kiratai total
  past-closed total Alef = past-alef total
  past-closed total Solidus = past-solidus total
  past-closed total SolidusAlef = past-solidusalef total
  past-closed total Lamed = past-lamed total
  past-closed total ZwjLamed = past-zwjlamed total
  past-closed total Ya = past-ya total
  past-closed total ZwjYa = past-zwjya total
  past-closed total VowelZwjYa = past-vowelzwjya total
  past-closed total Tifinagh = past-tifinagh total
  past-closed total ZwjTifinagh = past-zwjtifinagh total
  past-closed total JoinerTifinagh = past-joinertifinagh total
  past-closed total LisuTone = past-lisutone total
  past-closed total OrkhonI = past-orkhoni total
  past-closed total ZwjOrkhonI = past-zwjorkhoni total
  past-closed total KhmerLetter = past-khmerletter total

  in_context-closed : (total : ℕ) (s : State) → in_context false c total s ≡ (total + 2, plain)
  unfolding in_context
  in_context-closed total s = grind (arith, nat_tests, e, past-closed total s.after, apart.no-text)

  past_emoji-closed : (total : ℕ) (s : State) → past_emoji false c total s ≡ (total + 2, plain)
  unfolding past_emoji
  past_emoji-closed total s = grind (arith, nat_tests, e, in_context-closed total s, alone-closed c apart)

  step-closed : (total : ℕ) (s : State) → step false c (total, s) ≡ (total + 2, plain)
  unfolding step
  step-closed total s = grind (arith, nat_tests, past_emoji-closed total s, past_emoji-closed total (record (if_kept s) { emoji = false }), apart.no-variation)

-- such a character at the beginning of a text
pub measure-closed : (c : ℕ) (cs : List ℕ) → is_in_ranges closed_ranges c ≡ true → measure (c ∷ cs) ≡ measure cs + 2
unfolding str_width
measure-closed c cs e =
    let reading = read_before false cs (0, plain) in
    ap (λ r. r.0) (step-closed c e (apart-of c e) reading.0 reading.1)

-- a text that begins with one, by its first byte
pub closed-first : (text : List ℕ) → IsUtf8 text → 0 < length text → 0xE4 ≤ get_or text 0 0 → get_or text 0 0 ≤ 0xEC → get_or text 0 0 ≢ 0xEA
    → measure (chars text) ≡ measure (chars (drop 3 text)) + 2
closed-first text utf8 some low high other =
    let least : 0xE0 ≤ get_or text 0 0 = omega (arith, low) in
    let most : get_or text 0 0 ≤ 0xEF = omega (arith, high) in
    let first = first-three text utf8 some least most in
    let byte = first.high in
    let inside : is_in_ranges closed_ranges first.c ≡ true = grind (arith, nat_tests, byte, low, high, other) in
    ap measure first.characters ∙ measure-closed first.c (chars (drop 3 text)) inside
