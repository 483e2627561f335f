-- Plain characters and simple ones are additive, and take what their own tables say.
use Rattle.std.proofs.Common.{◌≡◌, ℕ, zero, suc, not, ◌&&◌, ◌||◌, nat_le, Bool, true, false, cond, List, refl, ap, sym, ◌∙◌, ⊎_elim}
use Rattle.std.proofs.lemmas.Bool.{or_cases}
use Rattle.ucd_table.specs.Rows.{in_ranges}
use Rattle.ucd_table.proofs.Computing.{tables}
use Rattle.ucd_table.proofs.StepsLemmas.{range_rows, rises_from}
use Rattle.ucd_table.proofs.Stepped.{Stepped, of_ranges, zip_stepped}
use Rattle.ucd_table.proofs.Facts.{always, ends_by, Stepped-everywhere}
use Rattle.grid_records_measure.specs.Measures.{own_width}
use Rattle.grid_records_measure.specs.PlainCharacters.{is_in_ranges, is_one_column, is_plain_character, is_two_columns, one_column_ranges, two_column_ranges}
use Rattle.grid_records_measure.specs.SimpleCharacters.{ideogram_ranges, letter_ranges, mark_ranges, takes}
use Rattle.grid_records_measure.proofs.Plain.{in_ranges-any, inside-test, one-column, two-columns}
use Rattle.tables_laws.specs.Characters.AdditiveCharacters.{additive_ranges, columns_of, is_additive, is_spacing, wide_ranges, zero_width_ranges}
use Rattle.tables_laws.proofs.CharactersLemmas.Steps.{own-additive}

-- ---- ranges inside others, and outside them

module _ (ranges others : List (ℕ × ℕ)) (rise : rises_from 0 (range_rows ranges) ≡ true) (others_rise : rises_from 0 (range_rows others) ≡ true) where
  abbrev is-inside : ℕ → Bool
  is-inside c = not (in_ranges ranges c) || in_ranges others c

  abbrev inside-stepped : Stepped is-inside
  inside-stepped = zip_stepped (λ inside other. not inside || other) (in_ranges ranges) (in_ranges others) (of_ranges ranges rise) (of_ranges others others_rise)

  inside-everywhere : (always is-inside inside-stepped && (ends_by 0x11_0000 inside-stepped.steps && inside-stepped.default)) ≡ true
      → (c : ℕ) → is_in_ranges ranges c ≡ true → is_in_ranges others c ≡ true
  inside-everywhere e c h =
      sym (in_ranges-any others c) ∙ inside-test (in_ranges ranges c) (in_ranges others c) (in_ranges-any ranges c ∙ h) (Stepped-everywhere is-inside inside-stepped e c)

  abbrev is-outside : ℕ → Bool
  is-outside c = not (in_ranges ranges c) || not (in_ranges others c)

  abbrev outside-stepped : Stepped is-outside
  outside-stepped = zip_stepped (λ inside other. not inside || not other) (in_ranges ranges) (in_ranges others) (of_ranges ranges rise) (of_ranges others others_rise)

  outside-everywhere : (always is-outside outside-stepped && (ends_by 0x11_0000 outside-stepped.steps && outside-stepped.default)) ≡ true
      → (c : ℕ) → is_in_ranges ranges c ≡ true → is_in_ranges others c ≡ false
  outside-everywhere e c h =
      sym (in_ranges-any others c) ∙ not-true (in_ranges others c) (inside-test (in_ranges ranges c) (not (in_ranges others c)) (in_ranges-any ranges c ∙ h) (Stepped-everywhere is-outside outside-stepped e c))
    where
      not-true : (b : Bool) → not b ≡ true → b ≡ false
      not-true false e = refl
      not-true true e = absurd (cc e)

one-inside : (c : ℕ) → is_one_column c ≡ true → is_additive c ≡ true
unfolding tables
one-inside = inside-everywhere one_column_ranges additive_ranges refl refl refl

two-inside : (c : ℕ) → is_two_columns c ≡ true → is_additive c ≡ true
unfolding tables
two-inside = inside-everywhere two_column_ranges additive_ranges refl refl refl

marks-inside : (c : ℕ) → takes c 0 ≡ true → is_additive c ≡ true
unfolding tables
marks-inside = inside-everywhere mark_ranges additive_ranges refl refl refl

letters-inside : (c : ℕ) → takes c 1 ≡ true → is_additive c ≡ true
unfolding tables
letters-inside = inside-everywhere letter_ranges additive_ranges refl refl refl

ideograms-inside : (c : ℕ) → takes c 2 ≡ true → is_additive c ≡ true
unfolding tables
ideograms-inside = inside-everywhere ideogram_ranges additive_ranges refl refl refl

-- ---- plain characters

spacing-by : (c n : ℕ) → is_additive c ≡ true → own_width c ≡ n → nat_le 1 n ≡ true → is_spacing c ≡ true
spacing-by c n additive own some = ap (λ b. b && nat_le 1 (columns_of c)) additive ∙ ap (nat_le 1) (sym (own-additive c additive) ∙ own) ∙ some

pub plain-spacing : (c : ℕ) → is_plain_character c ≡ true → is_spacing c ≡ true
plain-spacing c plain =
    ⊎_elim (λ one. spacing-by c 1 (one-inside c one) (one-column c one) refl) (λ two. spacing-by c 2 (two-inside c two) (two-columns c two) refl)
    (or_cases (is_one_column c) (is_two_columns c) plain)

-- ---- simple ones

pub simple-additive : (c columns : ℕ) → takes c columns ≡ true → is_additive c ≡ true
simple-additive c zero h = marks-inside c h
simple-additive c (suc zero) h = letters-inside c h
simple-additive c (suc (suc zero)) h = ideograms-inside c h
simple-additive c (suc (suc (suc n))) h = absurd (cc h)

marks-zero : (c : ℕ) → takes c 0 ≡ true → is_in_ranges zero_width_ranges c ≡ true
unfolding tables
marks-zero = inside-everywhere mark_ranges zero_width_ranges refl refl refl

letters-apart : (c : ℕ) → takes c 1 ≡ true → is_in_ranges zero_width_ranges c ≡ false
unfolding tables
letters-apart = outside-everywhere letter_ranges zero_width_ranges refl refl refl

letters-narrow : (c : ℕ) → takes c 1 ≡ true → is_in_ranges wide_ranges c ≡ false
unfolding tables
letters-narrow = outside-everywhere letter_ranges wide_ranges refl refl refl

ideograms-apart : (c : ℕ) → takes c 2 ≡ true → is_in_ranges zero_width_ranges c ≡ false
unfolding tables
ideograms-apart = outside-everywhere ideogram_ranges zero_width_ranges refl refl refl

ideograms-wide : (c : ℕ) → takes c 2 ≡ true → is_in_ranges wide_ranges c ≡ true
unfolding tables
ideograms-wide = inside-everywhere ideogram_ranges wide_ranges refl refl refl

by-tests : (c : ℕ) (zero_width wide : Bool) → is_in_ranges zero_width_ranges c ≡ zero_width → is_in_ranges wide_ranges c ≡ wide → columns_of c ≡ cond zero_width 0 (cond wide 2 1)
by-tests c zero_width wide one two = ap (λ b. cond b 0 (cond (is_in_ranges wide_ranges c) 2 1)) one ∙ ap (λ b. cond zero_width 0 (cond b 2 1)) two

pub simple-columns : (c columns : ℕ) → takes c columns ≡ true → columns_of c ≡ columns
simple-columns c zero h = by-tests c true (is_in_ranges wide_ranges c) (marks-zero c h) refl
simple-columns c (suc zero) h = by-tests c false false (letters-apart c h) (letters-narrow c h)
simple-columns c (suc (suc zero)) h = by-tests c false true (ideograms-apart c h) (ideograms-wide c h)
simple-columns c (suc (suc (suc n))) h = absurd (cc h)
