-- What an additive character is to `unicode_width`: its columns by the tables, and its effect on the character before.
use Rattle.std.proofs.Common.{◌≡◌, ℕ, ◌<◌, not, ◌&&◌, ◌||◌, nat_lt, Bool, true, false, cond, List, [], ◌∷◌, refl, ap, sym, subst, ◌∙◌, arith, ⊎_elim}
use Rattle.std.specs.Int.{is_in_range}
use Rattle.std.specs.List.{list_all}
use Rattle.std.proofs.lemmas.Bool.{and_parts, or_cases, ltb-true}
use Rattle.std.proofs.lemmas.Bool.Decides.{nat_tests}
use Rattle.ucd_table.specs.Rows.{in_ranges}
use Rattle.ucd_table.proofs.Computing.{tables}
use Rattle.ucd_table.proofs.Stepped.{Stepped, of_ranges, zip_stepped}
use Rattle.ucd_table.proofs.Facts.{always, ends_by, Stepped-everywhere}
use Rattle.unicode_width.specs.declared.kind.Kind.{Kind}
use Rattle.unicode_width.specs.declared.kind.Kind.TheVariants as kinds
use Rattle.unicode_width.specs.declared.state.After.{After}
use Rattle.unicode_width.specs.declared.state.After.TheVariants.{Nothing, Emoji, Lamed}
use Rattle.unicode_width.specs.Kind.{is_ligature_transparent, kind}
use Rattle.unicode_width.specs.Width.{alone, before, of_kind, single}
use Rattle.unicode_width.proofs.KindLemmas.{is_ligature_transparent_stepped, kind_stepped}
use Rattle.grid_records_measure.specs.PlainCharacters.{is_in_ranges}
use Rattle.grid_records_measure.proofs.Plain.{in_ranges-any, inside-test}
use Rattle.tables_laws.specs.Characters.AdditiveCharacters.{columns_of, high_ranges, wide_ranges, zero_width_ranges}

-- how a text may begin that follows additive characters: an alef before a lamed joins it only across a joiner
abbrev pub is_still : After → Bool
is_still Nothing = true
is_still Emoji = true
is_still Lamed = true
is_still _ = false

-- Hebrew lamed, and lamed with dagesh
abbrev lamed_ranges : List (ℕ × ℕ)
lamed_ranges = (0x5dc, 0x5dc) ∷ (0xfb3c, 0xfb3c) ∷ []

-- a kind that takes what the tables say
abbrev agrees : Bool → Bool → Bool → Kind → Bool
agrees zero wide lamed kinds.Zero = zero
agrees zero wide lamed kinds.Narrow = not zero && not wide
agrees zero wide lamed kinds.Ambiguous = not zero && not wide
agrees zero wide lamed kinds.Wide = not zero && wide
agrees zero wide lamed kinds.Emoji = not zero && wide
agrees zero wide lamed kinds.Single = (not zero && not wide) && lamed
agrees zero wide lamed _ = false

-- ---- the tables agree with the kinds

abbrev of-tables : ℕ → Kind → Bool
of-tables c = agrees (in_ranges zero_width_ranges c) (in_ranges wide_ranges c) (in_ranges lamed_ranges c)

zero_and_wide : Stepped (λ c. agrees (in_ranges zero_width_ranges c) (in_ranges wide_ranges c))
unfolding tables
zero_and_wide = zip_stepped (λ zero wide. agrees zero wide) (in_ranges zero_width_ranges) (in_ranges wide_ranges) (of_ranges zero_width_ranges refl) (of_ranges wide_ranges refl)

of-tables_stepped : Stepped of-tables
unfolding tables
of-tables_stepped =
    zip_stepped (λ (f : Bool → Kind → Bool) lamed. f lamed) (λ c. agrees (in_ranges zero_width_ranges c) (in_ranges wide_ranges c)) (in_ranges lamed_ranges)
    zero_and_wide (of_ranges lamed_ranges refl)

kind-of_tables : Stepped (λ c. of-tables c (kind c))
kind-of_tables = zip_stepped (λ (f : Kind → Bool) k. f k) of-tables kind of-tables_stepped kind_stepped

abbrev agrees-inside : ℕ → Bool
agrees-inside c = not (in_ranges high_ranges c) || of-tables c (kind c)

agrees-stepped : Stepped agrees-inside
unfolding tables
agrees-stepped = zip_stepped (λ inside ok. not inside || ok) (in_ranges high_ranges) (λ c. of-tables c (kind c)) (of_ranges high_ranges refl) kind-of_tables

agrees-everywhere : (always agrees-inside agrees-stepped && (ends_by 0x11_0000 agrees-stepped.steps && agrees-stepped.default)) ≡ true
unfolding tables kind_stepped zero_and_wide of-tables_stepped kind-of_tables agrees-stepped
agrees-everywhere = refl

abbrev of_class : ℕ → Kind → Bool
of_class c = agrees (is_in_ranges zero_width_ranges c) (is_in_ranges wide_ranges c) (is_in_ranges lamed_ranges c)

kind-agrees : (c : ℕ) → is_in_ranges high_ranges c ≡ true → of_class c (kind c) ≡ true
kind-agrees c high =
    ap (λ b. agrees b (is_in_ranges wide_ranges c) (is_in_ranges lamed_ranges c) (kind c)) (sym (in_ranges-any zero_width_ranges c))
    ∙ ap (λ b. agrees (in_ranges zero_width_ranges c) b (is_in_ranges lamed_ranges c) (kind c)) (sym (in_ranges-any wide_ranges c))
    ∙ ap (λ b. agrees (in_ranges zero_width_ranges c) (in_ranges wide_ranges c) b (kind c)) (sym (in_ranges-any lamed_ranges c))
    ∙ inside-test (in_ranges high_ranges c) (of-tables c (kind c)) (in_ranges-any high_ranges c ∙ high) (Stepped-everywhere agrees-inside agrees-stepped agrees-everywhere c)

-- ---- a character that a ligature passes over takes no column

abbrev passes-inside : ℕ → Bool
passes-inside c = not (in_ranges high_ranges c) || (not (is_ligature_transparent c) || in_ranges zero_width_ranges c)

passes-stepped : Stepped passes-inside
unfolding tables
passes-stepped =
    zip_stepped (λ inside ok. not inside || ok) (in_ranges high_ranges) (λ c. not (is_ligature_transparent c) || in_ranges zero_width_ranges c) (of_ranges high_ranges refl)
    (zip_stepped (λ passes zero. not passes || zero) is_ligature_transparent (in_ranges zero_width_ranges) is_ligature_transparent_stepped (of_ranges zero_width_ranges refl))

passes-everywhere : (always passes-inside passes-stepped && (ends_by 0x11_0000 passes-stepped.steps && passes-stepped.default)) ≡ true
unfolding tables is_ligature_transparent_stepped passes-stepped
passes-everywhere = refl

pub passed-zero : (c : ℕ) → is_in_ranges high_ranges c ≡ true → is_ligature_transparent c ≡ true → columns_of c ≡ 0
passed-zero c high passed =
    let none : in_ranges zero_width_ranges c ≡ true =
    inside-test (is_ligature_transparent c) (in_ranges zero_width_ranges c) passed
    (inside-test (in_ranges high_ranges c) (not (is_ligature_transparent c) || in_ranges zero_width_ranges c) (in_ranges-any high_ranges c ∙ high) (Stepped-everywhere passes-inside passes-stepped passes-everywhere c)) in
    ap (λ b. cond b 0 (cond (is_in_ranges wide_ranges c) 2 1)) (sym (in_ranges-any zero_width_ranges c) ∙ none)

-- ---- such a character by itself

-- it takes these columns, and joins nothing before it that is no joiner
pub record IsAlone (c columns : ℕ) : Type 0 where
  pub next : After
  pub still : is_still next ≡ true
  pub is : alone false c ≡ (columns, before next)

record OfKind (c columns : ℕ) (k : Kind) : Type 0 where
  next : After
  still : is_still next ≡ true
  is : of_kind false c k ≡ (columns, before next)

lamed-single : (c : ℕ) → is_in_ranges lamed_ranges c ≡ true → single false c ≡ (1, before Lamed)
lamed-single c h =
    ⊎_elim (λ one. let same : 0x5dc ≡ c = grind (arith, nat_tests, one) in subst (λ x. single false x ≡ (1, before Lamed)) same refl)
    (λ more. let same : 0xfb3c ≡ c = grind (arith, nat_tests, more) in subst (λ x. single false x ≡ (1, before Lamed)) same refl)
    (or_cases (is_in_range 0x5dc 0x5dc c) (is_in_range 0xfb3c 0xfb3c c || false) h)

of-kind : (c : ℕ) (zero wide lamed : Bool) (k : Kind) → (lamed ≡ true → single false c ≡ (1, before Lamed)) → agrees zero wide lamed k ≡ true → OfKind c (cond zero 0 (cond wide 2 1)) k
of-kind c true wide lamed kinds.Zero single_is h = record { next = Nothing; still = refl; is = refl }
of-kind c false false lamed kinds.Narrow single_is h = record { next = Nothing; still = refl; is = refl }
of-kind c false false lamed kinds.Ambiguous single_is h = record { next = Nothing; still = refl; is = refl }
of-kind c false true lamed kinds.Wide single_is h = record { next = Nothing; still = refl; is = refl }
of-kind c false true lamed kinds.Emoji single_is h = record { next = Emoji; still = refl; is = refl }
of-kind c false false true kinds.Single single_is h = record { next = Lamed; still = refl; is = single_is refl }
of-kind c zero wide lamed k single_is h = absurd (cc h)

pub high-alone : (c : ℕ) → is_in_ranges high_ranges c ≡ true → IsAlone c (columns_of c)
unfolding alone
high-alone c high =
    let found = of-kind c (is_in_ranges zero_width_ranges c) (is_in_ranges wide_ranges c) (is_in_ranges lamed_ranges c) (kind c) (lamed-single c) (kind-agrees c high) in
    record { next = found.next; still = found.still; is = found.is }

-- ---- where the ranges begin

pub from : (n : ℕ) (ranges : List (ℕ × ℕ)) (c : ℕ) → list_all (λ range. nat_lt n range.0) ranges ≡ true → is_in_ranges ranges c ≡ true → n < c
from n [] c all inside = absurd (cc inside)
from n (range ∷ ranges) c all inside =
    let parts = and_parts (nat_lt n range.0) (list_all (λ range. nat_lt n range.0) ranges) all in
    let above : n < range.0 = ltb-true n range.0 parts.0 in
    ⊎_elim (λ (here : is_in_range range.0 range.1 c ≡ true). grind (arith, nat_tests, above, here)) (λ more. from n ranges c parts.1 more)
    (or_cases (is_in_range range.0 range.1 c) (is_in_ranges ranges c) inside)
