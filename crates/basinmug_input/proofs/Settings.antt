-- Parameters read one by one are settings where their list is.
use Rattle.std.proofs.Common.{◌≡◌, ◌∙◌, ◌<◌, ℕ, zero, suc, Bool, true, false, ◌&&◌, Option, None, Some, List, [], ◌∷◌, ◌++◌, refl, ap, sym, subst, arith, fold, map, inl, inr, ◌==◌, if◌then◌else◌, append-nil, append_assoc}
use Rattle.std.specs.Prelude.{All, not}
use Rattle.std.specs.List.{slice_split}
use Rattle.std.proofs.lemmas.Bool.{and_parts, cases_eq}
use Rattle.std.proofs.lemmas.List.Elements.{All-nil, All-cons, All-append}
use Rattle.std.proofs.lemmas.List.Splits.{slice_split_at, slice_split_none}
use Rattle.std.proofs.lemmas.List.Sums.{fold-append}
use Rattle.ansi_scan.specs.Styles.ColorForms.{is_color_code}
use Rattle.ansi_scan.specs.Styles.Digits.{number_after}
use Rattle.ansi_scan.specs.Styles.Rendition.{number}
use Rattle.ansi_scan.proofs.StyleLemmas.Numbers.{number_by_steps-number}
use Rattle.basinmug_input.specs.Renditions.{are_settings, begin_with_color, begin_with_number, begin_with_three_numbers, behind, is_code, is_in_kept_ranges, is_kept_code, numbers_of}
use Rattle.basinmug_input.specs.declared.renditions.Awaited.{Awaited}
use Rattle.basinmug_input.specs.declared.renditions.Awaited.TheVariants.{Code, Form, OneNumber, ThreeNumbers, Nothing}

-- ---- one parameter after the other

-- a code is awaited at the end
abbrev ends : Awaited → List (Option ℕ) → Bool
ends awaited parameters = is_code (fold behind awaited parameters)

nothing-more : (parameters : List (Option ℕ)) → ends Nothing parameters ≡ false
nothing-more [] = refl
nothing-more (p ∷ others) = nothing-more others

code-first : (color kept : Bool) (others : List (Option ℕ)) → ends Form others ≡ begin_with_color others → ends Code others ≡ are_settings others
    → ends (if color then Form else (if kept then Code else Nothing)) others ≡ (if color then begin_with_color others else (kept && are_settings others))
code-first true kept others color settings = color
code-first false true others color settings = settings
code-first false false others color settings = nothing-more others

form-first : (one three : Bool) (others : List (Option ℕ)) → ends OneNumber others ≡ begin_with_number others → ends ThreeNumbers others ≡ begin_with_three_numbers others
    → ends (if one then OneNumber else (if three then ThreeNumbers else Nothing)) others
    ≡ (if one then begin_with_number others else (if three then begin_with_three_numbers others else false))
form-first true three others number numbers = number
form-first false true others number numbers = numbers
form-first false false others number numbers = nothing-more others

mutual
  ends-code : (parameters : List (Option ℕ)) → ends Code parameters ≡ are_settings parameters
  ends-code [] = refl
  ends-code (None ∷ others) = nothing-more others
  ends-code (Some code ∷ others) = code-first (is_color_code code) (is_kept_code code) others (ends-form others) (ends-code others)

  ends-form : (parameters : List (Option ℕ)) → ends Form parameters ≡ begin_with_color parameters
  ends-form [] = refl
  ends-form (None ∷ others) = nothing-more others
  ends-form (Some form ∷ others) = form-first (form == 5) (form == 2) others (ends-one others) (ends-three others)

  ends-one : (parameters : List (Option ℕ)) → ends OneNumber parameters ≡ begin_with_number parameters
  ends-one [] = refl
  ends-one (None ∷ others) = nothing-more others
  ends-one (Some n ∷ others) = ends-code others

  ends-three : (parameters : List (Option ℕ)) → ends ThreeNumbers parameters ≡ begin_with_three_numbers parameters
  ends-three [] = refl
  ends-three (None ∷ others) = nothing-more others
  ends-three (Some r ∷ []) = refl
  ends-three (Some r ∷ None ∷ others) = nothing-more others
  ends-three (Some r ∷ Some g ∷ []) = refl
  ends-three (Some r ∷ Some g ∷ None ∷ others) = nothing-more others
  ends-three (Some r ∷ Some g ∷ Some b ∷ others) = ends-code others

-- ---- one byte after the other

-- whether a code is awaited after the bytes that are left, where a number has been begun
abbrev pub read_on : Awaited → Option ℕ → List ℕ → Bool
read_on awaited begun [] = is_code (behind awaited begun)
read_on awaited begun (byte ∷ bytes) = if byte == 59 then read_on (behind awaited begun) (Some 0) bytes else read_on awaited (number_after begun byte) bytes

-- the bytes of the number that has been begun, and those that are left
read_on-parts : (awaited : Awaited) (part bytes : List ℕ) → All (λ byte. (byte == 59) ≡ false) part
    → read_on awaited (fold number_after (Some 0) part) bytes ≡ ends awaited (map number (slice_split (λ byte. byte == 59) (part ++ bytes)))
read_on-parts awaited part [] digits =
    ap (λ n. is_code (behind awaited n)) (number_by_steps-number part)
    ∙ sym (ap (λ parts. ends awaited (map number parts)) (ap (slice_split (λ byte. byte == 59)) (append-nil part) ∙ slice_split_none (λ byte. byte == 59) part digits))
read_on-parts awaited part (byte ∷ bytes) digits =
    elim (byte == 59) as (λ t. (byte == 59) ≡ t
    → (if t then read_on (behind awaited (fold number_after (Some 0) part)) (Some 0) bytes
    else read_on awaited (number_after (fold number_after (Some 0) part) byte) bytes)
    ≡ ends awaited (map number (slice_split (λ b. b == 59) (part ++ byte ∷ bytes)))) [
      | true ↦ λ e. ap (λ n. read_on (behind awaited n) (Some 0) bytes) (number_by_steps-number part)
          ∙ (read_on-parts (behind awaited (number part)) [] bytes (All-nil (λ b. (b == 59) ≡ false))
          ∙ sym (ap (λ parts. ends awaited (map number parts)) (slice_split_at (λ b. b == 59) part byte bytes digits e)))
      | false ↦ λ e. ap (λ n. read_on awaited n bytes) (sym (fold-append number_after (Some 0) part (byte ∷ [])))
          ∙ (read_on-parts awaited (part ++ byte ∷ []) bytes
          (All-append (λ b. (b == 59) ≡ false) part (byte ∷ []) digits (All-cons (λ b. (b == 59) ≡ false) byte [] e (All-nil (λ b. (b == 59) ≡ false))))
          ∙ ap (λ all. ends awaited (map number (slice_split (λ b. b == 59) all))) (append_assoc part (byte ∷ []) bytes))
    ] refl

-- read so, parameters are settings where their numbers are
pub read_on-all : (parameters : List ℕ) → read_on Code (Some 0) parameters ≡ are_settings (numbers_of parameters)
read_on-all parameters = read_on-parts Code [] parameters (All-nil (λ b. (b == 59) ≡ false)) ∙ ends-code (numbers_of parameters)

-- ---- the ranges of codes are those of the table

-- both answer alike
abbrev alike : Bool → Bool → Bool
alike true b = b
alike false b = not b

alike-same : (a b : Bool) → alike a b ≡ true → a ≡ b
alike-same true true e = refl
alike-same true false e = cc e
alike-same false true e = cc e
alike-same false false e = refl

-- it holds of all numbers below this one
abbrev all_below : ℕ → (ℕ → Bool) → Bool
all_below zero p = true
all_below (suc n) p = p n && all_below n p

one-below : (n : ℕ) (p : ℕ → Bool) (i : ℕ) → all_below n p ≡ true → i < n → p i ≡ true
one-below zero p i all below = absurd (omega (arith, below))
one-below (suc n) p i all below =
    let parts = and_parts (p n) (all_below n p) all in
    elim (cases_eq i n) [
      | inl same ↦ subst (λ m. p m ≡ true) (sym same) parts.0
      | inr other ↦ one-below n p i parts.1 (omega (arith, below, other))
    ]

ranges-computed : all_below 256 (λ code. alike (is_in_kept_ranges code) (is_kept_code code)) ≡ true
ranges-computed = refl

pub ranges-table : (code : ℕ) → code < 256 → is_in_kept_ranges code ≡ is_kept_code code
ranges-table code below = alike-same (is_in_kept_ranges code) (is_kept_code code) (one-below 256 (λ n. alike (is_in_kept_ranges n) (is_kept_code n)) code ranges-computed below)
