-- The parameters of a sequence, read byte by byte.
use Rattle.std.proofs.Common.{◌≡◌, ℕ, ◌+◌, ◌*◌, ◌<◌, true, false, ◌&&◌, arith, Option, Some, List, [], ◌∷◌, ◌++◌, refl, ap, ◌∙◌, sym, fold, map, ◌==◌, if◌then◌else◌}
use Rattle.std.specs.Prelude.{All}
use Rattle.std.specs.List.{list_all, slice_split}
use Rattle.std.proofs.lemmas.Bool.Decides.{nat_tests}
use Rattle.std.proofs.lemmas.List.{append_assoc, append-nil}
use Rattle.std.proofs.lemmas.List.Elements.{All-nil, All-cons, All-append}
use Rattle.std.proofs.lemmas.List.Splits.{slice_split_at, slice_split_none}
use Rattle.std.proofs.lemmas.List.Sums.{fold-append}
use Rattle.ansi_scan.specs.declared.style.next.Next.{Next}
use Rattle.ansi_scan.specs.declared.style.next.Next.TheVariants.{Code}
use Rattle.ansi_scan.specs.Styles.Attributes.{Attributes, after_code}
use Rattle.ansi_scan.specs.Styles.Digits.{number_after}
use Rattle.ansi_scan.specs.Styles.NextParameter.{after_parameter, reading_after}
use Rattle.ansi_scan.specs.Styles.Rendition.{is_numeric, number, after_parameter_bytes, applied}
use Rattle.ansi_scan.proofs.StyleLemmas.Forms.{fold-reading_after}
use Rattle.ansi_scan.proofs.StyleLemmas.Numbers.{number_by_steps-number, number_after-digit}
use Rattle.ansi_scan.proofs.StyleLemmas.Reading.{sgr_parameters-sequence}

-- the attributes after the bytes that are left, where a number has been begun
abbrev pub read_on : Attributes × Next → Option ℕ → List ℕ → Attributes
read_on reading begun [] = after_parameter reading.0 reading.1 begun
read_on reading begun (byte ∷ bytes) =
    if byte == 59 then read_on (reading_after reading begun) (Some 0) bytes
    else read_on reading (number_after begun byte) bytes

-- the attributes after parameters that are separated first
abbrev read_parts : Attributes × Next → List (List ℕ) → Attributes
read_parts reading parts = (fold reading_after reading (map number parts)).0

-- the bytes of the number that has been begun, and those that are left
read_on-parts : (reading : Attributes × Next) (part bytes : List ℕ) → All (λ byte. (byte == 59) ≡ false) part
    → read_on reading (fold number_after (Some 0) part) bytes ≡ read_parts reading (slice_split (λ byte. byte == 59) (part ++ bytes))
read_on-parts reading part [] digits =
    ap (λ n. after_parameter reading.0 reading.1 n) (number_by_steps-number part)
    ∙ sym (ap (read_parts reading) (ap (slice_split (λ byte. byte == 59)) (append-nil part) ∙ slice_split_none (λ byte. byte == 59) part digits))
read_on-parts reading part (byte ∷ bytes) digits =
    elim (byte == 59) as (λ t. (byte == 59) ≡ t
    → (if t then read_on (reading_after reading (fold number_after (Some 0) part)) (Some 0) bytes
    else read_on reading (number_after (fold number_after (Some 0) part) byte) bytes)
    ≡ read_parts reading (slice_split (λ b. b == 59) (part ++ byte ∷ bytes))) [
      | true ↦ λ e. ap (λ n. read_on (reading_after reading n) (Some 0) bytes) (number_by_steps-number part)
          ∙ (read_on-parts (reading_after reading (number part)) [] bytes (All-nil (λ b. (b == 59) ≡ false))
          ∙ sym (ap (read_parts reading) (slice_split_at (λ b. b == 59) part byte bytes digits e)))
      | false ↦ λ e. ap (λ n. read_on reading n bytes) (sym (fold-append number_after (Some 0) part (byte ∷ [])))
          ∙ (read_on-parts reading (part ++ byte ∷ []) bytes
          (All-append (λ b. (b == 59) ≡ false) part (byte ∷ []) digits (All-cons (λ b. (b == 59) ≡ false) byte [] e (All-nil (λ b. (b == 59) ≡ false))))
          ∙ ap (λ all. read_parts reading (slice_split (λ b. b == 59) all)) (append_assoc part (byte ∷ []) bytes))
    ] refl

-- read so, parameters do what they do when they are separated first
pub read_on-all : (a : Attributes) (parameters : List ℕ) → read_on (a, Code) (Some 0) parameters ≡ after_parameter_bytes a (Some parameters)
read_on-all a parameters =
    read_on-parts (a, Code) [] parameters (All-nil (λ b. (b == 59) ≡ false))
    ∙ fold-reading_after a (map number (slice_split (λ byte. byte == 59) parameters))

-- ---- sequences of one short code

not_parting : (d : ℕ) → d < 10 → (48 + d == 59) ≡ false
not_parting d digit = grind (arith, nat_tests)

numeric_digit : (d : ℕ) → d < 10 → is_numeric (48 + d) ≡ true
numeric_digit d digit = grind (arith, nat_tests)

read_on-digit : (reading : Attributes × Next) (n d more : ℕ) (bytes : List ℕ) → d < 10 → more ≡ 10 * n + d → more < 256
    → read_on reading (Some n) ((48 + d) ∷ bytes) ≡ read_on reading (Some more) bytes
read_on-digit reading n d more bytes digit e fits =
    ap (λ t. if t then read_on (reading_after reading (Some n)) (Some 0) bytes else read_on reading (number_after (Some n) (48 + d)) bytes) (not_parting d digit)
    ∙ ap (λ m. read_on reading m bytes) (number_after-digit n d digit (omega (arith, e, fits)) ∙ ap Some (sym e))

applied-read : (a : Attributes) (parameters : List ℕ) → list_all is_numeric parameters ≡ true
    → applied a (27 ∷ 91 ∷ (parameters ++ 109 ∷ [])) ≡ read_on (a, Code) (Some 0) parameters
unfolding applied
applied-read a parameters all =
    ap (after_parameter_bytes a) (sgr_parameters-sequence parameters all) ∙ sym (read_on-all a parameters)

pub applied-one_digit : (a : Attributes) (d : ℕ) → d < 10 → applied a (27 ∷ 91 ∷ (48 + d) ∷ 109 ∷ []) ≡ after_code a d
applied-one_digit a d digit =
    applied-read a ((48 + d) ∷ []) (ap (λ t. t && true) (numeric_digit d digit))
    ∙ read_on-digit (a, Code) 0 d d [] digit (omega arith) (omega arith)

pub applied-two_digits : (a : Attributes) (tens ones : ℕ) → tens < 10 → ones < 10
    → applied a (27 ∷ 91 ∷ (48 + tens) ∷ (48 + ones) ∷ 109 ∷ []) ≡ after_code a (10 * tens + ones)
applied-two_digits a tens ones digit last =
    applied-read a ((48 + tens) ∷ (48 + ones) ∷ []) (ap (λ t. t && (is_numeric (48 + ones) && true)) (numeric_digit tens digit) ∙ ap (λ t. t && true) (numeric_digit ones last))
    ∙ (read_on-digit (a, Code) 0 tens tens ((48 + ones) ∷ []) digit (omega arith) (omega arith)
    ∙ read_on-digit (a, Code) tens ones (10 * tens + ones) [] last refl (omega arith))
