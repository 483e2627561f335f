-- Digits in groups of three, read from the first and from the last.
use Rattle.std.proofs.Common.{◌≡◌, ◌∙◌, ap, ap₂, refl, sym, ℕ, zero, suc, ◌+◌, ◌-◌, ◌%◌, ◌≤◌, ◌<◌, Bool, true, false, not, ◌&&◌, ◌||◌, List, [], ◌∷◌, length, arith, if◌then◌else◌}
use Rattle.std.specs.Prelude.{◌==◌}
use Rattle.std.specs.Char.{is_ascii_digit}
use Rattle.std.specs.List.{enumerate_from, list_all}
use Rattle.basinmug_columns.specs.Numbers.Numbers.{comma, is_before_groups, is_grouped}
use Rattle.basinmug_columns.specs.Numbers.Scans.{are_in_groups, is_in_groups}

-- what a byte must be with so many after it
abbrev fits : ℕ → ℕ → Bool
fits count byte = if suc count % 4 == 0 then byte == comma else is_ascii_digit byte

abbrev from_end : List ℕ → Bool
from_end [] = true
from_end (byte ∷ bytes) = fits (length bytes) byte && from_end bytes

-- the place from the end
placed : (total place : ℕ) (bytes : List ℕ) → total ≡ place + length bytes
    → list_all (λ (at : ℕ × ℕ). if (total - at.0) % 4 == 0 then at.1 == comma else is_ascii_digit at.1) (enumerate_from place bytes) ≡ from_end bytes
placed total place [] is = refl
placed total place (byte ∷ bytes) is =
    let left : total - place ≡ suc (length bytes) = omega (arith, is) in
    ap₂ (λ (a b : Bool). a && b) (ap (λ (n : ℕ). if n % 4 == 0 then byte == comma else is_ascii_digit byte) left) (placed total (place + 1) bytes (omega (arith, is)))

groups-from_end : (bytes : List ℕ) → are_in_groups bytes ≡ from_end bytes
groups-from_end bytes = placed (length bytes) 0 bytes (omega arith)

-- ---- remainders

next-comma : (n : ℕ) → (n % 4 == 3) ≡ (suc n % 4 == 0)
next-comma n = grind arith

next-digit : (n k : ℕ) → k < 3 → (n % 4 == k) ≡ (suc n % 4 == suc k)
next-digit n k lt = grind (arith, lt)

-- ---- from the start

first-comma : (comma_there fits_digit is rest : Bool) → (comma_there && (is && rest)) ≡ (is && ((if is then comma_there else fits_digit) && rest))
first-comma c d true rest = refl
first-comma true d false rest = refl
first-comma false d false rest = refl

first-digit : (c d is other rest : Bool) → (is ≡ true → other ≡ false) → (d && (is && rest)) ≡ (is && ((if other then c else d) && rest))
first-digit c d true other rest not_other = ap (λ (b : Bool). (if b then c else d) && rest) (sym (not_other refl))
first-digit c true false other rest not_other = refl
first-digit c false false other rest not_other = refl

pub before_groups : (digits : ℕ) (bytes : List ℕ) → digits ≤ 3 → is_before_groups digits bytes ≡ ((length bytes % 4 == digits) && from_end bytes)
before_groups zero [] le = refl
before_groups (suc digits) [] le = grind arith
before_groups zero (byte ∷ bytes) le =
    ap (λ (b : Bool). (byte == comma) && b) (before_groups 3 bytes (omega arith) ∙ ap (λ (b : Bool). b && from_end bytes) (next-comma (length bytes)))
    ∙ first-comma (byte == comma) (is_ascii_digit byte) (suc (length bytes) % 4 == 0) (from_end bytes)
before_groups (suc digits) (byte ∷ bytes) le =
    ap (λ (b : Bool). is_ascii_digit byte && b) (before_groups digits bytes (omega arith) ∙ ap (λ (b : Bool). b && from_end bytes) (next-digit (length bytes) digits (omega arith)))
    ∙ first-digit (byte == comma) (is_ascii_digit byte) (suc (length bytes) % 4 == suc digits) (suc (length bytes) % 4 == 0) (from_end bytes) (λ is. grind (arith, is))

one_to_three : (rest : ℕ) → rest < 4 → not (rest == 0) ≡ (((rest == 1) || (rest == 2)) || (rest == 3))
one_to_three zero lt = refl
one_to_three (suc zero) lt = refl
one_to_three (suc (suc zero)) lt = refl
one_to_three (suc (suc (suc zero))) lt = refl
one_to_three (suc (suc (suc (suc n)))) lt = absurd (omega (arith, lt))

apart : (a b c rest : Bool) → (((a && rest) || (b && rest)) || (c && rest)) ≡ (((a || b) || c) && rest)
apart true b c true = refl
apart true true true false = refl
apart true true false false = refl
apart true false true false = refl
apart true false false false = refl
apart false true c true = refl
apart false true true false = refl
apart false true false false = refl
apart false false c rest = refl

-- both ways report the same
pub grouped : (bytes : List ℕ) → is_in_groups bytes ≡ is_grouped bytes
grouped bytes =
    ap₂ (λ (a b : Bool). a && b) (one_to_three (length bytes % 4) (omega arith)) (groups-from_end bytes)
    ∙ (sym (apart (length bytes % 4 == 1) (length bytes % 4 == 2) (length bytes % 4 == 3) (from_end bytes))
    ∙ sym (ap₂ (λ (a b : Bool). a || b) (ap₂ (λ (a b : Bool). a || b) (before_groups 1 bytes (omega arith)) (before_groups 2 bytes (omega arith))) (before_groups 3 bytes (omega arith))))
