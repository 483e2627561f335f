-- The digits of a number, read as a parameter.
use Rattle.std.proofs.Common.{◌≡◌, ℕ, ◌+◌, ◌*◌, ◌/◌, ◌%◌, ◌<◌, ◌≤◌, ◌^◌, Bool, true, false, ◌&&◌, Option, None, Some, List, [], ◌∷◌, refl, ap, ◌∙◌, sym, arith, fold, nat_le, ◌==◌, if◌then◌else◌}
use Rattle.std.specs.Prelude.{All}
use Rattle.std.specs.List.{list_all}
use Rattle.std.specs.Fmt.{decimal}
use Rattle.std.proofs.lemmas.Fmt.{decimal_by_steps}
use Rattle.std.proofs.lemmas.Bool.{leb-true, leb-false, le-leb, lt-leb}
use Rattle.std.proofs.lemmas.Bool.Decides.{nat_tests}
use Rattle.std.proofs.lemmas.List.Elements.{All-nil, All-cons, All-append}
use Rattle.std.proofs.lemmas.List.Sums.{fold-append}
use Rattle.std.proofs.lemmas.List.Folds.{list_all-append}
use Rattle.std.specs.Char.{is_ascii_digit}
use Rattle.ansi_scan.specs.Styles.Rendition.{is_numeric, with_digit, number}
use Rattle.ansi_scan.specs.Styles.Digits.{number_after}

-- a longer number is no smaller
with_digit_le : (n : ℕ) (digits : List ℕ) → n ≤ fold with_digit n digits
with_digit_le n [] = omega arith
with_digit_le n (digit ∷ digits) = omega (arith, with_digit_le (with_digit n digit) digits)

-- the number of what is left of a parameter, after this one
abbrev number_from : ℕ → List ℕ → Option ℕ
number_from n bytes =
    if list_all is_ascii_digit bytes && nat_le (fold with_digit n bytes) 255 then Some (fold with_digit n bytes) else None

none_stays : (bytes : List ℕ) → fold number_after None bytes ≡ None
none_stays [] = refl
none_stays (byte ∷ bytes) = none_stays bytes

-- past 255 no number comes back
number_from-large : (n : ℕ) (bytes : List ℕ) → 255 < n → number_from n bytes ≡ None
number_from-large n bytes large =
    let grows : n ≤ fold with_digit n bytes = with_digit_le n bytes in
    ap (λ b. if list_all is_ascii_digit bytes && b then Some (fold with_digit n bytes) else None) (lt-leb (fold with_digit n bytes) 255 (omega arith))
    ∙ never (list_all is_ascii_digit bytes) (Some (fold with_digit n bytes))
  where
    never : (b : Bool) (o : Option ℕ) → (if b && false then o else None) ≡ None
    never true o = refl
    never false o = refl

number_from-cons : (digit fits : Bool) (n byte : ℕ) (bytes : List ℕ) → nat_le (with_digit n byte) 255 ≡ fits
    → (with_digit n byte ≤ 255 → fold number_after (Some (with_digit n byte)) bytes ≡ number_from (with_digit n byte) bytes)
    → fold number_after (if digit && fits then Some (with_digit n byte) else None) bytes
    ≡ (if (digit && list_all is_ascii_digit bytes) && nat_le (fold with_digit (with_digit n byte) bytes) 255 then Some (fold with_digit (with_digit n byte) bytes) else None)
number_from-cons false fits n byte bytes e others = none_stays bytes
number_from-cons true true n byte bytes e others = others (leb-true (with_digit n byte) 255 e)
number_from-cons true false n byte bytes e others =
    none_stays bytes ∙ sym (number_from-large (with_digit n byte) bytes (leb-false (with_digit n byte) 255 e))

fold-number_after : (n : ℕ) (bytes : List ℕ) → n ≤ 255 → fold number_after (Some n) bytes ≡ number_from n bytes
fold-number_after n [] small = ap (λ b. if b then Some n else None) (sym (le-leb n 255 small))
fold-number_after n (byte ∷ bytes) small =
    number_from-cons (is_ascii_digit byte) (nat_le (with_digit n byte) 255) n byte bytes refl (λ fits. fold-number_after (with_digit n byte) bytes fits)

abbrev number_by_steps : List ℕ → Option ℕ
number_by_steps parameter = fold number_after (Some 0) parameter

-- one byte after the other gives the number
pub number_by_steps-number : (parameter : List ℕ) → number_by_steps parameter ≡ number parameter
number_by_steps-number parameter = fold-number_after 0 parameter (omega arith)

pub number_after-digit : (n d : ℕ) → d < 10 → 10 * n + d < 256 → number_after (Some n) (48 + d) ≡ Some (10 * n + d)
number_after-digit n d digit fits = grind (arith, nat_tests)

-- the digits of a number read as that number
pub number-decimal : (n : ℕ) → n < 256 → number (decimal n) ≡ Some n
number-decimal n fits =
    sym (number_by_steps-number (decimal n))
    ∙ decimal_by_steps (λ m digits. m < 256 → number_by_steps digits ≡ Some m)
    (λ m digit small. number_after-digit 0 m digit (omega arith) ∙ ap Some (omega arith))
    (λ m digits large read small.
    fold-append number_after (Some 0) digits ((48 + m % 10) ∷ [])
    ∙ (ap (λ so_far. number_after so_far (48 + m % 10)) (read (omega arith))
    ∙ (number_after-digit (m / 10) (m % 10) (omega arith) (omega arith)
    ∙ ap Some (omega arith))))
    n (omega arith) fits

pub is_numeric-digit : (d : ℕ) → d < 10 → is_numeric (48 + d) ≡ true
is_numeric-digit d digit = grind (arith, nat_tests)

-- the digits of a number are parameter bytes
pub list_all-decimal : (n : ℕ) → n < 2 ^ 64 → list_all is_numeric (decimal n) ≡ true
list_all-decimal n fits =
    decimal_by_steps (λ m digits. list_all is_numeric digits ≡ true)
    (λ m digit. ap (λ b. b && true) (is_numeric-digit m digit))
    (λ m digits large all.
    list_all-append is_numeric digits ((48 + m % 10) ∷ [])
    ∙ (ap (λ b. b && list_all is_numeric ((48 + m % 10) ∷ [])) all
    ∙ ap (λ b. b && true) (is_numeric-digit (m % 10) (omega arith))))
    n fits

pub is_semicolon-digit : (d : ℕ) → d < 10 → ((48 + d) == 59) ≡ false
is_semicolon-digit d digit = grind (arith, nat_tests)

-- none of them is `;`
pub All-decimal : (n : ℕ) → n < 2 ^ 64 → All (λ byte. (byte == 59) ≡ false) (decimal n)
All-decimal n fits =
    decimal_by_steps (λ m digits. All (λ byte. (byte == 59) ≡ false) digits)
    (λ m digit. All-cons IsOther (48 + m) [] (is_semicolon-digit m digit) (All-nil IsOther))
    (λ m digits large all.
    All-append IsOther digits ((48 + m % 10) ∷ []) all
    (All-cons IsOther (48 + m % 10) [] (is_semicolon-digit (m % 10) (omega arith)) (All-nil IsOther)))
    n fits
  where
    IsOther : ℕ → Type 0
    IsOther byte = (byte == 59) ≡ false
