-- What is read from left to right, each part as long as it can be, is what the grammar says: no part could begin with
-- a byte that the part before it could take.
use Rattle.std.proofs.Common.{◌≡◌, ◌∙◌, ap, ap₂, refl, sym, ℕ, zero, suc, Bool, true, false, cond, not, ◌&&◌, ◌||◌, List, [], ◌∷◌, drop, length, arith, if◌then◌else◌}
use Rattle.std.specs.Prelude.{◌==◌}
use Rattle.std.specs.Char.{is_ascii_digit}
use Rattle.std.specs.List.{list_all, take_while}
use Rattle.std.proofs.Math.Bool.{or-false}
use Rattle.std.proofs.lemmas.List.Sums.{take_while-cons}
use Rattle.basinmug_columns.specs.Numbers.Numbers.{are_digits, comma, followed_by, is_before_groups, is_digits, is_empty, is_end, is_exponent, is_exponent_mark, is_mantissa, is_number, is_one, is_percent, is_point, is_sign, is_sign_or_none, is_whole, or_nothing}
use Rattle.basinmug_columns.specs.Numbers.Scans.{first_byte_passes, behind, is_digit_or_comma, is_percent_or_none, is_fraction, is_tail, is_unsigned, is_whole_part, without_one}
use Rattle.basinmug_columns.proofs.NumbersLemmas.Groups.{grouped}
use Rattle.basinmug_columns.proofs.NumbersLemmas.Parts.{behind-cons, followed-either, followed-longest, followed-one, followed-optional, followed-together, followed-without}

-- ---- bytes of two kinds

abbrev Apart : (ℕ → Bool) → (ℕ → Bool) → Type 0
Apart one other = (byte : ℕ) → one byte ≡ true → other byte ≡ false

digit-percent : Apart is_ascii_digit is_percent
digit-percent byte is = grind (arith, is)

digit-mark : Apart is_ascii_digit is_exponent_mark
digit-mark byte is = grind (arith, is)

mark-percent : Apart is_exponent_mark is_percent
mark-percent byte is = grind (arith, is)

sign-digit : Apart is_sign is_ascii_digit
sign-digit byte is = grind (arith, is)

sign-comma : Apart is_sign is_digit_or_comma
sign-comma byte is = grind (arith, is)

sign-point : Apart is_sign is_point
sign-point byte is = grind (arith, is)

point-percent : Apart is_point is_percent
point-percent byte is = grind (arith, is)

point-mark : Apart is_point is_exponent_mark
point-mark byte is = grind (arith, is)

point-comma : Apart is_point is_digit_or_comma
point-comma byte is = grind (arith, is)

comma-percent : Apart is_digit_or_comma is_percent
comma-percent byte is = grind (arith, is)

comma-mark : Apart is_digit_or_comma is_exponent_mark
comma-mark byte is = grind (arith, is)

comma-point : Apart is_digit_or_comma is_point
comma-point byte is = grind (arith, is)

-- ---- the end

abbrev percent : List ℕ → Bool
percent = or_nothing (is_one is_percent)

percent-scanned : (text : List ℕ) → percent text ≡ is_percent_or_none text
percent-scanned [] = refl
percent-scanned (byte ∷ []) = by (is_percent byte)
  where
    by : (is : Bool) → (is && true) ≡ (length (if is then [] else byte ∷ []) == 0)
    by true = refl
    by false = refl
percent-scanned (byte ∷ other ∷ bytes) = by (is_percent byte)
  where
    by : (is : Bool) → (is && false) ≡ (length (if is then other ∷ bytes else byte ∷ other ∷ bytes) == 0)
    by true = grind arith
    by false = grind arith

percent-stops : (kind : ℕ → Bool) → Apart kind is_percent → (byte : ℕ) (bytes : List ℕ) → kind byte ≡ true → percent (byte ∷ bytes) ≡ false
percent-stops kind others byte bytes is = ap (λ (b : Bool). b && is_empty bytes) (others byte is)

-- what the longest prefix of bytes of a kind has
only-kind : (kind : ℕ → Bool) (text : List ℕ) → list_all kind (take_while kind text) ≡ true
only-kind kind [] = refl
only-kind kind (byte ∷ bytes) = ap (list_all kind) (take_while-cons kind byte bytes) ∙ by (kind byte) refl (only-kind kind bytes)
  where
    by : (is : Bool) → kind byte ≡ is → list_all kind (take_while kind bytes) ≡ true → list_all kind (cond is (byte ∷ take_while kind bytes) []) ≡ true
    by true is further = ap (λ (b : Bool). b && list_all kind (take_while kind bytes)) is ∙ further
    by false is further = refl

some-digits : (text : List ℕ) → is_digits (take_while is_ascii_digit text) ≡ first_byte_passes is_ascii_digit text
some-digits [] = refl
some-digits (byte ∷ bytes) = ap is_digits (take_while-cons is_ascii_digit byte bytes) ∙ by (is_ascii_digit byte) refl
  where
    by : (is : Bool) → is_ascii_digit byte ≡ is → is_digits (cond is (byte ∷ take_while is_ascii_digit bytes) []) ≡ is
    by true is = ap (λ (b : Bool). b && list_all is_ascii_digit (take_while is_ascii_digit bytes)) is ∙ only-kind is_ascii_digit bytes
    by false is = refl

digits-only : (more : List ℕ) → is_digits more ≡ true → list_all is_ascii_digit more ≡ true
digits-only [] is = refl
digits-only (byte ∷ bytes) is = is

-- digits, and then what does not begin with one
after-digits : (rest : List ℕ → Bool) (text : List ℕ) → ((byte : ℕ) (bytes : List ℕ) → is_ascii_digit byte ≡ true → rest (byte ∷ bytes) ≡ false)
    → followed_by is_digits rest text ≡ (first_byte_passes is_ascii_digit text && rest (behind is_ascii_digit text))
after-digits rest text stops =
    followed-longest is_ascii_digit is_digits rest text digits-only stops
    ∙ ap (λ (b : Bool). b && rest (behind is_ascii_digit text)) (some-digits text)

after-any-digits : (rest : List ℕ → Bool) (text : List ℕ) → ((byte : ℕ) (bytes : List ℕ) → is_ascii_digit byte ≡ true → rest (byte ∷ bytes) ≡ false)
    → followed_by are_digits rest text ≡ rest (behind is_ascii_digit text)
after-any-digits rest text stops =
    followed-longest is_ascii_digit are_digits rest text (λ more is. is) stops
    ∙ ap (λ (b : Bool). b && rest (behind is_ascii_digit text)) (only-kind is_ascii_digit text)

-- an exponent, after its letter
abbrev power : List ℕ → Bool
power text = first_byte_passes is_ascii_digit (without_one is_sign text) && percent (behind is_ascii_digit (without_one is_sign text))

power-scanned : (text : List ℕ) → followed_by (followed_by is_sign_or_none is_digits) percent text ≡ power text
power-scanned text =
    followed-together is_sign_or_none is_digits percent text
    ∙ (followed-without is_sign (followed_by is_digits percent) text stops ∙ after-digits percent (without_one is_sign text) (percent-stops is_ascii_digit digit-percent))
  where
    stops : (byte : ℕ) (bytes : List ℕ) → is_sign byte ≡ true → followed_by is_digits percent (byte ∷ bytes) ≡ false
    stops byte bytes is =
        after-digits percent (byte ∷ bytes) (percent-stops is_ascii_digit digit-percent)
        ∙ ap (λ (b : Bool). b && percent (behind is_ascii_digit (byte ∷ bytes))) (sign-digit byte is)

end-read : (text : List ℕ) → is_end text ≡ (percent text || (first_byte_passes is_exponent_mark text && power (drop 1 text)))
end-read text =
    followed-optional is_exponent percent text
    ∙ ap (λ (b : Bool). percent text || b)
    (followed-together (is_one is_exponent_mark) (followed_by is_sign_or_none is_digits) percent text
    ∙ (followed-one is_exponent_mark (followed_by (followed_by is_sign_or_none is_digits) percent) text
    ∙ ap (λ (b : Bool). first_byte_passes is_exponent_mark text && b) (power-scanned (drop 1 text))))

end-stops : (kind : ℕ → Bool) → Apart kind is_percent → Apart kind is_exponent_mark → (byte : ℕ) (bytes : List ℕ) → kind byte ≡ true → is_end (byte ∷ bytes) ≡ false
end-stops kind percents marks byte bytes is =
    end-read (byte ∷ bytes)
    ∙ ap₂ (λ (a b : Bool). (a && is_empty bytes) || (b && power bytes)) (percents byte is) (marks byte is)

pub tail-scanned : (text : List ℕ) → is_tail text ≡ is_end text
tail-scanned [] = refl
tail-scanned (byte ∷ bytes) = by (is_exponent_mark byte) refl ∙ sym (end-read (byte ∷ bytes))
  where
    front : Bool
    front = first_byte_passes is_ascii_digit (without_one is_sign bytes)

    left : List ℕ
    left = behind is_ascii_digit (without_one is_sign bytes)

    by : (is : Bool) → is_exponent_mark byte ≡ is
        → (if is then front && is_percent_or_none left else is_percent_or_none (byte ∷ bytes)) ≡ ((is_percent byte && is_empty bytes) || (is && power bytes))
    by true is = ap (λ (b : Bool). front && b) (sym (percent-scanned left)) ∙ sym (ap (λ (b : Bool). (b && is_empty bytes) || power bytes) (mark-percent byte is))
    by false is = sym (percent-scanned (byte ∷ bytes)) ∙ sym (or-false (is_percent byte && is_empty bytes))

-- ---- the digits

abbrev decimals : List ℕ → Bool
decimals = or_nothing (followed_by (is_one is_point) are_digits)

decimals-read : (text : List ℕ) → followed_by decimals is_end text ≡ (is_end text || (first_byte_passes is_point text && is_end (behind is_ascii_digit (drop 1 text))))
decimals-read text =
    followed-optional (followed_by (is_one is_point) are_digits) is_end text
    ∙ ap (λ (b : Bool). is_end text || b)
    (followed-together (is_one is_point) are_digits is_end text
    ∙ (followed-one is_point (followed_by are_digits is_end) text
    ∙ ap (λ (b : Bool). first_byte_passes is_point text && b) (after-any-digits is_end (drop 1 text) (end-stops is_ascii_digit digit-percent digit-mark))))

decimals-stop : (byte : ℕ) (bytes : List ℕ) → is_digit_or_comma byte ≡ true → followed_by decimals is_end (byte ∷ bytes) ≡ false
decimals-stop byte bytes is =
    decimals-read (byte ∷ bytes)
    ∙ ap₂ (λ (a b : Bool). a || (b && is_end (behind is_ascii_digit bytes))) (end-stops is_digit_or_comma comma-percent comma-mark byte bytes is) (comma-point byte is)

-- after digits
fraction-scanned : (text : List ℕ) → followed_by decimals is_end text ≡ is_fraction true text
fraction-scanned [] = refl
fraction-scanned (byte ∷ bytes) = decimals-read (byte ∷ bytes) ∙ by (is_point byte) refl
  where
    by : (is : Bool) → is_point byte ≡ is
        → (is_end (byte ∷ bytes) || (is && is_end (behind is_ascii_digit bytes))) ≡ (if is then is_tail (behind is_ascii_digit bytes) else is_tail (byte ∷ bytes))
    by true is =
        ap (λ (b : Bool). b || is_end (behind is_ascii_digit bytes)) (end-stops is_point point-percent point-mark byte bytes is)
        ∙ sym (tail-scanned (behind is_ascii_digit bytes))
    by false is = or-false (is_end (byte ∷ bytes)) ∙ sym (tail-scanned (byte ∷ bytes))

-- the bytes of a whole part
before_groups-only : (digits : ℕ) (text : List ℕ) → is_before_groups digits text ≡ true → list_all is_digit_or_comma text ≡ true
before_groups-only digits [] is = refl
before_groups-only zero (byte ∷ bytes) is =
    of_comma (is_ascii_digit byte) (byte == comma) (is_before_groups 3 bytes) (list_all is_digit_or_comma bytes) (before_groups-only 3 bytes) is
  where
    of_comma : (a b rest all : Bool) → (rest ≡ true → all ≡ true) → (b && rest) ≡ true → ((a || b) && all) ≡ true
    of_comma true true rest all more fits = more fits
    of_comma false true rest all more fits = more fits
    of_comma a false rest all more fits = absurd (grind (arith, fits))
before_groups-only (suc digits) (byte ∷ bytes) is =
    of_digit (is_ascii_digit byte) (byte == comma) (is_before_groups digits bytes) (list_all is_digit_or_comma bytes) (before_groups-only digits bytes) is
  where
    of_digit : (a b rest all : Bool) → (rest ≡ true → all ≡ true) → (a && rest) ≡ true → ((a || b) && all) ≡ true
    of_digit true b rest all more fits = more fits
    of_digit false b rest all more fits = absurd (grind (arith, fits))

digits-or-commas : (text : List ℕ) → list_all is_ascii_digit text ≡ true → list_all is_digit_or_comma text ≡ true
digits-or-commas [] is = refl
digits-or-commas (byte ∷ bytes) is = of_digit (is_ascii_digit byte) (byte == comma) (list_all is_ascii_digit bytes) (list_all is_digit_or_comma bytes) (digits-or-commas bytes) is
  where
    of_digit : (a b rest all : Bool) → (rest ≡ true → all ≡ true) → (a && rest) ≡ true → ((a || b) && all) ≡ true
    of_digit true b rest all more fits = more fits
    of_digit false b rest all more fits = absurd (grind (arith, fits))

whole-only : (text : List ℕ) → is_whole text ≡ true → list_all is_digit_or_comma text ≡ true
whole-only text is =
    any (is_digits text) (is_before_groups 1 text) (is_before_groups 2 text) (is_before_groups 3 text)
    (λ digits. digits-or-commas text (digits-only text digits)) (before_groups-only 1 text) (before_groups-only 2 text) (before_groups-only 3 text) is
  where
    any : (a b c d : Bool) {all : Bool} → (a ≡ true → all ≡ true) → (b ≡ true → all ≡ true) → (c ≡ true → all ≡ true) → (d ≡ true → all ≡ true)
        → (a || ((b || c) || d)) ≡ true → all ≡ true
    any true b c d by_a by_b by_c by_d is_any = by_a refl
    any false true c d by_a by_b by_c by_d is_any = by_b refl
    any false false true d by_a by_b by_c by_d is_any = by_c refl
    any false false false d by_a by_b by_c by_d is_any = by_d is_any

-- ---- a number after its sign

abbrev unsigned : List ℕ → Bool
unsigned = followed_by is_mantissa is_end

unsigned-read : (text : List ℕ)
    → unsigned text
    ≡ ((is_whole (take_while is_digit_or_comma text) && followed_by decimals is_end (behind is_digit_or_comma text))
    || (first_byte_passes is_point text && (first_byte_passes is_ascii_digit (drop 1 text) && is_end (behind is_ascii_digit (drop 1 text)))))
unsigned-read text =
    followed-either (followed_by is_whole decimals) (followed_by (is_one is_point) is_digits) is_end text
    ∙ ap₂ (λ (a b : Bool). a || b)
    (followed-together is_whole decimals is_end text ∙ followed-longest is_digit_or_comma is_whole (followed_by decimals is_end) text whole-only decimals-stop)
    (followed-together (is_one is_point) is_digits is_end text
    ∙ (followed-one is_point (followed_by is_digits is_end) text
    ∙ ap (λ (b : Bool). first_byte_passes is_point text && b) (after-digits is_end (drop 1 text) (end-stops is_ascii_digit digit-percent digit-mark))))

-- the prefix of a text that begins with a byte of the kind, and of one that does not
first-in : (kind : ℕ → Bool) (byte : ℕ) (bytes : List ℕ) → kind byte ≡ true → take_while kind (byte ∷ bytes) ≡ byte ∷ take_while kind bytes
first-in kind byte bytes is = take_while-cons kind byte bytes ∙ ap (λ (b : Bool). cond b (byte ∷ take_while kind bytes) []) is

first-out : (kind : ℕ → Bool) (byte : ℕ) (bytes : List ℕ) → kind byte ≡ false → take_while kind (byte ∷ bytes) ≡ []
first-out kind byte bytes is = take_while-cons kind byte bytes ∙ ap (λ (b : Bool). cond b (byte ∷ take_while kind bytes) []) is

all-behind : (kind : ℕ → Bool) (byte : ℕ) (bytes : List ℕ) → kind byte ≡ false → behind kind (byte ∷ bytes) ≡ byte ∷ bytes
all-behind kind byte bytes is = behind-cons kind byte bytes ∙ ap (λ (b : Bool). cond b (behind kind bytes) (byte ∷ bytes)) is

-- what is requested of a prefix and of what is left
abbrev of_parts : List ℕ → List ℕ → Bool
of_parts front left = is_whole_part front && is_fraction (not (length front == 0)) left

whole-scanned : (byte : ℕ) (bytes : List ℕ) → is_whole (byte ∷ bytes) ≡ is_whole_part (byte ∷ bytes)
whole-scanned byte bytes = ap (λ (b : Bool). list_all is_ascii_digit (byte ∷ bytes) || b) (sym (grouped (byte ∷ bytes)))

pub unsigned-scanned : (text : List ℕ) → is_unsigned text ≡ unsigned text
unsigned-scanned [] = refl
unsigned-scanned (byte ∷ bytes) = sym (unsigned-read (byte ∷ bytes) ∙ by (is_point byte) (is_digit_or_comma byte) refl refl)
  where
    text : List ℕ
    text = byte ∷ bytes

    fraction : Bool
    fraction = first_byte_passes is_ascii_digit bytes && is_end (behind is_ascii_digit bytes)

    some-whole : (more : List ℕ) → (is_whole_part (byte ∷ more) && is_fraction true (behind is_digit_or_comma text)) ≡ of_parts (byte ∷ more) (behind is_digit_or_comma text)
    some-whole more =
        let some : false ≡ (length (byte ∷ more) == 0) = grind arith in
        ap (λ (b : Bool). is_whole_part (byte ∷ more) && is_fraction (not b) (behind is_digit_or_comma text)) some

    by : (point comma_or_digit : Bool) → is_point byte ≡ point → is_digit_or_comma byte ≡ comma_or_digit
        → ((is_whole (take_while is_digit_or_comma text) && followed_by decimals is_end (behind is_digit_or_comma text)) || (point && fraction))
        ≡ of_parts (take_while is_digit_or_comma text) (behind is_digit_or_comma text)
    by true other point is =
        ap₂ (λ (front left : List ℕ). (is_whole front && followed_by decimals is_end left) || fraction)
        (first-out is_digit_or_comma byte bytes (point-comma byte point)) (all-behind is_digit_or_comma byte bytes (point-comma byte point))
        ∙ (ap (λ (b : Bool). first_byte_passes is_ascii_digit bytes && b) (sym (tail-scanned (behind is_ascii_digit bytes)))
        ∙ (sym (ap (λ (b : Bool). if b then first_byte_passes is_ascii_digit bytes && is_tail (behind is_ascii_digit bytes) else false) point)
        ∙ sym (ap₂ of_parts (first-out is_digit_or_comma byte bytes (point-comma byte point)) (all-behind is_digit_or_comma byte bytes (point-comma byte point)))))
    by false true point is =
        or-false (is_whole (take_while is_digit_or_comma text) && followed_by decimals is_end (behind is_digit_or_comma text))
        ∙ (ap (λ (b : Bool). is_whole (take_while is_digit_or_comma text) && b) (fraction-scanned (behind is_digit_or_comma text))
        ∙ (ap (λ (front : List ℕ). is_whole front && is_fraction true (behind is_digit_or_comma text)) (first-in is_digit_or_comma byte bytes is)
        ∙ (ap (λ (b : Bool). b && is_fraction true (behind is_digit_or_comma text)) (whole-scanned byte (take_while is_digit_or_comma bytes))
        ∙ (some-whole (take_while is_digit_or_comma bytes)
        ∙ sym (ap (λ (front : List ℕ). of_parts front (behind is_digit_or_comma text)) (first-in is_digit_or_comma byte bytes is))))))
    by false false point is =
        ap (λ (front : List ℕ). (is_whole front && followed_by decimals is_end (behind is_digit_or_comma text)) || false) (first-out is_digit_or_comma byte bytes is)
        ∙ (sym (ap (λ (b : Bool). if b then first_byte_passes is_ascii_digit bytes && is_tail (behind is_ascii_digit bytes) else false) point)
        ∙ sym (ap₂ of_parts (first-out is_digit_or_comma byte bytes is) (all-behind is_digit_or_comma byte bytes is)))

unsigned-stops : (byte : ℕ) (bytes : List ℕ) → is_sign byte ≡ true → unsigned (byte ∷ bytes) ≡ false
unsigned-stops byte bytes is =
    unsigned-read (byte ∷ bytes)
    ∙ ap₂ (λ (front : List ℕ) (point : Bool). (is_whole front && followed_by decimals is_end (behind is_digit_or_comma (byte ∷ bytes)))
    || (point && (first_byte_passes is_ascii_digit bytes && is_end (behind is_ascii_digit bytes))))
    (first-out is_digit_or_comma byte bytes (sign-comma byte is)) (sign-point byte is)

-- a number is read as it is written
pub number-scanned : (text : List ℕ) → is_unsigned (without_one is_sign text) ≡ is_number text
number-scanned text = unsigned-scanned (without_one is_sign text) ∙ sym (followed-without is_sign unsigned text unsigned-stops)
