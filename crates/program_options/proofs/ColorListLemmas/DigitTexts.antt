-- What `parse` reads of a text of digits is the column that it writes.
use Rattle.std.proofs.Common.{◌≡◌, ◌∙◌, ◌<◌, ℕ, ap, refl, subst, sym, Bool, true, false, List, None, Some, length}
use Rattle.std.specs.Prelude.{◌&&◌, Result, Ok, Err, nat_le, nat_lt, if◌then◌else◌}
use Rattle.std.specs.Char.{is_ascii_digit}
use Rattle.std.specs.List.{list_all}
use Rattle.std.specs.Result.{OkIff}
use Rattle.std.specs.Str.Parse.{ParsesUnsigned, digits_value}
use Rattle.std.proofs.lemmas.Bool.{and_from, and_left, and_parts, and_right, le-leb, leb-true, lt-ltb, ltb-true}
use Rattle.std.proofs.lemmas.Str.Parse.{IsDigitsTest, numerals_by_value, parse_digits}
use Rattle.program_options.specs.ColorList.Listed.{column_of}

abbrev AreDigits : List ℕ → Type 0
AreDigits text = list_all is_ascii_digit text ≡ true

tells_digits : IsDigitsTest AreDigits
tells_digits = record {
  empty = refl;
  parts = λ c cs e.
      let both = and_parts (is_ascii_digit c) (list_all is_ascii_digit cs) e in
      let range = and_parts (nat_le 48 c) (nat_le c 57) both.0 in
      ((leb-true 48 c range.0, leb-true c 57 range.1), both.1);
  more = λ c cs range e.
      and_from (is_ascii_digit c) (list_all is_ascii_digit cs) (and_from (nat_le 48 c) (nat_le c 57) (le-leb 48 c range.0) (le-leb c 57 range.1)) e;
}

module _ {E : Type 0} (text : List ℕ) (read : Result ℕ E) (parses : ParsesUnsigned 32 10 text read) (digits : AreDigits text) where
  abbrev IsLow : Type 0
  IsLow = (0 < length text) × (digits_value 10 text < 4294967296)

  abbrev is_low : Bool
  is_low = nat_lt 0 (length text) && nat_lt (digits_value 10 text) 4294967296

  answer : OkIff read IsLow (digits_value 10 text)
  answer = parse_digits (numerals_by_value AreDigits tells_digits) 32 text read parses digits

  pub column-read : (column : ℕ) → read ≡ Ok column → Some column ≡ column_of text
  column-read column is = by (subst (λ (r : Result ℕ E). OkIff r IsLow (digits_value 10 text)) is answer)
    where
      by : IsLow × (column ≡ digits_value 10 text) → Some column ≡ column_of text
      by (low, same) =
          ap Some same
          ∙ sym (ap (λ (b : Bool). if b then Some (digits_value 10 text) else None)
          (and_from (list_all is_ascii_digit text) is_low digits (and_from (nat_lt 0 (length text)) (nat_lt (digits_value 10 text) 4294967296) (lt-ltb 0 (length text) low.0) (lt-ltb (digits_value 10 text) 4294967296 low.1))))

  pub no-column-read : (fault : E) → read ≡ Err fault → None ≡ column_of text
  no-column-read fault is = by is_low refl
    where
      none : ¬ IsLow
      none = subst (λ (r : Result ℕ E). OkIff r IsLow (digits_value 10 text)) is answer

      by : (b : Bool) → is_low ≡ b → None ≡ column_of text
      by true e =
          let both = and_parts (nat_lt 0 (length text)) (nat_lt (digits_value 10 text) 4294967296) e in
          absurd (none (ltb-true 0 (length text) both.0, ltb-true (digits_value 10 text) 4294967296 both.1))
      by false e = sym (ap (λ (b : Bool). if b then Some (digits_value 10 text) else None) (and_right (list_all is_ascii_digit text) is_low e))

-- a text of something else
pub no-digits : (text : List ℕ) → list_all is_ascii_digit text ≡ false → None ≡ column_of text
no-digits text other =
    sym (ap (λ (b : Bool). if b then Some (digits_value 10 text) else None)
    (and_left (list_all is_ascii_digit text) (nat_lt 0 (length text) && nat_lt (digits_value 10 text) 4294967296) other))
