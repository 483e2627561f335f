-- Digits alone are a number, if there are any.
use Rattle.std.proofs.Common.{◌≡◌, ◌∙◌, ap, ap₂, refl, ℕ, Bool, true, false, cond, not, ◌&&◌, ◌||◌, List, [], ◌∷◌, length}
use Rattle.std.specs.Prelude.{◌==◌}
use Rattle.std.specs.Char.{is_ascii_digit}
use Rattle.std.specs.List.{list_all, take_while}
use Rattle.std.proofs.lemmas.Bool.{and_parts}
use Rattle.std.proofs.lemmas.List.Sums.{take_while-cons}
use Rattle.basinmug_columns.specs.Numbers.Numbers.{comma}
use Rattle.basinmug_columns.specs.Numbers.Scans.{behind, is_digit_or_comma, is_fraction, is_in_groups, is_unsigned, is_whole_part}
use Rattle.basinmug_columns.proofs.NumbersLemmas.Parts.{behind-cons}

digit-or-comma : (byte : ℕ) → is_ascii_digit byte ≡ true → is_digit_or_comma byte ≡ true
digit-or-comma byte is = ap (λ (b : Bool). b || (byte == comma)) is

taken : (text : List ℕ) → list_all is_ascii_digit text ≡ true → take_while is_digit_or_comma text ≡ text
taken [] is = refl
taken (byte ∷ bytes) is =
    let each = and_parts (is_ascii_digit byte) (list_all is_ascii_digit bytes) is in
    take_while-cons is_digit_or_comma byte bytes
    ∙ (ap (λ (b : Bool). cond b (byte ∷ take_while is_digit_or_comma bytes) []) (digit-or-comma byte each.0)
    ∙ ap (λ (more : List ℕ). byte ∷ more) (taken bytes each.1))

none-behind : (text : List ℕ) → list_all is_ascii_digit text ≡ true → behind is_digit_or_comma text ≡ []
none-behind [] is = refl
none-behind (byte ∷ bytes) is =
    let each = and_parts (is_ascii_digit byte) (list_all is_ascii_digit bytes) is in
    behind-cons is_digit_or_comma byte bytes
    ∙ (ap (λ (b : Bool). cond b (behind is_digit_or_comma bytes) (byte ∷ bytes)) (digit-or-comma byte each.0) ∙ none-behind bytes each.1)

and-true : (b : Bool) → (b && true) ≡ b
and-true true = refl
and-true false = refl

pub digits-unsigned : (text : List ℕ) → list_all is_ascii_digit text ≡ true → is_unsigned text ≡ not (length text == 0)
digits-unsigned text is =
    ap₂ (λ (whole left : List ℕ). is_whole_part whole && is_fraction (not (length whole == 0)) left) (taken text is) (none-behind text is)
    ∙ (ap (λ (b : Bool). (b || is_in_groups text) && is_fraction (not (length text == 0)) []) is ∙ and-true (not (length text == 0)))
