-- A text of which no byte may begin a hidden character: its characters are shown as they are (UTF-8, RFC 3629).
use Rattle.std.proofs.Common.{◌≡◌, ◌∙◌, ◌+◌, ◌/◌, ◌%◌, ℕ, Bool, true, false, List, [], ◌∷◌, IsUtf8, arith, chars, cond, refl, subst, sym}
use Rattle.std.proofs.Math.Utf8.{encode, encodes}
use Rattle.std.proofs.lemmas.Bool.{and_parts}
use Rattle.std.proofs.lemmas.Bool.Decides.{nat_tests}
use Rattle.std.proofs.lemmas.List.Folds.{list_all-append}
use Rattle.std.proofs.lemmas.Str.{encodes-chars}
use Rattle.std.specs.Cmp.Derive.{both_true}
use Rattle.std.specs.List.{list_all}
use Rattle.std.specs.Prelude.{nat_lt, not}
use Rattle.basinmug_input.specs.Cleaning.{is_control, is_shown, is_turned, is_turning}
use Rattle.basinmug_input.specs.Parts.{are_clear, may_begin_hidden}
use Rattle.program_options.specs.declared.basinmug.Escapes.{Escapes}
use Rattle.program_options.specs.declared.basinmug.Escapes.TheVariants as of

-- ---- a character, by its first byte

abbrev begins : ℕ → Bool
begins byte = not (may_begin_hidden byte)

one-shown : (c : ℕ) → begins c ≡ true → nat_lt c 128 ≡ true → (not (is_control c) ≡ true) × (not (is_turning c) ≡ true)
one-shown c first short = (grind (arith, nat_tests, first, short), grind (arith, nat_tests, first, short))

two-shown : (c : ℕ) → begins (192 + c / 64) ≡ true → nat_lt c 128 ≡ false → nat_lt c 2048 ≡ true → (not (is_control c) ≡ true) × (not (is_turning c) ≡ true)
two-shown c first low short = (grind (arith, nat_tests, first, low, short), grind (arith, nat_tests, first, low, short))

three-shown : (c : ℕ) → begins (224 + c / 4096) ≡ true → nat_lt c 2048 ≡ false → (not (is_control c) ≡ true) × (not (is_turning c) ≡ true)
three-shown c first low = (grind (arith, nat_tests, first, low), grind (arith, nat_tests, first, low))

four-shown : (c : ℕ) → nat_lt c 65536 ≡ false → (not (is_control c) ≡ true) × (not (is_turning c) ≡ true)
four-shown c low = (grind (arith, nat_tests, low), grind (arith, nat_tests, low))

character : (c : ℕ) → are_clear (encode c) ≡ true → (not (is_control c) ≡ true) × (not (is_turning c) ≡ true)
unfolding encode
character c clear = by (nat_lt c 128) (nat_lt c 2048) (nat_lt c 65536) refl refl refl clear
  where
    by : (one two three : Bool) → nat_lt c 128 ≡ one → nat_lt c 2048 ≡ two → nat_lt c 65536 ≡ three
        → are_clear (cond one (c ∷ []) (cond two ((192 + c / 64) ∷ (128 + c % 64) ∷ []) (cond three ((224 + c / 4096) ∷ (128 + c / 64 % 64) ∷ (128 + c % 64) ∷ []) ((240 + c / 262144) ∷ (128 + c / 4096 % 64) ∷ (128 + c / 64 % 64) ∷ (128 + c % 64) ∷ [])))) ≡ true
        → (not (is_control c) ≡ true) × (not (is_turning c) ≡ true)
    by true two three p q r all = one-shown c (and_parts (begins c) true all).0 p
    by false true three p q r all = two-shown c (and_parts (begins (192 + c / 64)) (are_clear ((128 + c % 64) ∷ [])) all).0 p q
    by false false true p q r all = three-shown c (and_parts (begins (224 + c / 4096)) (are_clear ((128 + c / 64 % 64) ∷ (128 + c % 64) ∷ [])) all).0 q
    by false false false p q r all = four-shown c r

unturned : (escapes : Escapes) (c : ℕ) → not (is_turning c) ≡ true → not (is_turned escapes c) ≡ true
unturned of.All c none = refl
unturned of.Colors c none = none
unturned of.None c none = none

-- ---- a text

characters : (escapes : Escapes) (cs : List ℕ) → are_clear (encodes cs) ≡ true → list_all (is_shown escapes) cs ≡ true
characters escapes [] clear = refl
characters escapes (c ∷ cs) clear =
    let parts = and_parts (are_clear (encode c)) (are_clear (encodes cs)) (sym (list_all-append begins (encode c) (encodes cs)) ∙ clear) in
    let here = character c parts.0 in
    both_true (both_true here.0 (unturned escapes c here.1)) (characters escapes cs parts.1)

pub clear-shown : (escapes : Escapes) (text : List ℕ) → IsUtf8 text → are_clear text ≡ true → list_all (is_shown escapes) (chars text) ≡ true
clear-shown escapes text utf8 clear = characters escapes (chars text) (subst (λ (bytes : List ℕ). are_clear bytes ≡ true) (sym (encodes-chars text utf8)) clear)
