-- A sequence of a start or an end, read.
use Rattle.std.proofs.Common.{◌≡◌, ℕ, ◌-◌, ◌<◌, ◌≤◌, Bool, true, false, ◌&&◌, Option, None, Some, List, [], ◌∷◌, ◌++◌, refl, ap, ◌∙◌, arith, fold, map, length, length-append, nat_lt, not, ◌==◌}
use Rattle.std.proofs.lemmas.List.Elements.{All-nil, All-cons, All-append}
use Rattle.std.specs.Prelude.{All, IsSome, is_some, IsTrue, slice_index, slice_range}
use Rattle.std.specs.List.{list_all, slice_split}
use Rattle.std.specs.Fmt.{decimal}
use Rattle.std.proofs.lemmas.Grind.{common_steps}
use Rattle.std.proofs.lemmas.Bool.{and_parts, ltb-true, not-true}
use Rattle.std.proofs.lemmas.Bool.Decides.{nat_tests}
use Rattle.std.proofs.lemmas.List.Folds.{list_all-append}
use Rattle.std.proofs.lemmas.List.Splits.{slice_split_at, slice_split_none}
use Rattle.ansi_scan.proofs.StyleLemmas.Numbers.{number-decimal, list_all-decimal, All-decimal}
use Rattle.ansi_scan.specs.declared.style.color.AnsiColor.TheVariants.{Bit8, Bit24}
use Rattle.ansi_scan.specs.declared.style.next.Layer.{Layer}
use Rattle.ansi_scan.specs.declared.style.next.Layer.TheVariants.{Foreground, Background, Underline}
use Rattle.ansi_scan.specs.declared.style.sequences.Parameters.{Parameters}
use Rattle.ansi_scan.specs.declared.style.sequences.Parameters.TheVariants.{Code, Indexed, Direct}
use Rattle.ansi_scan.specs.Styles.Attributes.{Attributes, after_code}
use Rattle.ansi_scan.specs.Styles.Rendition.{is_numeric, sgr_parameters, number, with_color, after_parameters, after_parameter_bytes, applied}
use Rattle.ansi_scan.specs.Styles.ColorForms.{is_color_code}
use Rattle.ansi_scan.proofs.StyleLemmas.Forms.{after_parameters-nil, after_parameters-code}
use Rattle.ansi_scan.specs.Styles.Sequences.{layer_code, parameter_bytes, sequence_bytes, sequence_if, sequences_of}

-- the cut at each `;`
abbrev pub numbers_of : List ℕ → List (Option ℕ)
numbers_of parameters = map number (slice_split (λ byte. byte == 59) parameters)

pub numbers_of-decimal : (n : ℕ) → n < 256 → numbers_of (decimal n) ≡ Some n ∷ []
numbers_of-decimal n fits =
    ap (λ parts. map number parts) (slice_split_none (λ byte. byte == 59) (decimal n) (All-decimal n (omega arith)))
    ∙ ap (λ m. m ∷ []) (number-decimal n fits)

pub numbers_of-cons : (n : ℕ) (rest : List ℕ) → n < 256 → numbers_of (decimal n ++ 59 ∷ rest) ≡ Some n ∷ numbers_of rest
numbers_of-cons n rest fits =
    ap (λ parts. map number parts) (slice_split_at (λ byte. byte == 59) (decimal n) 59 rest (All-decimal n (omega arith)) refl)
    ∙ ap (λ m. m ∷ numbers_of rest) (number-decimal n fits)

-- a code after which no colour follows
abbrev pub stands_alone : ℕ → Bool
stands_alone code = nat_lt code 256 && not (is_color_code code)

-- the numbers fit, and a code is alone
abbrev pub IsReadable : Parameters → Type 0
IsReadable (Code code) = IsTrue (stands_alone code)
IsReadable (Indexed layer n) = n < 256
IsReadable (Direct layer r g b) = (r < 256) × (g < 256) × (b < 256)

pub code_fits : (code : ℕ) → IsTrue (stands_alone code) → code < 256
code_fits code alone = ltb-true code 256 (and_parts (nat_lt code 256) (not (is_color_code code)) alone).0

no_color_code : (code : ℕ) → IsTrue (stands_alone code) → is_color_code code ≡ false
no_color_code code alone = not-true (is_color_code code) (and_parts (nat_lt code 256) (not (is_color_code code)) alone).1

-- the attributes after the sequence of these parameters
abbrev pub after_given : Attributes → Parameters → Attributes
after_given a (Code code) = after_code a code
after_given a (Indexed layer n) = with_color a layer (Bit8 n)
after_given a (Direct layer r g b) = with_color a layer (Bit24 r g b)

layer_code_fits : (layer : Layer) → layer_code layer < 256
layer_code_fits Foreground = omega arith
layer_code_fits Background = omega arith
layer_code_fits Underline = omega arith

after_indexed : (a : Attributes) (layer : Layer) (n : ℕ) → after_parameters a (Some (layer_code layer) ∷ Some 5 ∷ Some n ∷ []) ≡ with_color a layer (Bit8 n)
unfolding after_parameters
after_indexed a Foreground n = refl
after_indexed a Background n = refl
after_indexed a Underline n = refl

after_direct : (a : Attributes) (layer : Layer) (r g b : ℕ) → after_parameters a (Some (layer_code layer) ∷ Some 2 ∷ Some r ∷ Some g ∷ Some b ∷ []) ≡ with_color a layer (Bit24 r g b)
unfolding after_parameters
after_direct a Foreground r g b = refl
after_direct a Background r g b = refl
after_direct a Underline r g b = refl

after_single : (a : Attributes) (code : ℕ) → IsTrue (stands_alone code) → after_parameters a (Some code ∷ []) ≡ after_code a code
after_single a code alone = after_parameters-code a code [] (no_color_code code alone) ∙ after_parameters-nil (after_code a code)

-- what the bytes of the parameters are read as
after_parameters-parameter_bytes : (a : Attributes) (p : Parameters) → IsReadable p → after_parameters a (numbers_of (parameter_bytes p)) ≡ after_given a p
after_parameters-parameter_bytes a (Code code) fits =
    ap (after_parameters a) (numbers_of-decimal code (code_fits code fits)) ∙ after_single a code fits
after_parameters-parameter_bytes a (Indexed layer n) fits =
    ap (after_parameters a) (numbers_of-cons (layer_code layer) (53 ∷ 59 ∷ decimal n) (layer_code_fits layer)
    ∙ ap (λ rest. Some (layer_code layer) ∷ Some 5 ∷ rest) (numbers_of-decimal n fits))
    ∙ after_indexed a layer n
after_parameters-parameter_bytes a (Direct layer r g b) fits =
    ap (after_parameters a) (numbers_of-cons (layer_code layer) (50 ∷ 59 ∷ (decimal r ++ 59 ∷ (decimal g ++ 59 ∷ decimal b))) (layer_code_fits layer)
    ∙ ap (λ rest. Some (layer_code layer) ∷ Some 2 ∷ rest)
    (numbers_of-cons r (decimal g ++ 59 ∷ decimal b) fits.0
    ∙ ap (λ rest. Some r ∷ rest) (numbers_of-cons g (decimal b) fits.1 ∙ ap (λ rest. Some g ∷ rest) (numbers_of-decimal b fits.2))))
    ∙ after_direct a layer r g b

-- `ESC [`, parameter bytes and `m` have these parameters
sgr_parameters_of_parts : (bytes parameters : List ℕ) → 3 ≤ length bytes → slice_index bytes 0 ≡ 27 → slice_index bytes 1 ≡ 91
    → slice_index bytes (length bytes - 1) ≡ 109 → slice_range bytes 2 (length bytes - 1) ≡ parameters
    → list_all is_numeric parameters ≡ true → sgr_parameters bytes ≡ Some parameters
sgr_parameters_of_parts bytes parameters long escape bracket last between all = grind (arith, nat_tests, common_steps)

-- what is between `ESC [` and `m`
slice_range-sequence : (parameters : List ℕ) → slice_range (27 ∷ 91 ∷ (parameters ++ 109 ∷ [])) 2 (length (27 ∷ 91 ∷ (parameters ++ 109 ∷ [])) - 1) ≡ parameters
slice_range-sequence parameters = grind (arith, common_steps)

slice_index-sequence : (parameters : List ℕ) → slice_index (27 ∷ 91 ∷ (parameters ++ 109 ∷ [])) (length (27 ∷ 91 ∷ (parameters ++ 109 ∷ [])) - 1) ≡ 109
slice_index-sequence parameters = grind (arith, common_steps)

pub sgr_parameters-sequence : (parameters : List ℕ) → list_all is_numeric parameters ≡ true → sgr_parameters (27 ∷ 91 ∷ (parameters ++ 109 ∷ [])) ≡ Some parameters
sgr_parameters-sequence parameters all =
    sgr_parameters_of_parts (27 ∷ 91 ∷ (parameters ++ 109 ∷ [])) parameters
    (omega (arith, length-append parameters (109 ∷ []))) refl refl (slice_index-sequence parameters) (slice_range-sequence parameters) all

-- the same of a number and what follows it
all_of_number : (n : ℕ) (rest : List ℕ) → n < 256 → list_all is_numeric rest ≡ true → list_all is_numeric (decimal n ++ 59 ∷ rest) ≡ true
all_of_number n rest fits all =
    list_all-append is_numeric (decimal n) (59 ∷ rest)
    ∙ (ap (λ b. b && list_all is_numeric rest) (list_all-decimal n (omega arith)) ∙ all)

all_of_layer : (layer : Layer) (rest : List ℕ) → list_all is_numeric rest ≡ true → list_all is_numeric (decimal (layer_code layer) ++ 59 ∷ rest) ≡ true
all_of_layer layer rest all = all_of_number (layer_code layer) rest (layer_code_fits layer) all

-- the bytes of parameters are parameter bytes
list_all-parameter_bytes : (p : Parameters) → IsReadable p → list_all is_numeric (parameter_bytes p) ≡ true
list_all-parameter_bytes (Code code) fits = let small : code < 256 = code_fits code fits in list_all-decimal code (omega arith)
list_all-parameter_bytes (Indexed layer n) fits =
    all_of_layer layer (53 ∷ 59 ∷ decimal n) (list_all-decimal n (omega arith))
list_all-parameter_bytes (Direct layer r g b) fits =
    all_of_layer layer (50 ∷ 59 ∷ (decimal r ++ 59 ∷ (decimal g ++ 59 ∷ decimal b)))
    (all_of_number r (decimal g ++ 59 ∷ decimal b) fits.0 (all_of_number g (decimal b) fits.1 (list_all-decimal b (omega arith))))

-- a sequence of a start or an end, read
pub applied-sequence_bytes : (a : Attributes) (p : Parameters) → IsReadable p → applied a (sequence_bytes p) ≡ after_given a p
unfolding applied
applied-sequence_bytes a p fits =
    ap (after_parameter_bytes a) (sgr_parameters-sequence (parameter_bytes p) (list_all-parameter_bytes p fits))
    ∙ after_parameters-parameter_bytes a p fits

-- the same, where there are parameters
abbrev pub IsReadableIf : Option Parameters → Type 0
IsReadableIf None = Unit {0}
IsReadableIf (Some p) = IsReadable p

abbrev pub AllReadable : List (Option Parameters) → Type 0
AllReadable [] = Unit {0}
AllReadable (o ∷ os) = IsReadableIf o × AllReadable os

unfoldable pub after_given_if : Attributes → Option Parameters → Attributes
after_given_if a None = a
after_given_if a (Some p) = after_given a p

-- the sequences of a start or an end, read one after the other
pub fold-sequences_of : (a : Attributes) (all : List (Option Parameters)) → AllReadable all → fold applied a (sequences_of all) ≡ fold after_given_if a all
unfolding after_given_if
fold-sequences_of a [] readable = refl
fold-sequences_of a (None ∷ os) readable = fold-sequences_of a os readable.1
fold-sequences_of a (Some p ∷ os) readable =
    ap (λ b. fold applied b (sequences_of os)) (applied-sequence_bytes a p readable.0)
    ∙ fold-sequences_of (after_given a p) os readable.1

sequence_if_is_read : (o : Option Parameters) → IsReadableIf o → All (λ bytes. IsSome (sgr_parameters bytes)) (sequence_if o)
sequence_if_is_read None readable = All-nil (λ bytes. IsSome (sgr_parameters bytes))
sequence_if_is_read (Some p) readable =
    All-cons (λ bytes. IsSome (sgr_parameters bytes)) (sequence_bytes p) []
    (ap is_some (sgr_parameters-sequence (parameter_bytes p) (list_all-parameter_bytes p readable)))
    (All-nil (λ bytes. IsSome (sgr_parameters bytes)))

-- each of the sequences is one
pub sequences_are_read : (all : List (Option Parameters)) → AllReadable all → All (λ bytes. IsSome (sgr_parameters bytes)) (sequences_of all)
sequences_are_read [] readable = All-nil (λ bytes. IsSome (sgr_parameters bytes))
sequences_are_read (o ∷ os) readable =
    All-append (λ bytes. IsSome (sgr_parameters bytes)) (sequence_if o) (sequences_of os)
    (sequence_if_is_read o readable.0) (sequences_are_read os readable.1)
