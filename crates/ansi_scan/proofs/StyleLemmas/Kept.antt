-- What sequences set stays what sequences can set.
use Rattle.std.proofs.Common.{◌≡◌, ℕ, ◌<◌, ◌≤◌, Bool, true, false, ◌||◌, Option, None, Some, List, [], ◌∷◌, refl, arith, fold, map, ◌==◌, if◌then◌else◌, nat_le, ◌&&◌}
use Rattle.std.specs.Prelude.{IsTrue, IfSome}
use Rattle.std.specs.List.{list_all}
use Rattle.std.specs.List.{slice_split}
use Rattle.std.proofs.lemmas.Bool.{false≢true, leb-true}
use Rattle.ansi_scan.specs.declared.style.color.AnsiColor.{AnsiColor}
use Rattle.ansi_scan.specs.declared.style.color.AnsiColor.TheVariants.{Bit4, Bit8, Bit24}
use Rattle.ansi_scan.specs.declared.style.next.Layer.{Layer}
use Rattle.ansi_scan.specs.declared.style.next.Layer.TheVariants.{Foreground, Background, Underline}
use Rattle.ansi_scan.specs.Styles.Attributes.{Attributes, plain_attributes, after_code, font_after, foreground_after, background_after, underline_color_after, is_font_code, is_foreground_code, is_background_code, is_no_code, IsColor, IsRendition}
use Rattle.std.specs.Char.{is_ascii_digit}
use Rattle.ansi_scan.specs.Styles.Rendition.{with_digit, number, Effect, OfCode, layer_of, effects, effects_of_color, effects_of_index, effects_of_rgb, with_color, after_effect, after_parameters, after_parameter_bytes, sgr_parameters, applied}

pub IsRendition-plain : IsRendition plain_attributes
unfolding plain_attributes
IsRendition-plain = record { font = tt; foreground = tt; background = tt; underline_color = tt }

-- a value that is set, cleared or left
IfSome-set : {V : Type 0} (P : V → Type 0) (is_set is_cleared : Bool) (value : V) (was : Option V) → (is_set ≡ true → P value) → IfSome was P
    → IfSome (if is_set then Some value else (if is_cleared then None else was)) P
IfSome-set P true is_cleared value was here kept = here refl
IfSome-set P false true value was here kept = tt
IfSome-set P false false value was here kept = kept

IfSome-cleared : {V : Type 0} (P : V → Type 0) (is_cleared : Bool) (was : Option V) → IfSome was P → IfSome (if is_cleared then None else was) P
IfSome-cleared P true was kept = tt
IfSome-cleared P false was kept = kept

-- the values after a code; the flags are free
pub IsRendition-values_after : (a b : Attributes) (code : ℕ) → IsRendition a → b.font ≡ font_after code a.font
    → b.foreground ≡ foreground_after code a.foreground → b.background ≡ background_after code a.background
    → b.underline_color ≡ underline_color_after code a.underline_color → IsRendition b
IsRendition-values_after a b code r font foreground background underline_color = record {
  font = rw font (IfSome-set (λ c. IsTrue (is_font_code c)) (is_font_code code) (code == 10 || code == 0) code a.font (λ e. e) r.font);
  foreground = rw foreground (IfSome-set (IsColor is_foreground_code) (is_foreground_code code) (code == 39 || code == 0) (Bit4 code) a.foreground (λ e. e) r.foreground);
  background = rw background (IfSome-set (IsColor is_background_code) (is_background_code code) (code == 49 || code == 0) (Bit4 code) a.background (λ e. e) r.background);
  underline_color = rw underline_color (IfSome-cleared (IsColor is_no_code) (code == 59 || code == 0) a.underline_color r.underline_color);
}

pub IsRendition-after_code : (a : Attributes) (code : ℕ) → IsRendition a → IsRendition (after_code a code)
IsRendition-after_code a code r = IsRendition-values_after a (after_code a code) code r refl refl refl refl

-- a colour given by numbers can be set everywhere
IsColor-by_numbers : (is_code : ℕ → Bool) (color : AnsiColor) → IsColor is_no_code color → IsColor is_code color
IsColor-by_numbers is_code (Bit4 code) fits = absurd (false≢true fits)
IsColor-by_numbers is_code (Bit8 n) fits = fits
IsColor-by_numbers is_code (Bit24 r g b) fits = fits

pub IsRendition-with_color : (a : Attributes) (layer : Layer) (color : AnsiColor) → IsColor is_no_code color → IsRendition a → IsRendition (with_color a layer color)
IsRendition-with_color a Foreground color fits r = record {
  font = r.font;
  foreground = IsColor-by_numbers is_foreground_code color fits;
  background = r.background;
  underline_color = r.underline_color;
}
IsRendition-with_color a Background color fits r = record {
  font = r.font;
  foreground = r.foreground;
  background = IsColor-by_numbers is_background_code color fits;
  underline_color = r.underline_color;
}
IsRendition-with_color a Underline color fits r = record {
  font = r.font;
  foreground = r.foreground;
  background = r.background;
  underline_color = fits;
}

pub ruleset kept = (IsRendition-plain, IsRendition-after_code, IsRendition-with_color)

-- a parameter that is a number is a byte
abbrev IsByteIf : Option ℕ → Type 0
IsByteIf o = IfSome o (λ n. n < 256)

IsByteIf-if : (b : Bool) (n : ℕ) → IsByteIf (if b && nat_le n 255 then Some n else None)
IsByteIf-if false n = tt
IsByteIf-if true n = elim (nat_le n 255) as (λ t. (nat_le n 255 ≡ t) → IsByteIf (if t then Some n else None)) [
  | true ↦ λ e. let small : n ≤ 255 = leb-true n 255 e in omega arith
  | false ↦ λ e. tt
] refl

-- the number of a parameter is a byte
IsByteIf-number : (parameter : List ℕ) → IsByteIf (number parameter)
IsByteIf-number parameter = IsByteIf-if (list_all is_ascii_digit parameter) (fold with_digit 0 parameter)

-- the same of each of the parameters
abbrev AreBytes : List (Option ℕ) → Type 0
AreBytes [] = Unit {0}
AreBytes (parameter ∷ others) = IsByteIf parameter × AreBytes others

AreBytes-numbers : (parts : List (List ℕ)) → AreBytes (map number parts)
AreBytes-numbers [] = tt
AreBytes-numbers (part ∷ parts) = (IsByteIf-number part, AreBytes-numbers parts)

mutual
  IsRendition-effects : (a : Attributes) (parameters : List (Option ℕ)) → IsRendition a → AreBytes parameters → IsRendition (fold after_effect a (effects parameters))
  IsRendition-effects a [] r bytes = r
  IsRendition-effects a (None ∷ others) r bytes = IsRendition-effects a others r bytes.1
  IsRendition-effects a (Some code ∷ others) r bytes =
      elim (layer_of code) as (λ o. IsRendition (fold after_effect a (elim o as (λ p. List Effect) [ None ↦ OfCode code ∷ effects others | Some layer ↦ effects_of_color layer others ]))) [
        | None ↦ IsRendition-effects (after_code a code) others (IsRendition-after_code a code r) bytes.1
        | Some layer ↦ IsRendition-effects_of_color a layer others r bytes.1
      ]

  IsRendition-effects_of_color : (a : Attributes) (layer : Layer) (parameters : List (Option ℕ)) → IsRendition a → AreBytes parameters → IsRendition (fold after_effect a (effects_of_color layer parameters))
  IsRendition-effects_of_color a layer [] r bytes = r
  IsRendition-effects_of_color a layer (None ∷ others) r bytes = r
  IsRendition-effects_of_color a layer (Some form ∷ others) r bytes =
      elim (form == 5) as (λ t. IsRendition (fold after_effect a (if t then effects_of_index layer others else (if form == 2 then effects_of_rgb layer others else [])))) [
        | true ↦ IsRendition-effects_of_index a layer others r bytes.1
        | false ↦ elim (form == 2) as (λ t. IsRendition (fold after_effect a (if t then effects_of_rgb layer others else []))) [
          | true ↦ IsRendition-effects_of_rgb a layer others r bytes.1
          | false ↦ r
        ]
      ]

  IsRendition-effects_of_index : (a : Attributes) (layer : Layer) (parameters : List (Option ℕ)) → IsRendition a → AreBytes parameters → IsRendition (fold after_effect a (effects_of_index layer parameters))
  IsRendition-effects_of_index a layer [] r bytes = r
  IsRendition-effects_of_index a layer (None ∷ others) r bytes = r
  IsRendition-effects_of_index a layer (Some n ∷ others) r bytes =
      IsRendition-effects (with_color a layer (Bit8 n)) others (IsRendition-with_color a layer (Bit8 n) bytes.0 r) bytes.1

  IsRendition-effects_of_rgb : (a : Attributes) (layer : Layer) (parameters : List (Option ℕ)) → IsRendition a → AreBytes parameters → IsRendition (fold after_effect a (effects_of_rgb layer parameters))
  IsRendition-effects_of_rgb a layer [] r bytes = r
  IsRendition-effects_of_rgb a layer (None ∷ others) r bytes = r
  IsRendition-effects_of_rgb a layer (Some red ∷ []) r bytes = r
  IsRendition-effects_of_rgb a layer (Some red ∷ None ∷ others) r bytes = r
  IsRendition-effects_of_rgb a layer (Some red ∷ Some g ∷ []) r bytes = r
  IsRendition-effects_of_rgb a layer (Some red ∷ Some g ∷ None ∷ others) r bytes = r
  IsRendition-effects_of_rgb a layer (Some red ∷ Some g ∷ Some b ∷ others) r bytes =
      IsRendition-effects (with_color a layer (Bit24 red g b)) others
      (IsRendition-with_color a layer (Bit24 red g b) (bytes.0, bytes.1.0, bytes.1.1.0) r) bytes.1.1.1

IsRendition-after_parameter_bytes : (a : Attributes) (parameters : Option (List ℕ)) → IsRendition a → IsRendition (after_parameter_bytes a parameters)
unfolding after_parameters
IsRendition-after_parameter_bytes a None r = r
IsRendition-after_parameter_bytes a (Some parameters) r =
    let parts = slice_split (λ byte. byte == 59) parameters in
    IsRendition-effects a (map number parts) r (AreBytes-numbers parts)

-- what a sequence leaves
pub IsRendition-applied : (a : Attributes) (bytes : List ℕ) → IsRendition a → IsRendition (applied a bytes)
unfolding applied
IsRendition-applied a bytes r = IsRendition-after_parameter_bytes a (sgr_parameters bytes) r

-- what sequences leave
pub IsRendition-fold_applied : (a : Attributes) (sequences : List (List ℕ)) → IsRendition a → IsRendition (fold applied a sequences)
IsRendition-fold_applied a [] r = r
IsRendition-fold_applied a (bytes ∷ sequences) r = IsRendition-fold_applied (applied a bytes) sequences (IsRendition-applied a bytes r)
