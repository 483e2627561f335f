-- How a sequence SELECT GRAPHIC RENDITION is read (ECMA-48, 8.3.117): the bytes `ESC [`, parameters,
-- and `m`.
use Rattle.std.specs.Prelude.{ℕ, ◌+◌, ◌-◌, ◌*◌, Bool, ◌&&◌, Option, None, Some, List, [], ◌∷◌, map, fold, length, slice_index, slice_range, nat_le, ◌==◌, if◌then◌else◌}
use Rattle.std.specs.List.{list_all, slice_split}
use Rattle.std.specs.Int.{is_in_range}
use Rattle.std.specs.Char.{is_ascii_digit}
use Rattle.ansi_scan.specs.declared.style.color.AnsiColor.{AnsiColor}
use Rattle.ansi_scan.specs.declared.style.color.AnsiColor.TheVariants.{Bit8, Bit24}
use Rattle.ansi_scan.specs.declared.style.next.Layer.{Layer}
use Rattle.ansi_scan.specs.declared.style.next.Layer.TheVariants.{Foreground, Background, Underline}
use Rattle.ansi_scan.specs.Styles.Attributes.{Attributes, after_code}

-- a parameter byte that is a digit, `:` or `;`, 5.4.2
abbrev pub is_numeric : ℕ → Bool
is_numeric byte = is_in_range 0x30 0x3b byte

-- what is between `ESC [` and the `m` at the end, where these are parameter bytes
abbrev pub sgr_parameters : List ℕ → Option (List ℕ)
sgr_parameters bytes = let last = length bytes - 1 in
    if nat_le 3 (length bytes) && slice_index bytes 0 == 27 && slice_index bytes 1 == 91
    && slice_index bytes last == 109 && list_all is_numeric (slice_range bytes 2 last)
    then Some (slice_range bytes 2 last)
    else None

-- the number with one digit more
abbrev pub with_digit : ℕ → ℕ → ℕ
with_digit n digit = 10 * n + (digit - 48)

-- the number of a parameter, 0 where it is empty; none where it holds a `:`, and none above 255
abbrev pub number : List ℕ → Option ℕ
number parameter = let n = fold with_digit 0 parameter in
    if list_all is_ascii_digit parameter && nat_le n 255 then Some n else None

-- what parameters do: what a code of the table does, or set a colour that is given by numbers
pub data Effect : Type 0 where
  OfCode : ℕ → Effect
  OfColor : Layer → AnsiColor → Effect

-- 38, 48 and 58: what the colour that comes next is given to
abbrev pub layer_of : ℕ → Option Layer
layer_of code = if code == 38 then Some Foreground
    else (if code == 48 then Some Background else (if code == 58 then Some Underline else None))

abbrev mutual
  -- the effects of parameters in order; one that is no number up to 255 is `None`, and has none
  pub effects : List (Option ℕ) → List Effect
  effects [] = []
  effects (None ∷ others) = effects others
  effects (Some code ∷ others) = elim (layer_of code) [
    | None ↦ OfCode code ∷ effects others
    | Some layer ↦ effects_of_color layer others
  ]

  -- the same after 38, 48 and 58: a colour, `5;n` or `2;r;g;b`, and what follows it; where no colour comes,
  -- nothing more has an effect
  pub effects_of_color : Layer → List (Option ℕ) → List Effect
  effects_of_color layer (Some form ∷ others) =
      if form == 5 then effects_of_index layer others else (if form == 2 then effects_of_rgb layer others else [])
  effects_of_color layer others = []

  -- after 5: one number
  pub effects_of_index : Layer → List (Option ℕ) → List Effect
  effects_of_index layer (Some n ∷ others) = OfColor layer (Bit8 n) ∷ effects others
  effects_of_index layer others = []

  -- after 2: red, green and blue
  pub effects_of_rgb : Layer → List (Option ℕ) → List Effect
  effects_of_rgb layer (Some r ∷ Some g ∷ Some b ∷ others) = OfColor layer (Bit24 r g b) ∷ effects others
  effects_of_rgb layer others = []

abbrev pub with_color : Attributes → Layer → AnsiColor → Attributes
with_color a Foreground color = record a { foreground = Some color }
with_color a Background color = record a { background = Some color }
with_color a Underline color = record a { underline_color = Some color }

abbrev pub after_effect : Attributes → Effect → Attributes
after_effect a (OfCode code) = after_code a code
after_effect a (OfColor layer color) = with_color a layer color

-- the attributes after one effect after the other
unfoldable pub after_parameters : Attributes → List (Option ℕ) → Attributes
after_parameters a parameters = fold after_effect a (effects parameters)

-- the same where there are parameters, separated by `;`
abbrev pub after_parameter_bytes : Attributes → Option (List ℕ) → Attributes
after_parameter_bytes a None = a
after_parameter_bytes a (Some parameters) =
    after_parameters a (map number (slice_split (λ byte. byte == 59) parameters))

-- the attributes after a sequence; bytes that are no such sequence change nothing
unfoldable pub applied : Attributes → List ℕ → Attributes
applied a bytes = after_parameter_bytes a (sgr_parameters bytes)
