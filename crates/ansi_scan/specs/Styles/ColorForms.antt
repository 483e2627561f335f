-- The colours after 38, 48 and 58, looked for at the start of what follows. The law that says what each
-- first parameter does is stated in these terms.
use Rattle.std.specs.Prelude.{ℕ, Bool, ◌||◌, Option, None, Some, List, ◌∷◌, ◌==◌, if◌then◌else◌}
use Rattle.ansi_scan.specs.declared.style.color.AnsiColor.{AnsiColor}
use Rattle.ansi_scan.specs.declared.style.color.AnsiColor.TheVariants.{Bit8, Bit24}
use Rattle.ansi_scan.specs.declared.style.next.Layer.{Layer}
use Rattle.ansi_scan.specs.Styles.Attributes.{Attributes}
use Rattle.ansi_scan.specs.Styles.Rendition.{with_color, after_parameters}

-- 38, 48 and 58
abbrev pub is_color_code : ℕ → Bool
is_color_code code = code == 38 || code == 48 || code == 58

-- after 5: one number up to 255
abbrev pub indexed_color : List (Option ℕ) → Option (AnsiColor × List (Option ℕ))
indexed_color (Some n ∷ others) = Some (Bit8 n, others)
indexed_color others = None

-- after 2: red, green and blue
abbrev pub direct_color : List (Option ℕ) → Option (AnsiColor × List (Option ℕ))
direct_color (Some r ∷ Some g ∷ Some b ∷ others) = Some (Bit24 r g b, others)
direct_color others = None

-- the colour at the start, and the parameters after it
abbrev pub color_at_front : List (Option ℕ) → Option (AnsiColor × List (Option ℕ))
color_at_front (Some form ∷ others) =
    if form == 5 then indexed_color others else (if form == 2 then direct_color others else None)
color_at_front others = None

-- the attributes after such a colour and what follows it; without one nothing more has an effect
abbrev pub after_color : Attributes → Layer → Option (AnsiColor × List (Option ℕ)) → Attributes
after_color a layer None = a
after_color a layer (Some found) = after_parameters (with_color a layer found.0) found.1
