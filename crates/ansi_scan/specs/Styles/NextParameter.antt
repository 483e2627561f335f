-- What the code keeps from parameter to parameter: what the next one is. How parameters are read is said in
-- `Rendition`; `proofs/Forms.antt` proves that reading them so, one by one, gives the same attributes.
use Rattle.std.specs.Prelude.{ℕ, Option, None, Some, ◌==◌, if◌then◌else◌}
use Rattle.ansi_scan.specs.declared.style.color.AnsiColor.TheVariants.{Bit8, Bit24}
use Rattle.ansi_scan.specs.declared.style.next.Layer.{Layer}
use Rattle.ansi_scan.specs.declared.style.next.Layer.TheVariants.{Foreground, Background, Underline}
use Rattle.ansi_scan.specs.declared.style.next.Next.{Next}
use Rattle.ansi_scan.specs.declared.style.next.Next.TheVariants.{Code, Form, Index, Red, Green, Blue, Nothing}
use Rattle.ansi_scan.specs.Styles.Attributes.{Attributes, after_code}
use Rattle.ansi_scan.specs.Styles.Rendition.{with_color}

-- what comes after 38, 48 and 58, and after any other code
abbrev pub next_after_code : ℕ → Next
next_after_code code = if code == 38 then Form Foreground
    else (if code == 48 then Form Background else (if code == 58 then Form Underline else Code))

-- what comes after 5 and 2
abbrev pub next_after_form : Layer → ℕ → Next
next_after_form layer form =
    if form == 5 then Index layer else (if form == 2 then Red layer else Nothing)

-- what the parameter after this one is
abbrev pub next_after : Next → Option ℕ → Next
next_after Code None = Code
next_after Code (Some code) = next_after_code code
next_after (Form layer) None = Nothing
next_after (Form layer) (Some form) = next_after_form layer form
next_after (Index layer) None = Nothing
next_after (Index layer) (Some n) = Code
next_after (Red layer) None = Nothing
next_after (Red layer) (Some r) = Green layer r
next_after (Green layer r) None = Nothing
next_after (Green layer r) (Some g) = Blue layer r g
next_after (Blue layer r g) None = Nothing
next_after (Blue layer r g) (Some b) = Code
next_after Nothing parameter = Nothing

-- the attributes after a parameter: a code, or the last number of a colour
abbrev pub after_parameter : Attributes → Next → Option ℕ → Attributes
after_parameter a next None = a
after_parameter a Code (Some code) = after_code a code
after_parameter a (Form layer) (Some form) = a
after_parameter a (Index layer) (Some n) = with_color a layer (Bit8 n)
after_parameter a (Red layer) (Some r) = a
after_parameter a (Green layer r) (Some g) = a
after_parameter a (Blue layer r g) (Some b) = with_color a layer (Bit24 r g b)
after_parameter a Nothing (Some n) = a

-- the attributes after one parameter after the other
abbrev pub reading_after : Attributes × Next → Option ℕ → Attributes × Next
reading_after reading parameter =
    (after_parameter reading.0 reading.1 parameter, next_after reading.1 parameter)
