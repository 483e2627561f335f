-- The names that colours are read as.
use Rattle.std.proofs.Common.{◌≢◌, ℕ, Bool, true, false, ◌||◌, ◌==◌, if◌then◌else◌}
use Rattle.ansi_scan.specs.declared.style.color.AnsiColor.{AnsiColor}
use Rattle.ansi_scan.specs.declared.style.color.AnsiColor.TheVariants.{Bit4, Bit8, Bit24}
use Rattle.ansi_scan.specs.declared.style.color.Color.{Color}
use Rattle.ansi_scan.specs.declared.style.color.Color.TheVariants.{Black, Red, Green, Yellow, Blue, Magenta, Cyan, White, BrightBlack, BrightRed, BrightGreen, BrightYellow, BrightBlue, BrightMagenta, BrightCyan, BrightWhite, Purple, BrightPurple}
use Rattle.ansi_scan.specs.Styles.Color.{as_color, named_color}

either : (P : Color → Type 0) (b : Bool) (x y : Color) → P x → P y → P (if b then x else y)
either P true x y here there = here
either P false x y here there = there

-- neither of the two purples
abbrev IsNotPurple : Color → Type 0
IsNotPurple color = (color ≢ Purple) × (color ≢ BrightPurple)

named_color_is_not_purple : (code : ℕ) → IsNotPurple (named_color code)
named_color_is_not_purple code =
    either IsNotPurple (code == 30 || code == 40) Black _ ((λ e. cc), (λ e. cc))
    (either IsNotPurple (code == 31 || code == 41) Red _ ((λ e. cc), (λ e. cc))
    (either IsNotPurple (code == 32 || code == 42) Green _ ((λ e. cc), (λ e. cc))
    (either IsNotPurple (code == 33 || code == 43) Yellow _ ((λ e. cc), (λ e. cc))
    (either IsNotPurple (code == 34 || code == 44) Blue _ ((λ e. cc), (λ e. cc))
    (either IsNotPurple (code == 35 || code == 45) Magenta _ ((λ e. cc), (λ e. cc))
    (either IsNotPurple (code == 36 || code == 46) Cyan _ ((λ e. cc), (λ e. cc))
    (either IsNotPurple (code == 37 || code == 47) White _ ((λ e. cc), (λ e. cc))
    (either IsNotPurple (code == 90 || code == 100) BrightBlack _ ((λ e. cc), (λ e. cc))
    (either IsNotPurple (code == 91 || code == 101) BrightRed _ ((λ e. cc), (λ e. cc))
    (either IsNotPurple (code == 92 || code == 102) BrightGreen _ ((λ e. cc), (λ e. cc))
    (either IsNotPurple (code == 93 || code == 103) BrightYellow _ ((λ e. cc), (λ e. cc))
    (either IsNotPurple (code == 94 || code == 104) BrightBlue _ ((λ e. cc), (λ e. cc))
    (either IsNotPurple (code == 95 || code == 105) BrightMagenta _ ((λ e. cc), (λ e. cc))
    (either IsNotPurple (code == 96 || code == 106) BrightCyan _ ((λ e. cc), (λ e. cc))
    (either IsNotPurple (code == 97 || code == 107) BrightWhite _ ((λ e. cc), (λ e. cc))
    ((λ e. cc), (λ e. cc)))))))))))))))))

pub color_of_is_not_purple : (color : AnsiColor) → (as_color color ≢ Purple) × (as_color color ≢ BrightPurple)
color_of_is_not_purple (Bit4 code) = named_color_is_not_purple code
color_of_is_not_purple (Bit8 n) = ((λ e. cc), (λ e. cc))
color_of_is_not_purple (Bit24 r g b) = ((λ e. cc), (λ e. cc))
