-- Each attribute follows the codes of its row.
use Rattle.std.proofs.Common.{◌≡◌, ℕ, Bool, true, false, ◌||◌, Option, None, Some, refl, ◌==◌, if◌then◌else◌}
use Rattle.std.specs.Prelude.{is_some}
use Rattle.std.specs.List.{AllByRecursion}
use Rattle.ansi_scan.specs.declared.style.color.AnsiColor.TheVariants.{Bit4}
use Rattle.ansi_scan.specs.Styles.Attributes.{Attributes, after_code, is_font_code, is_foreground_code, is_background_code}
use Rattle.ansi_scan.specs.Styles.Sequences.{code_rows, is_set_after}

-- whether a value is there, where a code sets it, clears it or leaves it
pub some_if : {V : Type 0} (sets clears : Bool) (value : V) (was : Option V)
    → is_some (if sets then Some value else (if clears then None else was)) ≡ (if sets then true else (if clears then false else is_some was))
some_if true clears value was = refl
some_if false true value was = refl
some_if false false value was = refl

pub some_unless : {V : Type 0} (clears : Bool) (was : Option V) → is_some (if clears then None else was) ≡ (if clears then false else is_some was)
some_unless true was = refl
some_unless false was = refl

pub after_code-rows : (a : Attributes) (code : ℕ) → AllByRecursion (λ row. row.is_set (after_code a code) ≡ is_set_after row code (row.is_set a)) code_rows
after_code-rows a code =
    (refl, (refl, (refl, (refl, (refl, (refl, (refl, (refl, (refl, (some_if (is_font_code code) (code == 10 || code == 0) code a.font, (refl, (refl, (refl, (some_if (is_foreground_code code) (code == 39 || code == 0) (Bit4 code) a.foreground, (some_if (is_background_code code) (code == 49 || code == 0) (Bit4 code) a.background, (refl, (refl, (refl, (some_unless (code == 59 || code == 0) a.underline_color, (refl, (refl, (refl, (refl, (refl, (refl, (refl, tt))))))))))))))))))))))))))
