-- Which sequences of SELECT GRAPHIC RENDITION (ECMA-48, 8.3.117) take effect under `Colors`: those that do nothing but
-- set and clear what the table of codes has, which a line can then close, and that conceal nothing.
use Rattle.std.specs.Prelude.{◌==◌, ◌&&◌, ◌||◌, not, ℕ, Bool, true, false, List, [], ◌∷◌, Option, None, Some, map, nat_le, if◌then◌else◌}
use Rattle.std.specs.Int.{is_in_range}
use Rattle.std.specs.List.{list_any, slice_split}
use Rattle.ansi_scan.specs.Styles.ColorForms.{is_color_code}
use Rattle.ansi_scan.specs.Styles.Rendition.{number, sgr_parameters}
use Rattle.ansi_scan.specs.Styles.Sequences.{CodeRow, code_rows}
use Rattle.basinmug_input.specs.declared.renditions.Awaited.{Awaited}
use Rattle.basinmug_input.specs.declared.renditions.Awaited.TheVariants.{Code, Form, OneNumber, TwoNumbers, ThreeNumbers, Nothing}

-- ---- codes

-- 0, which clears all, or a code that sets or clears something by the table
abbrev pub is_in_table : ℕ → Bool
is_in_table code = code == 0 || list_any (λ (row : CodeRow). row.sets code || code == row.clears) code_rows

-- CONCEALED CHARACTERS
abbrev pub conceal : ℕ
conceal = 8

-- a code that takes effect
abbrev pub is_kept_code : ℕ → Bool
is_kept_code code = is_in_table code && not (code == conceal)

-- ---- parameters

abbrev mutual
  -- each parameter is such a code; or it is 38, 48 or 58, and a whole colour follows, whose numbers are no codes
  pub are_settings : List (Option ℕ) → Bool
  are_settings [] = true
  are_settings (None ∷ others) = false
  are_settings (Some code ∷ others) = if is_color_code code then begin_with_color others else (is_kept_code code && are_settings others)

  -- `5;n` or `2;r;g;b` is at the start, each number up to 255, and settings follow
  pub begin_with_color : List (Option ℕ) → Bool
  begin_with_color [] = false
  begin_with_color (None ∷ others) = false
  begin_with_color (Some form ∷ others) =
      if form == 5 then begin_with_number others else (if form == 2 then begin_with_three_numbers others else false)

  pub begin_with_number : List (Option ℕ) → Bool
  begin_with_number [] = false
  begin_with_number (None ∷ others) = false
  begin_with_number (Some n ∷ others) = are_settings others

  pub begin_with_three_numbers : List (Option ℕ) → Bool
  begin_with_three_numbers (Some r ∷ Some g ∷ Some b ∷ others) = are_settings others
  begin_with_three_numbers others = false

-- the numbers of parameters that are separated by `;`, 0 where one is empty; none where one holds a `:` or is above 255
abbrev pub numbers_of : List ℕ → List (Option ℕ)
numbers_of parameters = map number (slice_split (λ byte. byte == 59) parameters)

abbrev pub are_kept : Option (List ℕ) → Bool
are_kept None = false
are_kept (Some parameters) = are_settings (numbers_of parameters)

-- the bytes are such a sequence
abbrev pub is_kept_rendition : List ℕ → Bool
is_kept_rendition bytes = are_kept (sgr_parameters bytes)

-- ---- as the code reads them: what is awaited after each parameter. proofs/Settings.antt proves that this comes to the same

-- the codes that take effect alone, by their ranges
abbrev pub is_in_kept_ranges : ℕ → Bool
is_in_kept_ranges code =
    nat_le code 7
    || (is_in_range 9 37 code || (is_in_range 39 47 code || (is_in_range 49 55 code || (is_in_range 59 65 code
    || (is_in_range 73 75 code || (is_in_range 90 97 code || is_in_range 100 107 code))))))

abbrev pub behind_code : ℕ → Awaited
behind_code code = if is_color_code code then Form else (if is_kept_code code then Code else Nothing)

abbrev pub behind_form : ℕ → Awaited
behind_form form = if form == 5 then OneNumber else (if form == 2 then ThreeNumbers else Nothing)

abbrev pub behind : Awaited → Option ℕ → Awaited
behind Code None = Nothing
behind Code (Some code) = behind_code code
behind Form None = Nothing
behind Form (Some form) = behind_form form
behind ThreeNumbers None = Nothing
behind ThreeNumbers (Some n) = TwoNumbers
behind TwoNumbers None = Nothing
behind TwoNumbers (Some n) = OneNumber
behind OneNumber None = Nothing
behind OneNumber (Some n) = Code
behind Nothing parameter = Nothing

abbrev pub is_code : Awaited → Bool
is_code Code = true
is_code Form = false
is_code ThreeNumbers = false
is_code TwoNumbers = false
is_code OneNumber = false
is_code Nothing = false
