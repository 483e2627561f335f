-- The sequences that begin and end a style, and the table of codes that they follow from.
use Rattle.std.specs.Prelude.{ℕ, ◌==◌, Bool, true, false, ◌||◌, Option, None, Some, is_some, List, [], ◌∷◌, ◌++◌, map, fold, codes, if◌then◌else◌}
use Rattle.std.specs.List.{concat, filter, flat_map}
use Rattle.std.specs.Fmt.{decimal}
use Rattle.ansi_scan.specs.declared.style.color.AnsiColor.{AnsiColor}
use Rattle.ansi_scan.specs.declared.style.color.AnsiColor.TheVariants.{Bit4, Bit8, Bit24}
use Rattle.ansi_scan.specs.declared.style.next.Layer.{Layer}
use Rattle.ansi_scan.specs.declared.style.next.Layer.TheVariants.{Foreground, Background, Underline}
use Rattle.ansi_scan.specs.declared.style.sequences.Parameters.{Parameters}
use Rattle.ansi_scan.specs.declared.style.sequences.Parameters.TheVariants.{Code, Indexed, Direct}
use Rattle.ansi_scan.specs.Styles.Attributes.{Attributes, is_font_code, is_foreground_code, is_background_code, is_no_code}

-- the code after which a colour by numbers follows
abbrev pub layer_code : Layer → ℕ
layer_code Foreground = 38
layer_code Background = 48
layer_code Underline = 58

-- the parameters as they are in a sequence
abbrev pub parameter_bytes : Parameters → List ℕ
parameter_bytes (Code code) = decimal code
parameter_bytes (Indexed layer n) = decimal (layer_code layer) ++ (codes ";5;" ++ decimal n)
parameter_bytes (Direct layer r g b) =
    decimal (layer_code layer) ++ (codes ";2;" ++ (decimal r ++ (codes ";" ++ (decimal g ++ (codes ";" ++ decimal b)))))

-- `ESC [`, parameters, and `m`
abbrev pub sequence_bytes : Parameters → List ℕ
sequence_bytes parameters = (27 ∷ 91 ∷ []) ++ (parameter_bytes parameters ++ (109 ∷ []))

-- the code, where it is requested
abbrev pub code_if : Bool → ℕ → Option Parameters
code_if is_set code = if is_set then Some (Code code) else None

abbrev pub font_parameters : Option ℕ → Option Parameters
font_parameters None = None
font_parameters (Some code) = Some (Code code)

-- a colour as it was set
abbrev pub color_parameters : Layer → Option AnsiColor → Option Parameters
color_parameters layer None = None
color_parameters layer (Some (Bit4 code)) = Some (Code code)
color_parameters layer (Some (Bit8 n)) = Some (Indexed layer n)
color_parameters layer (Some (Bit24 r g b)) = Some (Direct layer r g b)

-- ---- the table of codes, a row for each attribute

-- whether the attribute is set, the codes that set it alone, what a start writes for it, and the code that
-- clears it
pub record CodeRow : Type 0 where
  pub is_set : Attributes → Bool
  pub sets : ℕ → Bool
  pub start : Attributes → Option Parameters
  pub clears : ℕ

-- an attribute without a value: the code that sets it, and the one that clears it
abbrev pub flag_row : (Attributes → Bool) → ℕ → ℕ → CodeRow
flag_row is_set code clears =
    record { is_set = is_set; sets = λ n. n == code; start = λ a. code_if (is_set a) code; clears = clears }

abbrev pub font_row : CodeRow
font_row = record {
  is_set = λ a. is_some a.font;
  sets = is_font_code;
  start = λ a. font_parameters a.font;
  clears = 10;
}

abbrev pub foreground_row : CodeRow
foreground_row = record {
  is_set = λ a. is_some a.foreground;
  sets = is_foreground_code;
  start = λ a. color_parameters Foreground a.foreground;
  clears = 39;
}

abbrev pub background_row : CodeRow
background_row = record {
  is_set = λ a. is_some a.background;
  sets = is_background_code;
  start = λ a. color_parameters Background a.background;
  clears = 49;
}

abbrev pub underline_color_row : CodeRow
underline_color_row = record {
  is_set = λ a. is_some a.underline_color;
  sets = is_no_code;
  start = λ a. color_parameters Underline a.underline_color;
  clears = 59;
}

-- in ascending order of the codes that set, where the colours are at 38, 48 and 58
abbrev pub code_rows : List CodeRow
code_rows =
    flag_row (λ a. a.bold) 1 22
    ∷ flag_row (λ a. a.faint) 2 22
    ∷ flag_row (λ a. a.italic) 3 23
    ∷ flag_row (λ a. a.underline) 4 24
    ∷ flag_row (λ a. a.slow_blink) 5 25
    ∷ flag_row (λ a. a.rapid_blink) 6 25
    ∷ flag_row (λ a. a.inverted) 7 27
    ∷ flag_row (λ a. a.hidden) 8 28
    ∷ flag_row (λ a. a.crossed_out) 9 29
    ∷ font_row
    ∷ flag_row (λ a. a.fraktur) 20 23
    ∷ flag_row (λ a. a.double_underline) 21 24
    ∷ flag_row (λ a. a.proportional_spacing) 26 50
    ∷ foreground_row
    ∷ background_row
    ∷ flag_row (λ a. a.framed) 51 54
    ∷ flag_row (λ a. a.encircled) 52 54
    ∷ flag_row (λ a. a.overlined) 53 55
    ∷ underline_color_row
    ∷ flag_row (λ a. a.ideogram_underline) 60 65
    ∷ flag_row (λ a. a.ideogram_double_underline) 61 65
    ∷ flag_row (λ a. a.ideogram_overline) 62 65
    ∷ flag_row (λ a. a.ideogram_double_overline) 63 65
    ∷ flag_row (λ a. a.ideogram_stress) 64 65
    ∷ flag_row (λ a. a.superscript) 73 75
    ∷ flag_row (λ a. a.subscript) 74 75
    ∷ []

-- whether an attribute is set after a code: one that sets it, the one that clears it or 0, which clears all,
-- or any other
abbrev pub is_set_after : CodeRow → ℕ → Bool → Bool
is_set_after row code was_set =
    if row.sets code then true else (if code == row.clears || code == 0 then false else was_set)

-- the codes that clear, ascending, each once
abbrev pub clearing_codes : List ℕ
clearing_codes =
    10 ∷ 22 ∷ 23 ∷ 24 ∷ 25 ∷ 27 ∷ 28 ∷ 29 ∷ 39 ∷ 49 ∷ 50 ∷ 54 ∷ 55 ∷ 59 ∷ 65 ∷ 75 ∷ []

abbrev pub rows_cleared_by : ℕ → List CodeRow
rows_cleared_by code = filter (λ row. row.clears == code) code_rows

-- the attribute of one of these rows is set
abbrev pub any_set : Attributes → List CodeRow → Bool
any_set a [] = false
any_set a (row ∷ others) = fold (λ found other. found || other.is_set a) (row.is_set a) others

-- what sets each attribute that is set
abbrev pub start_parameters : Attributes → List (Option Parameters)
start_parameters a = map (λ row. row.start a) code_rows

-- what clears each attribute that is set
abbrev pub end_parameters : Attributes → List (Option Parameters)
end_parameters a = map (λ code. code_if (any_set a (rows_cleared_by code)) code) clearing_codes

-- one of the five marks is set that 65 clears
abbrev pub has_ideogram_mark : Attributes → Bool
has_ideogram_mark a = a.ideogram_underline || a.ideogram_double_underline || a.ideogram_overline
    || a.ideogram_double_overline || a.ideogram_stress

-- the sequences of those that are there
abbrev pub sequence_if : Option Parameters → List (List ℕ)
sequence_if None = []
sequence_if (Some parameters) = sequence_bytes parameters ∷ []

abbrev pub sequences_of : List (Option Parameters) → List (List ℕ)
sequences_of parameters = flat_map sequence_if parameters

-- the start of a style: its sequences, and their bytes
unfoldable pub start_sequences : Attributes → List (List ℕ)
start_sequences a = sequences_of (start_parameters a)

unfoldable pub start_bytes : Attributes → List ℕ
start_bytes a = concat (start_sequences a)

-- the end of a style
unfoldable pub end_sequences : Attributes → List (List ℕ)
end_sequences a = sequences_of (end_parameters a)

unfoldable pub end_bytes : Attributes → List ℕ
end_bytes a = concat (end_sequences a)
