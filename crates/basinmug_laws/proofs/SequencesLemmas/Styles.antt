-- Sequences that take effect under `Colors` conceal nothing, and such sequences open and end the styles that they leave.
use Rattle.std.proofs.Common.{◌≡◌, ◌∙◌, ◌<◌, ◌==◌, ◌&&◌, ◌||◌, ℕ, Bool, true, false, Option, None, Some, List, [], ◌∷◌, ◌++◌, fold, map, refl, ap, sym, arith, nat_lt, if◌then◌else◌}
use Rattle.std.specs.Prelude.{IfSome, IsSome, IsTrue, not}
use Rattle.std.specs.List.{AllByRecursion, list_all}
use Rattle.std.specs.Fmt.{decimal}
use Rattle.std.proofs.lemmas.Bool.{and_parts, not-true}
use Rattle.std.proofs.lemmas.Bool.Decides.{nat_tests}
use Rattle.std.proofs.lemmas.List.{append_cancel_right}
use Rattle.std.proofs.lemmas.List.Elements.{All-head}
use Rattle.ansi_scan.specs.declared.style.color.AnsiColor.{AnsiColor}
use Rattle.ansi_scan.specs.declared.style.color.AnsiColor.TheVariants.{Bit4, Bit8, Bit24}
use Rattle.ansi_scan.specs.declared.style.next.Layer.{Layer}
use Rattle.ansi_scan.specs.declared.style.next.Layer.TheVariants.{Foreground, Background, Underline}
use Rattle.ansi_scan.specs.declared.style.sequences.Parameters.{Parameters}
use Rattle.ansi_scan.specs.declared.style.sequences.Parameters.TheVariants.{Code, Indexed, Direct}
use Rattle.ansi_scan.specs.Styles.Attributes.{Attributes, IsColor, IsRendition, after_code, is_background_code, is_font_code, is_foreground_code, is_no_code, plain_attributes}
use Rattle.ansi_scan.specs.Styles.ColorForms.{is_color_code}
use Rattle.ansi_scan.specs.Styles.Rendition.{Effect, OfCode, after_effect, after_parameters, after_parameter_bytes, applied, effects, effects_of_color, effects_of_index, effects_of_rgb, sgr_parameters, with_color}
use Rattle.ansi_scan.specs.Styles.Sequences.{any_set, clearing_codes, code_if, color_parameters, end_parameters, end_sequences, font_parameters, layer_code, parameter_bytes, rows_cleared_by, sequence_bytes, sequences_of, start_parameters, start_sequences}
use Rattle.ansi_scan.proofs.StyleLemmas.Effects.{end_sequences-plain, start_sequences-plain}
use Rattle.ansi_scan.proofs.StyleLemmas.Forms.{sequence_from-sgr_parameters}
use Rattle.ansi_scan.proofs.StyleLemmas.Kept.{IsRendition-applied, IsRendition-plain}
use Rattle.ansi_scan.proofs.StyleLemmas.Merging.{end_is_readable, start_is_readable}
use Rattle.ansi_scan.proofs.StyleLemmas.Reading.{AllReadable, IsReadable, numbers_of-cons, numbers_of-decimal, sequences_are_read}
use Rattle.basinmug_input.specs.Renditions.{are_kept, are_settings, begin_with_color, begin_with_number, begin_with_three_numbers, conceal, is_in_kept_ranges, is_in_table, is_kept_code, is_kept_rendition, numbers_of}
use Rattle.program_options.specs.declared.basinmug.Escapes.{Escapes}
use Rattle.program_options.specs.declared.basinmug.Escapes.TheVariants.{Colors, All as AllEscapes, None as NoEscapes}
use Rattle.basinmug_input.proofs.Settings.{ranges-table}
use Rattle.basinmug_input.specs.Cleaning.{may_stand}
use Rattle.basinmug_laws.proofs.SequencesLemmas.Parts.{AreClosed}

-- ---- what they leave conceals nothing

abbrev pub ConcealsNothing : Attributes → Type 0
ConcealsNothing a = a.hidden ≡ false

not-set : (eight cleared was : Bool) → not eight ≡ true → was ≡ false → (if eight then true else (if cleared then false else was)) ≡ false
not-set true cleared was other h = cc other
not-set false true was other h = refl
not-set false false was other h = h

code-conceals : (a : Attributes) (code : ℕ) → is_kept_code code ≡ true → ConcealsNothing a → ConcealsNothing (after_code a code)
code-conceals a code kept h = not-set (code == 8) (code == 28 || code == 0) a.hidden (and_parts (is_in_table code) (not (code == conceal)) kept).1 h

color-conceals : (a : Attributes) (layer : Layer) (color : AnsiColor) → ConcealsNothing a → ConcealsNothing (with_color a layer color)
color-conceals a Foreground color h = h
color-conceals a Background color h = h
color-conceals a Underline color h = h

mutual
  settings-conceal : (a : Attributes) (parameters : List (Option ℕ)) → are_settings parameters ≡ true → ConcealsNothing a → ConcealsNothing (fold after_effect a (effects parameters))
  settings-conceal a [] kept h = h
  settings-conceal a (None ∷ others) kept h = cc kept
  settings-conceal a (Some code ∷ others) kept h =
      by (code == 38) (code == 48) (code == 58) (λ layer first. color-first a layer others first h)
      (λ here rest. settings-conceal (after_code a code) others rest (code-conceals a code here h)) kept
    where
      by : (first second third : Bool) → ((layer : Layer) → begin_with_color others ≡ true → ConcealsNothing (fold after_effect a (effects_of_color layer others)))
          → (is_kept_code code ≡ true → are_settings others ≡ true → ConcealsNothing (fold after_effect (after_code a code) (effects others)))
          → (if first || second || third then begin_with_color others else (is_kept_code code && are_settings others)) ≡ true
          → ConcealsNothing (fold after_effect a (elim (if first then Some Foreground else (if second then Some Background else (if third then Some Underline else None))) as (λ o. List Effect) [
            | None ↦ OfCode code ∷ effects others
            | Some layer ↦ effects_of_color layer others
          ]))
      by true second third of_color of_code kept = of_color Foreground kept
      by false true third of_color of_code kept = of_color Background kept
      by false false true of_color of_code kept = of_color Underline kept
      by false false false of_color of_code kept =
          let parts = and_parts (is_kept_code code) (are_settings others) kept in
          of_code parts.0 parts.1

  color-first : (a : Attributes) (layer : Layer) (parameters : List (Option ℕ)) → begin_with_color parameters ≡ true → ConcealsNothing a → ConcealsNothing (fold after_effect a (effects_of_color layer parameters))
  color-first a layer [] kept h = cc kept
  color-first a layer (None ∷ others) kept h = cc kept
  color-first a layer (Some form ∷ others) kept h =
      by (form == 5) (form == 2) (λ rest. index-first a layer others rest h) (λ rest. rgb-first a layer others rest h) kept
    where
      by : (five two : Bool) → (begin_with_number others ≡ true → ConcealsNothing (fold after_effect a (effects_of_index layer others)))
          → (begin_with_three_numbers others ≡ true → ConcealsNothing (fold after_effect a (effects_of_rgb layer others)))
          → (if five then begin_with_number others else (if two then begin_with_three_numbers others else false)) ≡ true
          → ConcealsNothing (fold after_effect a (if five then effects_of_index layer others else (if two then effects_of_rgb layer others else [])))
      by true two of_index of_rgb kept = of_index kept
      by false true of_index of_rgb kept = of_rgb kept
      by false false of_index of_rgb kept = cc kept

  index-first : (a : Attributes) (layer : Layer) (parameters : List (Option ℕ)) → begin_with_number parameters ≡ true → ConcealsNothing a → ConcealsNothing (fold after_effect a (effects_of_index layer parameters))
  index-first a layer [] kept h = cc kept
  index-first a layer (None ∷ others) kept h = cc kept
  index-first a layer (Some n ∷ others) kept h = settings-conceal (with_color a layer (Bit8 n)) others kept (color-conceals a layer (Bit8 n) h)

  rgb-first : (a : Attributes) (layer : Layer) (parameters : List (Option ℕ)) → begin_with_three_numbers parameters ≡ true → ConcealsNothing a → ConcealsNothing (fold after_effect a (effects_of_rgb layer parameters))
  rgb-first a layer [] kept h = cc kept
  rgb-first a layer (None ∷ others) kept h = cc kept
  rgb-first a layer (Some r ∷ []) kept h = cc kept
  rgb-first a layer (Some r ∷ None ∷ others) kept h = cc kept
  rgb-first a layer (Some r ∷ Some g ∷ []) kept h = cc kept
  rgb-first a layer (Some r ∷ Some g ∷ None ∷ others) kept h = cc kept
  rgb-first a layer (Some r ∷ Some g ∷ Some b ∷ others) kept h = settings-conceal (with_color a layer (Bit24 r g b)) others kept (color-conceals a layer (Bit24 r g b) h)

parameters-conceal : (a : Attributes) (parameters : Option (List ℕ)) → are_kept parameters ≡ true → ConcealsNothing a → ConcealsNothing (after_parameter_bytes a parameters)
unfolding after_parameters
parameters-conceal a None kept h = h
parameters-conceal a (Some parameters) kept h = settings-conceal a (numbers_of parameters) kept h

kept-conceals : (a : Attributes) (bytes : List ℕ) → is_kept_rendition bytes ≡ true → ConcealsNothing a → ConcealsNothing (applied a bytes)
unfolding applied
kept-conceals a bytes kept h = parameters-conceal a (sgr_parameters bytes) kept h

plain-conceals : ConcealsNothing plain_attributes
unfolding plain_attributes
plain-conceals = refl

-- ---- the sequences of a start and an end

-- the code of parameters that are a code takes effect
abbrev IsKept : Parameters → Type 0
IsKept (Code code) = is_kept_code code ≡ true
IsKept (Indexed layer n) = Unit {0}
IsKept (Direct layer r g b) = Unit {0}

abbrev IsKeptIf : Option Parameters → Type 0
IsKeptIf o = IfSome o IsKept

has-parameters : (parameters : List ℕ) (found : Option (List ℕ)) → sgr_parameters (27 ∷ 91 ∷ (parameters ++ 109 ∷ [])) ≡ found → IsSome found → found ≡ Some parameters
has-parameters parameters None e some = cc some
has-parameters parameters (Some other) e some =
    let form = (sequence_from-sgr_parameters (27 ∷ 91 ∷ (parameters ++ 109 ∷ [])) other e).0 in
    let same : parameters ++ 109 ∷ [] ≡ other ++ 109 ∷ [] = cc form in
    ap (λ bytes. Some bytes) (sym (append_cancel_right parameters other (109 ∷ []) same))

read-parameters : (p : Parameters) → IsReadable p → sgr_parameters (sequence_bytes p) ≡ Some (parameter_bytes p)
read-parameters p readable =
    has-parameters (parameter_bytes p) (sgr_parameters (sequence_bytes p)) refl
    (All-head (λ bytes. IsSome (sgr_parameters bytes)) (sequence_bytes p) [] (sequences_are_read (Some p ∷ []) (readable, tt)))

other-code : (color kept : Bool) (with_color : Bool) → color ≡ false → kept ≡ true → (if color then with_color else (kept && true)) ≡ true
other-code true kept with_color none is = cc none
other-code false kept with_color none is = ap (λ t. t && true) is

layer-fits : (layer : Layer) → layer_code layer < 256
layer-fits Foreground = omega arith
layer-fits Background = omega arith
layer-fits Underline = omega arith

index-kept : (layer : Layer) (n : ℕ) → are_settings (Some (layer_code layer) ∷ Some 5 ∷ Some n ∷ []) ≡ true
index-kept Foreground n = refl
index-kept Background n = refl
index-kept Underline n = refl

rgb-kept : (layer : Layer) (r g b : ℕ) → are_settings (Some (layer_code layer) ∷ Some 2 ∷ Some r ∷ Some g ∷ Some b ∷ []) ≡ true
rgb-kept Foreground r g b = refl
rgb-kept Background r g b = refl
rgb-kept Underline r g b = refl

parameters-kept : (p : Parameters) → IsReadable p → IsKept p → are_settings (numbers_of (parameter_bytes p)) ≡ true
parameters-kept (Code code) readable kept =
    let parts = and_parts (nat_lt code 256) (not (is_color_code code)) readable in
    let small : code < 256 = grind (arith, nat_tests, parts.0) in
    ap are_settings (numbers_of-decimal code small)
    ∙ other-code (is_color_code code) (is_kept_code code) (begin_with_color []) (not-true (is_color_code code) parts.1) kept
parameters-kept (Indexed layer n) readable kept =
    ap are_settings (numbers_of-cons (layer_code layer) (53 ∷ 59 ∷ decimal n) (layer-fits layer) ∙ ap (λ rest. Some (layer_code layer) ∷ Some 5 ∷ rest) (numbers_of-decimal n readable))
    ∙ index-kept layer n
parameters-kept (Direct layer r g b) readable kept =
    ap are_settings (numbers_of-cons (layer_code layer) (50 ∷ 59 ∷ (decimal r ++ 59 ∷ (decimal g ++ 59 ∷ decimal b))) (layer-fits layer)
    ∙ ap (λ rest. Some (layer_code layer) ∷ Some 2 ∷ rest)
    (numbers_of-cons r (decimal g ++ 59 ∷ decimal b) readable.0
    ∙ ap (λ rest. Some r ∷ rest) (numbers_of-cons g (decimal b) readable.1 ∙ ap (λ rest. Some g ∷ rest) (numbers_of-decimal b readable.2))))
    ∙ rgb-kept layer r g b

sequence-kept : (p : Parameters) → IsReadable p → IsKept p → is_kept_rendition (sequence_bytes p) ≡ true
sequence-kept p readable kept = ap are_kept (read-parameters p readable) ∙ parameters-kept p readable kept

abbrev KeptSequences : List (List ℕ) → Type 0
KeptSequences sequences = AllByRecursion (λ bytes. is_kept_rendition bytes ≡ true) sequences

all-kept : (all : List (Option Parameters)) → AllReadable all → AllByRecursion IsKeptIf all → KeptSequences (sequences_of all)
all-kept [] readable kept = tt
all-kept (None ∷ others) readable kept = all-kept others readable.1 kept.1
all-kept (Some p ∷ others) readable kept = (sequence-kept p readable.0 kept.0, all-kept others readable.1 kept.1)

-- ---- which codes they have

code-kept : (is_set : Bool) (code : ℕ) → is_kept_code code ≡ true → IsKeptIf (code_if is_set code)
code-kept true code kept = kept
code-kept false code kept = tt

in-ranges : (code : ℕ) → code < 256 → is_in_kept_ranges code ≡ true → is_kept_code code ≡ true
in-ranges code small inside = sym (ranges-table code small) ∙ inside

font-kept : (font : Option ℕ) → IfSome font (λ code. IsTrue (is_font_code code)) → IsKeptIf (font_parameters font)
font-kept None is = tt
font-kept (Some code) is = in-ranges code (grind (arith, nat_tests, is)) (grind (arith, nat_tests, is))

color-kept : (is_code : ℕ → Bool) → ((code : ℕ) → is_code code ≡ true → is_kept_code code ≡ true) → (layer : Layer) (color : Option AnsiColor) → IfSome color (IsColor is_code) → IsKeptIf (color_parameters layer color)
color-kept is_code kept layer None is = tt
color-kept is_code kept layer (Some (Bit4 code)) is = kept code is
color-kept is_code kept layer (Some (Bit8 n)) is = tt
color-kept is_code kept layer (Some (Bit24 r g b)) is = tt

foreground-kept : (code : ℕ) → is_foreground_code code ≡ true → is_kept_code code ≡ true
foreground-kept code is = in-ranges code (grind (arith, nat_tests, is)) (grind (arith, nat_tests, is))

background-kept : (code : ℕ) → is_background_code code ≡ true → is_kept_code code ≡ true
background-kept code is = in-ranges code (grind (arith, nat_tests, is)) (grind (arith, nat_tests, is))

no-code-kept : (code : ℕ) → is_no_code code ≡ true → is_kept_code code ≡ true
no-code-kept code is = cc is

hidden-kept : (is_set : Bool) → is_set ≡ false → IsKeptIf (code_if is_set conceal)
hidden-kept true none = cc none
hidden-kept false none = tt

start-kept : (a : Attributes) → IsRendition a → ConcealsNothing a → AllByRecursion IsKeptIf (start_parameters a)
start-kept a r conceals = (
  code-kept a.bold 1 refl,
  (
    code-kept a.faint 2 refl,
    (
      code-kept a.italic 3 refl,
      (
        code-kept a.underline 4 refl,
        (
          code-kept a.slow_blink 5 refl,
          (
            code-kept a.rapid_blink 6 refl,
            (
              code-kept a.inverted 7 refl,
              (
                hidden-kept a.hidden conceals,
                (
                  code-kept a.crossed_out 9 refl,
                  (
                    font-kept a.font r.font,
                    (
                      code-kept a.fraktur 20 refl,
                      (
                        code-kept a.double_underline 21 refl,
                        (
                          code-kept a.proportional_spacing 26 refl,
                          (
                            color-kept is_foreground_code foreground-kept Foreground a.foreground r.foreground,
                            (
                              color-kept is_background_code background-kept Background a.background r.background,
                              (
                                code-kept a.framed 51 refl,
                                (
                                  code-kept a.encircled 52 refl,
                                  (
                                    code-kept a.overlined 53 refl,
                                    (
                                      color-kept is_no_code no-code-kept Underline a.underline_color r.underline_color,
                                      (
                                        code-kept a.ideogram_underline 60 refl,
                                        (
                                          code-kept a.ideogram_double_underline 61 refl,
                                          (
                                            code-kept a.ideogram_overline 62 refl,
                                            (
                                              code-kept a.ideogram_double_overline 63 refl,
                                              (code-kept a.ideogram_stress 64 refl, (code-kept a.superscript 73 refl, (code-kept a.subscript 74 refl, tt))),
                                            ),
                                          ),
                                        ),
                                      ),
                                    ),
                                  ),
                                ),
                              ),
                            ),
                          ),
                        ),
                      ),
                    ),
                  ),
                ),
              ),
            ),
          ),
        ),
      ),
    ),
  ),
)

cleared-kept : (a : Attributes) (clears : List ℕ) → list_all is_kept_code clears ≡ true → AllByRecursion IsKeptIf (map (λ code. code_if (any_set a (rows_cleared_by code)) code) clears)
cleared-kept a [] all = tt
cleared-kept a (code ∷ others) all =
    let parts = and_parts (is_kept_code code) (list_all is_kept_code others) all in
    (code-kept (any_set a (rows_cleared_by code)) code parts.0, cleared-kept a others parts.1)

end-kept : (a : Attributes) → AllByRecursion IsKeptIf (end_parameters a)
end-kept a = cleared-kept a clearing_codes refl

starts-kept : (a : Attributes) → IsRendition a → ConcealsNothing a → KeptSequences (start_sequences a)
unfolding start_sequences
starts-kept a r conceals = all-kept (start_parameters a) (start_is_readable a r) (start-kept a r conceals)

ends-kept : (a : Attributes) → KeptSequences (end_sequences a)
unfolding end_sequences
ends-kept a = all-kept (end_parameters a) (end_is_readable a) (end-kept a)

-- ---- where not all escapes take effect

has-parameters_kept : (found : Option (List ℕ)) → are_kept found ≡ true → IsSome found
has-parameters_kept None kept = cc kept
has-parameters_kept (Some parameters) kept = refl

pub kept-read : (bytes : List ℕ) → is_kept_rendition bytes ≡ true → IsSome (sgr_parameters bytes)
kept-read bytes kept = has-parameters_kept (sgr_parameters bytes) kept

-- the styles that the sequences of a field that is cleaned leave
abbrev pub IsLeft : Escapes → Attributes → Type 0
IsLeft AllEscapes style = Unit {0}
IsLeft Colors style = IsRendition style × ConcealsNothing style
IsLeft NoEscapes style = style ≡ plain_attributes

abbrev pub MayStand : Escapes → List ℕ → Type 0
MayStand escapes bytes = IsTrue (may_stand escapes bytes)

no-sequences : (sequences : List (List ℕ)) → sequences ≡ [] → AllByRecursion (MayStand NoEscapes) sequences
no-sequences [] none = tt
no-sequences (bytes ∷ others) none = cc none

pub closed-escapes : (escapes : Escapes) → (escapes ≡ AllEscapes → ⊥) → AreClosed (MayStand escapes) (IsLeft escapes)
closed-escapes AllEscapes not_all = absurd (not_all refl)
closed-escapes Colors not_all = record {
  read = kept-read;
  plain = (IsRendition-plain, plain-conceals);
  after = λ style bytes kept is. (IsRendition-applied style bytes is.0, kept-conceals style bytes kept is.1);
  starts = λ style is. starts-kept style is.0 is.1;
  ends = λ style is. ends-kept style;
}
closed-escapes NoEscapes not_all = record {
  read = λ bytes none. cc none;
  plain = refl;
  after = λ style bytes none is. cc none;
  starts = λ style is. no-sequences (start_sequences style) (ap start_sequences is ∙ start_sequences-plain);
  ends = λ style is. no-sequences (end_sequences style) (ap end_sequences is ∙ end_sequences-plain);
}
