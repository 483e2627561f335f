-- How many bytes a start and an end take.
use Rattle.std.proofs.Common.{ℕ, ◌+◌, ◌^◌, ◌<◌, ◌≤◌, lit<, Bool, true, false, ◌||◌, Option, None, Some, List, [], ◌∷◌, ◌++◌, ap, arith, length, length-append, append-nil, nat_le}
use Rattle.std.specs.Prelude.{IsTrue, IfSome, is_some}
use Rattle.std.specs.List.{concat}
use Rattle.std.specs.Fmt.{decimal}
use Rattle.std.proofs.lemmas.Fmt.{length-decimal-le}
use Rattle.std.proofs.lemmas.List.Folds.{concat-append}
use Rattle.std.proofs.lemmas.Bool.{and_parts, leb-true}
use Rattle.ansi_scan.proofs.StyleLemmas.Reading.{IsReadable, IsReadableIf, code_fits}
use Rattle.ansi_scan.proofs.StyleLemmas.Merging.{foreground_is_readable, background_is_readable, underline_color_is_readable}
use Rattle.ansi_scan.specs.declared.style.next.Layer.{Layer}
use Rattle.ansi_scan.specs.declared.style.next.Layer.TheVariants.{Foreground, Background, Underline}
use Rattle.ansi_scan.specs.declared.style.sequences.Parameters.{Parameters}
use Rattle.ansi_scan.specs.declared.style.sequences.Parameters.TheVariants.{Code, Indexed, Direct}
use Rattle.ansi_scan.specs.Styles.Attributes.{Attributes, is_font_code, IsRendition}
use Rattle.ansi_scan.specs.Styles.Sequences.{layer_code, parameter_bytes, sequence_if, sequences_of, code_if, font_parameters, start_parameters, end_parameters, has_ideogram_mark, start_sequences, start_bytes, end_sequences, end_bytes}

-- the sequences of these parameters take at most so many bytes
record TakeAtMost (os : List (Option Parameters)) (n : ℕ) : Type 0 where
  bound : length (concat (sequences_of os)) ≤ n

nothing : TakeAtMost [] 0
nothing = record { bound = omega arith }

longer : {o : Option Parameters} {os : List (Option Parameters)} {k n : ℕ} → length (concat (sequence_if o)) ≤ k → TakeAtMost os n → TakeAtMost (o ∷ os) (k + n)
longer {o} {os} first others = record {
  bound = omega (arith, others.bound, first, ap length (concat-append (sequence_if o) (sequences_of os)), length-append (concat (sequence_if o)) (concat (sequences_of os)));
}

-- a sequence takes three bytes more than its parameters
sequence_length : (p : Parameters) (k : ℕ) → length (parameter_bytes p) ≤ k → length (concat (sequence_if (Some p))) ≤ k + 3
sequence_length p k fits =
    omega (arith, fits, ap length (append-nil (parameter_bytes p ++ (109 ∷ []))), length-append (parameter_bytes p) (109 ∷ []))

code_length : (given : Bool) (code k : ℕ) → 0 < k → code < 10 ^ k → code < 2 ^ 64 → length (concat (sequence_if (code_if given code))) ≤ k + 3
code_length true code k some digits fits = sequence_length (Code code) k (length-decimal-le k code some digits fits)
code_length false code k some digits fits = omega arith

three : (n : ℕ) → n < 256 → length (decimal n) ≤ 3
three n fits = length-decimal-le 3 n (lit< tt) (omega arith) (omega arith)

layer_length : (layer : Layer) → length (decimal (layer_code layer)) ≤ 2
layer_length Foreground = length-decimal-le 2 38 (lit< tt) (lit< tt) (lit< tt)
layer_length Background = length-decimal-le 2 48 (lit< tt) (lit< tt) (lit< tt)
layer_length Underline = length-decimal-le 2 58 (lit< tt) (lit< tt) (lit< tt)

-- parameters take at most 16 bytes
parameters_length : (p : Parameters) → IsReadable p → length (parameter_bytes p) ≤ 16
parameters_length (Code code) fits = omega (arith, three code (code_fits code fits))
parameters_length (Indexed layer n) fits =
    omega (arith, layer_length layer, three n fits, length-append (decimal (layer_code layer)) (59 ∷ 53 ∷ 59 ∷ decimal n))
parameters_length (Direct layer r g b) fits =
    omega (
      arith,
      layer_length layer,
      three r fits.0,
      three g fits.1,
      three b fits.2,
      length-append (decimal (layer_code layer)) (59 ∷ 50 ∷ 59 ∷ (decimal r ++ 59 ∷ (decimal g ++ 59 ∷ decimal b))),
      length-append (decimal r) (59 ∷ (decimal g ++ 59 ∷ decimal b)),
      length-append (decimal g) (59 ∷ decimal b),
    )

color_length : (o : Option Parameters) → IsReadableIf o → length (concat (sequence_if o)) ≤ 19
color_length None fits = omega arith
color_length (Some p) fits = sequence_length p 16 (parameters_length p fits)

font_length : (font : Option ℕ) → IfSome font (λ code. IsTrue (is_font_code code)) → length (concat (sequence_if (font_parameters font))) ≤ 5
font_length None fits = omega arith
font_length (Some code) fits =
    let small : code ≤ 19 = leb-true code 19 (and_parts (nat_le 11 code) (nat_le code 19) fits).1 in
    sequence_length (Code code) 2 (length-decimal-le 2 code (lit< tt) (omega arith) (omega arith))

start_takes : (a : Attributes) → IsRendition a → TakeAtMost (start_parameters a) 163
start_takes a r =
    longer (code_length a.bold 1 1 (lit< tt) (lit< tt) (lit< tt))
    (longer (code_length a.faint 2 1 (lit< tt) (lit< tt) (lit< tt))
    (longer (code_length a.italic 3 1 (lit< tt) (lit< tt) (lit< tt))
    (longer (code_length a.underline 4 1 (lit< tt) (lit< tt) (lit< tt))
    (longer (code_length a.slow_blink 5 1 (lit< tt) (lit< tt) (lit< tt))
    (longer (code_length a.rapid_blink 6 1 (lit< tt) (lit< tt) (lit< tt))
    (longer (code_length a.inverted 7 1 (lit< tt) (lit< tt) (lit< tt))
    (longer (code_length a.hidden 8 1 (lit< tt) (lit< tt) (lit< tt))
    (longer (code_length a.crossed_out 9 1 (lit< tt) (lit< tt) (lit< tt))
    (longer (font_length a.font r.font)
    (longer (code_length a.fraktur 20 2 (lit< tt) (lit< tt) (lit< tt))
    (longer (code_length a.double_underline 21 2 (lit< tt) (lit< tt) (lit< tt))
    (longer (code_length a.proportional_spacing 26 2 (lit< tt) (lit< tt) (lit< tt))
    (longer (color_length _ (foreground_is_readable a.foreground r.foreground))
    (longer (color_length _ (background_is_readable a.background r.background))
    (longer (code_length a.framed 51 2 (lit< tt) (lit< tt) (lit< tt))
    (longer (code_length a.encircled 52 2 (lit< tt) (lit< tt) (lit< tt))
    (longer (code_length a.overlined 53 2 (lit< tt) (lit< tt) (lit< tt))
    (longer (color_length _ (underline_color_is_readable a.underline_color r.underline_color))
    (longer (code_length a.ideogram_underline 60 2 (lit< tt) (lit< tt) (lit< tt))
    (longer (code_length a.ideogram_double_underline 61 2 (lit< tt) (lit< tt) (lit< tt))
    (longer (code_length a.ideogram_overline 62 2 (lit< tt) (lit< tt) (lit< tt))
    (longer (code_length a.ideogram_double_overline 63 2 (lit< tt) (lit< tt) (lit< tt))
    (longer (code_length a.ideogram_stress 64 2 (lit< tt) (lit< tt) (lit< tt))
    (longer (code_length a.superscript 73 2 (lit< tt) (lit< tt) (lit< tt))
    (longer (code_length a.subscript 74 2 (lit< tt) (lit< tt) (lit< tt)) nothing)))))))))))))))))))))))))

pub length-start_bytes : (a : Attributes) → IsRendition a → length (start_bytes a) ≤ 163
unfolding start_bytes start_sequences
length-start_bytes a r = (start_takes a r).bound

end_takes : (a : Attributes) → TakeAtMost (end_parameters a) 80
end_takes a =
    longer (code_length (is_some a.font) 10 2 (lit< tt) (lit< tt) (lit< tt))
    (longer (code_length (a.bold || a.faint) 22 2 (lit< tt) (lit< tt) (lit< tt))
    (longer (code_length (a.italic || a.fraktur) 23 2 (lit< tt) (lit< tt) (lit< tt))
    (longer (code_length (a.underline || a.double_underline) 24 2 (lit< tt) (lit< tt) (lit< tt))
    (longer (code_length (a.slow_blink || a.rapid_blink) 25 2 (lit< tt) (lit< tt) (lit< tt))
    (longer (code_length a.inverted 27 2 (lit< tt) (lit< tt) (lit< tt))
    (longer (code_length a.hidden 28 2 (lit< tt) (lit< tt) (lit< tt))
    (longer (code_length a.crossed_out 29 2 (lit< tt) (lit< tt) (lit< tt))
    (longer (code_length (is_some a.foreground) 39 2 (lit< tt) (lit< tt) (lit< tt))
    (longer (code_length (is_some a.background) 49 2 (lit< tt) (lit< tt) (lit< tt))
    (longer (code_length a.proportional_spacing 50 2 (lit< tt) (lit< tt) (lit< tt))
    (longer (code_length (a.framed || a.encircled) 54 2 (lit< tt) (lit< tt) (lit< tt))
    (longer (code_length a.overlined 55 2 (lit< tt) (lit< tt) (lit< tt))
    (longer (code_length (is_some a.underline_color) 59 2 (lit< tt) (lit< tt) (lit< tt))
    (longer (code_length (has_ideogram_mark a) 65 2 (lit< tt) (lit< tt) (lit< tt))
    (longer (code_length (a.superscript || a.subscript) 75 2 (lit< tt) (lit< tt) (lit< tt)) nothing)))))))))))))))

pub length-end_bytes : (a : Attributes) → length (end_bytes a) ≤ 80
unfolding end_bytes end_sequences
length-end_bytes a = (end_takes a).bound
