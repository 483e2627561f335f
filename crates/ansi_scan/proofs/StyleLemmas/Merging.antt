-- What reading a start adds to the attributes that are set, and what reading an end takes away.
use Rattle.std.proofs.Common.{◌≡◌, ℕ, Bool, true, false, not, ◌&&◌, ◌||◌, Option, None, Some, List, [], ◌∷◌, refl, ap, ◌∙◌, fold, ◌==◌, if◌then◌else◌, inl, inr, nat_le}
use Rattle.std.specs.Prelude.{IsTrue, IfSome, is_some}
use Rattle.std.specs.Option.{option_or}
use Rattle.std.proofs.lemmas.Bool.{or_cases, false≢true}
use Rattle.ansi_scan.proofs.StyleLemmas.Ranges.{Each, each_in_range}
use Rattle.ansi_scan.proofs.StyleLemmas.Reading.{stands_alone, IsReadableIf, AllReadable, after_given_if}
use Rattle.ansi_scan.specs.declared.style.color.AnsiColor.{AnsiColor}
use Rattle.ansi_scan.specs.declared.style.color.AnsiColor.TheVariants.{Bit4, Bit8, Bit24}
use Rattle.ansi_scan.specs.declared.style.next.Layer.TheVariants.{Foreground, Background, Underline}
use Rattle.ansi_scan.specs.declared.style.sequences.Parameters.{Parameters}
use Rattle.ansi_scan.specs.Styles.Attributes.{Attributes, plain_attributes, after_code, is_font_code, is_foreground_code, is_background_code, is_no_code, IsColor, IsRendition}
use Rattle.ansi_scan.specs.Styles.Sequences.{code_if, font_parameters, color_parameters, start_parameters, end_parameters, has_ideogram_mark}

-- a flag after a code that is read only where it is given
abbrev flag_if : ℕ → ℕ → ℕ → Bool → Bool → Bool
flag_if sets clears code given was_set =
    if code == sets then given || was_set else (if code == clears || code == 0 then not given && was_set else was_set)

-- the same of what is set to a value: a code that sets it, or that clears it
abbrev value_if : {V : Type 0} → Bool → Bool → V → Bool → Option V → Option V
value_if is_set is_cleared value given was =
    if is_set then (if given then Some value else was) else (if is_cleared then (if given then None else was) else was)

-- the attributes after a code that is read only where it is given
abbrev after_code_if : Attributes → ℕ → Bool → Attributes
after_code_if a code given = record {
  bold = flag_if 1 22 code given a.bold;
  faint = flag_if 2 22 code given a.faint;
  italic = flag_if 3 23 code given a.italic;
  underline = flag_if 4 24 code given a.underline;
  slow_blink = flag_if 5 25 code given a.slow_blink;
  rapid_blink = flag_if 6 25 code given a.rapid_blink;
  inverted = flag_if 7 27 code given a.inverted;
  hidden = flag_if 8 28 code given a.hidden;
  crossed_out = flag_if 9 29 code given a.crossed_out;
  font = value_if (is_font_code code) (code == 10 || code == 0) code given a.font;
  fraktur = flag_if 20 23 code given a.fraktur;
  double_underline = flag_if 21 24 code given a.double_underline;
  proportional_spacing = flag_if 26 50 code given a.proportional_spacing;
  foreground = value_if (is_foreground_code code) (code == 39 || code == 0) (Bit4 code) given a.foreground;
  background = value_if (is_background_code code) (code == 49 || code == 0) (Bit4 code) given a.background;
  framed = flag_if 51 54 code given a.framed;
  encircled = flag_if 52 54 code given a.encircled;
  overlined = flag_if 53 55 code given a.overlined;
  underline_color = if code == 59 || code == 0 then (if given then None else a.underline_color) else a.underline_color;
  ideogram_underline = flag_if 60 65 code given a.ideogram_underline;
  ideogram_double_underline = flag_if 61 65 code given a.ideogram_double_underline;
  ideogram_overline = flag_if 62 65 code given a.ideogram_overline;
  ideogram_double_overline = flag_if 63 65 code given a.ideogram_double_overline;
  ideogram_stress = flag_if 64 65 code given a.ideogram_stress;
  superscript = flag_if 73 75 code given a.superscript;
  subscript = flag_if 74 75 code given a.subscript;
}

same_whatever : {V : Type 0} (b c : Bool) (v : V) → v ≡ (if b then v else (if c then v else v))
same_whatever true c v = refl
same_whatever false true v = refl
same_whatever false false v = refl

same_at_both : {V : Type 0} (b : Bool) (v : V) → v ≡ (if b then v else v)
same_at_both true v = refl
same_at_both false v = refl

not_given : (a : Attributes) (code : ℕ) → a ≡ after_code_if a code false
not_given a code = λ i. record {
  bold = same_whatever (code == 1) (code == 22 || code == 0) a.bold i;
  faint = same_whatever (code == 2) (code == 22 || code == 0) a.faint i;
  italic = same_whatever (code == 3) (code == 23 || code == 0) a.italic i;
  underline = same_whatever (code == 4) (code == 24 || code == 0) a.underline i;
  slow_blink = same_whatever (code == 5) (code == 25 || code == 0) a.slow_blink i;
  rapid_blink = same_whatever (code == 6) (code == 25 || code == 0) a.rapid_blink i;
  inverted = same_whatever (code == 7) (code == 27 || code == 0) a.inverted i;
  hidden = same_whatever (code == 8) (code == 28 || code == 0) a.hidden i;
  crossed_out = same_whatever (code == 9) (code == 29 || code == 0) a.crossed_out i;
  font = same_whatever (is_font_code code) (code == 10 || code == 0) a.font i;
  fraktur = same_whatever (code == 20) (code == 23 || code == 0) a.fraktur i;
  double_underline = same_whatever (code == 21) (code == 24 || code == 0) a.double_underline i;
  proportional_spacing = same_whatever (code == 26) (code == 50 || code == 0) a.proportional_spacing i;
  foreground = same_whatever (is_foreground_code code) (code == 39 || code == 0) a.foreground i;
  background = same_whatever (is_background_code code) (code == 49 || code == 0) a.background i;
  framed = same_whatever (code == 51) (code == 54 || code == 0) a.framed i;
  encircled = same_whatever (code == 52) (code == 54 || code == 0) a.encircled i;
  overlined = same_whatever (code == 53) (code == 55 || code == 0) a.overlined i;
  underline_color = same_at_both (code == 59 || code == 0) a.underline_color i;
  ideogram_underline = same_whatever (code == 60) (code == 65 || code == 0) a.ideogram_underline i;
  ideogram_double_underline = same_whatever (code == 61) (code == 65 || code == 0) a.ideogram_double_underline i;
  ideogram_overline = same_whatever (code == 62) (code == 65 || code == 0) a.ideogram_overline i;
  ideogram_double_overline = same_whatever (code == 63) (code == 65 || code == 0) a.ideogram_double_overline i;
  ideogram_stress = same_whatever (code == 64) (code == 65 || code == 0) a.ideogram_stress i;
  superscript = same_whatever (code == 73) (code == 75 || code == 0) a.superscript i;
  subscript = same_whatever (code == 74) (code == 75 || code == 0) a.subscript i;
}

pub after_given_if-code_if : (a : Attributes) (given : Bool) (code : ℕ) → after_given_if a (code_if given code) ≡ after_code_if a code given
unfolding after_given_if
after_given_if-code_if a true code = refl
after_given_if-code_if a false code = not_given a code

pub after_given_if-font : (a : Attributes) (font : Option ℕ) → IfSome font (λ code. IsTrue (is_font_code code)) → after_given_if a (font_parameters font) ≡ record a { font = option_or font a.font }
unfolding after_given_if
after_given_if-font a None fits = refl
after_given_if-font a (Some code) fits =
    each_in_range (λ n. after_code a n ≡ record a { font = Some n }) 11 19
    (refl, (refl, (refl, (refl, (refl, (refl, (refl, (refl, (refl, tt)))))))))
    code fits

foreground_code : (P : ℕ → Type 0) → Each P 30 8 → Each P 90 8 → (code : ℕ) → IsTrue (is_foreground_code code) → P code
foreground_code P dark bright code fits =
    elim (or_cases (nat_le 30 code && nat_le code 37) (nat_le 90 code && nat_le code 97) fits) [
      | inl inside ↦ each_in_range P 30 37 dark code inside
      | inr inside ↦ each_in_range P 90 97 bright code inside
    ]

pub after_given_if-foreground : (a : Attributes) (color : Option AnsiColor) → IfSome color (IsColor is_foreground_code) → after_given_if a (color_parameters Foreground color) ≡ record a { foreground = option_or color a.foreground }
unfolding after_given_if
after_given_if-foreground a None fits = refl
after_given_if-foreground a (Some (Bit4 code)) fits =
    foreground_code (λ n. after_code a n ≡ record a { foreground = Some (Bit4 n) })
    (refl, (refl, (refl, (refl, (refl, (refl, (refl, (refl, tt))))))))
    (refl, (refl, (refl, (refl, (refl, (refl, (refl, (refl, tt))))))))
    code fits
after_given_if-foreground a (Some (Bit8 n)) fits = refl
after_given_if-foreground a (Some (Bit24 r g b)) fits = refl

pub foreground_is_readable : (color : Option AnsiColor) → IfSome color (IsColor is_foreground_code) → IsReadableIf (color_parameters Foreground color)
foreground_is_readable None fits = tt
foreground_is_readable (Some (Bit4 code)) fits =
    foreground_code (λ n. IsTrue (stands_alone n))
    (refl, (refl, (refl, (refl, (refl, (refl, (refl, (refl, tt))))))))
    (refl, (refl, (refl, (refl, (refl, (refl, (refl, (refl, tt))))))))
    code fits
foreground_is_readable (Some (Bit8 n)) fits = fits
foreground_is_readable (Some (Bit24 r g b)) fits = fits

background_code : (P : ℕ → Type 0) → Each P 40 8 → Each P 100 8 → (code : ℕ) → IsTrue (is_background_code code) → P code
background_code P dark bright code fits =
    elim (or_cases (nat_le 40 code && nat_le code 47) (nat_le 100 code && nat_le code 107) fits) [
      | inl inside ↦ each_in_range P 40 47 dark code inside
      | inr inside ↦ each_in_range P 100 107 bright code inside
    ]

pub after_given_if-background : (a : Attributes) (color : Option AnsiColor) → IfSome color (IsColor is_background_code) → after_given_if a (color_parameters Background color) ≡ record a { background = option_or color a.background }
unfolding after_given_if
after_given_if-background a None fits = refl
after_given_if-background a (Some (Bit4 code)) fits =
    background_code (λ n. after_code a n ≡ record a { background = Some (Bit4 n) })
    (refl, (refl, (refl, (refl, (refl, (refl, (refl, (refl, tt))))))))
    (refl, (refl, (refl, (refl, (refl, (refl, (refl, (refl, tt))))))))
    code fits
after_given_if-background a (Some (Bit8 n)) fits = refl
after_given_if-background a (Some (Bit24 r g b)) fits = refl

pub background_is_readable : (color : Option AnsiColor) → IfSome color (IsColor is_background_code) → IsReadableIf (color_parameters Background color)
background_is_readable None fits = tt
background_is_readable (Some (Bit4 code)) fits =
    background_code (λ n. IsTrue (stands_alone n))
    (refl, (refl, (refl, (refl, (refl, (refl, (refl, (refl, tt))))))))
    (refl, (refl, (refl, (refl, (refl, (refl, (refl, (refl, tt))))))))
    code fits
background_is_readable (Some (Bit8 n)) fits = fits
background_is_readable (Some (Bit24 r g b)) fits = fits

pub after_given_if-underline_color : (a : Attributes) (color : Option AnsiColor) → IfSome color (IsColor is_no_code) → after_given_if a (color_parameters Underline color) ≡ record a { underline_color = option_or color a.underline_color }
unfolding after_given_if
after_given_if-underline_color a None fits = refl
after_given_if-underline_color a (Some (Bit4 code)) fits = absurd (false≢true fits)
after_given_if-underline_color a (Some (Bit8 n)) fits = refl
after_given_if-underline_color a (Some (Bit24 r g b)) fits = refl

pub underline_color_is_readable : (color : Option AnsiColor) → IfSome color (IsColor is_no_code) → IsReadableIf (color_parameters Underline color)
underline_color_is_readable None fits = tt
underline_color_is_readable (Some (Bit4 code)) fits = absurd (false≢true fits)
underline_color_is_readable (Some (Bit8 n)) fits = fits
underline_color_is_readable (Some (Bit24 r g b)) fits = fits

font_is_readable : (font : Option ℕ) → IfSome font (λ code. IsTrue (is_font_code code)) → IsReadableIf (font_parameters font)
font_is_readable None fits = tt
font_is_readable (Some code) fits =
    each_in_range (λ n. IsTrue (stands_alone n)) 11 19
    (refl, (refl, (refl, (refl, (refl, (refl, (refl, (refl, (refl, tt)))))))))
    code fits

code_is_readable : (given : Bool) (code : ℕ) → IsTrue (stands_alone code) → IsReadableIf (code_if given code)
code_is_readable true code alone = alone
code_is_readable false code alone = tt

-- what a start or an end prints can be read
pub start_is_readable : (a : Attributes) → IsRendition a → AllReadable (start_parameters a)
start_is_readable a r = (
  code_is_readable a.bold 1 refl,
  (
    code_is_readable a.faint 2 refl,
    (
      code_is_readable a.italic 3 refl,
      (
        code_is_readable a.underline 4 refl,
        (
          code_is_readable a.slow_blink 5 refl,
          (
            code_is_readable a.rapid_blink 6 refl,
            (
              code_is_readable a.inverted 7 refl,
              (
                code_is_readable a.hidden 8 refl,
                (
                  code_is_readable a.crossed_out 9 refl,
                  (
                    font_is_readable a.font r.font,
                    (
                      code_is_readable a.fraktur 20 refl,
                      (
                        code_is_readable a.double_underline 21 refl,
                        (
                          code_is_readable a.proportional_spacing 26 refl,
                          (
                            foreground_is_readable a.foreground r.foreground,
                            (
                              background_is_readable a.background r.background,
                              (
                                code_is_readable a.framed 51 refl,
                                (
                                  code_is_readable a.encircled 52 refl,
                                  (
                                    code_is_readable a.overlined 53 refl,
                                    (
                                      underline_color_is_readable a.underline_color r.underline_color,
                                      (
                                        code_is_readable a.ideogram_underline 60 refl,
                                        (
                                          code_is_readable a.ideogram_double_underline 61 refl,
                                          (
                                            code_is_readable a.ideogram_overline 62 refl,
                                            (
                                              code_is_readable a.ideogram_double_overline 63 refl,
                                              (
                                                code_is_readable a.ideogram_stress 64 refl,
                                                (
                                                  code_is_readable a.superscript 73 refl,
                                                  (code_is_readable a.subscript 74 refl, tt),
                                                ),
                                              ),
                                            ),
                                          ),
                                        ),
                                      ),
                                    ),
                                  ),
                                ),
                              ),
                            ),
                          ),
                        ),
                      ),
                    ),
                  ),
                ),
              ),
            ),
          ),
        ),
      ),
    ),
  ),
)

pub end_is_readable : (a : Attributes) → AllReadable (end_parameters a)
end_is_readable a = (
  code_is_readable (is_some a.font) 10 refl,
  (
    code_is_readable (a.bold || a.faint) 22 refl,
    (
      code_is_readable (a.italic || a.fraktur) 23 refl,
      (
        code_is_readable (a.underline || a.double_underline) 24 refl,
        (
          code_is_readable (a.slow_blink || a.rapid_blink) 25 refl,
          (
            code_is_readable a.inverted 27 refl,
            (
              code_is_readable a.hidden 28 refl,
              (
                code_is_readable a.crossed_out 29 refl,
                (
                  code_is_readable (is_some a.foreground) 39 refl,
                  (
                    code_is_readable (is_some a.background) 49 refl,
                    (
                      code_is_readable a.proportional_spacing 50 refl,
                      (
                        code_is_readable (a.framed || a.encircled) 54 refl,
                        (
                          code_is_readable a.overlined 55 refl,
                          (
                            code_is_readable (is_some a.underline_color) 59 refl,
                            (
                              code_is_readable (has_ideogram_mark a) 65 refl,
                              (code_is_readable (a.superscript || a.subscript) 75 refl, tt),
                            ),
                          ),
                        ),
                      ),
                    ),
                  ),
                ),
              ),
            ),
          ),
        ),
      ),
    ),
  ),
)

-- the attributes after a list of parameters
record Reads (a : Attributes) (os : List (Option Parameters)) (c : Attributes) : Type 0 where
  reads : fold after_given_if a os ≡ c

-- one of the list, and then the others
next : {a b c : Attributes} {o : Option Parameters} {os : List (Option Parameters)} → after_given_if a o ≡ b → Reads b os c → Reads a (o ∷ os) c
next {a} {b} {c} {o} {os} first others = record { reads = ap (λ d. fold after_given_if d os) first ∙ others.reads }

none_next : {a : Attributes} → Reads a [] a
none_next = record { reads = refl }

-- what is set in one of two, and in the first where both set a value
abbrev pub merged : Attributes → Attributes → Attributes
merged a b = record {
  bold = a.bold || b.bold;
  faint = a.faint || b.faint;
  italic = a.italic || b.italic;
  underline = a.underline || b.underline;
  slow_blink = a.slow_blink || b.slow_blink;
  rapid_blink = a.rapid_blink || b.rapid_blink;
  inverted = a.inverted || b.inverted;
  hidden = a.hidden || b.hidden;
  crossed_out = a.crossed_out || b.crossed_out;
  font = option_or a.font b.font;
  fraktur = a.fraktur || b.fraktur;
  double_underline = a.double_underline || b.double_underline;
  proportional_spacing = a.proportional_spacing || b.proportional_spacing;
  foreground = option_or a.foreground b.foreground;
  background = option_or a.background b.background;
  framed = a.framed || b.framed;
  encircled = a.encircled || b.encircled;
  overlined = a.overlined || b.overlined;
  underline_color = option_or a.underline_color b.underline_color;
  ideogram_underline = a.ideogram_underline || b.ideogram_underline;
  ideogram_double_underline = a.ideogram_double_underline || b.ideogram_double_underline;
  ideogram_overline = a.ideogram_overline || b.ideogram_overline;
  ideogram_double_overline = a.ideogram_double_overline || b.ideogram_double_overline;
  ideogram_stress = a.ideogram_stress || b.ideogram_stress;
  superscript = a.superscript || b.superscript;
  subscript = a.subscript || b.subscript;
}

start_reads : (a b : Attributes) → IsRendition a → Reads b (start_parameters a) (merged a b)
start_reads a b r =
    next (after_given_if-code_if _ a.bold 1)
    (next (after_given_if-code_if _ a.faint 2)
    (next (after_given_if-code_if _ a.italic 3)
    (next (after_given_if-code_if _ a.underline 4)
    (next (after_given_if-code_if _ a.slow_blink 5)
    (next (after_given_if-code_if _ a.rapid_blink 6)
    (next (after_given_if-code_if _ a.inverted 7)
    (next (after_given_if-code_if _ a.hidden 8)
    (next (after_given_if-code_if _ a.crossed_out 9)
    (next (after_given_if-font _ a.font r.font)
    (next (after_given_if-code_if _ a.fraktur 20)
    (next (after_given_if-code_if _ a.double_underline 21)
    (next (after_given_if-code_if _ a.proportional_spacing 26)
    (next (after_given_if-foreground _ a.foreground r.foreground)
    (next (after_given_if-background _ a.background r.background)
    (next (after_given_if-code_if _ a.framed 51)
    (next (after_given_if-code_if _ a.encircled 52)
    (next (after_given_if-code_if _ a.overlined 53)
    (next (after_given_if-underline_color _ a.underline_color r.underline_color)
    (next (after_given_if-code_if _ a.ideogram_underline 60)
    (next (after_given_if-code_if _ a.ideogram_double_underline 61)
    (next (after_given_if-code_if _ a.ideogram_overline 62)
    (next (after_given_if-code_if _ a.ideogram_double_overline 63)
    (next (after_given_if-code_if _ a.ideogram_stress 64)
    (next (after_given_if-code_if _ a.superscript 73)
    (next (after_given_if-code_if _ a.subscript 74) none_next)))))))))))))))))))))))))

-- a start that is read adds what its style sets
pub fold-start_parameters : (a b : Attributes) → IsRendition a → fold after_given_if b (start_parameters a) ≡ merged a b
fold-start_parameters a b r = (start_reads a b r).reads

same_or_none : {V : Type 0} (o : Option V) → option_or o None ≡ o
same_or_none None = refl
same_or_none (Some v) = refl

same_or_same : {V : Type 0} (o : Option V) → option_or o o ≡ o
same_or_same None = refl
same_or_same (Some v) = refl

same_or_false : (b : Bool) → (b || false) ≡ b
same_or_false true = refl
same_or_false false = refl

same_or_self : (b : Bool) → (b || b) ≡ b
same_or_self true = refl
same_or_self false = refl

pub merged-plain : (a : Attributes) → merged a plain_attributes ≡ a
unfolding plain_attributes
merged-plain a = λ i. record {
  bold = same_or_false a.bold i;
  faint = same_or_false a.faint i;
  italic = same_or_false a.italic i;
  underline = same_or_false a.underline i;
  slow_blink = same_or_false a.slow_blink i;
  rapid_blink = same_or_false a.rapid_blink i;
  inverted = same_or_false a.inverted i;
  hidden = same_or_false a.hidden i;
  crossed_out = same_or_false a.crossed_out i;
  font = same_or_none a.font i;
  fraktur = same_or_false a.fraktur i;
  double_underline = same_or_false a.double_underline i;
  proportional_spacing = same_or_false a.proportional_spacing i;
  foreground = same_or_none a.foreground i;
  background = same_or_none a.background i;
  framed = same_or_false a.framed i;
  encircled = same_or_false a.encircled i;
  overlined = same_or_false a.overlined i;
  underline_color = same_or_none a.underline_color i;
  ideogram_underline = same_or_false a.ideogram_underline i;
  ideogram_double_underline = same_or_false a.ideogram_double_underline i;
  ideogram_overline = same_or_false a.ideogram_overline i;
  ideogram_double_overline = same_or_false a.ideogram_double_overline i;
  ideogram_stress = same_or_false a.ideogram_stress i;
  superscript = same_or_false a.superscript i;
  subscript = same_or_false a.subscript i;
}

pub merged-self : (a : Attributes) → merged a a ≡ a
merged-self a = λ i. record {
  bold = same_or_self a.bold i;
  faint = same_or_self a.faint i;
  italic = same_or_self a.italic i;
  underline = same_or_self a.underline i;
  slow_blink = same_or_self a.slow_blink i;
  rapid_blink = same_or_self a.rapid_blink i;
  inverted = same_or_self a.inverted i;
  hidden = same_or_self a.hidden i;
  crossed_out = same_or_self a.crossed_out i;
  font = same_or_same a.font i;
  fraktur = same_or_self a.fraktur i;
  double_underline = same_or_self a.double_underline i;
  proportional_spacing = same_or_self a.proportional_spacing i;
  foreground = same_or_same a.foreground i;
  background = same_or_same a.background i;
  framed = same_or_self a.framed i;
  encircled = same_or_self a.encircled i;
  overlined = same_or_self a.overlined i;
  underline_color = same_or_same a.underline_color i;
  ideogram_underline = same_or_self a.ideogram_underline i;
  ideogram_double_underline = same_or_self a.ideogram_double_underline i;
  ideogram_overline = same_or_self a.ideogram_overline i;
  ideogram_double_overline = same_or_self a.ideogram_double_overline i;
  ideogram_stress = same_or_self a.ideogram_stress i;
  superscript = same_or_self a.superscript i;
  subscript = same_or_self a.subscript i;
}

-- what is left where what the first sets is cleared
abbrev pub cleared : Attributes → Attributes → Attributes
cleared a b = record {
  bold = not (a.bold || a.faint) && b.bold;
  faint = not (a.bold || a.faint) && b.faint;
  italic = not (a.italic || a.fraktur) && b.italic;
  underline = not (a.underline || a.double_underline) && b.underline;
  slow_blink = not (a.slow_blink || a.rapid_blink) && b.slow_blink;
  rapid_blink = not (a.slow_blink || a.rapid_blink) && b.rapid_blink;
  inverted = not a.inverted && b.inverted;
  hidden = not a.hidden && b.hidden;
  crossed_out = not a.crossed_out && b.crossed_out;
  font = if is_some a.font then None else b.font;
  fraktur = not (a.italic || a.fraktur) && b.fraktur;
  double_underline = not (a.underline || a.double_underline) && b.double_underline;
  proportional_spacing = not a.proportional_spacing && b.proportional_spacing;
  foreground = if is_some a.foreground then None else b.foreground;
  background = if is_some a.background then None else b.background;
  framed = not (a.framed || a.encircled) && b.framed;
  encircled = not (a.framed || a.encircled) && b.encircled;
  overlined = not a.overlined && b.overlined;
  underline_color = if is_some a.underline_color then None else b.underline_color;
  ideogram_underline = not (has_ideogram_mark a) && b.ideogram_underline;
  ideogram_double_underline = not (has_ideogram_mark a) && b.ideogram_double_underline;
  ideogram_overline = not (has_ideogram_mark a) && b.ideogram_overline;
  ideogram_double_overline = not (has_ideogram_mark a) && b.ideogram_double_overline;
  ideogram_stress = not (has_ideogram_mark a) && b.ideogram_stress;
  superscript = not (a.superscript || a.subscript) && b.superscript;
  subscript = not (a.superscript || a.subscript) && b.subscript;
}

end_reads : (a b : Attributes) → Reads b (end_parameters a) (cleared a b)
end_reads a b =
    next (after_given_if-code_if _ (is_some a.font) 10)
    (next (after_given_if-code_if _ (a.bold || a.faint) 22)
    (next (after_given_if-code_if _ (a.italic || a.fraktur) 23)
    (next (after_given_if-code_if _ (a.underline || a.double_underline) 24)
    (next (after_given_if-code_if _ (a.slow_blink || a.rapid_blink) 25)
    (next (after_given_if-code_if _ a.inverted 27)
    (next (after_given_if-code_if _ a.hidden 28)
    (next (after_given_if-code_if _ a.crossed_out 29)
    (next (after_given_if-code_if _ (is_some a.foreground) 39)
    (next (after_given_if-code_if _ (is_some a.background) 49)
    (next (after_given_if-code_if _ a.proportional_spacing 50)
    (next (after_given_if-code_if _ (a.framed || a.encircled) 54)
    (next (after_given_if-code_if _ a.overlined 55)
    (next (after_given_if-code_if _ (is_some a.underline_color) 59)
    (next (after_given_if-code_if _ (has_ideogram_mark a) 65)
    (next (after_given_if-code_if _ (a.superscript || a.subscript) 75) none_next)))))))))))))))

-- an end that is read clears what its style sets
pub fold-end_parameters : (a b : Attributes) → fold after_given_if b (end_parameters a) ≡ cleared a b
fold-end_parameters a b = (end_reads a b).reads

none_left : {V : Type 0} (o : Option V) → (if is_some o then None else o) ≡ None
none_left None = refl
none_left (Some v) = refl

false_if : (b t : Bool) → (b ≡ true → t ≡ true) → (not t && b) ≡ false
false_if true t shows = ap (λ u. not u && true) (shows refl)
false_if false true shows = refl
false_if false false shows = refl

left_shows : (b c : Bool) → b ≡ true → (b || c) ≡ true
left_shows b c is_true = ap (λ u. u || c) is_true

right_shows : (b c : Bool) → c ≡ true → (b || c) ≡ true
right_shows true c is_true = refl
right_shows false c is_true = is_true

pub cleared-self : (a : Attributes) → cleared a a ≡ plain_attributes
unfolding plain_attributes
cleared-self a = λ i. record {
  bold = false_if a.bold (a.bold || a.faint) (left_shows a.bold a.faint) i;
  faint = false_if a.faint (a.bold || a.faint) (right_shows a.bold a.faint) i;
  italic = false_if a.italic (a.italic || a.fraktur) (left_shows a.italic a.fraktur) i;
  underline = false_if a.underline (a.underline || a.double_underline) (left_shows a.underline a.double_underline) i;
  slow_blink = false_if a.slow_blink (a.slow_blink || a.rapid_blink) (left_shows a.slow_blink a.rapid_blink) i;
  rapid_blink = false_if a.rapid_blink (a.slow_blink || a.rapid_blink) (right_shows a.slow_blink a.rapid_blink) i;
  inverted = false_if a.inverted a.inverted (λ h. h) i;
  hidden = false_if a.hidden a.hidden (λ h. h) i;
  crossed_out = false_if a.crossed_out a.crossed_out (λ h. h) i;
  font = none_left a.font i;
  fraktur = false_if a.fraktur (a.italic || a.fraktur) (right_shows a.italic a.fraktur) i;
  double_underline = false_if a.double_underline (a.underline || a.double_underline) (right_shows a.underline a.double_underline) i;
  proportional_spacing = false_if a.proportional_spacing a.proportional_spacing (λ h. h) i;
  foreground = none_left a.foreground i;
  background = none_left a.background i;
  framed = false_if a.framed (a.framed || a.encircled) (left_shows a.framed a.encircled) i;
  encircled = false_if a.encircled (a.framed || a.encircled) (right_shows a.framed a.encircled) i;
  overlined = false_if a.overlined a.overlined (λ h. h) i;
  underline_color = none_left a.underline_color i;
  ideogram_underline = false_if a.ideogram_underline (has_ideogram_mark a) (λ h. left_shows (a.ideogram_underline || a.ideogram_double_underline || a.ideogram_overline || a.ideogram_double_overline) a.ideogram_stress (left_shows (a.ideogram_underline || a.ideogram_double_underline || a.ideogram_overline) a.ideogram_double_overline (left_shows (a.ideogram_underline || a.ideogram_double_underline) a.ideogram_overline (left_shows (a.ideogram_underline) a.ideogram_double_underline (h))))) i;
  ideogram_double_underline = false_if a.ideogram_double_underline (has_ideogram_mark a) (λ h. left_shows (a.ideogram_underline || a.ideogram_double_underline || a.ideogram_overline || a.ideogram_double_overline) a.ideogram_stress (left_shows (a.ideogram_underline || a.ideogram_double_underline || a.ideogram_overline) a.ideogram_double_overline (left_shows (a.ideogram_underline || a.ideogram_double_underline) a.ideogram_overline (right_shows (a.ideogram_underline) a.ideogram_double_underline h)))) i;
  ideogram_overline = false_if a.ideogram_overline (has_ideogram_mark a) (λ h. left_shows (a.ideogram_underline || a.ideogram_double_underline || a.ideogram_overline || a.ideogram_double_overline) a.ideogram_stress (left_shows (a.ideogram_underline || a.ideogram_double_underline || a.ideogram_overline) a.ideogram_double_overline (right_shows (a.ideogram_underline || a.ideogram_double_underline) a.ideogram_overline h))) i;
  ideogram_double_overline = false_if a.ideogram_double_overline (has_ideogram_mark a) (λ h. left_shows (a.ideogram_underline || a.ideogram_double_underline || a.ideogram_overline || a.ideogram_double_overline) a.ideogram_stress (right_shows (a.ideogram_underline || a.ideogram_double_underline || a.ideogram_overline) a.ideogram_double_overline h)) i;
  ideogram_stress = false_if a.ideogram_stress (has_ideogram_mark a) (λ h. right_shows (a.ideogram_underline || a.ideogram_double_underline || a.ideogram_overline || a.ideogram_double_overline) a.ideogram_stress h) i;
  superscript = false_if a.superscript (a.superscript || a.subscript) (left_shows a.superscript a.subscript) i;
  subscript = false_if a.subscript (a.superscript || a.subscript) (right_shows a.superscript a.subscript) i;
}
