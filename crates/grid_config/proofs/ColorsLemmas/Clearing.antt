-- Each attribute follows the codes that set and clear it, whatever was set before.
use Rattle.std.proofs.Common.{◌≡◌, ℕ, Bool, true, false, ◌||◌, Option, None, Some, List, [], ◌∷◌, ◌++◌, map, fold, refl, ap, sym, ◌∙◌, arith, ◌==◌, if◌then◌else◌}
use Rattle.std.specs.Prelude.{IsTrue, is_some, flat_map}
use Rattle.std.specs.List.{AllByRecursion, list_any, slice_split}
use Rattle.std.proofs.lemmas.Bool.{false≢true}
use Rattle.std.proofs.lemmas.Bool.Decides.{nat_tests}
use Rattle.std.proofs.lemmas.List.Folds.{list_any-append}
use Rattle.ansi_scan.specs.declared.items.Kind.{Kind}
use Rattle.ansi_scan.specs.declared.items.Kind.TheVariants.{Text, Sgr, Csi, Osc, Esc, Str, Broken}
use Rattle.ansi_scan.specs.declared.style.color.AnsiColor.{AnsiColor}
use Rattle.ansi_scan.specs.declared.style.color.AnsiColor.TheVariants.{Bit4}
use Rattle.ansi_scan.specs.declared.style.next.Layer.{Layer}
use Rattle.ansi_scan.specs.declared.style.next.Layer.TheVariants.{Foreground, Background, Underline}
use Rattle.ansi_scan.specs.Sequences.{Piece}
use Rattle.ansi_scan.specs.Attributes.{Attributes, plain_attributes, after_code, is_font_code, is_foreground_code, is_background_code}
use Rattle.ansi_scan.specs.Rendition.{number, Effect, OfCode, OfColor, effects, with_color, after_effect, after_parameters, after_parameter_bytes, sgr_parameters, applied}
use Rattle.ansi_scan.proofs.StyleLemmas.Table.{some_if, some_unless}
use Rattle.ansi_str_search.specs.Text.StyledText.{style_by, style_after, style_after_all}
use Rattle.grid_config.specs.Ansi.Clearing.{code_of_effect, codes_in, codes_by, codes_of, Attribute, all_attributes, is_clearing, ClearsEach}

-- an attribute, after a change of the style in which these codes are read: what was set before decides only
-- where no code clears it
pub record Follows (is_set : Attributes → Bool) (clears : ℕ → Bool) (codes : List ℕ) (change : Attributes → Attributes) : Type 0 where
  pub same : (a b : Attributes) → is_set a ≡ is_set b → is_set (change a) ≡ is_set (change b)
  pub kept : list_any clears codes ≡ false → (a : Attributes) → is_set a ≡ true → is_set (change a) ≡ true
  pub cleared : list_any clears codes ≡ true → (a b : Attributes) → is_set (change a) ≡ is_set (change b)

or_none : (b c : Bool) → (b || c) ≡ false → (b ≡ false) × (c ≡ false)
or_none true c h = absurd (false≢true (sym h))
or_none false c h = (refl, h)

module _ (is_set : Attributes → Bool) (clears : ℕ → Bool) where
  nothing_follows : Follows is_set clears [] (λ a. a)
  nothing_follows = record { same = λ a b h. h; kept = λ h a set. set; cleared = λ h. absurd (false≢true h) }

  both_follow : (codes others : List ℕ) (first second : Attributes → Attributes) → Follows is_set clears codes first → Follows is_set clears others second
      → Follows is_set clears (codes ++ others) (λ a. second (first a))
  both_follow codes others first second f g =
      let joined : list_any clears (codes ++ others) ≡ (list_any clears codes || list_any clears others) = list_any-append clears codes others in
      record {
        same = λ a b h. g.same (first a) (first b) (f.same a b h);
        kept = λ h a set.
            let none = or_none (list_any clears codes) (list_any clears others) (sym joined ∙ h) in
            g.kept none.1 (first a) (f.kept none.0 a set);
        cleared = λ h a b. either (list_any clears codes) refl (sym joined ∙ h) a b;
      }
    where
      either : (found : Bool) → list_any clears codes ≡ found → (list_any clears codes || list_any clears others) ≡ true → (a b : Attributes) → is_set (second (first a)) ≡ is_set (second (first b))
      either true e h a b = g.same (first a) (first b) (f.cleared e a b)
      either false e h a b = g.cleared (sym (ap (λ t. t || list_any clears others) e) ∙ h) (first a) (first b)

-- an attribute by the codes that set it, the code that clears it, and the colours that are it
pub record Steps (is_set : Attributes → Bool) (sets : ℕ → Bool) (clearing : ℕ) (layers : Layer → Bool) : Type 0 where
  pub by_code : (a : Attributes) (code : ℕ) → is_set (after_code a code) ≡ (if sets code then true else (if is_clearing clearing code then false else is_set a))
  pub by_color : (a : Attributes) (layer : Layer) (color : AnsiColor) → is_set (with_color a layer color) ≡ (if layers layer then true else is_set a)
  pub apart : (code : ℕ) → is_clearing clearing code ≡ true → sets code ≡ false

if_same : (b : Bool) (v w : Bool) → v ≡ w → (if b then true else v) ≡ (if b then true else w)
if_same b v w h = ap (λ x. if b then true else x) h

if_kept : (b v : Bool) → v ≡ true → (if b then true else v) ≡ true
if_kept true v h = refl
if_kept false v h = h

module _ (is_set : Attributes → Bool) (sets : ℕ → Bool) (clearing : ℕ) (layers : Layer → Bool) (steps : Steps is_set sets clearing layers) where
  code_follows : (code : ℕ) → Follows is_set (is_clearing clearing) (code ∷ []) (λ a. after_code a code)
  code_follows code = either (is_clearing clearing code) refl
    where
      either : (found : Bool) → is_clearing clearing code ≡ found → Follows is_set (is_clearing clearing) (code ∷ []) (λ a. after_code a code)
      either true e =
          let unset : (a : Attributes) → is_set (after_code a code) ≡ false = λ a.
          steps.by_code a code ∙ ap (λ t. if t then true else (if is_clearing clearing code then false else is_set a)) (steps.apart code e) ∙ ap (λ t. if t then false else is_set a) e in
          record {
            same = λ a b h. unset a ∙ sym (unset b);
            kept = λ h a set. absurd (false≢true (sym h ∙ ap (λ t. t || false) e));
            cleared = λ h a b. unset a ∙ sym (unset b);
          }
      either false e =
          let left : (a : Attributes) → is_set (after_code a code) ≡ (if sets code then true else is_set a) = λ a.
          steps.by_code a code ∙ ap (λ t. if sets code then true else (if t then false else is_set a)) e in
          record {
            same = λ a b h. left a ∙ if_same (sets code) (is_set a) (is_set b) h ∙ sym (left b);
            kept = λ h a set. left a ∙ if_kept (sets code) (is_set a) set;
            cleared = λ h. absurd (false≢true (sym (ap (λ t. t || false) e) ∙ h));
          }

  color_follows : (layer : Layer) (color : AnsiColor) → Follows is_set (is_clearing clearing) [] (λ a. with_color a layer color)
  color_follows layer color = record {
    same = λ a b h. steps.by_color a layer color ∙ if_same (layers layer) (is_set a) (is_set b) h ∙ sym (steps.by_color b layer color);
    kept = λ h a set. steps.by_color a layer color ∙ if_kept (layers layer) (is_set a) set;
    cleared = λ h. absurd (false≢true h);
  }

  effect_follows : (effect : Effect) → Follows is_set (is_clearing clearing) (code_of_effect effect) (λ a. after_effect a effect)
  effect_follows (OfCode code) = code_follows code
  effect_follows (OfColor layer color) = color_follows layer color

  effects_follow : (all : List Effect) → Follows is_set (is_clearing clearing) (flat_map code_of_effect all) (λ a. fold after_effect a all)
  effects_follow [] = nothing_follows is_set (is_clearing clearing)
  effects_follow (effect ∷ others) =
      both_follow is_set (is_clearing clearing) (code_of_effect effect) (flat_map code_of_effect others)
      (λ a. after_effect a effect) (λ a. fold after_effect a others)
      (effect_follows effect) (effects_follow others)

  bytes_follow : (parameters : Option (List ℕ)) → Follows is_set (is_clearing clearing) (codes_in parameters) (λ a. after_parameter_bytes a parameters)
  unfolding after_parameters
  bytes_follow None = nothing_follows is_set (is_clearing clearing)
  bytes_follow (Some parameters) = effects_follow (effects (map number (slice_split (λ byte. byte == 59) parameters)))

  piece_follows : (kind : Kind) (bytes : List ℕ) → Follows is_set (is_clearing clearing) (codes_by kind bytes) (λ a. style_by a kind bytes)
  unfolding applied
  piece_follows Text bytes = nothing_follows is_set (is_clearing clearing)
  piece_follows Sgr bytes = bytes_follow (sgr_parameters bytes)
  piece_follows Csi bytes = nothing_follows is_set (is_clearing clearing)
  piece_follows Osc bytes = nothing_follows is_set (is_clearing clearing)
  piece_follows Esc bytes = nothing_follows is_set (is_clearing clearing)
  piece_follows Str bytes = nothing_follows is_set (is_clearing clearing)
  piece_follows Broken bytes = nothing_follows is_set (is_clearing clearing)

  pub pieces_follow : (pieces : List Piece) → Follows is_set (is_clearing clearing) (codes_of pieces) (λ a. style_after_all a pieces)
  pieces_follow [] = nothing_follows is_set (is_clearing clearing)
  pieces_follow (piece ∷ pieces) =
      both_follow is_set (is_clearing clearing) (codes_by piece.kind piece.bytes) (codes_of pieces)
      (λ a. style_after a piece) (λ a. style_after_all a pieces)
      (piece_follows piece.kind piece.bytes) (pieces_follow pieces)

-- ---- the attributes, one by one

apart_flag : (sets clearing code : ℕ) → (sets == clearing) ≡ false → (sets == 0) ≡ false → is_clearing clearing code ≡ true → (code == sets) ≡ false
apart_flag sets clearing code clears all h = grind (arith, nat_tests)

abbrev no_layer : Layer → Bool
no_layer layer = false

flag_color : (is_set : Attributes → Bool)
    → ((a : Attributes) (v : Option AnsiColor) → (is_set (record a { foreground = v }) ≡ is_set a) × (is_set (record a { background = v }) ≡ is_set a) × (is_set (record a { underline_color = v }) ≡ is_set a))
    → (a : Attributes) (layer : Layer) (color : AnsiColor) → is_set (with_color a layer color) ≡ is_set a
flag_color is_set left a Foreground color = (left a (Some color)).0
flag_color is_set left a Background color = (left a (Some color)).1
flag_color is_set left a Underline color = (left a (Some color)).2

flag_steps : (is_set : Attributes → Bool) (sets clearing : ℕ) → (sets == clearing) ≡ false → (sets == 0) ≡ false
    → ((a : Attributes) (code : ℕ) → is_set (after_code a code) ≡ (if code == sets then true else (if is_clearing clearing code then false else is_set a)))
    → ((a : Attributes) (v : Option AnsiColor) → (is_set (record a { foreground = v }) ≡ is_set a) × (is_set (record a { background = v }) ≡ is_set a) × (is_set (record a { underline_color = v }) ≡ is_set a))
    → Steps is_set (λ code. code == sets) clearing no_layer
flag_steps is_set sets clearing clears all by_code left = record {
  by_code = by_code;
  by_color = flag_color is_set left;
  apart = λ code h. apart_flag sets clearing code clears all h;
}

abbrev is_foreground_layer : Layer → Bool
is_foreground_layer Foreground = true
is_foreground_layer Background = false
is_foreground_layer Underline = false

abbrev is_background_layer : Layer → Bool
is_background_layer Foreground = false
is_background_layer Background = true
is_background_layer Underline = false

abbrev is_underline_layer : Layer → Bool
is_underline_layer Foreground = false
is_underline_layer Background = false
is_underline_layer Underline = true

apart_font : (code : ℕ) → is_clearing 10 code ≡ true → is_font_code code ≡ false
apart_font code h = grind (arith, nat_tests)

apart_foreground : (code : ℕ) → is_clearing 39 code ≡ true → is_foreground_code code ≡ false
apart_foreground code h = grind (arith, nat_tests)

apart_background : (code : ℕ) → is_clearing 49 code ≡ true → is_background_code code ≡ false
apart_background code h = grind (arith, nat_tests)

font_steps : Steps (λ a. is_some a.font) is_font_code 10 no_layer
font_steps = record {
  by_code = λ a code. some_if (is_font_code code) (is_clearing 10 code) code a.font;
  by_color = flag_color (λ a. is_some a.font) (λ a v. (refl, refl, refl));
  apart = apart_font;
}

foreground_color : (a : Attributes) (layer : Layer) (color : AnsiColor) → is_some (with_color a layer color).foreground ≡ (if is_foreground_layer layer then true else is_some a.foreground)
foreground_color a Foreground color = refl
foreground_color a Background color = refl
foreground_color a Underline color = refl

background_color : (a : Attributes) (layer : Layer) (color : AnsiColor) → is_some (with_color a layer color).background ≡ (if is_background_layer layer then true else is_some a.background)
background_color a Foreground color = refl
background_color a Background color = refl
background_color a Underline color = refl

underline_color : (a : Attributes) (layer : Layer) (color : AnsiColor) → is_some (with_color a layer color).underline_color ≡ (if is_underline_layer layer then true else is_some a.underline_color)
underline_color a Foreground color = refl
underline_color a Background color = refl
underline_color a Underline color = refl

foreground_steps : Steps (λ a. is_some a.foreground) is_foreground_code 39 is_foreground_layer
foreground_steps = record {
  by_code = λ a code. some_if (is_foreground_code code) (is_clearing 39 code) (Bit4 code) a.foreground;
  by_color = foreground_color;
  apart = apart_foreground;
}

background_steps : Steps (λ a. is_some a.background) is_background_code 49 is_background_layer
background_steps = record {
  by_code = λ a code. some_if (is_background_code code) (is_clearing 49 code) (Bit4 code) a.background;
  by_color = background_color;
  apart = apart_background;
}

underline_steps : Steps (λ a. is_some a.underline_color) (λ code. false) 59 is_underline_layer
underline_steps = record {
  by_code = λ a code. some_unless (is_clearing 59 code) a.underline_color;
  by_color = underline_color;
  apart = λ code h. refl;
}

-- an attribute of the list: unset in plain, and what decides whether it is set after the pieces
pub record IsAttribute (attribute : Attribute) : Type 0 where
  pub plain : attribute.0 plain_attributes ≡ false
  pub follows : (pieces : List Piece) → Follows attribute.0 (is_clearing attribute.1) (codes_of pieces) (λ a. style_after_all a pieces)

by_steps : (is_set : Attributes → Bool) (sets : ℕ → Bool) (clearing : ℕ) (layers : Layer → Bool) → is_set plain_attributes ≡ false → Steps is_set sets clearing layers → IsAttribute (is_set, clearing)
by_steps is_set sets clearing layers plain steps = record { plain = plain; follows = pieces_follow is_set sets clearing layers steps }

flag : (is_set : Attributes → Bool) (sets clearing : ℕ) → is_set plain_attributes ≡ false → (sets == clearing) ≡ false → (sets == 0) ≡ false
    → ((a : Attributes) (code : ℕ) → is_set (after_code a code) ≡ (if code == sets then true else (if is_clearing clearing code then false else is_set a)))
    → ((a : Attributes) (v : Option AnsiColor) → (is_set (record a { foreground = v }) ≡ is_set a) × (is_set (record a { background = v }) ≡ is_set a) × (is_set (record a { underline_color = v }) ≡ is_set a))
    → IsAttribute (is_set, clearing)
flag is_set sets clearing plain clears all by_code left =
    by_steps is_set (λ code. code == sets) clearing no_layer plain (flag_steps is_set sets clearing clears all by_code left)

is_bold : IsAttribute (λ a. a.bold, 22)
unfolding plain_attributes
is_bold = flag (λ a. a.bold) 1 22 refl refl refl (λ a code. refl) (λ a v. (refl, refl, refl))

is_faint : IsAttribute (λ a. a.faint, 22)
unfolding plain_attributes
is_faint = flag (λ a. a.faint) 2 22 refl refl refl (λ a code. refl) (λ a v. (refl, refl, refl))

is_italic : IsAttribute (λ a. a.italic, 23)
unfolding plain_attributes
is_italic = flag (λ a. a.italic) 3 23 refl refl refl (λ a code. refl) (λ a v. (refl, refl, refl))

is_underline : IsAttribute (λ a. a.underline, 24)
unfolding plain_attributes
is_underline = flag (λ a. a.underline) 4 24 refl refl refl (λ a code. refl) (λ a v. (refl, refl, refl))

is_slow_blink : IsAttribute (λ a. a.slow_blink, 25)
unfolding plain_attributes
is_slow_blink = flag (λ a. a.slow_blink) 5 25 refl refl refl (λ a code. refl) (λ a v. (refl, refl, refl))

is_rapid_blink : IsAttribute (λ a. a.rapid_blink, 25)
unfolding plain_attributes
is_rapid_blink = flag (λ a. a.rapid_blink) 6 25 refl refl refl (λ a code. refl) (λ a v. (refl, refl, refl))

is_inverted : IsAttribute (λ a. a.inverted, 27)
unfolding plain_attributes
is_inverted = flag (λ a. a.inverted) 7 27 refl refl refl (λ a code. refl) (λ a v. (refl, refl, refl))

is_hidden : IsAttribute (λ a. a.hidden, 28)
unfolding plain_attributes
is_hidden = flag (λ a. a.hidden) 8 28 refl refl refl (λ a code. refl) (λ a v. (refl, refl, refl))

is_crossed_out : IsAttribute (λ a. a.crossed_out, 29)
unfolding plain_attributes
is_crossed_out = flag (λ a. a.crossed_out) 9 29 refl refl refl (λ a code. refl) (λ a v. (refl, refl, refl))

is_font : IsAttribute (λ a. is_some a.font, 10)
unfolding plain_attributes
is_font = by_steps (λ a. is_some a.font) is_font_code 10 no_layer refl font_steps

is_fraktur : IsAttribute (λ a. a.fraktur, 23)
unfolding plain_attributes
is_fraktur = flag (λ a. a.fraktur) 20 23 refl refl refl (λ a code. refl) (λ a v. (refl, refl, refl))

is_double_underline : IsAttribute (λ a. a.double_underline, 24)
unfolding plain_attributes
is_double_underline = flag (λ a. a.double_underline) 21 24 refl refl refl (λ a code. refl) (λ a v. (refl, refl, refl))

is_proportional_spacing : IsAttribute (λ a. a.proportional_spacing, 50)
unfolding plain_attributes
is_proportional_spacing = flag (λ a. a.proportional_spacing) 26 50 refl refl refl (λ a code. refl) (λ a v. (refl, refl, refl))

is_foreground : IsAttribute (λ a. is_some a.foreground, 39)
unfolding plain_attributes
is_foreground = by_steps (λ a. is_some a.foreground) is_foreground_code 39 is_foreground_layer refl foreground_steps

is_background : IsAttribute (λ a. is_some a.background, 49)
unfolding plain_attributes
is_background = by_steps (λ a. is_some a.background) is_background_code 49 is_background_layer refl background_steps

is_framed : IsAttribute (λ a. a.framed, 54)
unfolding plain_attributes
is_framed = flag (λ a. a.framed) 51 54 refl refl refl (λ a code. refl) (λ a v. (refl, refl, refl))

is_encircled : IsAttribute (λ a. a.encircled, 54)
unfolding plain_attributes
is_encircled = flag (λ a. a.encircled) 52 54 refl refl refl (λ a code. refl) (λ a v. (refl, refl, refl))

is_overlined : IsAttribute (λ a. a.overlined, 55)
unfolding plain_attributes
is_overlined = flag (λ a. a.overlined) 53 55 refl refl refl (λ a code. refl) (λ a v. (refl, refl, refl))

is_underline_color : IsAttribute (λ a. is_some a.underline_color, 59)
unfolding plain_attributes
is_underline_color = by_steps (λ a. is_some a.underline_color) (λ code. false) 59 is_underline_layer refl underline_steps

is_ideogram_underline : IsAttribute (λ a. a.ideogram_underline, 65)
unfolding plain_attributes
is_ideogram_underline = flag (λ a. a.ideogram_underline) 60 65 refl refl refl (λ a code. refl) (λ a v. (refl, refl, refl))

is_ideogram_double_underline : IsAttribute (λ a. a.ideogram_double_underline, 65)
unfolding plain_attributes
is_ideogram_double_underline = flag (λ a. a.ideogram_double_underline) 61 65 refl refl refl (λ a code. refl) (λ a v. (refl, refl, refl))

is_ideogram_overline : IsAttribute (λ a. a.ideogram_overline, 65)
unfolding plain_attributes
is_ideogram_overline = flag (λ a. a.ideogram_overline) 62 65 refl refl refl (λ a code. refl) (λ a v. (refl, refl, refl))

is_ideogram_double_overline : IsAttribute (λ a. a.ideogram_double_overline, 65)
unfolding plain_attributes
is_ideogram_double_overline = flag (λ a. a.ideogram_double_overline) 63 65 refl refl refl (λ a code. refl) (λ a v. (refl, refl, refl))

is_ideogram_stress : IsAttribute (λ a. a.ideogram_stress, 65)
unfolding plain_attributes
is_ideogram_stress = flag (λ a. a.ideogram_stress) 64 65 refl refl refl (λ a code. refl) (λ a v. (refl, refl, refl))

is_superscript : IsAttribute (λ a. a.superscript, 75)
unfolding plain_attributes
is_superscript = flag (λ a. a.superscript) 73 75 refl refl refl (λ a code. refl) (λ a v. (refl, refl, refl))

is_subscript : IsAttribute (λ a. a.subscript, 75)
unfolding plain_attributes
is_subscript = flag (λ a. a.subscript) 74 75 refl refl refl (λ a code. refl) (λ a v. (refl, refl, refl))

-- each entry of the list is an attribute
pub each_attribute : AllByRecursion IsAttribute all_attributes
each_attribute =
    (is_bold, (is_faint, (is_italic, (is_underline, (is_slow_blink, (is_rapid_blink, (is_inverted, (is_hidden, (is_crossed_out, (is_font, (is_fraktur, (is_double_underline, (is_proportional_spacing, (is_foreground, (is_background, (is_framed, (is_encircled, (is_overlined, (is_underline_color, (is_ideogram_underline, (is_ideogram_double_underline, (is_ideogram_overline, (is_ideogram_double_overline, (is_ideogram_stress, (is_superscript, (is_subscript, tt))))))))))))))))))))))))))

-- where no attribute is set, the style is plain
none_there : {V : Type 0} (value : Option V) → is_some value ≡ false → value ≡ None
none_there None h = refl
none_there (Some v) h = absurd (false≢true (sym h))

pub nothing_set : (a : Attributes) → AllByRecursion (λ attribute. attribute.0 a ≡ false) all_attributes → a ≡ plain_attributes
unfolding plain_attributes
nothing_set a h = λ i. record {
  bold = h.0 i;
  faint = h.1.0 i;
  italic = h.1.1.0 i;
  underline = h.1.1.1.0 i;
  slow_blink = h.1.1.1.1.0 i;
  rapid_blink = h.1.1.1.1.1.0 i;
  inverted = h.1.1.1.1.1.1.0 i;
  hidden = h.1.1.1.1.1.1.1.0 i;
  crossed_out = h.1.1.1.1.1.1.1.1.0 i;
  font = none_there a.font h.1.1.1.1.1.1.1.1.1.0 i;
  fraktur = h.1.1.1.1.1.1.1.1.1.1.0 i;
  double_underline = h.1.1.1.1.1.1.1.1.1.1.1.0 i;
  proportional_spacing = h.1.1.1.1.1.1.1.1.1.1.1.1.0 i;
  foreground = none_there a.foreground h.1.1.1.1.1.1.1.1.1.1.1.1.1.0 i;
  background = none_there a.background h.1.1.1.1.1.1.1.1.1.1.1.1.1.1.0 i;
  framed = h.1.1.1.1.1.1.1.1.1.1.1.1.1.1.1.0 i;
  encircled = h.1.1.1.1.1.1.1.1.1.1.1.1.1.1.1.1.0 i;
  overlined = h.1.1.1.1.1.1.1.1.1.1.1.1.1.1.1.1.1.0 i;
  underline_color = none_there a.underline_color h.1.1.1.1.1.1.1.1.1.1.1.1.1.1.1.1.1.1.0 i;
  ideogram_underline = h.1.1.1.1.1.1.1.1.1.1.1.1.1.1.1.1.1.1.1.0 i;
  ideogram_double_underline = h.1.1.1.1.1.1.1.1.1.1.1.1.1.1.1.1.1.1.1.1.0 i;
  ideogram_overline = h.1.1.1.1.1.1.1.1.1.1.1.1.1.1.1.1.1.1.1.1.1.0 i;
  ideogram_double_overline = h.1.1.1.1.1.1.1.1.1.1.1.1.1.1.1.1.1.1.1.1.1.1.0 i;
  ideogram_stress = h.1.1.1.1.1.1.1.1.1.1.1.1.1.1.1.1.1.1.1.1.1.1.1.0 i;
  superscript = h.1.1.1.1.1.1.1.1.1.1.1.1.1.1.1.1.1.1.1.1.1.1.1.1.0 i;
  subscript = h.1.1.1.1.1.1.1.1.1.1.1.1.1.1.1.1.1.1.1.1.1.1.1.1.1.0 i;
}

-- ---- what clears a style

all_both : {X : Type 0} (P Q R : X → Type 0) → ((x : X) → P x → Q x → R x) → (xs : List X) → AllByRecursion P xs → AllByRecursion Q xs → AllByRecursion R xs
all_both P Q R both [] p q = tt
all_both P Q R both (x ∷ xs) p q = (both x p.0 q.0, all_both P Q R both xs p.1 q.1)

all_one : {X : Type 0} (P R : X → Type 0) → ((x : X) → P x → R x) → (xs : List X) → AllByRecursion P xs → AllByRecursion R xs
all_one P R one [] p = tt
all_one P R one (x ∷ xs) p = (one x p.0, all_one P R one xs p.1)

module _ (style : Attributes) (suffix : List Piece) (plain : style_after_all plain_attributes suffix ≡ plain_attributes) where
  clears_one : style_after_all style suffix ≡ plain_attributes → (attribute : Attribute) → IsAttribute attribute
      → IsTrue (attribute.0 style) → IsTrue (list_any (is_clearing attribute.1) (codes_of suffix))
  clears_one behind attribute is set = either (list_any (is_clearing attribute.1) (codes_of suffix)) refl
    where
      either : (found : Bool) → list_any (is_clearing attribute.1) (codes_of suffix) ≡ found → list_any (is_clearing attribute.1) (codes_of suffix) ≡ true
      either true e = e
      either false e = absurd (false≢true (sym is.plain ∙ ap attribute.0 (sym behind) ∙ (is.follows suffix).kept e style set))

  unset_one : (attribute : Attribute) → IsAttribute attribute → (IsTrue (attribute.0 style) → IsTrue (list_any (is_clearing attribute.1) (codes_of suffix)))
      → attribute.0 (style_after_all style suffix) ≡ false
  unset_one attribute is clears = either (attribute.0 style) refl ∙ ap attribute.0 plain ∙ is.plain
    where
      either : (set : Bool) → attribute.0 style ≡ set → attribute.0 (style_after_all style suffix) ≡ attribute.0 (style_after_all plain_attributes suffix)
      either true e = (is.follows suffix).cleared (clears e) style plain_attributes
      either false e = (is.follows suffix).same style plain_attributes (e ∙ sym is.plain)

  pub clears_each : style_after_all style suffix ≡ plain_attributes → ClearsEach style (codes_of suffix)
  clears_each behind =
      all_one IsAttribute (λ attribute. IsTrue (attribute.0 style) → IsTrue (list_any (is_clearing attribute.1) (codes_of suffix)))
      (clears_one behind) all_attributes each_attribute

  pub plain_behind : ClearsEach style (codes_of suffix) → style_after_all style suffix ≡ plain_attributes
  plain_behind clears =
      nothing_set (style_after_all style suffix)
      (all_both IsAttribute (λ attribute. IsTrue (attribute.0 style) → IsTrue (list_any (is_clearing attribute.1) (codes_of suffix))) (λ attribute. attribute.0 (style_after_all style suffix) ≡ false)
      unset_one all_attributes each_attribute clears)
