-- `==` of styles, as it is derived, is equality of all attributes.
use Rattle.std.proofs.Common.{◌≡◌, ℕ, Bool, true, not, ◌&&◌, Option, None, Some, List, [], ◌∷◌, ◌==◌, refl, ap, ◌∙◌, sym, subst}
use Rattle.std.proofs.lemmas.Bool.{and_parts, eqb-true}
use Rattle.std.specs.contracts.prelude.OptionPartialEq.TheImpl.{ghosts as option_ghosts}
use Rattle.std.specs.contracts.prelude.U8PartialEq.TheImpl.{ghosts as u8_ghosts, dict as u8_dict}
use Rattle.ansi_scan.specs.declared.style.color.AnsiColor.{AnsiColor}
use Rattle.ansi_scan.specs.declared.style.color.AnsiColor.TheVariants.{Bit4, Bit8, Bit24}
use Rattle.ansi_scan.specs.contracts.style.style.StylePartialEq.TheImpl.{ghosts}
use Rattle.ansi_scan.specs.contracts.style.flags.FlagsPartialEq.TheImpl.{ghosts as flags_ghosts}
use Rattle.ansi_scan.specs.contracts.style.packed.PackedColorPartialEq.TheImpl.{ghosts as packed_ghosts}
use Rattle.std.specs.declared.cmp.Ordering.{Ordering}
use Rattle.std.specs.declared.cmp.Ordering.TheVariants.{Less, Equal, Greater}
use Rattle.std.specs.Ordering.{is_eq}
use Rattle.ansi_scan.specs.contracts.style.style.StyleEq.TheImpl.Laws.{laws-law}
use Rattle.ansi_scan.specs.contracts.style.style.StyleOrd.TheImpl.{ghosts as order_ghosts}
use Rattle.ansi_scan.specs.contracts.style.style.StyleOrd.TheImpl.Laws.{matches_eq-law}
use Rattle.ansi_scan.specs.Styles.Attributes.{Attributes, plain_attributes}
use Rattle.std.specs.Prelude.{is_none, is_some}
use Rattle.ansi_scan.specs.Styles.Plain.{sets_nothing}
use Rattle.ansi_scan.specs.Styles.FlagSet.{FlagSet}
use Rattle.ansi_scan.specs.Styles.Flags.{flags_of, word_of}
use Rattle.ansi_scan.proofs.StyleLemmas.Bits.{same_flags}

-- the tests, joined by `&&`
abbrev all_pass : Bool → List Bool → Bool
all_pass t [] = t
all_pass t (u ∷ others) = t && all_pass u others

abbrev EachPasses : Bool → List Bool → Type 0
EachPasses t [] = t ≡ true
EachPasses t (u ∷ others) = (t ≡ true) × EachPasses u others

each_passes : (t : Bool) (others : List Bool) → all_pass t others ≡ true → EachPasses t others
each_passes t [] e = e
each_passes t (u ∷ others) e = ((and_parts t (all_pass u others) e).0, each_passes u others (and_parts t (all_pass u others) e).1)

flags_equal : (a b : FlagSet) → flags_ghosts.eq a b ≡ true → a ≡ b
flags_equal a b e = same_flags a b (eqb-true (word_of a) (word_of b) e)

font_equal : (a b : Option ℕ) → (option_ghosts denote.Builtin.u8 u8_ghosts u8_dict).eq a b ≡ true → a ≡ b
font_equal None None e = refl
font_equal None (Some n) e = cc
font_equal (Some m) None e = cc
font_equal (Some m) (Some n) e = ap Some (eqb-true m n e)

-- the four bytes of a colour that may be set
color_if_set_equal : (a b : Option AnsiColor) → packed_ghosts.eq a b ≡ true → a ≡ b
color_if_set_equal None None e = refl
color_if_set_equal (Some (Bit4 m)) (Some (Bit4 n)) e =
    let each = each_passes (m == n) (true ∷ true ∷ []) e in ap (λ k. Some (Bit4 k)) (eqb-true m n each.0)
color_if_set_equal (Some (Bit8 m)) (Some (Bit8 n)) e =
    let each = each_passes (m == n) (true ∷ true ∷ []) e in ap (λ k. Some (Bit8 k)) (eqb-true m n each.0)
color_if_set_equal (Some (Bit24 r g b)) (Some (Bit24 u v w)) e =
    let each = each_passes (r == u) ((g == v) ∷ (b == w) ∷ []) e in
    λ i. Some (Bit24 (eqb-true r u each.0 i) (eqb-true g v each.1.0 i) (eqb-true b w each.1.1 i))
color_if_set_equal None (Some (Bit4 r)) e = cc
color_if_set_equal None (Some (Bit8 r)) e = cc
color_if_set_equal None (Some (Bit24 r g b)) e = cc
color_if_set_equal (Some (Bit4 k)) None e = cc
color_if_set_equal (Some (Bit4 k)) (Some (Bit8 r)) e = cc
color_if_set_equal (Some (Bit4 k)) (Some (Bit24 r g b)) e = cc
color_if_set_equal (Some (Bit8 k)) None e = cc
color_if_set_equal (Some (Bit8 k)) (Some (Bit4 r)) e = cc
color_if_set_equal (Some (Bit8 k)) (Some (Bit24 r g b)) e = cc
color_if_set_equal (Some (Bit24 k l m)) None e = cc
color_if_set_equal (Some (Bit24 k l m)) (Some (Bit4 r)) e = cc
color_if_set_equal (Some (Bit24 k l m)) (Some (Bit8 r)) e = cc

-- attributes are the same by their flags, font and colours
same_attributes : (a b : Attributes) → flags_of a ≡ flags_of b → a.font ≡ b.font → a.foreground ≡ b.foreground → a.background ≡ b.background → a.underline_color ≡ b.underline_color → a ≡ b
same_attributes a b flags font foreground background underline_color =
    λ i. record {
      bold = (flags i).bold;
      faint = (flags i).faint;
      italic = (flags i).italic;
      underline = (flags i).underline;
      slow_blink = (flags i).slow_blink;
      rapid_blink = (flags i).rapid_blink;
      inverted = (flags i).inverted;
      hidden = (flags i).hidden;
      crossed_out = (flags i).crossed_out;
      font = font i;
      fraktur = (flags i).fraktur;
      double_underline = (flags i).double_underline;
      proportional_spacing = (flags i).proportional_spacing;
      foreground = foreground i;
      background = background i;
      framed = (flags i).framed;
      encircled = (flags i).encircled;
      overlined = (flags i).overlined;
      underline_color = underline_color i;
      ideogram_underline = (flags i).ideogram_underline;
      ideogram_double_underline = (flags i).ideogram_double_underline;
      ideogram_overline = (flags i).ideogram_overline;
      ideogram_double_overline = (flags i).ideogram_double_overline;
      ideogram_stress = (flags i).ideogram_stress;
      superscript = (flags i).superscript;
      subscript = (flags i).subscript;
    }

pub equal_attributes : (a b : Attributes) → ghosts.eq a b ≡ true → a ≡ b
equal_attributes a b e =
    let each = each_passes (flags_ghosts.eq (flags_of a) (flags_of b))
    ((option_ghosts denote.Builtin.u8 u8_ghosts u8_dict).eq a.font b.font
    ∷ packed_ghosts.eq a.foreground b.foreground
    ∷ packed_ghosts.eq a.background b.background
    ∷ packed_ghosts.eq a.underline_color b.underline_color ∷ []) e in
    let flags = flags_equal (flags_of a) (flags_of b) each.0 in
    same_attributes a b flags (font_equal a.font b.font each.1.0) (color_if_set_equal a.foreground b.foreground each.1.1.0) (color_if_set_equal a.background b.background each.1.1.1.0)
    (color_if_set_equal a.underline_color b.underline_color each.1.1.1.1)

pub equal_to_itself : (a b : Attributes) → a ≡ b → ghosts.eq a b ≡ true
equal_to_itself a b e = subst (λ (c : Attributes). ghosts.eq a c ≡ true) e (laws-law.refl a)

equal_shows : (o : Ordering) → is_eq o ≡ true → o ≡ Equal
equal_shows Less e = cc
equal_shows Equal e = refl
equal_shows Greater e = cc

-- the order finds equal what `==` does
pub compared_equal : (a b : Attributes) → order_ghosts.cmp a b ≡ Equal → a ≡ b
compared_equal a b e = equal_attributes a b (matches_eq-law a b ∙ ap is_eq e)

pub compared_to_itself : (a b : Attributes) → a ≡ b → order_ghosts.cmp a b ≡ Equal
compared_to_itself a b e = equal_shows (order_ghosts.cmp a b) (sym (matches_eq-law a b) ∙ equal_to_itself a b e)

none_from_test : {V : Type 0} (o : Option V) → is_none o ≡ true → o ≡ None
none_from_test None e = refl
none_from_test (Some v) e = cc

none_from_refusal : {V : Type 0} (o : Option V) → not (is_some o) ≡ true → o ≡ None
none_from_refusal None e = refl
none_from_refusal (Some v) e = cc

-- attributes set nothing where the test says so
pub plain_from_test : (a : Attributes) → sets_nothing a ≡ true → a ≡ plain_attributes
unfolding plain_attributes
plain_from_test a e =
    let each = each_passes (word_of (flags_of a) == 0)
    (is_none a.font ∷ not (is_some a.foreground) ∷ not (is_some a.background) ∷ not (is_some a.underline_color) ∷ []) e in
    let flags = same_flags (flags_of a) (flags_of plain_attributes) (eqb-true (word_of (flags_of a)) 0 each.0) in
    same_attributes a plain_attributes flags (none_from_test a.font each.1.0) (none_from_refusal a.foreground each.1.1.0) (none_from_refusal a.background each.1.1.1.0)
    (none_from_refusal a.underline_color each.1.1.1.1)

pub test_from_plain : (a : Attributes) → a ≡ plain_attributes → sets_nothing a ≡ true
unfolding plain_attributes
test_from_plain a e = ap sets_nothing e
