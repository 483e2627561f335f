-- `==` of the settings of compact tables, as it is derived, is equality of all seven.
use Rattle.std.proofs.Common.{◌≡◌, ◌∙◌, Bool, true, ◌&&◌, ◌==◌, List, [], ◌∷◌, refl, ap, sym}
use Rattle.std.specs.Option.{option_map}
use Rattle.std.specs.Ordering.{is_eq}
use Rattle.std.specs.declared.cmp.Ordering.TheVariants.{Equal}
use Rattle.std.proofs.lemmas.Bool.{eqb-true}
use Rattle.grid_config_values.specs.declared.sides.Indent.{Indent}
use Rattle.grid_config_values.specs.declared.alignment.AlignmentHorizontal.{AlignmentHorizontal}
use Rattle.grid_config_values.specs.declared.alignment.AlignmentHorizontal.TheVariants.{Left, Center, Right}
use Rattle.grid_config_values.specs.contracts.alignment.AlignmentHorizontalPartialEq.TheImpl.{ghosts as alignments}
use Rattle.grid_config_values.proofs.Equality.{each_passes, passes_all, indent_eq, indent_same, number_eq as glyph_eq, number_passes, numbers_pass as glyph_passes, option_same, option_passes, same_option, sides_eq, sides_same, sides_passes, borders_eq, borders_same, borders_passes}
use Rattle.grid_config.specs.Ansi.Colors.{color_of}
use Rattle.grid_config.specs.Ansi.Equality.{equal as equal_colors}
use Rattle.grid_config.proofs.ColorsLemmas.Equality.{equal_shows, equal_texts, same_texts}
use Rattle.grid_config.specs.contracts.compact.CompactConfigOrd.TheImpl.Laws.{matches_eq-law}
use Rattle.grid_config.specs.declared.compact.CompactConfig.{CompactConfig}
use Rattle.grid_config.specs.Compact.{Compact, compact_of}
use Rattle.grid_config.specs.Equality.{compared, equal}

alignment_same : (a b : AlignmentHorizontal) → alignments.eq a b ≡ true → a ≡ b
alignment_same Left Left e = refl
alignment_same Left Center e = cc
alignment_same Left Right e = cc
alignment_same Center Left e = cc
alignment_same Center Center e = refl
alignment_same Center Right e = cc
alignment_same Right Left e = cc
alignment_same Right Center e = cc
alignment_same Right Right e = refl

alignment_passes : (a b : AlignmentHorizontal) → a ≡ b → alignments.eq a b ≡ true
alignment_passes Left Left e = refl
alignment_passes Left Center e = cc
alignment_passes Left Right e = cc
alignment_passes Center Left e = cc
alignment_passes Center Center e = refl
alignment_passes Center Right e = cc
alignment_passes Right Left e = cc
alignment_passes Right Center e = cc
alignment_passes Right Right e = refl

indent_passes : (a b : Indent) → a ≡ b → indent_eq a b ≡ true
indent_passes a b e =
    let fill = number_passes a.fill b.fill (ap (λ (i : Indent). i.fill) e) in
    ap (λ t. t && (a.fill == b.fill)) (number_passes a.size b.size (ap (λ (i : Indent). i.size) e)) ∙ fill

-- the tests after that of the margin
abbrev other_tests : CompactConfig → CompactConfig → List Bool
other_tests a b =
    borders_eq glyph_eq a.borders b.borders
    ∷ sides_eq indent_eq a.padding b.padding
    ∷ alignments.eq a.alignment_horizontal b.alignment_horizontal
    ∷ sides_eq equal_colors a.margin_color b.margin_color
    ∷ borders_eq equal_colors a.borders_color b.borders_color
    ∷ sides_eq equal_colors a.padding_color b.padding_color
    ∷ []

pub settings_same : (a b : CompactConfig) → equal a b ≡ true → compact_of a ≡ compact_of b
settings_same a b e =
    let each = each_passes (sides_eq indent_eq a.margin b.margin) (other_tests a b) e in
    let margin : a.margin ≡ b.margin = sides_same indent_eq (λ x. x) indent_same a.margin b.margin each.0 in
    let glyphs : a.borders ≡ b.borders = borders_same glyph_eq (λ x. x) (same_option glyph_eq eqb-true) a.borders b.borders each.1.0 in
    let padding : a.padding ≡ b.padding = sides_same indent_eq (λ x. x) indent_same a.padding b.padding each.1.1.0 in
    let alignment = alignment_same a.alignment_horizontal b.alignment_horizontal each.1.1.1.0 in
    let margin_color = sides_same equal_colors color_of equal_texts a.margin_color b.margin_color each.1.1.1.1.0 in
    let borders_color = borders_same equal_colors (option_map color_of) (option_same equal_colors color_of equal_texts) a.borders_color b.borders_color each.1.1.1.1.1.0 in
    let padding_color = sides_same equal_colors color_of equal_texts a.padding_color b.padding_color each.1.1.1.1.1.1 in
    λ i. record {
      margin = margin i;
      borders = glyphs i;
      padding = padding i;
      alignment_horizontal = alignment i;
      margin_color = margin_color i;
      borders_color = borders_color i;
      padding_color = padding_color i;
    }

pub settings_pass : (a b : CompactConfig) → compact_of a ≡ compact_of b → equal a b ≡ true
settings_pass a b e =
    passes_all (sides_eq indent_eq a.margin b.margin) (other_tests a b) (
      sides_passes indent_eq (λ x. x) indent_passes a.margin b.margin (ap (λ (c : Compact). c.margin) e),
      (
        borders_passes glyph_eq (λ x. x) glyph_passes a.borders b.borders (ap (λ (c : Compact). c.borders) e),
        (
          sides_passes indent_eq (λ x. x) indent_passes a.padding b.padding (ap (λ (c : Compact). c.padding) e),
          (
            alignment_passes a.alignment_horizontal b.alignment_horizontal (ap (λ (c : Compact). c.alignment_horizontal) e),
            (
              sides_passes equal_colors color_of same_texts a.margin_color b.margin_color (ap (λ (c : Compact). c.margin_color) e),
              (
                borders_passes equal_colors (option_map color_of) (option_passes equal_colors color_of same_texts) a.borders_color b.borders_color (ap (λ (c : Compact). c.borders_color) e),
                sides_passes equal_colors color_of same_texts a.padding_color b.padding_color (ap (λ (c : Compact). c.padding_color) e),
              ),
            ),
          ),
        ),
      ),
    )

-- the order finds equal what `==` does
pub compared_same : (a b : CompactConfig) → compared a b ≡ Equal → compact_of a ≡ compact_of b
compared_same a b e = settings_same a b (matches_eq-law a b ∙ ap is_eq e)

pub compared_pass : (a b : CompactConfig) → compact_of a ≡ compact_of b → compared a b ≡ Equal
compared_pass a b e = equal_shows (compared a b) (sym (matches_eq-law a b) ∙ settings_pass a b e)
