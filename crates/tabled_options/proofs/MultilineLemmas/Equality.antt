-- `==` of settings, as it is derived, is equality of all of them.
use Rattle.std.proofs.Common.{◌≡◌, ◌∙◌, Bool, true, List, [], ◌∷◌, refl, ap, sym}
use Rattle.std.proofs.Math.Bool.{beq}
use Rattle.std.specs.Ordering.{is_eq}
use Rattle.std.specs.Cmp.{Equal-is}
use Rattle.std.specs.declared.cmp.Ordering.TheVariants.{Equal}
use Rattle.grid_config.specs.Equality.{equal}
use Rattle.grid_config.proofs.Equality.{settings_pass as compact_pass, settings_same as compact_same}
use Rattle.grid_config_values.proofs.Equality.{each_passes, passes_all, switch_passes, switch_same}
use Rattle.grid_config_values.specs.declared.alignment.AlignmentVertical.{AlignmentVertical}
use Rattle.grid_config_values.specs.declared.alignment.AlignmentVertical.TheVariants.{Top, Center, Bottom}
use Rattle.grid_config_values.specs.declared.formatting.Formatting.{Formatting}
use Rattle.grid_config_values.specs.contracts.alignment.AlignmentVerticalPartialEq.TheImpl.{ghosts as alignments}
use Rattle.grid_config_values.specs.contracts.formatting.FormattingPartialEq.TheImpl.{ghosts as formattings}
use Rattle.tabled_options.specs.contracts.multiline.config.CompactMultilineConfigPartialEq.TheImpl.{ghosts as equality}
use Rattle.tabled_options.specs.contracts.multiline.config.CompactMultilineConfigOrd.TheImpl.{ghosts as order}
use Rattle.tabled_options.specs.contracts.multiline.config.CompactMultilineConfigOrd.TheImpl.Laws.{matches_eq-law}
use Rattle.tabled_options.specs.declared.multiline.config.CompactMultilineConfig.{CompactMultilineConfig}
use Rattle.tabled_options.specs.Multiline.Multiline.{Multiline, multiline_of}

alignment_same : (a b : AlignmentVertical) → alignments.eq a b ≡ true → a ≡ b
alignment_same Top Top e = refl
alignment_same Top Center e = cc
alignment_same Top Bottom e = cc
alignment_same Center Top e = cc
alignment_same Center Center e = refl
alignment_same Center Bottom e = cc
alignment_same Bottom Top e = cc
alignment_same Bottom Center e = cc
alignment_same Bottom Bottom e = refl

alignment_itself : (a : AlignmentVertical) → alignments.eq a a ≡ true
alignment_itself Top = refl
alignment_itself Center = refl
alignment_itself Bottom = refl

formatting_same : (a b : Formatting) → formattings.eq a b ≡ true → a ≡ b
formatting_same a b e =
    let each = each_passes (beq a.horizontal_trim b.horizontal_trim) (beq a.vertical_trim b.vertical_trim ∷ beq a.allow_lines_alignment b.allow_lines_alignment ∷ []) e in
    λ i. record {
      horizontal_trim = switch_same a.horizontal_trim b.horizontal_trim each.0 i;
      vertical_trim = switch_same a.vertical_trim b.vertical_trim each.1.0 i;
      allow_lines_alignment = switch_same a.allow_lines_alignment b.allow_lines_alignment each.1.1 i;
    }

formatting_itself : (a : Formatting) → formattings.eq a a ≡ true
formatting_itself a =
    passes_all (beq a.horizontal_trim a.horizontal_trim) (beq a.vertical_trim a.vertical_trim ∷ beq a.allow_lines_alignment a.allow_lines_alignment ∷ []) (
      switch_passes a.horizontal_trim a.horizontal_trim refl,
      (switch_passes a.vertical_trim a.vertical_trim refl, switch_passes a.allow_lines_alignment a.allow_lines_alignment refl),
    )

-- the tests after that of the compact settings
abbrev other_tests : CompactMultilineConfig → CompactMultilineConfig → List Bool
other_tests a b = alignments.eq a.alignment_vertical b.alignment_vertical ∷ formattings.eq a.formatting b.formatting ∷ []

pub settings_same : (a b : CompactMultilineConfig) → equality.eq a b ≡ true → multiline_of a ≡ multiline_of b
settings_same a b e =
    let each = each_passes (equal a.compact b.compact) (other_tests a b) e in
    let compact = compact_same a.compact b.compact each.0 in
    let vertical = alignment_same a.alignment_vertical b.alignment_vertical each.1.0 in
    let formatting = formatting_same a.formatting b.formatting each.1.1 in
    λ i. record { compact = compact i; alignment_vertical = vertical i; formatting = formatting i }

pub settings_pass : (a b : CompactMultilineConfig) → multiline_of a ≡ multiline_of b → equality.eq a b ≡ true
settings_pass a b e =
    let vertical = ap (λ (m : Multiline). m.alignment_vertical) e in
    let formatting = ap (λ (m : Multiline). m.formatting) e in
    passes_all (equal a.compact b.compact) (other_tests a b) (
      compact_pass a.compact b.compact (ap (λ (m : Multiline). m.compact) e),
      (
        sym (λ i. alignments.eq a.alignment_vertical (vertical i)) ∙ alignment_itself a.alignment_vertical,
        sym (λ i. formattings.eq a.formatting (formatting i)) ∙ formatting_itself a.formatting,
      ),
    )

-- the order finds equal what `==` does
pub compared_same : (a b : CompactMultilineConfig) → order.cmp a b ≡ Equal → multiline_of a ≡ multiline_of b
compared_same a b e = settings_same a b (matches_eq-law a b ∙ ap is_eq e)

pub compared_pass : (a b : CompactMultilineConfig) → multiline_of a ≡ multiline_of b → order.cmp a b ≡ Equal
compared_pass a b e = (Equal-is (order.cmp a b)).0 (sym (matches_eq-law a b) ∙ settings_pass a b e)
