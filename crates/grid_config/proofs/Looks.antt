-- Settings that start as those of a compact table look as they do.
use Rattle.std.proofs.Common.{◌≡◌, ◌∙◌, [], ap, refl}
use Rattle.std.proofs.Math.Path.{fun_ext}
use Rattle.grid_config_values.specs.declared.position.Position.{Position}
use Rattle.grid_config_values.specs.Spans.Spans.{extent_at, single}
use Rattle.grid_config.specs.Compact.{Compact}
use Rattle.grid_config.specs.Looks.{compact_look, look_of}
use Rattle.grid_config.specs.Settings.{Settings, StartsWith, compact_start}

no_spans : (p : Position) → extent_at [] p ≡ single
unfolding extent_at
no_spans p = refl

pub same_look : (compact : Compact) (settings : Settings) → StartsWith (compact_start compact) settings → look_of settings ≡ compact_look compact
same_look compact settings starts =
    let extents : extent_at settings.spans ≡ (λ _. single) = ap extent_at starts.spans ∙ fun_ext no_spans in
    λ i. record {
      margin = starts.margin i;
      margin_color = starts.margin_color i;
      borders = starts.borders i;
      borders_color = starts.borders_color i;
      padding = λ p. starts.padding p i;
      padding_color = λ p. starts.padding_color p i;
      alignment_horizontal = λ p. starts.alignment_horizontal p i;
      alignment_vertical = λ p. starts.alignment_vertical p i;
      line_alignment = λ p. starts.line_alignment p i;
      trim_horizontal = λ p. starts.trim_horizontal p i;
      trim_vertical = λ p. starts.trim_vertical p i;
      justification = λ p. starts.justification p i;
      justification_color = λ p. starts.justification_color p i;
      extent = extents i;
    }
