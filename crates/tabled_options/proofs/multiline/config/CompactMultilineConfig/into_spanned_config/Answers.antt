use Rattle.std.proofs.Common.{◌∙◌, ap}
use Rattle.grid_config.proofs.Looks.{same_look}
use Rattle.grid_config.specs.Looks.{Look}
use Rattle.tabled_options.specs.Multiline.Multiline.{multiline_of}
use Rattle.tabled_options.proofs.multiline.config.CompactMultilineConfig.into_spanned_config.Goals as goal

pub returns-clause-settings : goal.returns-clause-settings
returns-clause-settings c =
    let m = multiline_of c.args.self in
    c.laid_out.ensures
    ∙ ap (λ (look : Look). record look {
      alignment_vertical = λ _. m.alignment_vertical;
      line_alignment = λ _. m.formatting.allow_lines_alignment;
      trim_horizontal = λ _. m.formatting.horizontal_trim;
      trim_vertical = λ _. m.formatting.vertical_trim;
    }) (same_look m.compact c.in_ok-config.config c.in_ok-config.ensures.settings)
