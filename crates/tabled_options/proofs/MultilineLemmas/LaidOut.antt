-- Settings of which four are set for all cells look so.
use Rattle.std.proofs.Common.{◌≡◌, false, true, Result, Ok, Err, IsOk, OnOk, ap, ◌∙◌}
use Rattle.std.proofs.Math.Path.{fun_ext}
use Rattle.grid_config_values.specs.declared.alignment.AlignmentVertical.{AlignmentVertical}
use Rattle.grid_config_values.specs.declared.entity.Entity.TheVariants.{Global}
use Rattle.grid_config_values.specs.declared.formatting.Formatting.{Formatting}
use Rattle.grid_config_values.specs.Settings.{SetsCovered}
use Rattle.grid_config.specs.Looks.{Look, look_of}
use Rattle.grid_config.specs.Settings.{KeepsOthers, LineAlignment, Settings, TrimHorizontal, TrimVertical, VerticalAlignment}

false-true : false ≡ true → ⊥
false-true e = cc

of_ok : {X E : Type 0} (result : Result X E) (P : Type 0) → IsOk result → OnOk result P → P
of_ok result P = elim result as (λ result. IsOk result → OnOk result P → P) [ Ok x ↦ λ is p. p | Err e ↦ λ is p. absurd (false-true is) ]

module _ {X E : Type 0} (vertical : AlignmentVertical) (formatting : Formatting) (start stood aligned trimmed end : Settings) (one two three four : Result X E) where
  pub looks_laid : KeepsOthers VerticalAlignment start stood → OnOk one (SetsCovered start.alignment_vertical stood.alignment_vertical Global vertical) → IsOk one
      → KeepsOthers LineAlignment stood aligned → OnOk two (SetsCovered stood.line_alignment aligned.line_alignment Global formatting.allow_lines_alignment) → IsOk two
      → KeepsOthers TrimHorizontal aligned trimmed → OnOk three (SetsCovered aligned.trim_horizontal trimmed.trim_horizontal Global formatting.horizontal_trim) → IsOk three
      → KeepsOthers TrimVertical trimmed end → OnOk four (SetsCovered trimmed.trim_vertical end.trim_vertical Global formatting.vertical_trim) → IsOk four
      → look_of end ≡ record (look_of start) {
        alignment_vertical = λ _. vertical;
        line_alignment = λ _. formatting.allow_lines_alignment;
        trim_horizontal = λ _. formatting.horizontal_trim;
        trim_vertical = λ _. formatting.vertical_trim;
      }
  looks_laid keeps1 sets1 is1 keeps2 sets2 is2 keeps3 sets3 is3 keeps4 sets4 is4 =
      let first : look_of stood ≡ record (look_of start) { alignment_vertical = λ _. vertical } =
      ap look_of keeps1 ∙ ap (λ values. record (look_of start) { alignment_vertical = values }) (fun_ext (of_ok one (SetsCovered start.alignment_vertical stood.alignment_vertical Global vertical) is1 sets1)) in
      let second : look_of aligned ≡ record (look_of start) { alignment_vertical = λ _. vertical; line_alignment = λ _. formatting.allow_lines_alignment } =
      ap look_of keeps2 ∙ ap (λ values. record (look_of stood) { line_alignment = values }) (fun_ext (of_ok two (SetsCovered stood.line_alignment aligned.line_alignment Global formatting.allow_lines_alignment) is2 sets2))
      ∙ ap (λ (look : Look). record look { line_alignment = λ _. formatting.allow_lines_alignment }) first in
      let third : look_of trimmed ≡ record (look_of start) { alignment_vertical = λ _. vertical; line_alignment = λ _. formatting.allow_lines_alignment; trim_horizontal = λ _. formatting.horizontal_trim } =
      ap look_of keeps3 ∙ ap (λ values. record (look_of aligned) { trim_horizontal = values }) (fun_ext (of_ok three (SetsCovered aligned.trim_horizontal trimmed.trim_horizontal Global formatting.horizontal_trim) is3 sets3))
      ∙ ap (λ (look : Look). record look { trim_horizontal = λ _. formatting.horizontal_trim }) second in
      ap look_of keeps4 ∙ ap (λ values. record (look_of trimmed) { trim_vertical = values }) (fun_ext (of_ok four (SetsCovered trimmed.trim_vertical end.trim_vertical Global formatting.vertical_trim) is4 sets4))
      ∙ ap (λ (look : Look). record look { trim_vertical = λ _. formatting.vertical_trim }) third
