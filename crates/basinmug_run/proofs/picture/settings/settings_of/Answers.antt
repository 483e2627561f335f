-- By the header, what the columns of the header say.
use Rattle.std.proofs.Common.{◌≡◌, ◌∙◌, ◌++◌, ◌∷◌, [], ap, ap₂, sym, ℕ, List, Option}
use Rattle.std.proofs.Math.Path.{fun_ext}
use Rattle.grid_config.specs.Colors.{Color as CellColor}
use Rattle.grid_config_values.specs.declared.alignment.AlignmentHorizontal.{AlignmentHorizontal}
use Rattle.grid_config_values.specs.declared.borders.Borders.{Borders as Glyphs}
use Rattle.basinmug_columns.specs.Names.{column_number, number_of}
use Rattle.basinmug_cells.specs.Views.{row_texts}
use Rattle.program_options.specs.declared.basinmug.ColumnName.{ColumnName}
use Rattle.tabled_list.specs.declared.setting.Setting.{Setting}
use Rattle.tabled_list.specs.declared.setting.Setting.TheVariants.{Borders}
use Rattle.basinmug_run.specs.Picture.Names.{missing_by, missing_names}
use Rattle.basinmug_run.specs.Picture.Settings.{aligned_by, alignments, colored_by, colors, glyphs_of, numbers_right}
use Rattle.basinmug_run.proofs.PictureLemmas.Missing.{first-alike, first-behind, first-of-more}
use Rattle.basinmug_run.proofs.PictureLemmas.Narrowed.{err-told}
use Rattle.basinmug_run.proofs.picture.settings.settings_of.Goals as goal

pub returns-in_err-push_alignments-clause-refused : goal.returns-in_err-push_alignments-clause-refused
returns-in_err-push_alignments-clause-refused c =
    let options = c.args.options.now in
    let header = row_texts c.args.header in
    let look = number_of c.in_ok-columns.columns in
    let is : look ≡ column_number header = fun_ext c.in_ok-columns.ensures in
    let fault = c.in_err-push_alignments.field-0.0 in
    let same : missing_by look c.deref.result.now ≡ missing_names header options.alignments.items =
    ap₂ (λ (n : ColumnName → Option ℕ) (pairs : List (ColumnName × AlignmentHorizontal)). missing_by n pairs) is c.deref.ensures.value in
    err-told c.from_residual-in_err-push_alignments.result fault _ c.from_residual-in_err-push_alignments.ensures.1
    (first-of-more (missing_names header options.alignments.items) (missing_names header options.colors.items) fault
    (first-alike (missing_by look c.deref.result.now) (missing_names header options.alignments.items) fault same c.in_err-push_alignments.ensures.refused))

pub returns-in_err-push_colors-clause-refused : goal.returns-in_err-push_colors-clause-refused
returns-in_err-push_colors-clause-refused c =
    let options = c.args.options.now in
    let header = row_texts c.args.header in
    let look = number_of c.in_ok-columns.columns in
    let is : look ≡ column_number header = fun_ext c.in_ok-columns.ensures in
    let fault = c.in_err-push_colors.field-0.0 in
    let aligned : missing_by look c.deref.result.now ≡ missing_names header options.alignments.items =
    ap₂ (λ (n : ColumnName → Option ℕ) (pairs : List (ColumnName × AlignmentHorizontal)). missing_by n pairs) is c.deref.ensures.value in
    let same : missing_by look c.deref-2.result.now ≡ missing_names header options.colors.items =
    ap₂ (λ (n : ColumnName → Option ℕ) (pairs : List (ColumnName × CellColor)). missing_by n pairs) is c.deref-2.ensures.value in
    err-told c.from_residual-in_err-push_colors.result fault _ c.from_residual-in_err-push_colors.ensures.1
    (first-behind (missing_names header options.alignments.items) (missing_names header options.colors.items) fault (sym aligned ∙ c.in_ok-push_alignments.ensures.named)
    (first-alike (missing_by look c.deref-2.result.now) (missing_names header options.colors.items) fault same c.in_err-push_colors.ensures.refused))

pub returns-clause-settings : goal.returns-clause-settings
returns-clause-settings c =
    let options = c.args.options.now in
    let header = row_texts c.args.header in
    let look = number_of c.in_ok-columns.columns in
    let is : look ≡ column_number header = fun_ext c.in_ok-columns.ensures in
    let lines = glyphs_of options.line_style in
    let numbers = numbers_right c.args.numeric.now in
    let aligned : aligned_by look c.deref.result.now ≡ alignments header options.alignments.items =
    ap₂ (λ (n : ColumnName → Option ℕ) (pairs : List (ColumnName × AlignmentHorizontal)). aligned_by n pairs) is c.deref.ensures.value in
    let colored : colored_by look c.deref-2.result.now ≡ colors header options.colors.items =
    ap₂ (λ (n : ColumnName → Option ℕ) (pairs : List (ColumnName × CellColor)). colored_by n pairs) is c.deref-2.ensures.value in
    let first : c.push.new.self.items ≡ Borders lines ∷ [] = c.in_ok-push.ensures.items ∙ ap₂ (λ (old : List Setting) (glyphs : Glyphs ℕ). old ++ Borders glyphs ∷ []) c.new-settings.ensures.items c.glyphs_of.ensures in
    c.in_ok-push_colors.ensures.settings
    ∙ ap₂ (λ (old more : List Setting). old ++ more)
    (c.in_ok-push_alignments.ensures.settings
    ∙ ap₂ (λ (old more : List Setting). old ++ more) (c.in_ok-push_numbers.ensures ∙ ap (λ (old : List Setting). old ++ numbers) first) aligned) colored

pub returns-clause-named : goal.returns-clause-named
returns-clause-named c =
    let options = c.args.options.now in
    let header = row_texts c.args.header in
    let look = number_of c.in_ok-columns.columns in
    let is : look ≡ column_number header = fun_ext c.in_ok-columns.ensures in
    ap₂ (λ (first rest : List (List ℕ)). first ++ rest)
    (sym (ap₂ (λ (n : ColumnName → Option ℕ) (pairs : List (ColumnName × AlignmentHorizontal)). missing_by n pairs) is c.deref.ensures.value) ∙ c.in_ok-push_alignments.ensures.named)
    (sym (ap₂ (λ (n : ColumnName → Option ℕ) (pairs : List (ColumnName × CellColor)). missing_by n pairs) is c.deref-2.ensures.value) ∙ c.in_ok-push_colors.ensures.named)
