-- By the header of the rows, what the columns of the header say.
use Rattle.std.proofs.Common.{◌≡◌, ◌∙◌, ap, ap₂, refl, ℕ, List, Option}
use Rattle.std.proofs.Math.Path.{fun_ext}
use Rattle.grid_config.specs.Colors.{Color as CellColor}
use Rattle.grid_config_values.specs.declared.alignment.AlignmentHorizontal.{AlignmentHorizontal}
use Rattle.basinmug_columns.specs.Names.{column_number, number_of}
use Rattle.basinmug_cells.specs.Views.{view_rows}
use Rattle.program_options.specs.declared.basinmug.ColumnChoice.{ColumnChoice}
use Rattle.program_options.specs.declared.basinmug.ColumnName.{ColumnName}
use Rattle.basinmug_run.specs.Columns.{chosen_columns, given_for, last_for, number_in}
use Rattle.basinmug_run.proofs.OfColumns.{first-alignment, first-choice, first-color, none-missing}
use Rattle.basinmug_run.proofs.PictureLemmas.Narrowed.{err-told}
use Rattle.basinmug_run.proofs.columns.named_in.Goals as goal

pub returns-in_err-columns-clause-refused : goal.returns-in_err-columns-clause-refused
returns-in_err-columns-clause-refused c =
    let options = c.args.options.now in
    let rows = view_rows c.args.rows in
    let look = number_of c.in_ok-named.named in
    let count = c.args.count in
    let is : look ≡ number_in options rows =
    fun_ext (λ (name : ColumnName). c.in_ok-named.ensures name ∙ ap (λ (header : List (List ℕ)). column_number header name) c.header_of-header.ensures) in
    let fault = c.in_err-columns.field-0.0 in
    err-told c.from_residual-in_err-columns.result fault _ c.from_residual-in_err-columns.ensures.1
    (first-choice options rows look count c.deref.result.now options.alignments.items options.colors.items is c.deref.ensures.value refl refl fault c.in_err-columns.ensures.refused)

pub returns-in_err-alignments-clause-refused : goal.returns-in_err-alignments-clause-refused
returns-in_err-alignments-clause-refused c =
    let options = c.args.options.now in
    let rows = view_rows c.args.rows in
    let look = number_of c.in_ok-named.named in
    let count = c.args.count in
    let is : look ≡ number_in options rows =
    fun_ext (λ (name : ColumnName). c.in_ok-named.ensures name ∙ ap (λ (header : List (List ℕ)). column_number header name) c.header_of-header.ensures) in
    let fault = c.in_err-alignments.field-0.0 in
    err-told c.from_residual-in_err-alignments.result fault _ c.from_residual-in_err-alignments.ensures.1
    (first-alignment options rows look count c.deref.result.now c.deref-2.result.now options.colors.items is c.deref.ensures.value c.deref-2.ensures.value refl c.in_ok-columns.ensures.named fault c.in_err-alignments.ensures.refused)

pub returns-in_err-colors-clause-refused : goal.returns-in_err-colors-clause-refused
returns-in_err-colors-clause-refused c =
    let options = c.args.options.now in
    let rows = view_rows c.args.rows in
    let look = number_of c.in_ok-named.named in
    let count = c.args.count in
    let is : look ≡ number_in options rows =
    fun_ext (λ (name : ColumnName). c.in_ok-named.ensures name ∙ ap (λ (header : List (List ℕ)). column_number header name) c.header_of-header.ensures) in
    let fault = c.in_err-colors.field-0.0 in
    err-told c.from_residual-in_err-colors.result fault _ c.from_residual-in_err-colors.ensures.1
    (first-color options rows look count c.deref.result.now c.deref-2.result.now c.deref-3.result.now is c.deref.ensures.value c.deref-2.ensures.value c.deref-3.ensures.value c.in_ok-columns.ensures.named c.in_ok-alignments.ensures.named fault c.in_err-colors.ensures.refused)

pub returns-clause-columns : goal.returns-clause-columns
returns-clause-columns c =
    let options = c.args.options.now in
    let rows = view_rows c.args.rows in
    let look = number_of c.in_ok-named.named in
    let count = c.args.count in
    let is : look ≡ number_in options rows =
    fun_ext (λ (name : ColumnName). c.in_ok-named.ensures name ∙ ap (λ (header : List (List ℕ)). column_number header name) c.header_of-header.ensures) in
    c.in_ok-columns.ensures.columns ∙ ap₂ (λ (n : ColumnName → Option ℕ) (choices : List ColumnChoice). chosen_columns n choices) is c.deref.ensures.value

pub returns-clause-alignments : goal.returns-clause-alignments
returns-clause-alignments c =
    let options = c.args.options.now in
    let rows = view_rows c.args.rows in
    let look = number_of c.in_ok-named.named in
    let count = c.args.count in
    let is : look ≡ number_in options rows =
    fun_ext (λ (name : ColumnName). c.in_ok-named.ensures name ∙ ap (λ (header : List (List ℕ)). column_number header name) c.header_of-header.ensures) in
    λ column.
    c.in_ok-alignments.ensures.last column
    ∙ ap₂ (λ (n : ColumnName → Option ℕ) (pairs : List (ColumnName × AlignmentHorizontal)). last_for (given_for n pairs) column) is c.deref-2.ensures.value

pub returns-clause-colors : goal.returns-clause-colors
returns-clause-colors c =
    let options = c.args.options.now in
    let rows = view_rows c.args.rows in
    let look = number_of c.in_ok-named.named in
    let count = c.args.count in
    let is : look ≡ number_in options rows =
    fun_ext (λ (name : ColumnName). c.in_ok-named.ensures name ∙ ap (λ (header : List (List ℕ)). column_number header name) c.header_of-header.ensures) in
    λ column.
    c.in_ok-colors.ensures.last column
    ∙ ap₂ (λ (n : ColumnName → Option ℕ) (pairs : List (ColumnName × CellColor)). last_for (given_for n pairs) column) is c.deref-3.ensures.value

pub returns-clause-named : goal.returns-clause-named
returns-clause-named c =
    let options = c.args.options.now in
    let rows = view_rows c.args.rows in
    let look = number_of c.in_ok-named.named in
    let count = c.args.count in
    let is : look ≡ number_in options rows =
    fun_ext (λ (name : ColumnName). c.in_ok-named.ensures name ∙ ap (λ (header : List (List ℕ)). column_number header name) c.header_of-header.ensures) in
    none-missing options rows look count c.deref.result.now c.deref-2.result.now c.deref-3.result.now is c.deref.ensures.value c.deref-2.ensures.value c.deref-3.ensures.value c.in_ok-columns.ensures.named c.in_ok-alignments.ensures.named c.in_ok-colors.ensures.named
