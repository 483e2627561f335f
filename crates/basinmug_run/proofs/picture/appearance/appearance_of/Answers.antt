-- What a table looks like, by its rows.
use Rattle.std.proofs.Common.{◌≡◌, ◌∙◌, ◌++◌, [], map, subst, ℕ, List}
use Rattle.basinmug_cells.specs.Views.{row_texts, view_rows}
use Rattle.basinmug_run.specs.Picture.Names.{IsFirstMissing, missing_names}
use Rattle.basinmug_run.proofs.PictureLemmas.Narrowed.{err-told}
use Rattle.basinmug_run.proofs.PictureLemmas.Tables.{settings-are}
use Rattle.basinmug_run.proofs.picture.appearance.appearance_of.Goals as goal

pub returns-clause-settings : goal.returns-clause-settings
returns-clause-settings c =
    settings-are c.args.options.now (view_rows c.args.rows) (row_texts c.header_of-header.result) c.as_slice-numbers.result.now c.in_ok-settings.settings.items c.in_ok-settings.ensures.settings
    c.header_of-header.ensures (c.as_slice-numbers.ensures.value ∙ c.in_ok-facts.ensures.numeric)

pub returns-in_err-settings-clause-refused : goal.returns-in_err-settings-clause-refused
returns-in_err-settings-clause-refused c =
    let options = c.args.options.now in
    let fault = c.in_err-settings.field-0.0 in
    err-told c.from_residual-in_err-settings.result fault _ c.from_residual-in_err-settings.ensures.1
    (subst (λ (header : List (List ℕ)). IsFirstMissing (missing_names header options.alignments.items ++ missing_names header options.colors.items) fault) c.header_of-header.ensures c.in_err-settings.ensures.refused)

pub returns-clause-named : goal.returns-clause-named
returns-clause-named c =
    let options = c.args.options.now in
    subst (λ (header : List (List ℕ)). missing_names header options.alignments.items ++ missing_names header options.colors.items ≡ []) c.header_of-header.ensures c.in_ok-settings.ensures.named
