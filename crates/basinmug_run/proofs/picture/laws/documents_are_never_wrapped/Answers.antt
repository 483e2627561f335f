use Rattle.std.proofs.Common.{◌≡◌, ap, subst, sym, ℕ, Bool, true, List, Option, None, if◌then◌else◌}
use Rattle.std.specs.Prelude.{MatchOption}
use Rattle.tabled_list.specs.Lists.{LeadsThrough}
use Rattle.tabled.specs.Tables.{new_state}
use Rattle.tabled_steps.specs.States.{State}
use Rattle.tabled_text.specs.Rows.{filled}
use Rattle.basinmug_columns.specs.declared.rows.RowsShown.{RowsShown}
use Rattle.basinmug_run.specs.declared.options.Options.{Options}
use Rattle.basinmug_run.specs.Picture.Narrowing.{FitsTexts}
use Rattle.basinmug_run.specs.Picture.Pictures.{IsTable, asked_settings, cells_in, needs_in}
use Rattle.basinmug_run.specs.Picture.Rows.{is_markdown}
use Rattle.basinmug_run.proofs.picture.laws.documents_are_never_wrapped.Goals as goal

never : (options : Options) (shown : RowsShown) (rows : List (List (List ℕ))) (s : State) → is_markdown options.line_style ≡ true → IsTable options shown rows s → LeadsThrough (asked_settings options rows) (new_state (filled (cells_in options shown rows))) s
never options shown rows s is (after, ran, narrowed) =
    let none = ap (λ (b : Bool). if b then None else options.width) is in
    let same : s ≡ after = subst (λ (asked : Option ℕ). MatchOption asked (s ≡ after) (λ width. FitsTexts options.truncate options.priority (needs_in options.header rows) width after s)) none narrowed in
    subst (λ (it : State). LeadsThrough (asked_settings options rows) (new_state (filled (cells_in options shown rows))) it) (sym same) ran

pub returns : goal.returns
returns c = never
