-- The widths that a table's columns get, and what becomes of its texts.
use Rattle.std.proofs.Common.{◌≡◌, ◌∙◌, ℕ, List, ◌++◌, drop, length, take}
use Rattle.basinmug_run.specs.Picture.TableRows.{state_of}
use Rattle.tabled_list.specs.Lists.{LeadsThrough}
use Rattle.basinmug_run.specs.Picture.Fitting.{trims, with_fitted_texts}
use Rattle.basinmug_run.proofs.PictureLemmas.Narrowed.{are-asked, err-told, not-fitted, narrows-by, of-widths, on-ok, written_back}
use Rattle.basinmug_run.proofs.picture.narrowing.narrow.Goals as goal

pub returns-clause-narrowed : goal.returns-clause-narrowed
returns-clause-narrowed c =
    let old = state_of c.args.table.now in
    let new = state_of c.fit_columns.new.table in
    let truncate = c.args.asked.truncate in
    let priority = c.args.asked.priority in
    let needs = c.args.needs.now in
    let asked = c.args.asked.width in
    let total = c.in_ok-total.total in
    let rooms = c.in_ok-rooms.rooms in
    let shrunk : List ℕ = c.shrink_columns.new.widths in
    let after : List ℕ = c.as_slice.result.now in
    let are_widths = c.as_slice-before.ensures.value ∙ c.in_ok-widths.ensures.widths in
    let back : take rooms.len (shrunk ++ drop (length shrunk) rooms.items) ≡ shrunk = written_back rooms.items c.deref_mut.result.now shrunk rooms.len rooms.ok.0 c.deref_mut.ensures.value c.shrink_columns.auto.widths in
    on-ok c.is_wider_than.result _
    (narrows-by truncate priority needs asked total old c.in_ok-total.ensures.total c.if-total-asked.false after
    (are-asked truncate priority needs asked total old c.in_ok-total.ensures.total c.deref_mut.result.now shrunk after (c.deref_mut.ensures.value ∙ c.in_ok-rooms.ensures.items ∙ are_widths) c.in_ok-shrink_columns.ensures.rooms (c.as_slice.ensures.value ∙ back))
    new
    (of-widths truncate priority needs asked total old c.in_ok-total.ensures.total (λ (widths : List ℕ). LeadsThrough (trims truncate widths after) (with_fitted_texts truncate widths after old) new) c.as_slice-before.result.now are_widths c.in_ok-fit_columns.ensures.fitted))

pub returns-in_err-fit_columns-clause-refused : goal.returns-in_err-fit_columns-clause-refused
returns-in_err-fit_columns-clause-refused c =
    let old = state_of c.args.table.now in
    let truncate = c.args.asked.truncate in
    let priority = c.args.asked.priority in
    let needs = c.args.needs.now in
    let asked = c.args.asked.width in
    let total = c.in_ok-total.total in
    let rooms = c.in_ok-rooms.rooms in
    let shrunk : List ℕ = c.shrink_columns.new.widths in
    let after : List ℕ = c.as_slice.result.now in
    let fault = c.in_err-fit_columns.field-0.0 in
    let are_widths = c.as_slice-before.ensures.value ∙ c.in_ok-widths.ensures.widths in
    let back : take rooms.len (shrunk ++ drop (length shrunk) rooms.items) ≡ shrunk = written_back rooms.items c.deref_mut.result.now shrunk rooms.len rooms.ok.0 c.deref_mut.ensures.value c.shrink_columns.auto.widths in
    err-told c.from_residual-in_err-fit_columns.result fault _ c.from_residual-in_err-fit_columns.ensures.1
    (not-fitted truncate priority needs asked total old c.in_ok-total.ensures.total after
    (are-asked truncate priority needs asked total old c.in_ok-total.ensures.total c.deref_mut.result.now shrunk after (c.deref_mut.ensures.value ∙ c.in_ok-rooms.ensures.items ∙ are_widths) c.in_ok-shrink_columns.ensures.rooms (c.as_slice.ensures.value ∙ back))
    fault c.as_slice-before.result.now are_widths c.in_err-fit_columns.ensures.refused)
