-- The text that is found takes the place of the other, or none is.
use Rattle.std.proofs.Common.{◌≡◌, ◌∙◌, ap, sym, ℕ, List, [], Option, Some, None, string_bytes}
use Rattle.std.specs.Prelude.{slice_index_or, unwrap_or}
use Rattle.std.specs.Option.{option_map}
use Rattle.std.specs.declared.alloc.Global.{Global}
use Rattle.std.specs.declared.string.String.{String}
use Rattle.basinmug_cells.specs.Held.{Held}
use Rattle.basinmug_cells.specs.Views.{row_texts}
use Rattle.grid_records_estimate.proofs.Meets.{OnOk-implies}
use Rattle.grid_records_traits.specs.Rows.{row_at, text_at, with_text}
use Rattle.basinmug_run.specs.Picture.Fitting.{fitted_in}
use Rattle.basinmug_run.proofs.PictureLemmas.FittedCells.{same-text}
use Rattle.basinmug_run.proofs.picture.fitting.fit_in.Goals as goal

pub returns-in-Some : goal.returns-in-Some
returns-in-Some c =
    let pos = c.args.pos in
    let rows = c.args.rows.now.rows in
    let text = text_at rows pos in
    let at : row_texts c.row-row.result ≡ row_at rows pos.row = c.row-row.ensures ∙ ap (λ (it : List (List (List ℕ))). row_at it pos.row) c.view.ensures in
    let found : option_map string_bytes c.in_ok-text.field-0 ≡ fitted_in c.args.truncate c.args.room text =
    c.in_ok-text.ensures ∙ ap (λ (texts : List (List ℕ)). fitted_in c.args.truncate c.args.room (slice_index_or texts pos.col [])) at in
    let is : string_bytes c.in-Some.text ≡ unwrap_or (fitted_in c.args.truncate c.args.room text) text =
    ap (λ (it : Option (List ℕ)). unwrap_or it text) (ap (λ (it : Option (String Global)). option_map string_bytes it) (sym c.in-Some.is) ∙ found) in
    OnOk-implies c.set_text.result (λ set. ap (λ (held : Held). held.rows) set ∙ ap (with_text rows pos) is) c.set_text.ensures.set

pub returns-in-None : goal.returns-in-None
returns-in-None c =
    let pos = c.args.pos in
    let rows = c.args.rows.now.rows in
    let text = text_at rows pos in
    let at : row_texts c.row-row.result ≡ row_at rows pos.row = c.row-row.ensures ∙ ap (λ (it : List (List (List ℕ))). row_at it pos.row) c.view.ensures in
    let found : option_map string_bytes c.in_ok-text.field-0 ≡ fitted_in c.args.truncate c.args.room text =
    c.in_ok-text.ensures ∙ ap (λ (texts : List (List ℕ)). fitted_in c.args.truncate c.args.room (slice_index_or texts pos.col [])) at in
    sym (ap (with_text rows pos) (sym (ap (λ (it : Option (List ℕ)). unwrap_or it text) (ap (λ (it : Option (String Global)). option_map string_bytes it) (sym c.in-None.is) ∙ found))) ∙ same-text rows pos)
