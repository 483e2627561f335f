-- A text whose column has its width stays.
use Rattle.std.proofs.Common.{◌≡◌, ◌∙◌, ◌-◌, ap, sym, arith, ℕ, List, Bool, true, false, None}
use Rattle.std.specs.Prelude.{if◌then◌else◌, nat_lt, slice_index, unwrap_or}
use Rattle.std.proofs.lemmas.Bool.{le-ltb, lt-ltb}
use Rattle.grid_records_estimate.proofs.Meets.{OnOk-implies}
use Rattle.grid_records_traits.specs.Rows.{text_at, with_text}
use Rattle.basinmug_run.specs.Picture.Fitting.{fitted_in, is_narrowed}
use Rattle.basinmug_run.proofs.PictureLemmas.FittedCells.{same-text}
use Rattle.basinmug_run.proofs.picture.fitting.fit_cell.Goals as goal

pub returns-then-size_at-room : goal.returns-then-size_at-room
returns-then-size_at-room c =
    let fitting = c.args.fitting.now in
    let rows = c.args.rows.now.rows in
    let pos = c.args.pos in
    let text = text_at rows pos in
    let room = slice_index fitting.rooms.now pos.col in
    let stays : is_narrowed fitting.widths.now fitting.rooms.now pos.col ≡ false =
    le-ltb room (slice_index fitting.widths.now pos.col) (omega (arith, c.size_at.ensures, c.size_at-room.ensures, c.if-size_at-room.true)) in
    sym (ap (λ (narrowed : Bool). with_text rows pos (unwrap_or (if narrowed then fitted_in fitting.truncate (room - 2) text else None) text)) stays ∙ same-text rows pos)

pub returns : goal.returns
returns c =
    let fitting = c.args.fitting.now in
    let rows = c.args.rows.now.rows in
    let pos = c.args.pos in
    let text = text_at rows pos in
    let room = slice_index fitting.rooms.now pos.col in
    let narrowed : is_narrowed fitting.widths.now fitting.rooms.now pos.col ≡ true =
    lt-ltb room (slice_index fitting.widths.now pos.col) (omega (arith, c.size_at.ensures, c.size_at-room.ensures, c.if-size_at-room.false)) in
    OnOk-implies c.fit_in.result
    (λ is.
    is ∙ ap (λ (n : ℕ). with_text rows pos (unwrap_or (fitted_in fitting.truncate n text) text)) (c.saturating_sub.ensures ∙ ap (λ (n : ℕ). n - 2) c.size_at-room.ensures)
    ∙ sym (ap (λ (it : Bool). with_text rows pos (unwrap_or (if it then fitted_in fitting.truncate (room - 2) text else None) text)) narrowed)) c.fit_in.ensures
