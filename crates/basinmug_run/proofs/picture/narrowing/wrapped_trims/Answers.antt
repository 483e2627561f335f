-- The trims of one column more.
use Rattle.std.proofs.Common.{◌∙◌, ap, ℕ, []}
use Rattle.std.specs.Prelude.{nat_lt, slice_index}
use Rattle.basinmug_run.specs.Picture.Fitting.{is_narrowed, trimmed_if}
use Rattle.basinmug_run.proofs.PictureLemmas.Mapped.{next_number}
use Rattle.basinmug_run.proofs.picture.narrowing.wrapped_trims.Goals as goal

pub loop-column-preserved : goal.loop-column-preserved
loop-column-preserved c =
    let rooms = c.args.rooms.now in
    let widths = c.args.widths.now in
    let column = c.loop-column.column in
    next_number (λ (n : ℕ). trimmed_if (is_narrowed widths rooms n) n) column [] c.loop-column.settings.items c.push_trims_if.new.settings.items _ c.loop-column.invariant c.in_ok-push_trims_if.ensures
    (ap (λ (n : ℕ). trimmed_if (nat_lt n c.size_at-in-loop-column.result) column) c.size_at.ensures
    ∙ ap (λ (n : ℕ). trimmed_if (nat_lt (slice_index rooms column) n) column) c.size_at-in-loop-column.ensures)
