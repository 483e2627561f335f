-- What is requested of one column more.
use Rattle.std.proofs.Common.{[], ◌∙◌, ap}
use Rattle.std.specs.Prelude.{slice_index_or}
use Rattle.std.proofs.lemmas.List.{get_or_default}
use Rattle.basinmug_columns.specs.declared.shown.ShownColumn.{ShownColumn}
use Rattle.basinmug_columns.specs.declared.shown.ShownColumn.TheVariants.{LeftOut}
use Rattle.basinmug_run.specs.Columns.{asked_at, value_at, value_in}
use Rattle.basinmug_run.proofs.PictureLemmas.Mapped.{next_number}
use Rattle.basinmug_run.proofs.columns.placed.Goals as goal

pub loop-place-preserved : goal.loop-place-preserved
loop-place-preserved g c =
    let values = value_in c.args.values.now in
    let place = c.loop-place.place in
    next_number (λ at. asked_at at (value_at values (slice_index_or c.args.shown.now at LeftOut))) place [] c.loop-place.asked.items c.push_asked.new.asked.items _ c.loop-place.invariant c.in_ok-push_asked.ensures
    (ap (asked_at place) (c.value_at-value.ensures ∙ ap (λ (column : ShownColumn). value_at values column) (get_or_default c.args.shown.now place _ LeftOut c.loop-place-test.true)))
