use Rattle.std.proofs.Common.{◌≡◌, [], Ok, inl, inr, refl, subst, ◌∙◌}
use Rattle.std.specs.declared.alloc.AllocError.{AllocError}
use Rattle.grid_config_values.specs.Settings.{value_at}
use Rattle.grid_config_values.specs.declared.fault.Fault.{Fault}
use Rattle.grid_config_values.specs.declared.fault.Fault.TheVariants.{Memory}
use Rattle.grid_config.specs.Looks.{look_of}
use Rattle.papergrid_print.specs.Ended.{ended_text as table_ended_text}
use Rattle.tabled_output.specs.Pieces.{HasBegun, Passes}
use Rattle.tabled_output.proofs.WrittenPieces.{passes-answered, passes-none, passes-refused}
use Rattle.tabled.specs.Tables.{state_under}
use Rattle.tabled.specs.Writing.{ended_text}
use Rattle.grid_records_estimate.proofs.Meets.{OnErr-always}
use Rattle.tabled.proofs.Fitting.{fails-told}
use Rattle.tabled.proofs.Written.{ended_drawn, good_drawn, range_drawn}
use Rattle.tabled.proofs.table_of.TableOf.write_ended.Goals as goal

pub write_ended_table-requires-clause-good : goal.write_ended_table-requires-clause-good
write_ended_table-requires-clause-good g c =
    let table = c.args.self.now in
    let config = c.args.config.now in
    let texts = g.R.RecordTexts.rows table.records in
    good_drawn config texts (value_at table.config.colors) table.dimension c.in_ok-sizes.sizes c.count_columns.result c.count_rows.result c.deref.result.now c.deref-2.result.now
    c.in_ok-sizes.ensures.sizes c.count_columns.ensures c.count_rows.ensures (c.deref.ensures.value ∙ c.in_ok-widths.ensures) (c.deref-2.ensures.value ∙ c.in_ok-heights.ensures) c.in_ok-sizes.ensures.table.fits

pub write_ended_table-requires-clause-range : goal.write_ended_table-requires-clause-range
write_ended_table-requires-clause-range g c =
    let table = c.args.self.now in
    let config = c.args.config.now in
    let texts = g.R.RecordTexts.rows table.records in
    range_drawn config texts (value_at table.config.colors) table.dimension c.in_ok-sizes.sizes c.count_columns.result c.count_rows.result c.deref.result.now c.deref-2.result.now
    c.in_ok-sizes.ensures.sizes c.count_columns.ensures c.count_rows.ensures (c.deref.ensures.value ∙ c.in_ok-widths.ensures) (c.deref-2.ensures.value ∙ c.in_ok-heights.ensures) c.in_ok-sizes.ensures.table.fits

pub returns-in_err-sizes-clause-text : goal.returns-in_err-sizes-clause-text
returns-in_err-sizes-clause-text g c = passes-none g.W.Write.contents (ended_text (state_under g.R.RecordTexts.rows c.args.self.now c.args.config.now)) [] c.from_residual.result c.args.writer.now c.from_residual.ensures.0

pub returns-in_err-widths-clause-text : goal.returns-in_err-widths-clause-text
returns-in_err-widths-clause-text g c = passes-none g.W.Write.contents (ended_text (state_under g.R.RecordTexts.rows c.args.self.now c.args.config.now)) [] c.from_residual-in_err-widths.result c.args.writer.now c.from_residual-in_err-widths.ensures.0

pub returns-in_err-heights-clause-text : goal.returns-in_err-heights-clause-text
returns-in_err-heights-clause-text g c = passes-none g.W.Write.contents (ended_text (state_under g.R.RecordTexts.rows c.args.self.now c.args.config.now)) [] c.from_residual-in_err-heights.result c.args.writer.now c.from_residual-in_err-heights.ensures.0

pub returns-in_err-write_ended_table-clause-text : goal.returns-in_err-write_ended_table-clause-text
returns-in_err-write_ended_table-clause-text g c =
    let table = c.args.self.now in
    let config = c.args.config.now in
    let texts = g.R.RecordTexts.rows table.records in
    let same : table_ended_text (look_of config) texts (value_at c.get_colors.result.now) c.deref.result.now c.deref-2.result.now ≡ ended_text (state_under g.R.RecordTexts.rows table config) =
    rw c.get_colors.ensures
    (ended_drawn config texts (value_at table.config.colors) table.dimension c.in_ok-sizes.sizes c.count_columns.result c.count_rows.result c.deref.result.now c.deref-2.result.now
    c.in_ok-sizes.ensures.sizes c.count_columns.ensures c.count_rows.ensures (c.deref.ensures.value ∙ c.in_ok-widths.ensures) (c.deref-2.ensures.value ∙ c.in_ok-heights.ensures)) in
    passes-refused g.W.Write.contents (ended_text (state_under g.R.RecordTexts.rows table config)) [] c.from_residual-in_err-write_ended_table.result c.args.writer.now c.write_ended_table.new.writer c.from_residual-in_err-write_ended_table.ensures.0
    (subst (λ text. HasBegun g.W.Write.contents text c.args.writer.now c.write_ended_table.new.writer) same c.in_err-write_ended_table.ensures)

pub returns-clause-text : goal.returns-clause-text
returns-clause-text g c =
    let table = c.args.self.now in
    let config = c.args.config.now in
    let texts = g.R.RecordTexts.rows table.records in
    let same : table_ended_text (look_of config) texts (value_at c.get_colors.result.now) c.deref.result.now c.deref-2.result.now ≡ ended_text (state_under g.R.RecordTexts.rows table config) =
    rw c.get_colors.ensures
    (ended_drawn config texts (value_at table.config.colors) table.dimension c.in_ok-sizes.sizes c.count_columns.result c.count_rows.result c.deref.result.now c.deref-2.result.now
    c.in_ok-sizes.ensures.sizes c.count_columns.ensures c.count_rows.ensures (c.deref.ensures.value ∙ c.in_ok-widths.ensures) (c.deref-2.ensures.value ∙ c.in_ok-heights.ensures)) in
    passes-answered g.W.Write.contents AllocError Fault (ended_text (state_under g.R.RecordTexts.rows table config)) [] c.in_ok-write_ended_table.field-0 c.args.writer.now c.write_ended_table.new.writer
    (subst (λ text. Passes {E = AllocError} g.W.Write.contents text (Ok c.in_ok-write_ended_table.field-0) [] c.args.writer.now c.write_ended_table.new.writer) same c.in_ok-write_ended_table.ensures)

pub returns-in_err-sizes-clause-table : goal.returns-in_err-sizes-clause-table
returns-in_err-sizes-clause-table g c =
    fails-told (state_under g.R.RecordTexts.rows c.args.self.now c.args.config.now) c.from_residual.result c.in_err-sizes.field-0.0 c.from_residual.ensures.1 c.in_err-sizes.ensures.table.refused

pub returns-in_err-widths-clause-table : goal.returns-in_err-widths-clause-table
returns-in_err-widths-clause-table g c =
    fails-told (state_under g.R.RecordTexts.rows c.args.self.now c.args.config.now) c.from_residual-in_err-widths.result Memory c.from_residual-in_err-widths.ensures.1 (inl refl)

pub returns-in_err-heights-clause-table : goal.returns-in_err-heights-clause-table
returns-in_err-heights-clause-table g c =
    fails-told (state_under g.R.RecordTexts.rows c.args.self.now c.args.config.now) c.from_residual-in_err-heights.result Memory c.from_residual-in_err-heights.ensures.1 (inl refl)

pub returns-in_err-write_ended_table-clause-table : goal.returns-in_err-write_ended_table-clause-table
returns-in_err-write_ended_table-clause-table g c =
    fails-told (state_under g.R.RecordTexts.rows c.args.self.now c.args.config.now) c.from_residual-in_err-write_ended_table.result Memory c.from_residual-in_err-write_ended_table.ensures.1 (inl refl)

pub returns-clause-table : goal.returns-clause-table
returns-clause-table g c = record { fits = c.in_ok-sizes.ensures.table.fits; refused = tt }

pub returns-in_err-sizes-clause-untouched : goal.returns-in_err-sizes-clause-untouched
returns-in_err-sizes-clause-untouched g c = OnErr-always c.from_residual.result (inl refl)

pub returns-in_err-widths-clause-untouched : goal.returns-in_err-widths-clause-untouched
returns-in_err-widths-clause-untouched g c = OnErr-always c.from_residual-in_err-widths.result (inr c.in_ok-sizes.ensures.table.fits)

pub returns-in_err-heights-clause-untouched : goal.returns-in_err-heights-clause-untouched
returns-in_err-heights-clause-untouched g c = OnErr-always c.from_residual-in_err-heights.result (inr c.in_ok-sizes.ensures.table.fits)

pub returns-in_err-write_ended_table-clause-untouched : goal.returns-in_err-write_ended_table-clause-untouched
returns-in_err-write_ended_table-clause-untouched g c = OnErr-always c.from_residual-in_err-write_ended_table.result (inr c.in_ok-sizes.ensures.table.fits)
