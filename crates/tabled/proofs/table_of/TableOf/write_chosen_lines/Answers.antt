use Rattle.std.proofs.Common.{◌≡◌, [], Ok, inl, inr, refl, subst}
use Rattle.std.specs.declared.alloc.AllocError.{AllocError}
use Rattle.grid_config_values.specs.Settings.{value_at}
use Rattle.grid_config_values.specs.declared.fault.Fault.{Fault}
use Rattle.grid_config_values.specs.declared.fault.Fault.TheVariants.{Memory}
use Rattle.grid_config.specs.Looks.{look_of}
use Rattle.papergrid.specs.GridParts.{chosen_grid_text}
use Rattle.tabled_output.specs.Pieces.{HasBegun, Passes}
use Rattle.tabled_output.proofs.WrittenPieces.{passes-answered, passes-none, passes-refused}
use Rattle.tabled_size.specs.Dimension.Sizes.{given_size}
use Rattle.tabled_size.specs.Dimension.Stored.{stored_sizes}
use Rattle.tabled.specs.Tables.{state_under}
use Rattle.tabled.specs.Writing.{chosen_lines}
use Rattle.grid_records_estimate.proofs.Meets.{OnErr-always}
use Rattle.tabled.proofs.Fitting.{are_chosen, fails-told, fits_given}
use Rattle.tabled.proofs.table_of.TableOf.write_chosen_lines.Goals as goal

pub write_buffered_lines-requires : goal.write_buffered_lines-requires
write_buffered_lines-requires g c =
    let table = c.args.self.now in
    let config = c.args.config.now in
    record {
      fits = rw c.new-grid.ensures
          (fits_given config (g.R.RecordTexts.rows table.records) (value_at table.config.colors) table.dimension config c.in_ok-sizes.sizes (g.R.RecordColumns.columns table.records)
          refl c.in_ok-sizes.ensures.sizes (g.met.R.TableRecords.counted table.records) c.in_ok-sizes.ensures.table.fits);
    }

pub returns-in_err-sizes-clause-text : goal.returns-in_err-sizes-clause-text
returns-in_err-sizes-clause-text g c = passes-none g.W.Write.contents (chosen_lines (g.K.LineChoice.chooses c.args.choice.now) (state_under g.R.RecordTexts.rows c.args.self.now c.args.config.now)) [] c.from_residual.result c.args.writer.now c.from_residual.ensures.0

pub returns-in_err-write_buffered_lines-clause-text : goal.returns-in_err-write_buffered_lines-clause-text
returns-in_err-write_buffered_lines-clause-text g c =
    let table = c.args.self.now in
    let config = c.args.config.now in
    let chooses = g.K.LineChoice.chooses c.args.choice.now in
    let same : chosen_grid_text (look_of c.new-grid.result.settings.now) (given_size (stored_sizes c.new-grid.result.sizes.widths)) (given_size (stored_sizes c.new-grid.result.sizes.heights)) (value_at c.new-grid.result.colors.now)
    (g.R.RecordColumns.columns c.new-grid.result.records.now) (g.R.RecordTexts.rows c.new-grid.result.records.now) chooses ≡ chosen_lines chooses (state_under g.R.RecordTexts.rows table config) =
    rw (c.new-grid.ensures, c.get_colors.ensures)
    (are_chosen config (g.R.RecordTexts.rows table.records) (value_at table.config.colors) table.dimension config c.in_ok-sizes.sizes (g.R.RecordColumns.columns table.records)
    refl c.in_ok-sizes.ensures.sizes (g.met.R.TableRecords.counted table.records) chooses) in
    passes-refused g.W.Write.contents (chosen_lines chooses (state_under g.R.RecordTexts.rows table config)) [] c.from_residual-in_err-write_buffered_lines.result c.args.writer.now c.write_buffered_lines.new.writer c.from_residual-in_err-write_buffered_lines.ensures.0
    (subst (λ text. HasBegun g.W.Write.contents text c.args.writer.now c.write_buffered_lines.new.writer) same c.in_err-write_buffered_lines.ensures)

pub returns-clause-text : goal.returns-clause-text
returns-clause-text g c =
    let table = c.args.self.now in
    let config = c.args.config.now in
    let chooses = g.K.LineChoice.chooses c.args.choice.now in
    let same : chosen_grid_text (look_of c.new-grid.result.settings.now) (given_size (stored_sizes c.new-grid.result.sizes.widths)) (given_size (stored_sizes c.new-grid.result.sizes.heights)) (value_at c.new-grid.result.colors.now)
    (g.R.RecordColumns.columns c.new-grid.result.records.now) (g.R.RecordTexts.rows c.new-grid.result.records.now) chooses ≡ chosen_lines chooses (state_under g.R.RecordTexts.rows table config) =
    rw (c.new-grid.ensures, c.get_colors.ensures)
    (are_chosen config (g.R.RecordTexts.rows table.records) (value_at table.config.colors) table.dimension config c.in_ok-sizes.sizes (g.R.RecordColumns.columns table.records)
    refl c.in_ok-sizes.ensures.sizes (g.met.R.TableRecords.counted table.records) chooses) in
    passes-answered g.W.Write.contents AllocError Fault (chosen_lines chooses (state_under g.R.RecordTexts.rows table config)) [] c.in_ok-write_buffered_lines.field-0 c.args.writer.now c.write_buffered_lines.new.writer
    (subst (λ text. Passes {E = AllocError} g.W.Write.contents text (Ok c.in_ok-write_buffered_lines.field-0) [] c.args.writer.now c.write_buffered_lines.new.writer) same c.in_ok-write_buffered_lines.ensures)

pub returns-in_err-sizes-clause-table : goal.returns-in_err-sizes-clause-table
returns-in_err-sizes-clause-table g c =
    fails-told (state_under g.R.RecordTexts.rows c.args.self.now c.args.config.now) c.from_residual.result c.in_err-sizes.field-0.0 c.from_residual.ensures.1 c.in_err-sizes.ensures.table.refused

pub returns-in_err-write_buffered_lines-clause-table : goal.returns-in_err-write_buffered_lines-clause-table
returns-in_err-write_buffered_lines-clause-table g c =
    fails-told (state_under g.R.RecordTexts.rows c.args.self.now c.args.config.now) c.from_residual-in_err-write_buffered_lines.result Memory c.from_residual-in_err-write_buffered_lines.ensures.1 (inl refl)

pub returns-clause-table : goal.returns-clause-table
returns-clause-table g c = record { fits = c.in_ok-sizes.ensures.table.fits; refused = tt }

pub returns-in_err-sizes-clause-untouched : goal.returns-in_err-sizes-clause-untouched
returns-in_err-sizes-clause-untouched g c = OnErr-always c.from_residual.result (inl refl)

pub returns-in_err-write_buffered_lines-clause-untouched : goal.returns-in_err-write_buffered_lines-clause-untouched
returns-in_err-write_buffered_lines-clause-untouched g c = OnErr-always c.from_residual-in_err-write_buffered_lines.result (inr c.in_ok-sizes.ensures.table.fits)
