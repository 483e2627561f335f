use Rattle.std.proofs.Common.{◌≡◌, refl, true, inr, arith, length}
use Rattle.grid_config_values.specs.Settings.{value_at}
use Rattle.tabled_steps.specs.States.{column_count}
use Rattle.tabled.specs.Tables.{state_under}
use Rattle.tabled.proofs.Fitting.{by_spans, fails-told, refused_unfit, spans_told}
use Rattle.tabled.proofs.table_of.TableOf.fitting_sizes.Goals as goal

pub returns-then-not-spans_are_good-clause-table : goal.returns-then-not-spans_are_good-clause-table
returns-then-not-spans_are_good-clause-table g c =
    let table = c.args.self.now in
    let config = c.args.config.now in
    let texts = g.R.RecordTexts.rows table.records in
    let told = spans_told config texts (value_at table.config.colors) table.dimension config c.count_columns.result refl c.count_columns.ensures c.spans_are_good.result c.count_rows.result c.count_rows.ensures c.spans_are_good.ensures.good in
    record {
      fits = tt;
      refused = inr (λ good. let shown : c.spans_are_good.result ≡ true = told.1 (by_spans config.spans (length texts) (column_count texts) good) in grind (arith, shown, c.if-not-spans_are_good.true));
    }

pub returns-in_err-sizes-clause-table : goal.returns-in_err-sizes-clause-table
returns-in_err-sizes-clause-table g c =
    let table = c.args.self.now in
    let config = c.args.config.now in
    let texts = g.R.RecordTexts.rows table.records in
    let told = spans_told config texts (value_at table.config.colors) table.dimension config c.count_columns.result refl c.count_columns.ensures c.spans_are_good.result c.count_rows.result c.count_rows.ensures c.spans_are_good.ensures.good in
    let shown : c.spans_are_good.result ≡ true = grind (arith, c.if-not-spans_are_good.false) in
    fails-told (state_under g.R.RecordTexts.rows table config) c.from_residual.result c.in_err-sizes.field-0.0 c.from_residual.ensures.1
    (refused_unfit config texts (value_at table.config.colors) table.dimension c.in_err-sizes.field-0.0 (told.0 shown) c.in_err-sizes.ensures.refused)

pub check_sizes-requires-clause-good : goal.check_sizes-requires-clause-good
check_sizes-requires-clause-good g c =
    let table = c.args.self.now in
    let config = c.args.config.now in
    let texts = g.R.RecordTexts.rows table.records in
    let told = spans_told config texts (value_at table.config.colors) table.dimension config c.count_columns.result refl c.count_columns.ensures c.spans_are_good.result c.count_rows.result c.count_rows.ensures c.spans_are_good.ensures.good in
    told.0 (grind (arith, c.if-not-spans_are_good.false))

pub returns-in_err-check_sizes-clause-table : goal.returns-in_err-check_sizes-clause-table
returns-in_err-check_sizes-clause-table g c =
    fails-told (state_under g.R.RecordTexts.rows c.args.self.now c.args.config.now) c.from_residual-in_err-check_sizes.result c.in_err-check_sizes.field-0.0 c.from_residual-in_err-check_sizes.ensures.1 (inr c.in_err-check_sizes.ensures)

pub returns-clause-table : goal.returns-clause-table
returns-clause-table g c = record { fits = c.in_ok-check_sizes.ensures; refused = tt }
