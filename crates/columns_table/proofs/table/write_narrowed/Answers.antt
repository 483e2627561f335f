use Rattle.std.proofs.Common.{[], ◌≡◌, ◌<◌, ◌⊎◌, arith, inl, inr, ℕ, List, Some, Err, length, ap, sym, subst, ◌∙◌}
use Rattle.std.proofs.lemmas.Result.{IfErr-weaker}
use Rattle.columns_asked.specs.Colors.ColoredTables.{colored_text}
use Rattle.columns_asked.specs.Colors.ColumnColors.{cell_color}
use Rattle.grid_config.specs.Compact.{Compact, compact_of}
use Rattle.grid_config.specs.Settings.{Settings, StartsWith, compact_start}
use Rattle.grid_config.specs.Looks.{compact_look}
use Rattle.grid_config_values.specs.declared.fault.Fault.{Fault}
use Rattle.grid_config_values.specs.declared.fault.Fault.TheVariants.{Memory}
use Rattle.grid_records_estimate.proofs.Lengths.{length-evened, length-table_heights}
use Rattle.grid_records_estimate.specs.Collecting.{PassesMax}
use Rattle.grid_records_estimate.proofs.Meets.{IfErr-told, OnOk-implies}
use Rattle.grid_records_traits.specs.Rows.{evened}
use Rattle.grid_records_estimate.specs.Sizes.{table_heights}
use Rattle.grid_records_estimate.specs.Sizing.{compact_sizing}
use Rattle.columns_asked.specs.declared.asked.WidthLimit.{WidthLimit}
use Rattle.papergrid_picture.specs.Fitting.{InRange}
use Rattle.papergrid_picture.specs.Frame.{Frame, frame_of, line_count}
use Rattle.columns_asked.specs.DrawnTables.{asked_frame, resized_rows, narrowed, too_wide}
use Rattle.columns_table.specs.Rows.{row_texts_of}
use Rattle.columns_table.specs.ResizedTexts.{rows_texts}
use Rattle.columns_table.specs.declared.resized.ResizedRows.{ResizedRows}
use Rattle.tabled_output.specs.Pieces.{Passes}
use Rattle.tabled_output.proofs.WrittenPieces.{passes-none}
use Rattle.columns_table.proofs.Narrowed.{answer-is, fits-is, frame-is, heights-are, heights-pass, heights-peeked, made, refusal-is, some-columns, text-is}
use Rattle.columns_table.proofs.Natural.{lines-are}
use Rattle.columns_table.specs.declared.sizes.Sizes.{Sizes}
use Rattle.columns_table.proofs.table.write_narrowed.Given.{Over}
use Rattle.columns_table.proofs.table.write_narrowed.Goals as goal
use Rattle.columns_table.proofs.table.write_narrowed.Goals.{After-write_where_fits}

-- the rows that are made
abbrev rows_of : ResizedRows → List (List (List ℕ))
rows_of records = rows_texts records.starts.items records.cells.items

pub returns-in_err-heights-clause-refused : goal.returns-in_err-heights-clause-refused
returns-in_err-heights-clause-refused g c =
    let style = compact_of c.args.style.now in
    let asked = c.args.asked.now in
    let texts = row_texts_of c.args.rows in
    let widths = c.args.widths.items in
    let records = c.in_ok-records.records in
    let across : records.columns ≡ length widths = c.in_ok-records.ensures.columns ∙ ap (λ (ws : List ℕ). length ws) c.deref.ensures.value in
    let are = made style asked c.beside.result c.beside.ensures texts widths c.requires.narrowed (rows_of records) c.deref.result.now c.deref.ensures.value c.in_ok-records.ensures.rows in
    IfErr-told c.from_residual-in_err-heights.result c.in_err-heights.field-0.0 _ c.from_residual-in_err-heights.ensures.1
    (refusal-is (asked_frame style asked texts) (resized_rows style asked texts) c.in_err-heights.field-0.0 _
    (λ passes. heights-pass style asked texts widths c.requires.narrowed records.columns (rows_of records) across are
    (subst PassesMax (heights-peeked style _ records.columns _ (rows_of records) c.new-peeked.ensures.columns c.new-peeked.ensures.rows) passes))
    c.in_err-heights.ensures.refused)

pub returns-in_err-sizes-clause-refused : goal.returns-in_err-sizes-clause-refused
returns-in_err-sizes-clause-refused g c =
    let style = compact_of c.args.style.now in
    let asked = c.args.asked.now in
    let texts = row_texts_of c.args.rows in
    let widths = c.args.widths.items in
    let records = c.in_ok-records.records in
    let across : records.columns ≡ length widths = c.in_ok-records.ensures.columns ∙ ap (λ (ws : List ℕ). length ws) c.deref.ensures.value in
    let are = made style asked c.beside.result c.beside.ensures texts widths c.requires.narrowed (rows_of records) c.deref.result.now c.deref.ensures.value c.in_ok-records.ensures.rows in
    let high = c.in_ok-heights.ensures.ok
    ∙ heights-peeked style _ records.columns _ (rows_of records) c.new-peeked.ensures.columns c.new-peeked.ensures.rows
    ∙ heights-are style asked texts widths c.requires.narrowed records.columns (rows_of records) across are in
    IfErr-told c.from_residual-in_err-sizes.result c.in_err-sizes.field-0.0 _ c.from_residual-in_err-sizes.ensures.1
    (refusal-is (asked_frame style asked texts) (resized_rows style asked texts) c.in_err-sizes.field-0.0 _
    (λ out. subst (λ (frame : Frame). ¬ (InRange frame)) (frame-is style asked texts widths c.requires.narrowed c.in_ok-heights.heights.items high) out)
    (inr c.in_err-sizes.ensures.refused))

-- what is known of the rows that are printed
abbrev Printed : Compact → WidthLimit → List (List (List ℕ)) → Settings → Sizes → ResizedRows → Type 0
Printed style asked texts settings sizes records =
    (narrowed style asked texts ≡ Some sizes.widths.items) × (records.columns ≡ length sizes.widths.items) × (rows_of records ≡ resized_rows style asked texts)
    × StartsWith (compact_start style) settings × (sizes.heights.items ≡ table_heights (compact_sizing style) records.columns (evened records.columns (rows_of records)))
    × (sizes.whole_height ≡ line_count (frame_of (compact_look style) sizes.widths.items sizes.heights.items))

printed : (g : Over) (c : After-write_where_fits g) → Printed (compact_of c.args.style.now) c.args.asked.now (row_texts_of c.args.rows) c.in_ok-settings.settings c.in_ok-sizes.sizes c.in_ok-records.records
printed g c =
    let style = compact_of c.args.style.now in
    let asked = c.args.asked.now in
    let texts = row_texts_of c.args.rows in
    let sizes = c.in_ok-sizes.sizes in
    let records = c.in_ok-records.records in
    let told : narrowed style asked texts ≡ Some sizes.widths.items = c.requires.narrowed ∙ ap (λ (ws : List ℕ). Some ws) (sym c.in_ok-sizes.ensures.sizes.0) in
    let same : c.deref.result.now ≡ sizes.widths.items = c.deref.ensures.value ∙ sym c.in_ok-sizes.ensures.sizes.0 in (
      told,
      c.in_ok-records.ensures.columns ∙ ap (λ (ws : List ℕ). length ws) same,
      made style asked c.beside.result c.beside.ensures texts sizes.widths.items told (rows_of records) c.deref.result.now same c.in_ok-records.ensures.rows,
      c.in_ok-settings.ensures.settings,
      c.in_ok-sizes.ensures.sizes.1 ∙ c.in_ok-heights.ensures.ok ∙ heights-peeked style _ records.columns _ (rows_of records) c.new-peeked.ensures.columns c.new-peeked.ensures.rows,
      c.in_ok-sizes.ensures.whole_height
          ∙ ap (λ (ws : List ℕ). line_count (frame_of (compact_look style) ws c.in_ok-heights.heights.items)) (sym c.in_ok-sizes.ensures.sizes.0)
          ∙ ap (λ (hs : List ℕ). line_count (frame_of (compact_look style) sizes.widths.items hs)) (sym c.in_ok-sizes.ensures.sizes.1),
    )

pub write_where_fits-requires-clause-listed : goal.write_where_fits-requires-clause-listed
write_where_fits-requires-clause-listed g c = λ _.
    let style = compact_of c.args.style.now in
    let asked = c.args.asked.now in
    let texts = row_texts_of c.args.rows in
    let sizes = c.in_ok-sizes.sizes in
    let records = c.in_ok-records.records in
    let told : narrowed style asked texts ≡ Some sizes.widths.items = c.requires.narrowed ∙ ap (λ (ws : List ℕ). Some ws) (sym c.in_ok-sizes.ensures.sizes.0) in
    let same : c.deref.result.now ≡ sizes.widths.items = c.deref.ensures.value ∙ sym c.in_ok-sizes.ensures.sizes.0 in
    let across : records.columns ≡ length sizes.widths.items = c.in_ok-records.ensures.columns ∙ ap (λ (ws : List ℕ). length ws) same in
    let some : 0 < records.columns = omega (arith, across, some-columns style asked texts sizes.widths.items told) in
    let high : sizes.heights.items ≡ table_heights (compact_sizing style) records.columns (evened records.columns (rows_of records)) =
    c.in_ok-sizes.ensures.sizes.1 ∙ c.in_ok-heights.ensures.ok ∙ heights-peeked style _ records.columns _ (rows_of records) c.new-peeked.ensures.columns c.new-peeked.ensures.rows in (
      sym across,
      ap (λ (hs : List ℕ). length hs) high ∙ length-table_heights (compact_sizing style) records.columns (evened records.columns (rows_of records)) some ∙ length-evened records.columns (rows_of records),
    )

pub write_where_fits-requires-clause-lines : goal.write_where_fits-requires-clause-lines
write_where_fits-requires-clause-lines g c =
    let sizes = c.in_ok-sizes.sizes in
    lines-are (compact_of c.args.style.now) c.in_ok-settings.settings c.in_ok-settings.ensures.settings c.args.widths.items c.in_ok-heights.heights.items sizes.widths.items sizes.heights.items sizes.whole_height c.in_ok-sizes.ensures.sizes.0 c.in_ok-sizes.ensures.sizes.1 c.in_ok-sizes.ensures.whole_height

pub returns-clause-table : goal.returns-clause-table
returns-clause-table g c =
    let known = printed g (goal.at.returns-clause-table g c).After-write_where_fits in
    let records = c.in_ok-records.records in
    let sizes = c.in_ok-sizes.sizes in
    subst (λ text. Passes g.W.Write.contents text c.write_where_fits.result [] c.args.writer.now c.write_where_fits.new.writer)
    (text-is (compact_of c.args.style.now) c.args.asked.now (row_texts_of c.args.rows) sizes.widths.items known.0 records.columns (rows_of records) known.1 known.2 c.in_ok-settings.settings known.3 sizes.heights.items known.4 (cell_color c.args.colors.now) sizes.whole_height known.5)
    c.write_where_fits.ensures.text

pub returns-in_err-records-clause-table : goal.returns-in_err-records-clause-table
returns-in_err-records-clause-table g c =
    passes-none g.W.Write.contents (colored_text (compact_of c.args.style.now) c.args.asked.now (cell_color c.args.colors.now) (row_texts_of c.args.rows)) [] c.from_residual.result c.args.writer.now c.from_residual.ensures.0

pub returns-in_err-heights-clause-table : goal.returns-in_err-heights-clause-table
returns-in_err-heights-clause-table g c =
    passes-none g.W.Write.contents (colored_text (compact_of c.args.style.now) c.args.asked.now (cell_color c.args.colors.now) (row_texts_of c.args.rows)) [] c.from_residual-in_err-heights.result c.args.writer.now c.from_residual-in_err-heights.ensures.0

pub returns-in_err-sizes-clause-table : goal.returns-in_err-sizes-clause-table
returns-in_err-sizes-clause-table g c =
    passes-none g.W.Write.contents (colored_text (compact_of c.args.style.now) c.args.asked.now (cell_color c.args.colors.now) (row_texts_of c.args.rows)) [] c.from_residual-in_err-sizes.result c.args.writer.now c.from_residual-in_err-sizes.ensures.0

pub returns-in_err-settings-clause-table : goal.returns-in_err-settings-clause-table
returns-in_err-settings-clause-table g c =
    passes-none g.W.Write.contents (colored_text (compact_of c.args.style.now) c.args.asked.now (cell_color c.args.colors.now) (row_texts_of c.args.rows)) [] c.from_residual-in_err-settings.result c.args.writer.now c.from_residual-in_err-settings.ensures.0

pub returns-clause-range : goal.returns-clause-range
returns-clause-range g c =
    let known = printed g (goal.at.returns-clause-range g c).After-write_where_fits in
    let records = c.in_ok-records.records in
    let sizes = c.in_ok-sizes.sizes in
    OnOk-implies c.write_where_fits.result
    (λ fits. let is = fits-is (compact_of c.args.style.now) c.args.asked.now (row_texts_of c.args.rows) sizes.widths.items known.0 records.columns (rows_of records) known.1 known.2 c.in_ok-settings.settings known.3 sizes.heights.items known.4 fits in is.1)
    c.write_where_fits.ensures.fits

pub returns-clause-room : goal.returns-clause-room
unfolding too_wide
returns-clause-room g c =
    let known = printed g (goal.at.returns-clause-room g c).After-write_where_fits in
    let records = c.in_ok-records.records in
    let sizes = c.in_ok-sizes.sizes in
    OnOk-implies c.write_where_fits.result
    (λ fits. let is = fits-is (compact_of c.args.style.now) c.args.asked.now (row_texts_of c.args.rows) sizes.widths.items known.0 records.columns (rows_of records) known.1 known.2 c.in_ok-settings.settings known.3 sizes.heights.items known.4 fits in is.2)
    c.write_where_fits.ensures.fits

pub returns-clause-alone : goal.returns-clause-alone
unfolding too_wide
returns-clause-alone g c = λ none.
    let known = printed g (goal.at.returns-clause-alone g c).After-write_where_fits in
    let records = c.in_ok-records.records in
    let sizes = c.in_ok-sizes.sizes in
    c.write_where_fits.ensures.alone
    (λ fits. let is = fits-is (compact_of c.args.style.now) c.args.asked.now (row_texts_of c.args.rows) sizes.widths.items known.0 records.columns (rows_of records) known.1 known.2 c.in_ok-settings.settings known.3 sizes.heights.items known.4 fits in none (is.1, is.2))

-- a refusal by another name
told_of : (fault : Fault) (P Q : Type 0) → (P → Q) → (fault ≡ Memory) ⊎ P → (fault ≡ Memory) ⊎ Q
told_of fault P Q f (inl memory) = inl memory
told_of fault P Q f (inr is) = inr (f is)

pub returns-clause-refused : goal.returns-clause-refused
returns-clause-refused g c =
    let known = printed g (goal.at.returns-clause-refused g c).After-write_where_fits in
    let records = c.in_ok-records.records in
    let sizes = c.in_ok-sizes.sizes in
    IfErr-weaker c.write_where_fits.result _ _
    (λ fault. told_of fault _ _
    (answer-is (compact_of c.args.style.now) c.args.asked.now (row_texts_of c.args.rows) sizes.widths.items known.0 records.columns (rows_of records) known.1 known.2 c.in_ok-settings.settings known.3 sizes.heights.items known.4 (Err fault)))
    c.write_where_fits.ensures.refused
