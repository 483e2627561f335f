-- A text more is fitted, and then all of the row are.
use Rattle.std.proofs.Common.{◌≡◌, ◌∙◌, ◌<◌, ap, sym, subst, arith, ℕ, List, [], get_or, get_or-set_same, length, length-set, slice_set}
use Rattle.std.proofs.Math.Seq.{set-get_or}
use Rattle.grid_config_values.specs.declared.position.Position.{Position}
use Rattle.grid_records_traits.specs.Rows.{HasCell, row_at, text_at, with_text}
use Rattle.basinmug_run.specs.Picture.Fitting.{fitted_at}
use Rattle.basinmug_run.proofs.PictureLemmas.FittedCells.{changed_front, front-length, front-none, row-fitted, text-fitted}
use Rattle.basinmug_run.proofs.picture.fitting.fit_row.Goals as goal

pub loop-column-init : goal.loop-column-init
loop-column-init c =
    let fitting = c.args.fitting.now in
    let old = c.args.rows.now.rows in
    let row = c.args.row in
    sym (ap (slice_set old row) (front-none (fitted_at fitting.truncate fitting.widths.now fitting.rooms.now) 0 (row_at old row)) ∙ set-get_or old row [])

pub fit_cell-requires : goal.fit_cell-requires
fit_cell-requires c =
    let fitting = c.args.fitting.now in
    let fits : ℕ → List ℕ → List ℕ = fitted_at fitting.truncate fitting.widths.now fitting.rooms.now in
    let old = c.args.rows.now.rows in
    let row = c.args.row in
    let k = c.loop-column.column in
    let front = changed_front fits 0 k (row_at old row) in
    let now = c.loop-column.rows.rows in
    let many : c.len-count.result ≡ length (row_at old row) = c.len-count.ensures ∙ ap length (c.row.ensures ∙ ap (λ (rows : List (List (List ℕ))). row_at rows row) c.view.ensures) in
    let rows : length now ≡ length old = ap length c.loop-column.invariant ∙ length-set old row front in
    let here : row_at now row ≡ front = ap (λ (it : List (List (List ℕ))). row_at it row) c.loop-column.invariant ∙ get_or-set_same old row front [] c.requires in
    let texts : length (row_at now row) ≡ length (row_at old row) = ap length here ∙ front-length fits 0 k (row_at old row) in
    let below : row < length now = omega (arith, rows, c.requires) in
    let inside : k < length (row_at now row) = omega (arith, texts, many, c.loop-column-test.true, c.loop-column.auto.column-end) in
    subst (HasCell now) (sym c.new.ensures) (below, inside)

pub loop-column-preserved : goal.loop-column-preserved
loop-column-preserved c =
    let fitting = c.args.fitting.now in
    let fits : ℕ → List ℕ → List ℕ = fitted_at fitting.truncate fitting.widths.now fitting.rooms.now in
    let old = c.args.rows.now.rows in
    let row = c.args.row in
    let k = c.loop-column.column in
    let now = c.loop-column.rows.rows in
    let many : c.len-count.result ≡ length (row_at old row) = c.len-count.ensures ∙ ap length (c.row.ensures ∙ ap (λ (rows : List (List (List ℕ))). row_at rows row) c.view.ensures) in
    let inside : k < length (row_at old row) = omega (arith, many, c.loop-column-test.true, c.loop-column.auto.column-end) in
    c.in_ok-fit_cell.ensures
    ∙ ap (λ (pos : Position). with_text now pos (fits pos.col (text_at now pos))) c.new.ensures
    ∙ ap (λ (it : List (List (List ℕ))). slice_set it row (slice_set (row_at it row) k (fits k (get_or (row_at it row) k [])))) c.loop-column.invariant
    ∙ text-fitted fitting.truncate fitting.widths.now fitting.rooms.now old row k c.requires inside

pub returns : goal.returns
returns c =
    let fitting = c.args.fitting.now in
    let old = c.args.rows.now.rows in
    let row = c.args.row in
    let many : c.len-count.result ≡ length (row_at old row) = c.len-count.ensures ∙ ap length (c.row.ensures ∙ ap (λ (rows : List (List (List ℕ))). row_at rows row) c.view.ensures) in
    let all : length (row_at old row) ≡ c.loop-column.column = omega (arith, many, c.loop-column-test.false, c.loop-column.auto.column-end) in
    c.loop-column.invariant ∙ ap (slice_set old row) (row-fitted fitting.truncate fitting.widths.now fitting.rooms.now c.loop-column.column (row_at old row) all)
