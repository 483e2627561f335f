-- A row more is fitted, and then all are.
use Rattle.std.proofs.Common.{◌≡◌, ◌∙◌, ◌<◌, ap, sym, arith, ℕ, List, [], length, slice_set}
use Rattle.grid_records_traits.specs.Rows.{row_at}
use Rattle.basinmug_run.specs.Picture.Fitting.{fitted_row}
use Rattle.basinmug_run.proofs.PictureLemmas.FittedCells.{changed_front, front-at, front-length, front-next, front-none, rows-fitted}
use Rattle.basinmug_run.proofs.picture.fitting.fit_rows.Goals as goal

pub loop-row-init : goal.loop-row-init
loop-row-init c =
    let fitting = c.args.fitting.now in
    sym (front-none (λ (row : ℕ) (texts : List (List ℕ)). fitted_row fitting.truncate fitting.widths.now fitting.rooms.now 0 texts) 0 c.args.rows.now.rows)

pub fit_row-requires : goal.fit_row-requires
fit_row-requires c =
    let fitting = c.args.fitting.now in
    let many = front-length (λ (row : ℕ) (texts : List (List ℕ)). fitted_row fitting.truncate fitting.widths.now fitting.rooms.now 0 texts) 0 c.loop-row.row c.args.rows.now.rows in
    let same = ap length c.loop-row.invariant in
    omega (arith, many, same, c.len-row-end.ensures, c.loop-row-test.true, c.loop-row.auto.row-end)

pub loop-row-preserved : goal.loop-row-preserved
loop-row-preserved c =
    let fitting = c.args.fitting.now in
    let fit : List (List ℕ) → List (List ℕ) = fitted_row fitting.truncate fitting.widths.now fitting.rooms.now 0 in
    let old = c.args.rows.now.rows in
    let row = c.loop-row.row in
    let inside : row < length old = omega (arith, c.len-row-end.ensures, c.loop-row-test.true, c.loop-row.auto.row-end) in
    c.in_ok-fit_row.ensures
    ∙ ap (λ (rows : List (List (List ℕ))). slice_set rows row (fit (row_at rows row))) c.loop-row.invariant
    ∙ ap (λ (texts : List (List ℕ)). slice_set (changed_front (λ n it. fit it) 0 row old) row (fit texts)) (front-at (λ n it. fit it) 0 row old [])
    ∙ front-next (λ n it. fit it) row old [] inside

pub returns : goal.returns
returns c =
    let fitting = c.args.fitting.now in
    let fit : List (List ℕ) → List (List ℕ) = fitted_row fitting.truncate fitting.widths.now fitting.rooms.now 0 in
    let old = c.args.rows.now.rows in
    let all : length old ≡ c.loop-row.row = omega (arith, c.len-row-end.ensures, c.loop-row-test.false, c.loop-row.auto.row-end) in
    c.loop-row.invariant ∙ rows-fitted fitting.truncate fitting.widths.now fitting.rooms.now c.loop-row.row old all
