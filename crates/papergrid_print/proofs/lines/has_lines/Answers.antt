use Rattle.std.proofs.Common.{◌≡◌, ◌∙◌, ◌+◌, ◌<◌, ◌≤◌, false, length, true, ap, sym, arith}
use Rattle.grid_config.specs.Looks.{look_of}
use Rattle.papergrid_picture.specs.Frame.{boundary_at, frame_of, thickness}
use Rattle.papergrid_picture.proofs.Frames.{boundary-bounded, boundary-first, boundary-next}
use Rattle.papergrid_print.proofs.Counts.{all-lines, no-columns, no-rows, some-of}
use Rattle.papergrid_print.proofs.lines.has_lines.Goals as goal

pub returns-then-is_empty-clause-none : goal.returns-then-is_empty-clause-none
returns-then-is_empty-clause-none c = λ _. no-rows (look_of c.args.cfg.now) c.args.widths.now c.args.heights.now c.is_empty.result c.is_empty.ensures c.if-is_empty.true

pub returns-then-is_empty-2-clause-none : goal.returns-then-is_empty-2-clause-none
returns-then-is_empty-2-clause-none c = λ _. no-columns (look_of c.args.cfg.now) c.args.widths.now c.args.heights.now c.is_empty-2.result c.is_empty-2.ensures c.if-is_empty-2.true

pub loop-i-init : goal.loop-i-init
loop-i-init c =
    let tracks = (frame_of (look_of c.args.cfg.now) c.args.widths.now c.args.heights.now).rows in
    omega (arith, boundary-first tracks, ap (λ m. m.top.size) c.get_margin-margin.ensures, c.if-margin-gt0.false)

pub loop-i-preserved : goal.loop-i-preserved
loop-i-preserved c =
    let tracks = (frame_of (look_of c.args.cfg.now) c.args.widths.now c.args.heights.now).rows in
    let absent : tracks.has_boundary c.loop-i.i ≡ false = sym c.has_horizontal.ensures ∙ c.if-has_horizontal.false in
    let below : c.loop-i.i < length c.args.heights.now = omega (arith, c.loop-i-test.true) in
    omega (arith, c.loop-i.invariant, boundary-next tracks c.loop-i.i below, ap (λ b. boundary_at tracks c.loop-i.i + thickness b) absent, c.if-height-gt0.false)

pub returns-then-has_horizontal-clause-some : goal.returns-then-has_horizontal-clause-some
returns-then-has_horizontal-clause-some c = λ _.
    let look = look_of c.args.cfg.now in
    let tracks = (frame_of look c.args.widths.now c.args.heights.now).rows in
    let rows : 0 < length c.args.heights.now = some-of (length c.args.heights.now) c.is_empty.result c.is_empty.ensures c.if-is_empty.false in
    let columns : 0 < length c.args.widths.now = some-of (length c.args.widths.now) c.is_empty-2.result c.is_empty-2.ensures c.if-is_empty-2.false in
    let there : tracks.has_boundary c.loop-i.i ≡ true = sym c.has_horizontal.ensures ∙ c.if-has_horizontal.true in
    let below : c.loop-i.i < length c.args.heights.now = omega (arith, c.loop-i-test.true) in
    let next : c.loop-i.i + 1 ≤ length c.args.heights.now = omega (arith, below) in
    omega (arith, all-lines look c.args.widths.now c.args.heights.now rows columns, boundary-next tracks c.loop-i.i below, boundary-bounded tracks (c.loop-i.i + 1) next, ap (λ b. boundary_at tracks c.loop-i.i + thickness b) there)

pub returns-then-height-gt0-clause-some : goal.returns-then-height-gt0-clause-some
returns-then-height-gt0-clause-some c = λ _.
    let look = look_of c.args.cfg.now in
    let tracks = (frame_of look c.args.widths.now c.args.heights.now).rows in
    let rows : 0 < length c.args.heights.now = some-of (length c.args.heights.now) c.is_empty.result c.is_empty.ensures c.if-is_empty.false in
    let columns : 0 < length c.args.widths.now = some-of (length c.args.widths.now) c.is_empty-2.result c.is_empty-2.ensures c.if-is_empty-2.false in
    let below : c.loop-i.i < length c.args.heights.now = omega (arith, c.loop-i-test.true) in
    let next : c.loop-i.i + 1 ≤ length c.args.heights.now = omega (arith, below) in
    omega (arith, all-lines look c.args.widths.now c.args.heights.now rows columns, boundary-next tracks c.loop-i.i below, boundary-bounded tracks (c.loop-i.i + 1) next, c.if-height-gt0.true)

pub returns-then-margin-gt0-clause-some : goal.returns-then-margin-gt0-clause-some
returns-then-margin-gt0-clause-some c = λ _.
    let look = look_of c.args.cfg.now in
    let tracks = (frame_of look c.args.widths.now c.args.heights.now).rows in
    let rows : 0 < length c.args.heights.now = some-of (length c.args.heights.now) c.is_empty.result c.is_empty.ensures c.if-is_empty.false in
    let columns : 0 < length c.args.widths.now = some-of (length c.args.widths.now) c.is_empty-2.result c.is_empty-2.ensures c.if-is_empty-2.false in
    let none : 0 ≤ length c.args.heights.now = omega arith in
    omega (arith, all-lines look c.args.widths.now c.args.heights.now rows columns, boundary-first tracks, boundary-bounded tracks 0 none, ap (λ m. m.top.size) c.get_margin-margin.ensures, c.if-margin-gt0.true)

pub returns-then-margin-gt0-2-clause-some : goal.returns-then-margin-gt0-2-clause-some
returns-then-margin-gt0-2-clause-some c = λ _.
    let look = look_of c.args.cfg.now in
    let tracks = (frame_of look c.args.widths.now c.args.heights.now).rows in
    let rows : 0 < length c.args.heights.now = some-of (length c.args.heights.now) c.is_empty.result c.is_empty.ensures c.if-is_empty.false in
    let columns : 0 < length c.args.widths.now = some-of (length c.args.widths.now) c.is_empty-2.result c.is_empty-2.ensures c.if-is_empty-2.false in
    omega (arith, all-lines look c.args.widths.now c.args.heights.now rows columns, ap (λ m. m.bottom.size) c.get_margin-margin.ensures, c.if-margin-gt0-2.true)

pub returns-clause-some : goal.returns-clause-some
returns-clause-some c = λ yes.
    let look = look_of c.args.cfg.now in
    let tracks = (frame_of look c.args.widths.now c.args.heights.now).rows in
    let rows : 0 < length c.args.heights.now = some-of (length c.args.heights.now) c.is_empty.result c.is_empty.ensures c.if-is_empty.false in
    let columns : 0 < length c.args.widths.now = some-of (length c.args.widths.now) c.is_empty-2.result c.is_empty-2.ensures c.if-is_empty-2.false in
    let there : tracks.has_boundary (length c.args.heights.now) ≡ true = sym c.has_horizontal-2.ensures ∙ yes in
    omega (arith, all-lines look c.args.widths.now c.args.heights.now rows columns, ap (λ b. boundary_at tracks (length c.args.heights.now) + thickness b) there)

pub returns-clause-none : goal.returns-clause-none
returns-clause-none c = λ no.
    let look = look_of c.args.cfg.now in
    let tracks = (frame_of look c.args.widths.now c.args.heights.now).rows in
    let rows : 0 < length c.args.heights.now = some-of (length c.args.heights.now) c.is_empty.result c.is_empty.ensures c.if-is_empty.false in
    let columns : 0 < length c.args.widths.now = some-of (length c.args.widths.now) c.is_empty-2.result c.is_empty-2.ensures c.if-is_empty-2.false in
    let absent : tracks.has_boundary (length c.args.heights.now) ≡ false = sym c.has_horizontal-2.ensures ∙ no in
    let all : c.loop-i.i ≡ length c.args.heights.now = omega (arith, c.loop-i-test.false, c.loop-i.auto.i-end) in
    omega (arith, all-lines look c.args.widths.now c.args.heights.now rows columns, c.loop-i.invariant, ap (boundary_at tracks) all, ap (λ b. boundary_at tracks (length c.args.heights.now) + thickness b) absent, ap (λ m. m.bottom.size) c.get_margin-margin.ensures, c.if-margin-gt0-2.false)
