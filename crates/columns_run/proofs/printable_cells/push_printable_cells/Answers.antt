use Rattle.std.proofs.Common.{◌≡◌, ◌+◌, ◌<◌, ◌≤◌, ℕ, List, get_or, length, max, ap, sym, subst, ◌∙◌, arith, w64, true}
use Rattle.std.specs.Int.{is_in_range, trailing_zeros}
use Rattle.std.specs.Simd.Lanes.{chunk}
use Rattle.columns_table.specs.RowEnds.{row_ended, with_cell}
use Rattle.columns_run.specs.Passing.{HasPassed}
use Rattle.columns_run.proofs.PrintableCells.{lane-behind, lane-below, others-cleared, others-first, others-next, others-none, passed-line_feed, passed-tab, passed-width}
use Rattle.columns_run.proofs.printable_cells.push_printable_cells.Goals as goal
use Rattle.columns_run.proofs.printable_cells.push_printable_cells.Goals.{then-byte-eq10+in_ok-push_printable+in_ok-end_row, else-byte-eq10+then-byte-eq9+in_ok-push_printable-2}

pub loop-others-init : goal.loop-others-init
loop-others-init c =
    let text = c.args.text.now in
    let at = c.loop-at.at in
    let start = c.loop-at.start in
    let low = c.loop-at.invariant.low in
    let bytes : c.as_bytes-bytes.result.now ≡ text = c.as_bytes-bytes.ensures.value in
    let same : at ≡ max at start = omega (arith, low) in
    record {
      most = omega (arith, low);
      has = others-first text at start c.others_in-others.result low (λ k below none.
          subst (λ (found : List ℕ). is_in_range 0x20 0x7E (get_or (chunk at 64 found) k 0) ≡ true) bytes (c.others_in-others.ensures k below none));
      passed = subst (λ n. HasPassed text start n c.loop-at.rows) same c.loop-at.invariant.passed;
    }

pub returns-else-byte-eq9-clause-passed : goal.returns-else-byte-eq9-clause-passed
returns-else-byte-eq9-clause-passed c =
    let known = c.loop-others.invariant in
    others-next c.args.text.now c.loop-at.at c.loop-others.start c.loop-others.others c.loop-others.rows known.has known.passed (omega arith) c.loop-others.auto.others-fits.fits (omega (arith, ap length c.as_bytes-bytes.ensures.value))

pub overflow_sub-width : goal.overflow_sub-width
overflow_sub-width c =
    let known = c.loop-others.invariant in
    lane-behind c.args.text.now c.loop-at.at c.loop-others.start c.loop-others.others c.loop-others.rows known.has known.passed (omega arith) c.loop-others.auto.others-fits.fits

pub loop-others-smaller : goal.loop-others-smaller
loop-others-smaller c =
    let known = c.loop-others.invariant in
    let below = lane-below c.args.text.now c.loop-at.at c.loop-others.start c.loop-others.others c.loop-others.rows known.has known.passed (omega arith) c.loop-others.auto.others-fits.fits in
    let behind = lane-behind c.args.text.now c.loop-at.at c.loop-others.start c.loop-others.others c.loop-others.rows known.has known.passed (omega arith) c.loop-others.auto.others-fits.fits in
    omega (arith, below, behind)

pub loop-others-preserved : goal.loop-others-preserved
loop-others-preserved c =
    let text = c.args.text.now in
    let at = c.loop-at.at in
    let start = c.loop-others.start in
    let others = c.loop-others.others in
    let rows = c.loop-others.rows in
    let known = c.loop-others.invariant in
    let some : 0 < others = omega arith in
    let fits = c.loop-others.auto.others-fits.fits in
    let room : at + 64 ≤ length text = omega (arith, ap length c.as_bytes-bytes.ensures.value) in
    let end = at + trailing_zeros w64 others in
    let below = lane-below text at start others rows known.has known.passed some fits in
    let behind = lane-behind text at start others rows known.has known.passed some fits in
    let next = others-next text at start others rows known.has known.passed some fits room in
    let inside : end < length text = omega (arith, below, room) in
    let same : get_or text end 0 ≡ get_or c.as_bytes-bytes.result.now end 0 = ap (λ (bytes : List ℕ). get_or bytes end 0) (sym c.as_bytes-bytes.ensures.value) in
    let width = passed-width text start end rows next behind in
    let place : end + 1 ≡ max at (end + 1) = omega arith in
    record {
      most = omega (arith, below);
      has = others-cleared text at start others rows known.has known.passed some fits;
      passed = subst (λ n. HasPassed text (end + 1) n c.if-byte-eq10.rows) place (elim c.if-byte-eq10.branch [
        | then-byte-eq10+in_ok-push_printable+in_ok-end_row w ↦
            let is = w.in_ok-push_printable.ensures.more ∙ ap (λ (width : ℕ). with_cell rows (record { end = end; width = width })) width in
            subst (HasPassed text (end + 1) (end + 1)) (sym (w.rows-is ∙ w.in_ok-end_row.ensures.ended ∙ ap row_ended is))
            (passed-line_feed text start end rows next c.utf8.text inside (same ∙ w.if-byte-eq10.true))
        | else-byte-eq10+then-byte-eq9+in_ok-push_printable-2 w ↦
            let is = w.in_ok-push_printable-2.ensures.more ∙ ap (λ (width : ℕ). with_cell rows (record { end = end; width = width })) width in
            subst (HasPassed text (end + 1) (end + 1)) (sym (w.rows-is ∙ is))
            (passed-tab text start end rows next c.utf8.text inside (same ∙ w.if-byte-eq9.true))
      ]);
    }

pub loop-at-preserved : goal.loop-at-preserved
loop-at-preserved c =
    let known = c.loop-others.invariant in
    record {
      goes_on = omega (arith, c.loop-at.invariant.goes_on);
      low = known.most;
      passed = others-none c.args.text.now c.loop-at.at c.loop-others.start c.loop-others.others c.loop-others.rows known.has known.passed (omega arith) known.most (omega (arith, ap length c.as_bytes-bytes.ensures.value));
    }
