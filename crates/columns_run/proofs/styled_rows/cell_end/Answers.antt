-- A step over a sequence and the bytes of the cell after it.
use Rattle.std.proofs.Common.{◌≡◌, ◌∙◌, ◌≤◌, ◌+◌, ℕ, List, drop, length, length-drop, sym, ap, refl, arith}
use Rattle.std.specs.List.{prefix_len}
use Rattle.ansi_str_search.proofs.Walks.{escape_first}
use Rattle.columns_run.specs.Ends.{is_cell_text}
use Rattle.columns_run.proofs.Ends.{SameEnd-start, SameEnd-run, SameEnd-sequence, run_over, run-boundary, run-fits, EndsCell-end}
use Rattle.columns_run.proofs.Passed.{Passes-behind, Passes-run, Passes-then}
use Rattle.columns_run.proofs.Whole.{left-whole, whole-left}
use Rattle.columns_run.proofs.styled_rows.cell_end.Goals as goal

-- after a run
left-is : (text left : List ℕ) (k : ℕ) → k ≡ prefix_len is_cell_text text → left ≡ drop k text → left ≡ drop (prefix_len is_cell_text text) text
left-is text left k is_run is_left = is_left ∙ ap (λ n. drop n text) is_run

left-fits : (text left : List ℕ) (k : ℕ) → k ≡ prefix_len is_cell_text text → left ≡ drop k text → k + length left ≤ length text
left-fits text left k is_run is_left = omega (arith, ap length is_left, length-drop k text, run-fits text k is_run)

pub range_from-requires : goal.range_from-requires
range_from-requires c = λ some. run-boundary c.args.place.now.rest.now c.cell_run-size.result.0 c.cell_run-size.ensures.size

pub range_from-requires-in-loop-end : goal.range_from-requires-in-loop-end
range_from-requires-in-loop-end c = λ some. run-boundary c.in-Some.behind.rest.now c.cell_run-more.result.0 c.cell_run-more.ensures.size

pub loop-end-init : goal.loop-end-init
loop-end-init c =
    let place = c.args.place.now in
    let run = c.cell_run-size in
    let left = c.range_from in
    let is_left = left-is place.rest.now left.result.now run.result.0 run.ensures.size left.ensures.value in
    record {
      same = SameEnd-start place.rest.now left.result.now place.style place.style is_left refl;
      none = run_over place.rest.now left.result.now is_left;
      whole = (whole-left place.rest.now left.result.now is_left, left-whole place.rest.now left.result.now is_left);
      passes = Passes-run place.rest.now left.result.now run.result.0 run.result.1 run.ensures.size left.ensures.value run.ensures.printable;
      fits = left-fits place.rest.now left.result.now run.result.0 run.ensures.size left.ensures.value;
    }

pub loop-end-preserved : goal.loop-end-preserved
loop-end-preserved c =
    let place = c.args.place.now in
    let before = c.loop-end.end in
    let so_far = c.loop-end.invariant in
    let behind = c.in-Some.behind in
    let sequence = c.in-Some.ensures in
    let run = c.cell_run-more in
    let left = c.range_from-in-loop-end in
    let is_left = left-is behind.rest.now left.result.now run.result.0 run.ensures.size left.ensures.value in
    let none = (escape_first before.rest.now (sym c.begins_with_escape.ensures ∙ c.loop-end-test.true)).0 in
    let passed = Passes-behind before.rest.now behind.rest.now left.result.now run.result.0 run.result.1 sequence.passes
    (Passes-run behind.rest.now left.result.now run.result.0 run.result.1 run.ensures.size left.ensures.value run.ensures.printable) in
    let shorter = sequence.shorter in
    let fits = so_far.fits in
    record {
      same = SameEnd-run behind.rest.now left.result.now behind.style place.rest.now place.style is_left
          (SameEnd-sequence before.rest.now before.style behind.rest.now behind.style sequence.first none place.rest.now place.style so_far.same);
      none = run_over behind.rest.now left.result.now is_left;
      whole = (
        λ is. so_far.whole.0 (sequence.whole.1 (whole-left behind.rest.now left.result.now is_left is)),
        λ is. left-whole behind.rest.now left.result.now is_left (sequence.whole.0 (so_far.whole.1 is)),
      );
      passes = Passes-then place.rest.now before.rest.now left.result.now c.loop-end.size run.result.0 c.loop-end.printable run.result.1 so_far.passes passed;
      fits = omega (arith, left-fits behind.rest.now left.result.now run.result.0 run.ensures.size left.ensures.value, shorter, fits);
    }

pub returns-in_default-clause-broken : goal.returns-in_default-clause-broken
returns-in_default-clause-broken c = λ _ whole. c.in_default.ensures.broken refl (c.loop-end.invariant.whole.1 whole)

pub returns-clause-cell : goal.returns-clause-cell
returns-clause-cell c =
    EndsCell-end c.loop-end.end.rest.now c.loop-end.end.style c.args.place.now.rest.now c.args.place.now.style c.loop-end.invariant.same c.loop-end.invariant.none (sym c.begins_with_escape.ensures ∙ c.loop-end-test.false)
