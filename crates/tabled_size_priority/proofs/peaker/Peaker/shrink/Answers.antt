use Rattle.std.proofs.Common.{◌≡◌, ◌<◌, ℕ, List, Option, length, suc, refl, sym, arith}
use Rattle.std.specs.Prelude.{Some, None}
use Rattle.tabled_size_priority.specs.Running.{GoesOn, IsShrunkBy, OneAnswer, Stand, answered}
use Rattle.tabled_size_priority.specs.Running.Ends.{all_taken, hopeless, nowhere}
use Rattle.tabled_size_priority.specs.Laws.Runs.{IsShrunkSafely, answered_passes, answered_takes, shrunk_safely}
use Rattle.tabled_size_priority.proofs.peaker.Peaker.shrink.Goals as goal

-- one answer more that names a column
one-more : {S : Type 0} (peaks : S → List ℕ → List ℕ → Option ℕ → S → Type 0) (least : List ℕ) (Before : Stand S → Type 0) (before now : Stand S) (column : ℕ) (after : S)
    → Before before → GoesOn before → column < length before.widths → peaks before.priority least before.widths (Some column) after → answered least column after before ≡ now → OneAnswer peaks least Before now
one-more peaks least Before before now column after so_far goes_on inside answer leads =
    record { before = before; so_far = so_far; goes_on = goes_on; column = column; inside = inside; after = after; answer = answer; is_now = sym leads }

pub loop-left-preserved-then-widths-column : goal.loop-left-preserved-then-widths-column
loop-left-preserved-then-widths-column g c =
    let before : Stand g.row.Self.Denot = record { priority = c.loop-left.self; widths = c.loop-left.widths; left = c.loop-left.left; fruitless = c.loop-left.fruitless } in (
      suc c.loop-left.invariant.0,
      one-more g.Self.Peaker.peaks c.args.least.now _ before _ c.in-Some.column c.peak.new.self c.loop-left.invariant.1 (record { some_left = c.loop-left-test.true; some_hope = c.if-fruitless-widths.true }) c.if-column-widths.false (c.in-Some.ensures {u = tt})
          (answered_takes c.args.least.now c.in-Some.column c.peak.new.self before c.if-widths-column.true),
    )

pub loop-left-preserved : goal.loop-left-preserved
loop-left-preserved g c =
    let before : Stand g.row.Self.Denot = record { priority = c.loop-left.self; widths = c.loop-left.widths; left = c.loop-left.left; fruitless = c.loop-left.fruitless } in (
      suc c.loop-left.invariant.0,
      one-more g.Self.Peaker.peaks c.args.least.now _ before _ c.in-Some.column c.peak.new.self c.loop-left.invariant.1 (record { some_left = c.loop-left-test.true; some_hope = c.if-fruitless-widths.true }) c.if-column-widths.false (c.in-Some.ensures {u = tt})
          (answered_passes c.args.least.now c.in-Some.column c.peak.new.self before c.if-widths-column.false),
    )

pub returns-in_default : goal.returns-in_default
returns-in_default g c =
    let run : IsShrunkBy g.Self.Peaker.peaks c.args.self.now c.args.least.now c.args.by c.args.widths.now c.peak.new.self c.loop-left.widths = record {
      answers = c.loop-left.invariant.0;
      end = record { priority = c.loop-left.self; widths = c.loop-left.widths; left = c.loop-left.left; fruitless = c.loop-left.fruitless };
      run = c.loop-left.invariant.1;
      ends = nowhere (record { some_left = c.loop-left-test.true; some_hope = c.if-fruitless-widths.true }) None c.peak.new.self (c.in_default.ensures {u = tt}) tt;
      sizes_are = refl;
    } in
    let safe : IsShrunkSafely c.args.least.now c.args.widths.now c.args.by c.loop-left.widths = shrunk_safely g.Self.Peaker.peaks c.args.self.now c.args.least.now c.args.by c.args.widths.now c.peak.new.self c.loop-left.widths run in
    record { shrunk = g.met.Self.Peaker.answers_shrink _ _ _ _ _ _ c.requires.leasts run; between = safe.between; at_most = safe.at_most }

pub returns-then-column-widths : goal.returns-then-column-widths
returns-then-column-widths g c =
    let run : IsShrunkBy g.Self.Peaker.peaks c.args.self.now c.args.least.now c.args.by c.args.widths.now c.peak.new.self c.loop-left.widths = record {
      answers = c.loop-left.invariant.0;
      end = record { priority = c.loop-left.self; widths = c.loop-left.widths; left = c.loop-left.left; fruitless = c.loop-left.fruitless };
      run = c.loop-left.invariant.1;
      ends = nowhere (record { some_left = c.loop-left-test.true; some_hope = c.if-fruitless-widths.true }) (Some c.in-Some.column) c.peak.new.self (c.in-Some.ensures {u = tt}) c.if-column-widths.true;
      sizes_are = refl;
    } in
    let safe : IsShrunkSafely c.args.least.now c.args.widths.now c.args.by c.loop-left.widths = shrunk_safely g.Self.Peaker.peaks c.args.self.now c.args.least.now c.args.by c.args.widths.now c.peak.new.self c.loop-left.widths run in
    record { shrunk = g.met.Self.Peaker.answers_shrink _ _ _ _ _ _ c.requires.leasts run; between = safe.between; at_most = safe.at_most }

pub returns-else-fruitless-widths : goal.returns-else-fruitless-widths
returns-else-fruitless-widths g c =
    let run : IsShrunkBy g.Self.Peaker.peaks c.args.self.now c.args.least.now c.args.by c.args.widths.now c.loop-left.self c.loop-left.widths = record {
      answers = c.loop-left.invariant.0;
      end = record { priority = c.loop-left.self; widths = c.loop-left.widths; left = c.loop-left.left; fruitless = c.loop-left.fruitless };
      run = c.loop-left.invariant.1;
      ends = hopeless c.if-fruitless-widths.false;
      sizes_are = refl;
    } in
    let safe : IsShrunkSafely c.args.least.now c.args.widths.now c.args.by c.loop-left.widths = shrunk_safely g.Self.Peaker.peaks c.args.self.now c.args.least.now c.args.by c.args.widths.now c.loop-left.self c.loop-left.widths run in
    record { shrunk = g.met.Self.Peaker.answers_shrink _ _ _ _ _ _ c.requires.leasts run; between = safe.between; at_most = safe.at_most }

pub returns-after-loop-left : goal.returns-after-loop-left
returns-after-loop-left g c =
    let run : IsShrunkBy g.Self.Peaker.peaks c.args.self.now c.args.least.now c.args.by c.args.widths.now c.loop-left.self c.loop-left.widths = record {
      answers = c.loop-left.invariant.0;
      end = record { priority = c.loop-left.self; widths = c.loop-left.widths; left = c.loop-left.left; fruitless = c.loop-left.fruitless };
      run = c.loop-left.invariant.1;
      ends = all_taken (omega arith);
      sizes_are = refl;
    } in
    let safe : IsShrunkSafely c.args.least.now c.args.widths.now c.args.by c.loop-left.widths = shrunk_safely g.Self.Peaker.peaks c.args.self.now c.args.least.now c.args.by c.args.widths.now c.loop-left.self c.loop-left.widths run in
    record { shrunk = g.met.Self.Peaker.answers_shrink _ _ _ _ _ _ c.requires.leasts run; between = safe.between; at_most = safe.at_most }
