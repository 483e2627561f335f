use Rattle.std.proofs.Common.{◌≡◌, ℕ, suc, ◌+◌, ◌-◌, ◌≤◌, refl, set, get_or, sum, arith}
use Rattle.std.proofs.lemmas.List.Sums.{get_or-le-sum_by}
use Rattle.std.specs.Prelude.{Some, None}
use Rattle.tabled_size_priority.specs.Running.{IsGrownBy}
use Rattle.tabled_size_priority.specs.Running.GrowthEnds.{all_given, to_none}
use Rattle.tabled_size_priority.specs.Laws.Growths.{IsGrownSafely, IsSoundGrowth, grown_safely, grows_sound, same_left, start_sound}
use Rattle.tabled_size_priority.proofs.peaker.Peaker.grow.Goals as goal

pub overflow_add-widths : goal.overflow_add-widths
overflow_add-widths g c =
    let sound : IsSoundGrowth c.args.widths.now c.args.by c.loop.widths (c.args.by - c.loop.counter) = grows_sound g.Self.Peaker.peaks c.args.widths.now c.args.by _ (start_sound c.args.widths.now c.args.by) c.loop.invariant.0 _ c.loop.invariant.1 in
    let given : sum c.loop.widths + (c.args.by - c.loop.counter) ≡ sum c.args.widths.now + c.args.by = sound.given in
    let most : get_or c.loop.widths c.in-Some.column 0 ≤ sum c.loop.widths = get_or-le-sum_by (λ (x : ℕ). x) c.loop.widths c.in-Some.column 0 c.if-column-widths.false in
    omega arith

pub loop-preserved : goal.loop-preserved
loop-preserved g c =
    let less : c.args.by - (c.loop.counter + 1) ≡ (c.args.by - c.loop.counter) - 1 = omega arith in (
      suc c.loop.invariant.0,
      record {
        before = record { priority = c.loop.self; widths = c.loop.widths; left = c.args.by - c.loop.counter };
        so_far = c.loop.invariant.1;
        some_left = omega arith;
        column = c.in-Some.column;
        inside = c.if-column-widths.false;
        after = c.peak.new.self;
        answer = c.in-Some.ensures {u = tt};
        is_now = same_left c.peak.new.self (set c.loop.widths c.in-Some.column (get_or c.loop.widths c.in-Some.column 0 + 1)) _ _ less;
      },
    )

pub returns-in_default : goal.returns-in_default
returns-in_default g c =
    let run : IsGrownBy g.Self.Peaker.peaks c.args.self.now c.args.by c.args.widths.now c.peak.new.self c.loop.widths = record {
      answers = c.loop.invariant.0;
      end = record { priority = c.loop.self; widths = c.loop.widths; left = c.args.by - c.loop.counter };
      run = c.loop.invariant.1;
      ends = to_none (omega arith) None c.peak.new.self (c.in_default.ensures {u = tt}) tt;
      sizes_are = refl;
    } in
    let safe : IsGrownSafely c.args.widths.now c.args.by c.loop.widths = grown_safely g.Self.Peaker.peaks c.args.self.now c.args.by c.args.widths.now c.peak.new.self c.loop.widths run in
    record { grown = g.met.Self.Peaker.answers_grow _ _ _ _ _ run; never_falls = safe.never_falls; at_most = safe.at_most }

pub returns-then-column-widths : goal.returns-then-column-widths
returns-then-column-widths g c =
    let run : IsGrownBy g.Self.Peaker.peaks c.args.self.now c.args.by c.args.widths.now c.peak.new.self c.loop.widths = record {
      answers = c.loop.invariant.0;
      end = record { priority = c.loop.self; widths = c.loop.widths; left = c.args.by - c.loop.counter };
      run = c.loop.invariant.1;
      ends = to_none (omega arith) (Some c.in-Some.column) c.peak.new.self (c.in-Some.ensures {u = tt}) c.if-column-widths.true;
      sizes_are = refl;
    } in
    let safe : IsGrownSafely c.args.widths.now c.args.by c.loop.widths = grown_safely g.Self.Peaker.peaks c.args.self.now c.args.by c.args.widths.now c.peak.new.self c.loop.widths run in
    record { grown = g.met.Self.Peaker.answers_grow _ _ _ _ _ run; never_falls = safe.never_falls; at_most = safe.at_most }

pub returns : goal.returns
returns g c =
    let run : IsGrownBy g.Self.Peaker.peaks c.args.self.now c.args.by c.args.widths.now c.loop.self c.loop.widths = record {
      answers = c.loop.invariant.0;
      end = record { priority = c.loop.self; widths = c.loop.widths; left = c.args.by - c.loop.counter };
      run = c.loop.invariant.1;
      ends = all_given (omega arith);
      sizes_are = refl;
    } in
    let safe : IsGrownSafely c.args.widths.now c.args.by c.loop.widths = grown_safely g.Self.Peaker.peaks c.args.self.now c.args.by c.args.widths.now c.loop.self c.loop.widths run in
    record { grown = g.met.Self.Peaker.answers_grow _ _ _ _ _ run; never_falls = safe.never_falls; at_most = safe.at_most }
