-- A step takes the first item off what is left.
use Rattle.std.proofs.Common.{refl, rules, length, ◌<◌, ◌≡◌, arith}
use Rattle.ansi_scan.proofs.Stepping.{placed-none, placed-step}
use Rattle.ansi_scan.proofs.ByteReads.{reads_over-step}
use Rattle.ansi_scan.proofs.items.ScanIterator.next.Goals as goal

pub returns-then-is_empty-clause-steps : goal.returns-then-is_empty-clause-steps
returns-then-is_empty-clause-steps c =
    let empty : length c.args.self.now.rest.now ≡ 0 = grind arith in
    let none = placed-none c.args.self.now.place c.args.self.now.rest.now empty in
    (none, none)

pub returns-clause-steps : goal.returns-clause-steps
returns-clause-steps c =
    let nonempty : 0 < length c.args.self.now.rest.now = omega arith in
    placed-step c.args.self.now.place c.args.self.now.rest.now (c.front-kind.result.kind, c.front-kind.result.len) _ nonempty c.front-kind.ensures.kind c.split_at.ensures.back

pub returns-then-is_empty-clause-goes : goal.returns-then-is_empty-clause-goes
returns-then-is_empty-clause-goes c = record { on = λ finite. tt; keeps = tt; rests = λ finite. finite; text = refl; reads = refl }

pub returns-clause-goes : goal.returns-clause-goes
returns-clause-goes c =
    let nonempty : 0 < length c.args.self.now.rest.now = omega arith in
    let step = placed-step c.args.self.now.place c.args.self.now.rest.now (c.front-kind.result.kind, c.front-kind.result.len) _ nonempty c.front-kind.ensures.kind c.split_at.ensures.back in
    let reads = reads_over-step c.args.self.now.rest.now (c.front-kind.result.kind, c.front-kind.result.len) _ nonempty c.front-kind.ensures.kind c.split_at.ensures.back in
    record {
      on = λ finite. search (rules, step);
      keeps = tt;
      rests = λ finite. tt;
      text = omega (arith, c.split_at.ensures.back_len);
      reads = omega (arith, reads, c.front-kind.ensures.reads);
    }

-- the reads of the first item are made, and those of the others are left
pub invariant_of-self-clause-few : goal.invariant_of-self-clause-few
invariant_of-self-clause-few c =
    let nonempty : 0 < length c.args.self.now.rest.now = omega arith in
    let step = reads_over-step c.args.self.now.rest.now (c.front-kind.result.kind, c.front-kind.result.len) _ nonempty c.front-kind.ensures.kind c.split_at.ensures.back in
    omega (arith, step, c.front-kind.ensures.reads, c.args.self.now.few)
