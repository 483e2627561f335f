use Rattle.std.proofs.Common.{ℕ, subst, sym}
use Rattle.basinmug_head.proofs.Ends.{Ends, end-above, end-below, ends-none, ends-there, ends-whole, first-step}
use Rattle.basinmug_head.proofs.heads.head_end.Goals as goal

pub returns-then-records-eq0-clause-first : goal.returns-then-records-eq0-clause-first
returns-then-records-eq0-clause-first c =
    subst (λ (count : ℕ). Ends c.args.found count c.args.bytes.now c.args.found.start) (sym c.if-records-eq0.true) (ends-none c.args.found c.args.bytes.now c.requires)

pub returns-in-End-clause-starts : goal.returns-in-End-clause-starts
returns-in-End-clause-starts c =
    let step = first-step c.args.found c.start.result.found c.args.records c.args.bytes.now c.start.result c.with.result c.start.ensures c.start.ensures.same c.with.ensures.step in
    end-above c.args.found c.args.records c.args.bytes.now c.in-End.end (rw c.in-End.is at step)

pub returns-in-End-clause-within : goal.returns-in-End-clause-within
returns-in-End-clause-within c =
    let step = first-step c.args.found c.start.result.found c.args.records c.args.bytes.now c.start.result c.with.result c.start.ensures c.start.ensures.same c.with.ensures.step in
    end-below c.args.found c.args.records c.args.bytes.now c.in-End.end (rw c.in-End.is at step)

pub returns-in-End-clause-first : goal.returns-in-End-clause-first
returns-in-End-clause-first c =
    let step = first-step c.args.found c.start.result.found c.args.records c.args.bytes.now c.start.result c.with.result c.start.ensures c.start.ensures.same c.with.ensures.step in
    ends-there c.args.found c.args.records c.args.bytes.now c.in-End.end (rw c.in-End.is at step)

pub returns-in-On-clause-first : goal.returns-in-On-clause-first
returns-in-On-clause-first c =
    let step = first-step c.args.found c.start.result.found c.args.records c.args.bytes.now c.start.result c.with.result c.start.ensures c.start.ensures.same c.with.ensures.step in
    ends-whole c.args.found c.args.records c.args.bytes.now c.in-On.field-0 (rw c.in-On.is at step)
