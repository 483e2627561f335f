-- What comes next is the part of this number, or there is none.
use Rattle.std.proofs.Common.{◌≡◌, ◌∙◌, ◌≤◌, ◌+◌, suc, sym, subst, ℕ, drop, arith}
use Rattle.std.specs.Prelude.{IfOk}
use Rattle.std.specs.Cow.{cow_str_bytes}
use Rattle.ansi_scan.specs.Pieces.{pieces}
use Rattle.ansi_scan.proofs.Existence.{ArePiecesOf-pieces}
use Rattle.ansi_str.specs.declared.edits.Edit.TheVariants.{Part}
use Rattle.ansi_str.proofs.PickedParts.{Answers, Answers-part, GivesPart-came, drop-next, slice_get-none}
use Rattle.ansi_str.proofs.editing.part_at.Goals as goal

pub returns-in_default : goal.returns-in_default
returns-in_default c =
    let all = c.new-parts.result.parts in
    let low : c.loop.counter ≤ c.args.index = omega (arith, c.loop-test.true) in
    (all, c.new-parts.ensures.parts (pieces c.args.text.now) (ArePiecesOf-pieces c.args.text.now), slice_get-none all c.loop.counter c.args.index low (sym c.loop.invariant ∙ c.in_default.ensures.steps.1.0))

pub loop-preserved : goal.loop-preserved
loop-preserved c =
    let all = c.new-parts.result.parts in
    let old = c.loop.parts in
    let new = c.next.new.self in
    let part = c.in_ok-part.field-0 in
    let came = GivesPart-came old new c.in-Some.part part c.in-Some.ensures.steps c.in_ok-part.was in
    let one : suc c.loop.counter ≡ c.loop.counter + 1 = omega arith in
    subst (λ (n : ℕ). new.parts ≡ drop n all) one (sym (drop-next all c.loop.counter (cow_str_bytes part) new.parts (sym c.loop.invariant ∙ came)))

pub returns : goal.returns
returns c =
    let all = c.new-parts.result.parts in
    let text = c.args.text.now in
    let pattern = c.args.pattern in
    let end : c.loop.counter ≡ c.args.index = omega (arith, c.loop-test.false, c.loop.auto.counter-end) in
    let left = subst (λ (n : ℕ). c.loop.parts.parts ≡ drop n all) end c.loop.invariant in
    subst (λ r. IfOk r (Answers (Part pattern c.args.index) (pieces text))) (sym c.transpose.ensures)
    (Answers-part pattern c.args.index (pieces text) all c.loop.parts c.next-2.new.self c.next-2.result (c.new-parts.ensures.parts (pieces text) (ArePiecesOf-pieces text)) left c.next-2.ensures.steps)
