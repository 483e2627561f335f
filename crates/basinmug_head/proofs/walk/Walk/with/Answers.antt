-- More bytes are walked over.
use Rattle.std.proofs.Common.{◌≡◌, ◌++◌, ℕ, List, drop, length, subst, sym, take}
use Rattle.std.proofs.lemmas.List.{take-append-drop, take_rest}
use Rattle.basinmug_head.specs.Walking.{IsStep, IsStepOver, record_text}
use Rattle.basinmug_head.proofs.Walks.{step-more}
use Rattle.basinmug_head.proofs.walk.Walk.with.Goals as goal

pub returns-in-Some-clause-step : goal.returns-in-Some-clause-step
returns-in-Some-clause-step c =
    let found = c.args.self.found in
    let bytes = c.args.bytes.now in
    let from = c.args.from in
    let front = take from bytes in
    let rest = drop from bytes in
    let all : front ++ rest ≡ bytes = take-append-drop from bytes in
    λ records walked.
    let stands = rw c.in-Some.is at walked.stands in
    let over = c.over.ensures.step records (record_text found front) stands.1 in
    let over_rest = subst (λ (of : List ℕ). IsStepOver found records (record_text found front) of (length bytes) c.over.result) (take_rest bytes from) over in
    let over_all = subst (λ (of : List ℕ). IsStepOver found records (record_text found front) rest (length of) c.over.result) (sym all) over_rest in
    subst (λ (of : List ℕ). IsStep found records of c.over.result) all (step-more found records front rest c.over.result stands.0 walked.some over_all)
