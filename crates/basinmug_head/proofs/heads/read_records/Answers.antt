-- The records of the prefix are walked over first.
use Rattle.std.proofs.Common.{◌≡◌, ◌∙◌, ◌≤◌, ℕ, List, [], Bool, length, refl, subst, sym, take, false}
use Rattle.std.proofs.KnownBytes.{Consumes-nil}
use Rattle.std.proofs.lemmas.Bool.{false≢true}
use Rattle.std.proofs.lemmas.List.{append-nil}
use Rattle.std.proofs.lemmas.Result.{IfOk-weaker}
use Rattle.tabled_output.specs.Counts.{inner_of}
use Rattle.basinmug_delimiter.specs.declared.Found.{Found}
use Rattle.basinmug_head.specs.Heads.{IsHeadIn}
use Rattle.basinmug_head.specs.Walking.{IsStep, IsWalked, KeepsFound}
use Rattle.basinmug_head.specs.declared.walk.Step.{Step}
use Rattle.basinmug_head.specs.declared.walk.Walk.{Walk}
use Rattle.basinmug_head.proofs.Ends.{first-step}
use Rattle.basinmug_head.proofs.Walks.{head-cut, head-none, head-whole}
use Rattle.basinmug_head.proofs.heads.read_records.Goals as goal

pub returns-then-records-eq0-clause-head : goal.returns-then-records-eq0-clause-head
returns-then-records-eq0-clause-head g c =
    let reader = g.R.Read.remaining (inner_of c.args.reader.now) in
    subst (λ (count : ℕ). IsHeadIn reader reader c.args.found count c.args.front.bytes.items c.args.front.ended c.truncate.new.self.items) (sym c.if-records-eq0.true)
    (head-none reader c.args.found c.args.front.bytes.items c.truncate.new.self.items c.args.front.ended (Consumes-nil reader) c.requires c.truncate.ensures.items)

-- what comes of the prefix
prefix-step : (found of : Found) (records : ℕ) (bytes slice : List ℕ) (walk : Walk) (step : Step) → IsWalked found records [] walk → of ≡ found → slice ≡ bytes
    → ((count : ℕ) → IsWalked of count (take 0 slice) walk → IsStep of count slice step) → IsStep found records bytes step
prefix-step found of records bytes slice walk step start same value steps =
    subst (λ (it : List ℕ). IsStep found records it step) value (first-step found of records slice walk step start same steps)

pub read_on-requires : goal.read_on-requires
read_on-requires g c =
    let kept = subst (λ (step : Step). KeepsFound c.start.result.found step) c.in-On.is c.with.ensures.found ∙ c.start.ensures.same in
    subst (λ (f : Found). f.start ≤ length c.args.front.bytes.items) (sym kept) c.requires

pub returns-in-End-clause-head : goal.returns-in-End-clause-head
returns-in-End-clause-head g c =
    let reader = g.R.Read.remaining (inner_of c.args.reader.now) in
    let found = c.args.found in
    let bytes = c.args.front.bytes.items in
    let step = prefix-step found c.start.result.found c.args.records bytes c.as_slice.result.now c.start.result c.with.result c.start.ensures c.start.ensures.same c.as_slice.ensures.value c.with.ensures.step in
    head-cut reader reader found c.args.records bytes [] c.args.front.ended bytes c.truncate-in-End.new.self.items c.in-End.end
    (Consumes-nil reader) (λ _. refl) (sym (append-nil bytes)) (rw c.in-End.is at step) c.truncate-in-End.ensures.items

pub returns-in-End-clause-within : goal.returns-in-End-clause-within
returns-in-End-clause-within g c = (returns-in-End-clause-head g c).within

pub returns-in-On-clause-head : goal.returns-in-On-clause-head
returns-in-On-clause-head g c =
    let reader = g.R.Read.remaining (inner_of c.args.reader.now) in
    let found = c.args.found in
    let bytes = c.args.front.bytes.items in
    let step = prefix-step found c.start.result.found c.args.records bytes c.as_slice.result.now c.start.result c.with.result c.start.ensures c.start.ensures.same c.as_slice.ensures.value c.with.ensures.step in
    head-whole reader reader found c.args.records bytes [] c.args.front.ended bytes c.in-On.field-0
    (Consumes-nil reader) (λ _. refl) (sym (append-nil bytes)) c.requires (rw c.in-On.is at step) (λ e. absurd (false≢true (sym e ∙ c.if-front.true)))

-- what is read after the prefix, of a walk over it
pub returns-in-On-2-clause-head : goal.returns-in-On-2-clause-head
returns-in-On-2-clause-head g c =
    let old = g.R.Read.remaining (inner_of c.args.reader.now) in
    let new = g.R.Read.remaining (inner_of c.read_on.new.reader) in
    let found = c.args.found in
    let walk = c.in-On.field-0 in
    let bytes = c.args.front.bytes.items in
    let step = prefix-step found c.start.result.found c.args.records bytes c.as_slice.result.now c.start.result c.with.result c.start.ensures c.start.ensures.same c.as_slice.ensures.value c.with.ensures.step in
    let walked : IsWalked found c.args.records bytes walk = rw c.in-On.is at step in
    let same : walk.found ≡ found = walked.same in
    IfOk-weaker c.read_on.result _ _ (λ all heads.
    let head = heads c.args.records (subst (λ (f : Found). IsWalked f c.args.records bytes walk) (sym same) walked) in
    subst (λ (ended : Bool). IsHeadIn old new found c.args.records bytes ended all.items) (sym c.if-front.false)
    (subst (λ (f : Found). IsHeadIn old new f c.args.records bytes false all.items) same head)) c.read_on.ensures.head

pub returns-in-On-2-clause-within : goal.returns-in-On-2-clause-within
returns-in-On-2-clause-within g c = IfOk-weaker c.read_on.result _ _ (λ all head. head.within) (returns-in-On-2-clause-head g c)
