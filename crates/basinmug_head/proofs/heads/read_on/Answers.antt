-- One block more is read.
use Rattle.std.proofs.Common.{rules, ◌≡◌, ◌∙◌, ◌+◌, ◌++◌, ◌≤◌, ℕ, List, [], ◌∷◌, ap, arith, length, length-append, refl, subst, sym, take, false}
use Rattle.std.proofs.KnownBytes.{Consumes-trans}
use Rattle.std.proofs.lemmas.Bool.{false≢true}
use Rattle.std.proofs.lemmas.List.{append-nil, append_assoc}
use Rattle.std.proofs.Math.Seq.{take-append_seam}
use Rattle.tabled_output.specs.Counts.{inner_of, pieces_read_of}
use Rattle.basinmug_delimiter.specs.declared.Found.{Found}
use Rattle.basinmug_head.specs.Walking.{IsStep, IsWalked, KeepsFound}
use Rattle.basinmug_head.specs.declared.walk.Step.{Step}
use Rattle.basinmug_head.specs.declared.walk.Walk.{Walk}
use Rattle.basinmug_head.proofs.Pieces.{given-both}
use Rattle.basinmug_head.proofs.Walks.{head-cut, head-whole}
use Rattle.basinmug_head.proofs.heads.read_on.Goals as goal

-- the bytes before a block
before-block : (old block new slice : List ℕ) (n : ℕ) → new ≡ old ++ block → slice ≡ new → n ≡ length old → take n slice ≡ old
before-block old block new slice n grown same is = ap (take n) (same ∙ grown) ∙ (ap (λ (k : ℕ). take k (old ++ block)) is ∙ take-append_seam old block)

no-block : (block : List ℕ) → length block ≡ 0 → block ≡ []
no-block [] none = refl
no-block (b ∷ block) none = absurd (omega (arith, none))

pub returns-then-branch-eq0-clause-head : goal.returns-then-branch-eq0-clause-head
returns-then-branch-eq0-clause-head g c =
    let known = c.loop.invariant in
    let block = c.in_ok-read_block.ensures.block in
    let found = c.args.walk.found in
    let old = c.loop.bytes.items in
    let new = c.read_block.new.bytes.items in
    let none : block.block ≡ [] = no-block block.block (block.counted ∙ c.if-branch-eq0.true) in
    let same : new ≡ old = block.appended ∙ (ap (λ (of : List ℕ). old ++ of) none ∙ append-nil old) in
    λ records walked.
    head-whole (g.R.Read.remaining (inner_of c.args.reader.now)) (g.R.Read.remaining (inner_of c.read_block.new.reader)) found records c.args.bytes.items (known.more ++ block.block) false new c.loop.walk
    (Consumes-trans _ _ _ _ _ known.consumed block.consumed) (λ e. absurd (false≢true e))
    (block.appended ∙ (ap (λ (of : List ℕ). of ++ block.block) known.grown ∙ append_assoc c.args.bytes.items known.more block.block))
    (subst (λ (of : List ℕ). found.start ≤ length of) (sym same) known.within)
    (subst (λ (of : List ℕ). IsWalked found records of c.loop.walk) (sym same) (known.walked records walked))
    (λ _. block.at_end c.if-branch-eq0.true)

-- what comes of the new block
stepped : (found of : Found) (records : ℕ) (old slice new : List ℕ) (walk : Walk) (from : ℕ) (step : Step) → of ≡ found → take from slice ≡ old → slice ≡ new → IsWalked found records old walk
    → ((count : ℕ) → IsWalked of count (take from slice) walk → IsStep of count slice step) → IsStep found records new step
stepped found of records old slice new walk from step same front value walked steps =
    let here = subst (λ (bytes : List ℕ). IsWalked found records bytes walk) (sym front) walked in
    let next = steps records (subst (λ (f : Found). IsWalked f records (take from slice) walk) (sym same) here) in
    subst (λ (bytes : List ℕ). IsStep found records bytes step) value (subst (λ (f : Found). IsStep f records slice step) same next)

pub returns-in-End-clause-head : goal.returns-in-End-clause-head
returns-in-End-clause-head g c =
    let known = c.loop.invariant in
    let block = c.in_ok-read_block.ensures.block in
    let found = c.args.walk.found in
    let old = c.loop.bytes.items in
    let new = c.read_block.new.bytes.items in
    let slice = c.as_slice.result.now in
    let front = before-block old block.block new slice c.len-from.result block.appended c.as_slice.ensures.value (c.len-from.ensures ∙ c.loop.bytes.ok.0) in
    λ records walked.
    let step = stepped found c.loop.walk.found records old slice new c.loop.walk c.len-from.result c.with.result known.found front c.as_slice.ensures.value (known.walked records walked) c.with.ensures.step in
    let ends = rw c.in-End.is at step in
    head-cut (g.R.Read.remaining (inner_of c.args.reader.now)) (g.R.Read.remaining (inner_of c.read_block.new.reader)) found records c.args.bytes.items (known.more ++ block.block) false new c.truncate.new.self.items c.in-End.end
    (Consumes-trans _ _ _ _ _ known.consumed block.consumed) (λ e. absurd (false≢true e))
    (block.appended ∙ (ap (λ (of : List ℕ). of ++ block.block) known.grown ∙ append_assoc c.args.bytes.items known.more block.block))
    ends c.truncate.ensures.items

pub returns-in-End-clause-most : goal.returns-in-End-clause-most
returns-in-End-clause-most g c =
    given-both (pieces_read_of c.args.reader.now) (pieces_read_of c.loop.reader) (pieces_read_of c.read_block.new.reader) c.loop.counter 1 c.args.limit
    c.args.reader.now.in_range (search rules) c.loop.invariant.pieces_read c.read_block.ensures.most

pub returns-in_err-read_block-clause-most : goal.returns-in_err-read_block-clause-most
returns-in_err-read_block-clause-most g c =
    given-both (pieces_read_of c.args.reader.now) (pieces_read_of c.loop.reader) (pieces_read_of c.read_block.new.reader) c.loop.counter 1 c.args.limit
    c.args.reader.now.in_range (search rules) c.loop.invariant.pieces_read c.read_block.ensures.most

pub loop-preserved : goal.loop-preserved
loop-preserved g c =
    let known = c.loop.invariant in
    let block = c.in_ok-read_block.ensures.block in
    let reads = c.read_block.ensures.only_reads in
    let found = c.args.walk.found in
    let old = c.loop.bytes.items in
    let new = c.read_block.new.bytes.items in
    let slice = c.as_slice.result.now in
    let front = before-block old block.block new slice c.len-from.result block.appended c.as_slice.ensures.value (c.len-from.ensures ∙ c.loop.bytes.ok.0) in
    let long = ap length block.appended ∙ length-append old block.block in
    let within = known.within in
    let longer = length-append known.more block.block in
    let counted = block.counted in
    let some = c.if-branch-eq0.false in
    let enough = known.enough in
    record {
      more = known.more ++ block.block;
      enough = omega (arith, longer, counted, some, enough);
      pieces_read = search rules;
      consumed = Consumes-trans _ _ _ _ _ known.consumed block.consumed;
      grown = block.appended ∙ (ap (λ (of : List ℕ). of ++ block.block) known.grown ∙ append_assoc c.args.bytes.items known.more block.block);
      found = subst (λ (step : Step). KeepsFound c.loop.walk.found step) c.in-On.is c.with.ensures.found ∙ known.found;
      within = omega (arith, long, within);
      walked = λ records walked.
          rw c.in-On.is at (stepped found c.loop.walk.found records old slice new c.loop.walk c.len-from.result c.with.result known.found front c.as_slice.ensures.value (known.walked records walked) c.with.ensures.step);
      failures = (rw c.in_ok-read_block.was at c.read_block.ensures.read).others (λ e. cc e) ∙ known.failures;
      only_reads = record {
        empty_writes = reads.empty_writes ∙ known.only_reads.empty_writes;
        writes_of_nothing = reads.writes_of_nothing ∙ known.only_reads.writes_of_nothing;
        flushes = reads.flushes ∙ known.only_reads.flushes;
      };
    }
