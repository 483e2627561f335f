-- One block more is read.
use Rattle.std.proofs.Common.{rules, ◌≡◌, ◌∙◌, ℕ, List, ap, arith, length, length-append, subst, sym, true}
use Rattle.std.specs.Prelude.{Option, None, Some, is_some}
use Rattle.std.proofs.KnownBytes.{Consumes-trans}
use Rattle.std.proofs.lemmas.Bool.{false≢true}
use Rattle.std.specs.Io.KnownBytes.{Consumes}
use Rattle.tabled_output.specs.Counts.{inner_of, pieces_read_of}
use Rattle.basinmug_delimiter.specs.FirstLines.{HasFirstLine, IsKnownOf}
use Rattle.basinmug_head.specs.Fronts.{TellsFields}
use Rattle.basinmug_head.proofs.Pieces.{given-both}
use Rattle.basinmug_head.proofs.front.read_front.Goals as goal
use Rattle.basinmug_head.proofs.front.read_front.Goals.{then-is_some-via-then-is_some, then-is_some-via-else-is_some+then-is_whole}

told-asked : (asked : Option ℕ) (front : List ℕ) → is_some asked ≡ true → TellsFields asked front
told-asked None front asks = absurd (false≢true asks)
told-asked (Some delimiter) front asks = tt

told-whole : (asked : Option ℕ) (front : List ℕ) → HasFirstLine front → TellsFields asked front
told-whole None front whole = whole
told-whole (Some delimiter) front whole = tt

pub returns-then-branch-eq0-clause-front : goal.returns-then-branch-eq0-clause-front
returns-then-branch-eq0-clause-front g c =
    let block = c.in_ok-read_block.ensures.block in
    record {
      consumed = subst (λ (bytes : List ℕ). Consumes (g.R.Read.remaining (inner_of c.args.reader.now)) (g.R.Read.remaining (inner_of c.read_block.new.reader)) bytes) (sym block.appended)
          (Consumes-trans _ _ _ _ _ c.loop-reads.invariant.consumed block.consumed);
      told = (λ _. block.at_end c.if-branch-eq0.true, λ other. absurd (false≢true (sym other)));
    }

pub returns-then-is_some-clause-front : goal.returns-then-is_some-clause-front
returns-then-is_some-clause-front g c =
    let block = c.in_ok-read_block.ensures.block in
    let known : IsKnownOf c.read_block.new.bytes.items c.with-line.result = subst (λ (bytes : List ℕ). IsKnownOf bytes c.with-line.result) c.as_slice.ensures.value c.with-line.ensures in
    record {
      consumed = subst (λ (bytes : List ℕ). Consumes (g.R.Read.remaining (inner_of c.args.reader.now)) (g.R.Read.remaining (inner_of c.read_block.new.reader)) bytes) (sym block.appended)
          (Consumes-trans _ _ _ _ _ c.loop-reads.invariant.consumed block.consumed);
      told = (
        λ other. absurd (false≢true other),
        λ _. elim c.then-is_some.branch [
          | then-is_some-via-then-is_some w ↦ told-asked c.args.asked c.read_block.new.bytes.items (sym c.is_some.ensures ∙ w.if-is_some.true)
          | then-is_some-via-else-is_some+then-is_whole w ↦
              told-whole c.args.asked c.read_block.new.bytes.items ((w.is_whole.ensures c.read_block.new.bytes.items known).0 w.if-is_whole.true)
        ],
      );
    }

pub loop-reads-preserved : goal.loop-reads-preserved
loop-reads-preserved g c =
    let block = c.in_ok-read_block.ensures.block in
    let known = c.loop-reads.invariant in
    let reads = c.read_block.ensures.only_reads in
    let long = ap length block.appended ∙ length-append c.loop-reads.bytes.items block.block in
    let counted = block.counted in
    let some = c.if-branch-eq0.false in
    let enough = known.enough in
    record {
      consumed = subst (λ (bytes : List ℕ). Consumes (g.R.Read.remaining (inner_of c.args.reader.now)) (g.R.Read.remaining (inner_of c.read_block.new.reader)) bytes) (sym block.appended)
          (Consumes-trans _ _ _ _ _ known.consumed block.consumed);
      enough = omega (arith, long, counted, some, enough);
      pieces_read = search rules;
      known = subst (λ (bytes : List ℕ). IsKnownOf bytes c.with-line.result) c.as_slice.ensures.value c.with-line.ensures;
      failures = (rw c.in_ok-read_block.was at c.read_block.ensures.read).others (λ e. cc e) ∙ known.failures;
      only_reads = record {
        empty_writes = reads.empty_writes ∙ known.only_reads.empty_writes;
        writes_of_nothing = reads.writes_of_nothing ∙ known.only_reads.writes_of_nothing;
        flushes = reads.flushes ∙ known.only_reads.flushes;
      };
    }

pub returns-in_err-read_block-clause-few : goal.returns-in_err-read_block-clause-few
returns-in_err-read_block-clause-few g c =
    given-both (pieces_read_of c.args.reader.now) (pieces_read_of c.loop-reads.reader) (pieces_read_of c.read_block.new.reader) c.loop-reads.reads 1 c.args.limit
    c.args.reader.now.in_range (search rules) c.loop-reads.invariant.pieces_read c.read_block.ensures.most

pub returns-then-is_some-clause-few : goal.returns-then-is_some-clause-few
returns-then-is_some-clause-few g c =
    given-both (pieces_read_of c.args.reader.now) (pieces_read_of c.loop-reads.reader) (pieces_read_of c.read_block.new.reader) c.loop-reads.reads 1 c.args.limit
    c.args.reader.now.in_range (search rules) c.loop-reads.invariant.pieces_read c.read_block.ensures.most
