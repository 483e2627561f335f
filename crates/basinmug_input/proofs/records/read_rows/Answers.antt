-- One record more is read, as the reader's contract says.
use Rattle.std.proofs.Common.{◌≡◌, Bor, List, ℕ, ◌∙◌, ◌+◌, ◌∷◌, ◌++◌, [], Some, sym, refl, ap, subst, inl, map, Option, false, true, arith}
use Rattle.std.proofs.lemmas.List.{length-map, length_push}
use Rattle.std.specs.List.{AllByRecursion}
use Rattle.csv.specs.Reading.{ExplainsRead, is_flexible, Reached, strip_bom}
use Rattle.csv.specs.Records.{fields_of}
use Rattle.csv.specs.declared.error.ErrorKind.{ErrorKind}
use Rattle.csv.specs.declared.error.ErrorKind.TheVariants as kind
use Rattle.csv.specs.declared.reader.Reader.{Reader}
use Rattle.std.proofs.lemmas.Bool.{false≢true}
use Rattle.basinmug_input.specs.Reading.{IsOfMemory}
use Rattle.csv.specs.declared.parser.State.TheVariants as st
use Rattle.csv.proofs.ReadFacts.{rows-end, rows-more}
use Rattle.basinmug_input.specs.Cleaning.{cleaned}
use Rattle.basinmug_input.specs.Flaws.{IsReadableField}
use Rattle.basinmug_input.specs.Reading.{settings}
use Rattle.basinmug_input.specs.Kept.{IsReadRows}
use Rattle.basinmug_input.specs.Rows.{IsFirstFlawed}
use Rattle.basinmug_input.proofs.KeptRows.{kept-begun, kept-more}
use Rattle.basinmug_input.proofs.ReadRecords.{records-go_on, records-only}
use Rattle.basinmug_input.proofs.Rows.{all-push}
use Rattle.basinmug_input.proofs.records.read_rows.Goals as goal

pub loop-count-init : goal.loop-count-init
unfolding Reached
loop-count-init c =
    let made = c.reader_of-reading.ensures in
    record {
      trim = made.trim;
      ready = made.ready;
      flexible = made.flexible;
      config = made.config;
      left = strip_bom c.args.bytes.now;
      raw = [];
      source = made.source;
      reached = (sym made.state, refl);
      counted = refl;
      kept = c.in_ok-kept.ensures;
      sound = tt;
    }

pub returns-then-not-found-clause-rows : goal.returns-then-not-found-clause-rows
returns-then-not-found-clause-rows c =
    let known = c.loop-count.invariant in
    let cfg = settings c.args.delimiter in
    let text = strip_bom c.args.bytes.now in
    let read = rw c.if-not-found.true at (c.in-Ok.ensures.reads known.trim known.ready) in
    let ends = rows-end (λ (s : Bor (List ℕ)). Some s.now) c.loop-count.reading.reader c.read_byte_record.new.self (fields_of c.read_byte_record.new.row) cfg known.left known.config known.source read in
    subst (λ (raw : List (List (List ℕ))). IsReadRows c.args.choice (map (map (cleaned c.args.escapes)) raw) c.finish.result)
    (sym (records-only cfg text known.raw (c.loop-count.reading.reader.state, known.left, known.reached, ends)))
    (c.finish.ensures c.args.choice [] (map (map (cleaned c.args.escapes)) known.raw) known.kept)

pub end_row-requires : goal.end_row-requires
end_row-requires c =
    let known = c.loop-count.invariant in
    let kept = known.kept.counted in
    let size = length-map known.raw (map (cleaned c.args.escapes)) in
    let counted = known.counted in
    omega (arith, kept, size, counted)

pub returns-then-not-found-clause-readable : goal.returns-then-not-found-clause-readable
returns-then-not-found-clause-readable c =
    let known = c.loop-count.invariant in
    let cfg = settings c.args.delimiter in
    let text = strip_bom c.args.bytes.now in
    let read = rw c.if-not-found.true at (c.in-Ok.ensures.reads known.trim known.ready) in
    let ends = rows-end (λ (s : Bor (List ℕ)). Some s.now) c.loop-count.reading.reader c.read_byte_record.new.self (fields_of c.read_byte_record.new.row) cfg known.left known.config known.source read in
    record {
      is_text = c.requires;
      sound = subst (AllByRecursion (AllByRecursion (IsReadableField c.args.escapes))) (sym (records-only cfg text known.raw (c.loop-count.reading.reader.state, known.left, known.reached, ends))) known.sound;
    }

pub fault_of-requires : goal.fault_of-requires
fault_of-requires c =
    let known = c.loop-count.invariant in
    let cfg = settings c.args.delimiter in
    let text = strip_bom c.args.bytes.now in
    let here = fields_of c.read_byte_record.new.row in
    let read = rw c.if-not-found.false at (c.in-Ok.ensures.reads known.trim known.ready) in
    let (left, source, reached) = rows-more (λ (s : Bor (List ℕ)). Some s.now) c.loop-count.reading.reader c.read_byte_record.new.self here cfg st.StartRecord text known.left known.raw known.config known.source known.reached read in
    let (after, of_text) = records-go_on cfg text known.raw here c.read_byte_record.new.self.state left reached in
    let first : IsFirstFlawed c.args.escapes cfg text c.loop-count.count c.in-Err-2.flawed = record {
      is_text = c.requires;
      before = known.raw;
      here = here;
      after = after;
      of_text = of_text;
      sound = known.sound;
      place = known.counted;
      flaw = rw c.in-Err-2.is at c.in_ok-push_given.ensures;
    } in
    subst (λ (of : List ℕ). IsFirstFlawed c.args.escapes cfg of c.loop-count.count c.in-Err-2.flawed) (sym c.without_mark.ensures) first

pub loop-count-preserved : goal.loop-count-preserved
loop-count-preserved c =
    let known = c.loop-count.invariant in
    let cfg = settings c.args.delimiter in
    let text = strip_bom c.args.bytes.now in
    let here = fields_of c.read_byte_record.new.row in
    let read = rw c.if-not-found.false at (c.in-Ok.ensures.reads known.trim known.ready) in
    let (left, source, reached) = rows-more (λ (s : Bor (List ℕ)). Some s.now) c.loop-count.reading.reader c.read_byte_record.new.self here cfg st.StartRecord text known.left known.raw known.config known.source known.reached read in
    let row = rw c.in-Ok-2.is at c.in_ok-push_given.ensures in
    let kept = kept-begun c.args.choice [] (map (map (cleaned c.args.escapes)) known.raw) (map (cleaned c.args.escapes) here) c.loop-count.kept _ known.kept refl row.more refl refl in
    record {
      trim = read.3 ∙ known.trim;
      ready = inl (c.in-Ok.ensures.ready known.trim);
      flexible = c.in-Ok.ensures.flexible ∙ known.flexible;
      config = read.2 ∙ known.config;
      left = left;
      raw = known.raw ++ here ∷ [];
      source = source;
      reached = reached;
      counted = ap (λ (n : ℕ). n + 1) known.counted ∙ sym (length_push known.raw here);
      kept = kept-more c.args.escapes c.args.choice [] known.raw here c.end_row.new.self (c.in_ok-end_row-in-Ok-2.ensures c.args.choice [] (map (map (cleaned c.args.escapes)) known.raw) (map (cleaned c.args.escapes) here) kept);
      sound = all-push (AllByRecursion (IsReadableField c.args.escapes)) known.raw here known.sound row.sound;
    }

-- records may differ in length, and bytes are read, so that the reader has no other error
of-memory : {R : Type 0} (rem : R → Option (List ℕ)) (old new : Reader R) (why : ErrorKind) → is_flexible old ≡ true → ExplainsRead rem old new false why → IsOfMemory why
of-memory rem old new (kind.Io error) flexible explains = tt
of-memory rem old new kind.OutOfMemory flexible explains = tt
of-memory rem old new (kind.UnequalLengths place expected found) flexible explains = false≢true (sym explains.0 ∙ flexible)
of-memory rem old new (kind.Utf8 place error) flexible explains = false≢true explains.0
of-memory rem old new (kind.Serialize reason) flexible explains = explains
of-memory rem old new (kind.Deserialize place error) flexible explains = explains

pub refused-requires : goal.refused-requires
refused-requires c =
    let known = c.loop-count.invariant in
    of-memory (λ (s : Bor (List ℕ)). Some s.now) c.loop-count.reading.reader c.read_byte_record.new.self c.in-Err.error.kind known.flexible (c.in-Err.ensures.why known.ready)
