-- One record more is read, and after the last there is none.
use Rattle.std.proofs.Common.{◌≡◌, ◌∙◌, ◌+◌, ℕ, List, [], ◌∷◌, ◌++◌, length, map, drop, refl, sym, ap, subst, arith}
use Rattle.std.proofs.lemmas.List.{drop_all, length-map, length_push}
use Rattle.std.proofs.lemmas.Str.{IsCharBoundary-start}
use Rattle.std.specs.List.{AllByRecursion, prefix_len}
use Rattle.csv.proofs.ReadFacts.{reached-more}
use Rattle.csv.specs.Machine.{next_record}
use Rattle.csv.specs.Reading.{Reached}
use Rattle.csv.specs.declared.parser.State.TheVariants as st
use Rattle.basinmug_input.specs.Cleaning.{cleaned}
use Rattle.basinmug_input.specs.Flaws.{IsReadableField}
use Rattle.basinmug_input.specs.Reading.{settings}
use Rattle.basinmug_input.specs.Parts.{AreKeptOf, ends_quoted, is_line_end}
use Rattle.basinmug_input.proofs.ReadRecords.{records-only}
use Rattle.basinmug_input.proofs.Rows.{all-push}
use Rattle.basinmug_input.proofs.KeptRows.{kept-begun, kept-more}
use Rattle.basinmug_input.proofs.PartedFields.{IsBehind, behind-here, closed-text, line_ends-bytes, none-left}
use Rattle.basinmug_input.proofs.parts.parted_rows.Goals as goal

pub loop-at-init : goal.loop-at-init
unfolding Reached
loop-at-init c =
    let d = c.args.delimiter in
    let text = c.args.text.now in
    let n = c.line_ends_len-at.result in
    let is : n ≡ prefix_len is_line_end text = c.line_ends_len-at.ensures.count ∙ ap (prefix_len is_line_end) c.as_bytes-bytes.ensures.value in
    let same : 0 + n ≡ n = omega arith in
    let first = subst (λ to. IsBehind d text 0 to) same (behind-here d text 0 n is (omega arith) c.utf8.text (IsCharBoundary-start text c.utf8.text)) in
    record {
      raw = [];
      state = st.StartRecord;
      left = text;
      reached = (refl, refl);
      next = first.read.next;
      quoted = first.read.quoted;
      sound = tt;
      kept = c.in_ok-kept.ensures;
      few = omega arith;
      within = first.within;
      boundary = first.boundary;
      no_line_end = first.no_line_end;
    }

pub loop-at-preserved : goal.loop-at-preserved
loop-at-preserved c =
    let d = c.args.delimiter in
    let text = c.args.text.now in
    let known = c.loop-at.invariant in
    let found = rw c.in-Some.is at c.in_ok-end.ensures in
    let kept = kept-begun c.args.choice text (map (map (cleaned c.args.escapes)) known.raw) (map (cleaned c.args.escapes) found.fields) c.loop-at.kept _ known.kept refl found.shown.more refl refl in
    let bytes = c.as_bytes-bytes.ensures.value in
    let is = line_ends-bytes text c.as_bytes-bytes.result.now c.in-Some.end c.line_ends_len.result bytes c.line_ends_len.ensures.count in
    let next = behind-here d text c.in-Some.end c.line_ends_len.result is found.is.within c.utf8.text found.is.boundary in
    record {
      raw = known.raw ++ found.fields ∷ [];
      state = found.is.state;
      left = found.is.left;
      reached = reached-more (settings d) st.StartRecord known.state text known.left known.raw (found.fields, found.is.state, found.is.left) known.reached (known.next ∙ found.is.read);
      next = found.is.next ∙ next.read.next;
      quoted = known.quoted ∙ found.is.quoted ∙ next.read.quoted;
      sound = all-push (AllByRecursion (IsReadableField c.args.escapes)) known.raw found.fields known.sound found.shown.sound;
      kept = kept-more c.args.escapes c.args.choice text known.raw found.fields c.end_row.new.self
          (c.in_ok-end_row.ensures c.args.choice text (map (map (cleaned c.args.escapes)) known.raw) (map (cleaned c.args.escapes) found.fields) kept);
      few = omega (arith, known.few, found.is.above, length_push known.raw found.fields);
      within = next.within;
      boundary = next.boundary;
      no_line_end = next.no_line_end;
    }

pub end_row-requires : goal.end_row-requires
end_row-requires c =
    let known = c.loop-at.invariant in
    let counted = known.kept.counted in
    let size = length-map known.raw (map (cleaned c.args.escapes)) in
    omega (arith, known.few, counted, size)

pub returns-clause-rows : goal.returns-clause-rows
returns-clause-rows c =
    let d = c.args.delimiter in
    let text = c.args.text.now in
    let known = c.loop-at.invariant in
    let all = ap length c.as_bytes-bytes.ensures.value in
    let none : drop c.loop-at.at text ≡ [] = drop_all c.loop-at.at text (omega (arith, all, c.loop-at-test.false)) in
    let ends = known.next ∙ ap (λ (xs : List ℕ). next_record (settings d) st.StartRecord [] [] xs) none ∙ none-left d in
    subst (λ (raw : List (List (List ℕ))). AreKeptOf c.args.escapes c.args.choice raw c.finish.result) (sym (records-only (settings d) text known.raw (known.state, known.left, known.reached, ends)))
    (record {
      sound = known.sound;
      rows = c.finish.ensures c.args.choice text (map (map (cleaned c.args.escapes)) known.raw) known.kept;
    })

pub returns-clause-closed : goal.returns-clause-closed
returns-clause-closed c =
    let d = c.args.delimiter in
    let text = c.args.text.now in
    let known = c.loop-at.invariant in
    let all = ap length c.as_bytes-bytes.ensures.value in
    let none : drop c.loop-at.at text ≡ [] = drop_all c.loop-at.at text (omega (arith, all, c.loop-at-test.false)) in
    (c.utf8.text, closed-text d text (known.quoted ∙ ap (λ (xs : List ℕ). ends_quoted (settings d) st.StartRecord xs) none))
