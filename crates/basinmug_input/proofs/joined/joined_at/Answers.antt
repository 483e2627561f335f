-- One byte more is joined, or ends the field.
use Rattle.std.proofs.Common.{◌≡◌, [], ◌∙◌, ◌+◌, ◌<◌, ◌≤◌, ℕ, List, length, drop, get_or, refl, sym, ap, subst, arith}
use Rattle.csv.specs.declared.parser.State.TheVariants as st
use Rattle.basinmug_input.specs.Parts.{IsFieldAt, ReadsAs, is_field_end, joined_with}
use Rattle.basinmug_input.specs.Reading.{settings}
use Rattle.basinmug_input.specs.Walking.{csv_action, csv_state}
use Rattle.basinmug_input.proofs.JoinedFields.{IsInField, ends-here, ends-last, one-more, stays}
use Rattle.basinmug_input.proofs.PartedFields.{both-read, same-text}
use Rattle.basinmug_input.proofs.Quotes.{only-quoted}
use Rattle.basinmug_input.proofs.joined.joined_at.Goals as goal

pub loop-at-init : goal.loop-at-init
loop-at-init c = record {
  read = λ fields. subst (λ (field : List ℕ). ReadsAs (settings c.args.delimiter) st.StartField fields [] (drop c.args.start c.args.bytes.now) st.StartField fields field (drop c.args.start c.args.bytes.now))
      (sym c.new-field.ensures.items) (same-text (settings c.args.delimiter) st.StartField fields [] (drop c.args.start c.args.bytes.now) (drop c.args.start c.args.bytes.now) refl);
  in_field = tt;
  above = omega arith;
}

pub loop-at-preserved : goal.loop-at-preserved
loop-at-preserved c =
    let d = c.args.delimiter in
    let text = c.args.bytes.now in
    let at = c.loop-at.at in
    let known = c.loop-at.invariant in
    let stepped = c.step-next.ensures in
    let below : at < length text = omega arith in
    let none = sym c.is_field_end.ensures ∙ c.if-is_field_end.false in
    record {
      read = λ fields. both-read (known.read fields)
          (subst (λ (field : List ℕ). ReadsAs (settings d) (csv_state c.loop-at.state) fields c.loop-at.field.items (drop at text) (csv_state c.step-next.result.0) fields field (drop (at + 1) text))
          (sym c.in_ok-push_if_copied.ensures)
          (one-more d text at (csv_state c.loop-at.state) (csv_state c.step-next.result.0) (csv_action c.step-next.result.1) fields c.loop-at.field.items below stepped.state stepped.action none));
      in_field = subst IsInField (sym stepped.state) (stays d (csv_state c.loop-at.state) (get_or text at 0) known.in_field (sym (ap is_field_end stepped.action) ∙ none));
      above = (let above = known.above in omega (arith, above));
    }

pub returns-then-is_field_end : goal.returns-then-is_field_end
returns-then-is_field_end c =
    let d = c.args.delimiter in
    let text = c.args.bytes.now in
    let at = c.loop-at.at in
    let known = c.loop-at.invariant in
    let stepped = c.step-next.ensures in
    let below : at < length text = omega arith in
    let ends = sym c.is_field_end.ensures ∙ c.if-is_field_end.true in
    ends-here d text c.args.start at (csv_state c.loop-at.state) c.loop-at.field.items known.above known.in_field known.read below (sym (ap is_field_end stepped.action) ∙ ends)

pub returns-in_default : goal.returns-in_default
returns-in_default c =
    let d = c.args.delimiter in
    let text = c.args.bytes.now in
    let at = c.loop-at.at in
    let known = c.loop-at.invariant in
    let last : at ≡ length text = omega arith in
    subst (λ k. IsFieldAt d text c.args.start k c.loop-at.field.items) last
    (ends-last d text c.args.start at (csv_state c.loop-at.state) c.loop-at.field.items known.above known.in_field known.read last (λ quoted. c.in_default.not-Quoted (only-quoted c.loop-at.state quoted)))
