-- One field more is read, or the last.
use Rattle.std.proofs.Common.{◌≡◌, ◌∙◌, ◌+◌, ◌<◌, false, true, [], ◌∷◌, ◌++◌, inl, inr, length, get_or, sym, ap, arith}
use Rattle.std.proofs.lemmas.Bool.{cases_lt, eq-eqb, false≢true, ne_eqb}
use Rattle.std.proofs.lemmas.Str.{IsCharBoundary-after_ascii}
use Rattle.std.specs.Prelude.{◌==◌}
use Rattle.basinmug_cells.specs.Held.{Held}
use Rattle.basinmug_input.proofs.Rows.{none-shown, shown-push}
use Rattle.basinmug_input.proofs.PartedFields.{Ends, ends-above, ends-at_end, ends-at_line, goes-on, no-false, no-true, reads-first}
use Rattle.basinmug_input.proofs.parts.push_record.Goals as goal

pub loop-end-init : goal.loop-end-init
loop-end-init c = record {
  fields = [];
  read = reads-first c.args.delimiter c.args.text.now c.args.at c.requires.begins.within c.requires.begins.no_line_end;
  shown = none-shown c.args.escapes c.args.rows.now;
  above = omega arith;
  within = c.requires.begins.boundary.0;
  boundary = c.requires.begins.boundary;
}

pub push_next-requires-clause-text : goal.push_next-requires-clause-text
push_next-requires-clause-text c = ap (λ (rows : Held). rows.text) c.loop-end.invariant.shown.more ∙ c.requires.text

pub returns-then-not-end : goal.returns-then-not-end
returns-then-not-end c =
    let d = c.args.delimiter in
    let text = c.args.text.now in
    let at = c.args.at in
    let start = c.loop-end.start in
    let known = c.loop-end.invariant in
    let found = rw c.in-Some.is at c.in_ok-end.ensures in
    let end = c.in-Some.end.at in
    let other : end < length text → (get_or text end 0 == d) ≡ false = λ below. ne_eqb (get_or text end 0) d (λ same. false≢true (sym (no-true c.in-Some.end.is_parted c.if-not-end.true) ∙ found.parted.1 (below, same))) in
    let within = found.is.within in
    let last : Ends d text at end (known.fields ++ found.field ∷ []) =
    elim (cases_lt end (length text)) [
      | inl below ↦ ends-at_line d text start end found.field found.is at known.fields known.read below (other below)
      | inr past ↦ ends-at_end d text start end found.field found.is at known.fields known.read (omega (arith, within, past))
    ] in
    record {
      fields = known.fields ++ found.field ∷ [];
      is = record {
        state = last.state;
        left = last.left;
        read = last.read;
        next = last.next;
        quoted = last.quoted;
        above = ends-above d text start end found.field found.is at known.above c.requires.begins.within c.requires.begins.no_line_end other;
        within = within;
        boundary = found.boundary;
      };
      shown = shown-push c.args.escapes known.fields found.field c.args.rows.now c.loop-end.rows c.push_next.new.rows known.shown found.shown;
    }

pub loop-end-preserved : goal.loop-end-preserved
loop-end-preserved c =
    let d = c.args.delimiter in
    let text = c.args.text.now in
    let start = c.loop-end.start in
    let known = c.loop-end.invariant in
    let found = rw c.in-Some.is at c.in_ok-end.ensures in
    let end = c.in-Some.end.at in
    let upward = found.is.upward in
    let above = known.above in
    let parted = found.parted.0 (no-false c.in-Some.end.is_parted c.if-not-end.false) in
    let below : end < length text = parted.0 in
    let same : get_or text end 0 ≡ d = parted.1 in
    let parts : (get_or text end 0 == d) ≡ true = eq-eqb (get_or text end 0) d same in
    let low = c.requires.parts.ascii in
    record {
      fields = known.fields ++ found.field ∷ [];
      read = goes-on d text start end found.field found.is c.args.at known.fields known.read below parts;
      shown = shown-push c.args.escapes known.fields found.field c.args.rows.now c.loop-end.rows c.push_next.new.rows known.shown found.shown;
      above = omega (arith, above, upward);
      within = omega (arith, below);
      boundary = IsCharBoundary-after_ascii text end c.utf8.text below (omega (arith, same, low));
    }
