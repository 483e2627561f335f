-- One field more is shown, or has a flaw.
use Rattle.std.proofs.Common.{◌≡◌, ◌∙◌, ◌+◌, ◌<◌, ◌≤◌, ◌∷◌, ◌++◌, ℕ, List, [], length, take, drop, get_or, sym, ap, subst, arith}
use Rattle.std.proofs.lemmas.List.{drop_more, length-take-le, take-append-drop, take_all, take_more}
use Rattle.csv.specs.Records.{fields_of}
use Rattle.basinmug_input.specs.Flaws.{HasFlaw}
use Rattle.basinmug_input.specs.Rows.{HaveShown}
use Rattle.basinmug_input.proofs.Rows.{field_at-none, field_at-some, none-shown, shown-push}
use Rattle.basinmug_input.proofs.records.push_given.Goals as goal

pub loop-field-init : goal.loop-field-init
loop-field-init c = record { few = omega arith; shown = none-shown c.args.escapes c.args.rows.now }

pub loop-field-smaller : goal.loop-field-smaller
loop-field-smaller c =
    let found = field_at-some (fields_of c.args.given.now) c.loop-field.number c.in-Some.field.now (sym c.in-Some.ensures.value) in
    let below = found.0 in
    omega (arith, below)

pub loop-field-preserved : goal.loop-field-preserved
loop-field-preserved c =
    let fields = fields_of c.args.given.now in
    let n = c.loop-field.number in
    let found = field_at-some fields n c.in-Some.field.now (sym c.in-Some.ensures.value) in
    let below : n < length fields = found.0 in
    let f = c.in-Some.field.now in
    let first : take (n + 1) fields ≡ take n fields ++ f ∷ [] = take_more fields n [] below ∙ ap (λ (x : List ℕ). take n fields ++ x ∷ []) found.1 in
    record {
      few = omega (arith, below);
      shown = subst (λ (of : List (List ℕ)). HaveShown c.args.escapes of c.args.rows.now c.push_field.new.rows) (sym first)
          (shown-push c.args.escapes (take n fields) f c.args.rows.now c.loop-field.rows c.push_field.new.rows c.loop-field.invariant.shown (rw c.in-Ok.is at c.in_ok-push_field.ensures.read));
    }

pub returns-in-Err : goal.returns-in-Err
returns-in-Err c =
    let fields = fields_of c.args.given.now in
    let n = c.loop-field.number in
    let found = field_at-some fields n c.in-Some.field.now (sym c.in-Some.ensures.value) in
    let below : n < length fields = found.0 in
    let low : n ≤ length fields = omega (arith, below) in
    record {
      before = take n fields;
      here = get_or fields n [];
      behind = drop (n + 1) fields;
      of_fields = sym (take-append-drop n fields) ∙ ap (λ (rest : List (List ℕ)). take n fields ++ rest) (drop_more fields n [] below);
      sound = c.loop-field.invariant.shown.sound;
      place = sym (length-take-le n fields low);
      flaw = subst (λ (f : List ℕ). HasFlaw c.args.escapes f c.in-Err.flaw) (sym found.1) (rw c.in-Err.is at c.in_ok-push_field.ensures.read);
    }

pub returns : goal.returns
returns c =
    let fields = fields_of c.args.given.now in
    let all = field_at-none fields c.loop-field.number (sym c.in_default.ensures.value) in
    subst (λ (of : List (List ℕ)). HaveShown c.args.escapes of c.args.rows.now c.loop-field.rows) (take_all c.loop-field.number fields all) c.loop-field.invariant.shown
