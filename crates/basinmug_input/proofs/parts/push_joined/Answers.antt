-- The cell shows the joined bytes.
use Rattle.std.proofs.Common.{List, ℕ, subst}
use Rattle.basinmug_input.specs.Parts.{IsFieldAt}
use Rattle.basinmug_input.specs.Rows.{HasShown}
use Rattle.basinmug_input.proofs.ShownCells.{field-next}
use Rattle.basinmug_input.proofs.parts.push_joined.Goals as goal

pub returns-in-Ok : goal.returns-in-Ok
returns-in-Ok c =
    let d = c.args.delimiter in
    let text = c.args.text.now in
    let bytes = c.as_bytes-bytes.result.now in
    let same = c.as_bytes-bytes.ensures.value in
    let found = rw c.in-Some.is at c.in_ok-field.ensures in
    let is = subst (λ (of : List ℕ). IsFieldAt d of c.args.start c.in-Some.end c.in-Some.field.items) same found in
    let shown = subst (λ (of : List ℕ). HasShown c.args.escapes of c.args.rows.now c.push_field.new.rows) c.deref.ensures.value (rw c.in-Ok.is at c.in_ok-push_field.ensures.read) in
    field-next c.args.escapes d text bytes c.args.start c.in-Some.end c.new.result c.in-Some.field.items c.args.rows.now c.push_field.new.rows
    c.requires.parts.ascii same is c.new.ensures.at c.new.ensures.parted shown
