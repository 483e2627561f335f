use Rattle.std.proofs.Common.{◌∙◌, ap, arith, length, string_bytes, subst, sym}
use Rattle.std.proofs.lemmas.List.{length-map}
use Rattle.grid_records.specs.RecordRows.Measured.{AreLinesKept}
use Rattle.grid_records.proofs.RowsLemmas.KeptLines.{count_plain}
use Rattle.grid_records.proofs.rows.records.vec_records.text.kept_lines.KeptLines.count.Goals as goal

pub returns-in-Places : goal.returns-in-Places
returns-in-Places c = λ text are.
    let kept = subst (AreLinesKept text) c.in-Places.is are in
    let places = c.in-Places.places in
    omega (arith, c.len.ensures, places.ok.0, ap length kept.1, count_plain text kept.0)

pub returns-in-Texts : goal.returns-in-Texts
returns-in-Texts c = λ text are.
    let kept = subst (AreLinesKept text) c.in-Texts.is are in
    let lines = c.in-Texts.lines in
    c.len-in-Texts.ensures ∙ lines.ok.0 ∙ sym (length-map lines.items string_bytes) ∙ ap length kept
