-- A cell that keeps no lines is its only line.
use Rattle.std.proofs.Common.{◌≡◌, Global, List, [], ◌∷◌, Option, string_bytes, subst, sym, ℕ}
use Rattle.std.specs.declared.boxed.Box.{Box}
use Rattle.grid_records.specs.declared.rows.records.vec_records.text.kept_lines.KeptLines.{KeptLines}
use Rattle.grid_records_measure.specs.TextLines.{text_lines}
use Rattle.grid_records.specs.RecordRows.Measured.{AreKept}
use Rattle.grid_records.proofs.RowsLemmas.PlainText.{only_line-plain}
use Rattle.grid_records_traits.specs.SingleLines.{IsSingleLine}
use Rattle.grid_records.proofs.rows.records.vec_records.text.TextCell.single_line.Goals as goal

pub returns-in-None-clause-single_line : goal.returns-in-None-clause-single_line
returns-in-None-clause-single_line c =
    let text = string_bytes c.self.inside.text in
    let kept : text_lines text ≡ text ∷ [] = subst (λ (lines : Option (Box KeptLines Global)). AreKept text lines) c.in-None.is c.self.invariant.0 in
    subst (λ (bytes : List ℕ). IsSingleLine bytes c.self.inside.width) (sym c.as_str-text.ensures.value) (only_line-plain text c.self.inside.width kept c.self.invariant.1)
