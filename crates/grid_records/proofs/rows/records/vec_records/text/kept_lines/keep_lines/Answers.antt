use Rattle.std.proofs.Common.{◌≡◌, ◌∙◌, false, sym}
use Rattle.grid_records_measure.specs.StyledText.{has_escape}
use Rattle.grid_records.proofs.RowsLemmas.KeptLines.{only_plain, some_lines}
use Rattle.grid_records.proofs.rows.records.vec_records.text.kept_lines.keep_lines.Goals as goal

pub returns-then-count-eq1 : goal.returns-then-count-eq1
returns-then-count-eq1 c =
    let plain : has_escape c.args.text.now ≡ false = sym c.has_escape.ensures ∙ c.if-has_escape.false in
    only_plain c.args.text.now c.args.count plain c.requires c.if-count-eq1.true

pub overflow_sub-count : goal.overflow_sub-count
overflow_sub-count c =
    let plain : has_escape c.args.text.now ≡ false = sym c.has_escape.ensures ∙ c.if-has_escape.false in
    some_lines c.args.text.now c.args.count plain c.requires
