use Rattle.std.proofs.Common.{◌≡◌}
use Rattle.tabled.specs.Making.{named_field_rows}
use Rattle.tabled_text.specs.Rows.{text_rows}
use Rattle.tabled.proofs.makers.named.rows_of.Given as goal

abbrev pub invariant-loop-item : goal.invariant-loop-item
invariant-loop-item g l = text_rows l.rows.items ≡ named_field_rows g.T.Tabled.names g.T.Tabled.texts l.yielded
