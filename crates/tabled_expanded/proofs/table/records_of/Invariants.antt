-- A record for each value so far.
use Rattle.std.proofs.Common.{◌≡◌, map}
use Rattle.tabled_text.specs.Rows.{text_rows}
use Rattle.tabled_expanded.specs.Escapes.{escaped}
use Rattle.tabled_expanded.proofs.table.records_of.Given as goal

abbrev pub invariant-loop-item : goal.invariant-loop-item
invariant-loop-item g l = text_rows l.records.items ≡ map (map escaped) (map g.T.Tabled.texts l.yielded)
