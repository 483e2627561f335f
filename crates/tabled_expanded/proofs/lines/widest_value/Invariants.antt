-- The widest so far, and of those that are left.
use Rattle.std.proofs.Common.{◌≡◌, drop, max}
use Rattle.tabled_text.specs.Rows.{text_rows}
use Rattle.tabled_expanded.specs.Expanded.{widest_value}
use Rattle.tabled_expanded.proofs.lines.widest_value.Given as goal

abbrev pub invariant-loop-values : goal.invariant-loop-values
invariant-loop-values l = max (widest_value (text_rows (drop l.values-index l.records))) l.widest ≡ widest_value (text_rows l.records)
