use Rattle.std.proofs.Common.{◌≡◌, true, take}
use Rattle.std.specs.List.{list_all, list_any}
use Rattle.std.specs.Prelude.{not}
use Rattle.basinmug_columns.specs.Numbers.Columns.{is_a_number, is_text, kind_of_cell}
use Rattle.basinmug_columns.proofs.numbers.columns.is_numeric.Given as goal

abbrev pub invariant-loop-place : goal.invariant-loop-place
invariant-loop-place g l = record {
  no_texts : list_all (λ row. not (is_text (kind_of_cell l.column row))) (take l.place (g.R.CellRows.rows l.records)) ≡ true;
  numbers : l.found ≡ list_any (λ row. is_a_number (kind_of_cell l.column row)) (take l.place (g.R.CellRows.rows l.records));
}
