use Rattle.std.proofs.Common.{◌≡◌, ◌++◌, length, map}
use Rattle.std.specs.List.{All}
use Rattle.tabled_text.specs.Rows.{text_rows}
use Rattle.tabled.proofs.makers.value_rows.Given as goal

abbrev pub invariant-loop-item : goal.invariant-loop-item
invariant-loop-item g l = record {
  rows : text_rows l.rows.items ≡ text_rows l.initial.rows.items ++ map g.T.Tabled.texts l.yielded;
  wide : All (λ row. length row ≡ length g.T.Tabled.names) (text_rows l.rows.items);
}
