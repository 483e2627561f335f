use Rattle.std.proofs.Common.{◌≡◌, ◌-◌, ◌<◌, ◌≤◌, false, chars, get_or, length}
use Rattle.std.specs.Prelude.{IfSome, slice_range}
use Rattle.grid_records_measure.specs.Measures.{measure}
use Rattle.columns_run.specs.Ends.{is_cell_text}
use Rattle.columns_run.specs.Passing.{Before, Clear}
use Rattle.columns_run.proofs.rows_without_escape.rows_of.Given as goal

abbrev pub invariant-loop-end : goal.invariant-loop-end
invariant-loop-end l = record {
  within : l.end ≤ length l.text;
  before : Before l.text l.end l.start l.printable l.rows;
  clear : Clear l.text l.end;
  known : l.printable ≡ false → IfSome l.columns (λ columns. measure (chars (slice_range l.text l.start l.end)) ≡ columns) × (l.end < length l.text → is_cell_text (get_or l.text l.end 0) ≡ false);
}

abbrev pub decreases-loop-end : goal.decreases-loop-end
decreases-loop-end l = length l.text - l.end
