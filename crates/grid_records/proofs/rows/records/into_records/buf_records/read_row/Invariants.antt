-- Each answer was a cell, and is kept; the texts of those that were read, and those that are left, are the row's.
use Rattle.std.proofs.Common.{◌≡◌, ◌++◌, ℕ, Bool, List, drop, length, map}
use Rattle.std.specs.Prelude.{Ok}
use Rattle.grid_records_traits.specs.Giving.{GivesTexts}
use Rattle.grid_records_traits.proofs.Loops.{AreCells}
use Rattle.grid_records.proofs.rows.records.into_records.buf_records.read_row.Given as goal

abbrev pub invariant-loop-cell : goal.invariant-loop-cell
invariant-loop-cell g l =
    record {
      are : AreCells l.yielded;
      kept : l.yielded ≡ map (λ cell. Ok cell) l.row.items;
      left : (texts : List (List ℕ)) (can_fail : Bool) →
          GivesTexts g.I.Iterator.can_next g.I.Iterator.remaining g.I.Iterator.next_gives g.C.Cell.text can_fail l.fn.cells texts →
          map g.C.Cell.text l.row.items ++ drop (length l.yielded) texts ≡ texts;
    }
