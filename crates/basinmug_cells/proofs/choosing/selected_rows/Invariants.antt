use Rattle.std.proofs.Common.{◌≡◌, ℕ, List, All, length, map, take}
use Rattle.basinmug_cells.specs.Ends.{Ascend, rows_by, start_at}
use Rattle.basinmug_cells.specs.Places.{IsPlace}
use Rattle.basinmug_cells.specs.Selecting.{selected_place}
use Rattle.basinmug_cells.proofs.choosing.selected_rows.Given as goal

-- the rows before this one are chosen
abbrev pub invariant-loop-end : goal.invariant-loop-end
invariant-loop-end l = record {
  begins : l.start ≡ start_at 0 l.ends l.end-index;
  rows : rows_by 0 l.chosen_ends.items l.chosen.items ≡ map (λ row. map (selected_place row l.mark l.empty) l.columns) (take l.end-index (rows_by 0 l.ends l.places));
  all : start_at 0 l.chosen_ends.items (length l.chosen_ends.items) ≡ length l.chosen.items;
  ascending : Ascend 0 l.chosen_ends.items (length l.chosen.items);
  are : (text : List ℕ) (own : List (List ℕ)) → All (IsPlace text own) l.places → IsPlace text own l.mark → IsPlace text own l.empty → All (IsPlace text own) l.chosen.items;
}
