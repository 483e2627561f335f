use Rattle.std.proofs.Common.{◌≡◌, ◌++◌, drop, length}
use Rattle.papergrid_cells.specs.Flat.{empty_from, joints_of, slots_from}
use Rattle.papergrid_cells.proofs.flat.FlatRows.slots.Given as goal

abbrev pub invariant-loop-j : goal.invariant-loop-j
invariant-loop-j l = record {
  slots : l.slots.items ++ slots_from (joints_of l.self) l.inks (length l.widths) l.j (drop l.j l.widths) ≡ slots_from (joints_of l.self) l.inks (length l.widths) 0 l.widths;
  rest : l.rest ≡ length (empty_from (joints_of l.self) l.inks (length l.widths) l.j (drop l.j l.widths));
}
