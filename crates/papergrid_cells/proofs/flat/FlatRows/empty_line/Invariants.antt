use Rattle.std.proofs.Common.{◌≡◌, ◌++◌, drop, length, string_bytes}
use Rattle.papergrid_cells.specs.Flat.{empty_from, joints_of}
use Rattle.papergrid_cells.proofs.flat.FlatRows.empty_line.Given as goal

abbrev pub invariant-loop-j : goal.invariant-loop-j
invariant-loop-j l = string_bytes l.line ++ empty_from (joints_of l.self) l.inks (length l.widths) l.j (drop l.j l.widths)
    ≡ string_bytes l.self.front ++ empty_from (joints_of l.self) l.inks (length l.widths) 0 l.widths
