use Rattle.std.proofs.Common.{◌≡◌}
use Rattle.grid_config.specs.Looks.{look_of}
use Rattle.papergrid_picture.specs.Frame.{boundary_at, frame_of}
use Rattle.papergrid_print.proofs.lines.has_lines.Given as goal

abbrev pub invariant-loop-i : goal.invariant-loop-i
invariant-loop-i l = boundary_at (frame_of (look_of l.cfg) l.widths l.heights).rows l.i ≡ 0
