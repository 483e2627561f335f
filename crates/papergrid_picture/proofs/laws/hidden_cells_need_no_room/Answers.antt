use Rattle.std.proofs.Common.{◌≤◌, arith, refl}
use Rattle.papergrid_picture.proofs.laws.hidden_cells_need_no_room.Goals as goal

pub returns : goal.returns
returns c = record { no_lines = refl; no_room = λ has. let fits : 1 ≤ 0 = has.room 0 0 (omega arith) (omega arith) in omega (arith, fits) }
