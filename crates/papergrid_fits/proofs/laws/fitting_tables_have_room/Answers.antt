use Rattle.papergrid_fits.proofs.Rooms.{good-spans, has-room}
use Rattle.papergrid_fits.proofs.laws.fitting_tables_have_room.Goals as goal

pub returns : goal.returns
returns c = record { spans = good-spans; room = has-room }
