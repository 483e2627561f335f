use Rattle.papergrid_picture.proofs.Shown.{table-shows}
use Rattle.papergrid_picture.proofs.laws.styled_reading.Goals as goal

pub returns : goal.returns
returns c = table-shows
