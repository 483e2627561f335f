use Rattle.papergrid_picture.proofs.Stripped.{table-stripped, table-whole}
use Rattle.papergrid_picture.proofs.laws.stripped_reading.Goals as goal

pub returns : goal.returns
returns c = record { text = table-stripped; whole = table-whole }
