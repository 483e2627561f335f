use Rattle.papergrid_picture.proofs.Items.{read-picture}
use Rattle.papergrid_picture.proofs.laws.readings.Goals as goal

pub returns : goal.returns
returns g c = λ f first second grid read. read-picture f first second read grid
