-- The lemma, for pieces that are those of the text.
use Rattle.ansi_scan.proofs.Reading.{map-piece_at}
use Rattle.ansi_scan.proofs.laws.read_at_places.Goals as goal

pub returns : goal.returns
returns c = λ text ps are. map-piece_at text ps are.joins
