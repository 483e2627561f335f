use Rattle.columns_run.proofs.Places.{AreMatches-places}
use Rattle.columns_run.proofs.laws.places_match.Goals as goal

pub returns : goal.returns
returns c = AreMatches-places
