use Rattle.columns_asked.proofs.Shrunk.{shrunk_list-meets, shrunk_list-one}
use Rattle.columns_asked.proofs.laws.the_shrunk_list.Goals as goal

pub returns-clause-meets : goal.returns-clause-meets
returns-clause-meets c = shrunk_list-meets

pub returns-clause-one : goal.returns-clause-one
returns-clause-one c = shrunk_list-one
