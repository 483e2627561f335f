use Rattle.tabled_list.proofs.StrippingLemmas.StrippedRuns.{refused-stripped, runs-stripped}
use Rattle.tabled_list.proofs.stripping.settings_change_stripped_tables_alike.Goals as goal

pub returns-clause-run : goal.returns-clause-run
returns-clause-run c = λ settings s last no_escape whole is. (runs-stripped settings s last no_escape whole is).0

pub returns-clause-whole : goal.returns-clause-whole
returns-clause-whole c = λ settings s last no_escape whole is. (runs-stripped settings s last no_escape whole is).1

pub returns-clause-refused : goal.returns-clause-refused
returns-clause-refused c = refused-stripped
