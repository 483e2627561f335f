-- What std finds is the first match.
use Rattle.ansi_str_search.proofs.Finds.{first_match-found, match_ends}
use Rattle.ansi_str_search.proofs.matches.find_text.Goals as goal

pub returns-clause-found : goal.returns-clause-found
returns-clause-found c = first_match-found c.args.pattern.now c.args.text.now c.find.result c.find.ensures.cases

pub returns-clause-ends : goal.returns-clause-ends
returns-clause-ends c = match_ends c.args.pattern.now 0 c.args.text.now c.find.result c.utf8.pattern c.utf8.text (returns-clause-found c)
