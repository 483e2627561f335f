-- The lemmas of `Stripping`.
use Rattle.ansi_str_search.proofs.TextLemmas.Stripping.{has_escape-strip, strip-strip}
use Rattle.ansi_str_search.proofs.laws.stripped_once.Goals as goal

pub returns-clause-no_escape : goal.returns-clause-no_escape
returns-clause-no_escape c = has_escape-strip

pub returns-clause-same : goal.returns-clause-same
returns-clause-same c = strip-strip
