-- The lemmas of `Stripping` and `AllParts`.
use Rattle.ansi_str_search.proofs.TextLemmas.Stripping.{strip-without_escape}
use Rattle.ansi_str_search.proofs.AllParts.{styled_parts-without_escape}
use Rattle.ansi_str_search.proofs.laws.nothing_to_strip.Goals as goal

pub returns-clause-same : goal.returns-clause-same
returns-clause-same c = strip-without_escape

pub returns-clause-parts : goal.returns-clause-parts
returns-clause-parts c = styled_parts-without_escape
