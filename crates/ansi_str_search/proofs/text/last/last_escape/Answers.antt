-- The last ESC, as a search from the end finds it.
use Rattle.std.proofs.Common.{arith}
use Rattle.std.proofs.lemmas.Str.Pattern.{rfind_char}
use Rattle.ansi_scan.specs.Sequences.{escape}
use Rattle.ansi_str_search.proofs.TextLemmas.LastSequence.{IsLastEscape-found}
use Rattle.ansi_str_search.proofs.text.last.last_escape.Goals as goal

pub returns-clause-found : goal.returns-clause-found
returns-clause-found c =
    IsLastEscape-found c.args.text.now c.rfind.result (rfind_char escape c.args.text.now c.rfind.result c.rfind.ensures.cases (omega arith))
