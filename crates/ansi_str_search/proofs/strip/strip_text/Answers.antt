use Rattle.std.proofs.Common.{◌∙◌, sym}
use Rattle.ansi_str_search.proofs.TextLemmas.Stripping.{strip-without_escape}
use Rattle.ansi_str_search.proofs.strip.strip_text.Goals as goal

pub returns-then-not-has_escape-clause-strips : goal.returns-then-not-has_escape-clause-strips
returns-then-not-has_escape-clause-strips c = λ pieces of_text. sym (strip-without_escape c.args.text.now pieces of_text (sym c.has_escape.ensures ∙ c.if-not-has_escape.true))
