use Rattle.std.proofs.Common.{◌≡◌, length, subst}
use Rattle.std.specs.Prelude.{IfOk, string_bytes}
use Rattle.tabled_expanded.specs.Expanded.{Expanded, expanded_text}
use Rattle.tabled_expanded.specs.Tables.{expanded}
use Rattle.examples.proofs.Heads.{days, headed-by}
use Rattle.examples.proofs.headed.headed.Goals as goal

pub returns : goal.returns
returns c =
    subst (λ (table : Expanded). IfOk c.to_string.result (λ text. string_bytes text ≡ expanded_text table (days (length table.records)))) c.template-days.ensures.texts
    (headed-by _ (expanded c.template-days.result) c.to_string.result c.to_string.ensures.text (λ i text given. given.1.1))
