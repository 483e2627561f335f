use Rattle.std.proofs.Common.{List, ℕ, ap, ◌∙◌}
use Rattle.tabled.specs.Tables.{state_of}
use Rattle.tabled.proofs.table.copying.Table+Text.clone.Goals as goal

pub returns : goal.returns
returns c =
    let state = state_of (λ (text : List ℕ). text) c.args.self.now in
    c.in_ok-with_records.ensures ∙ ap (λ rows. record state { rows = rows }) (c.in_ok-records.ensures ∙ c.get_records.ensures)
