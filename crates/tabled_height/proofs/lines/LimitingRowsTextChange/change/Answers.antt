use Rattle.std.proofs.Common.{ℕ, subst}
use Rattle.std.specs.Prelude.{◌≡◌, IfOk}
use Rattle.grid_records_traits.specs.Rows.{text_at}
use Rattle.tabled_height.specs.Lines.{limited}
use Rattle.tabled_height.proofs.lines.LimitingRowsTextChange.change.Goals as goal

pub returns : goal.returns
returns g c =
    subst (λ (height : ℕ). IfOk c.limited_text.result (λ out. out ≡ limited height c.args.pos (text_at (g.R.RecordTexts.rows c.args.records.now) c.args.pos))) c.height_at.ensures (c.limited_text.ensures c.args.pos)
