use Rattle.std.proofs.Common.{ℕ, subst, sym}
use Rattle.grid_records_traits.proofs.TextAnswers.{HasLineCount-text_lines}
use Rattle.grid_records_traits.specs.Cells.{HasLineCount}
use Rattle.grid_records.proofs.rows.records.vec_records.text.TextCell.dimension.Goals as goal

pub returns-clause-lines : goal.returns-clause-lines
returns-clause-lines c = subst (λ (count : ℕ). HasLineCount c.args.self.now count) (sym c.kept_count.ensures) (HasLineCount-text_lines c.args.self.now)
