use Rattle.std.proofs.Common.{List, ℕ, subst, sym}
use Rattle.grid_records_traits.proofs.TextAnswers.{IsLineAt-text_lines}
use Rattle.grid_records_traits.specs.Cells.{IsLineAt}
use Rattle.grid_records.proofs.rows.records.vec_records.text.TextCell.line.Goals as goal

pub returns-clause-line : goal.returns-clause-line
returns-clause-line c = subst (λ (bytes : List ℕ). IsLineAt c.args.self.now c.args.index bytes) (sym c.kept_line.ensures) (IsLineAt-text_lines c.args.self.now c.args.index)
