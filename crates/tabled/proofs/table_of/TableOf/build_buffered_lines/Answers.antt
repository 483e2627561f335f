use Rattle.std.proofs.Common.{◌≡◌, ◌⊎◌, [], Ok, subst}
use Rattle.std.specs.Prelude.{OnErr}
use Rattle.grid_config.specs.Settings.{Settings}
use Rattle.tabled_output.specs.Pieces.{Passes}
use Rattle.tabled.specs.Printing.{FitsOrFails, IsFitsAnswer}
use Rattle.tabled.specs.Tables.{state_under, table_state}
use Rattle.tabled.specs.Writing.{chosen_lines}
use Rattle.tabled.proofs.Written.{built, nothing-built, table-built}
use Rattle.tabled.proofs.table_of.TableOf.build_buffered_lines.Goals as goal

pub returns-clause-built : goal.returns-clause-built
returns-clause-built g c =
    built g.W.Write.contents (table_state g.R.RecordTexts.rows c.args.self.now) (chosen_lines (g.K.LineChoice.chooses c.args.choice.now) (table_state g.R.RecordTexts.rows c.args.self.now)) c.args.writer.now c.write_chosen_lines.new.writer c.write_chosen_lines.result c.answer.result c.answer.ensures
    (subst (λ (settings : Settings). Passes g.W.Write.contents (chosen_lines (g.K.LineChoice.chooses c.args.choice.now) (state_under g.R.RecordTexts.rows c.args.self.now settings)) c.write_chosen_lines.result [] c.args.writer.now c.write_chosen_lines.new.writer) c.spanned.ensures c.write_chosen_lines.ensures.text)
    (subst (λ (settings : Settings). FitsOrFails (state_under g.R.RecordTexts.rows c.args.self.now settings) c.write_chosen_lines.result) c.spanned.ensures c.write_chosen_lines.ensures.table)
    (subst (λ (settings : Settings). OnErr c.write_chosen_lines.result ((c.write_chosen_lines.new.writer ≡ c.args.writer.now) ⊎ IsFitsAnswer (state_under g.R.RecordTexts.rows c.args.self.now settings) (Ok tt))) c.spanned.ensures c.write_chosen_lines.ensures.untouched)

pub returns-clause-nothing : goal.returns-clause-nothing
returns-clause-nothing g c =
    nothing-built g.W.Write.contents (table_state g.R.RecordTexts.rows c.args.self.now) (chosen_lines (g.K.LineChoice.chooses c.args.choice.now) (table_state g.R.RecordTexts.rows c.args.self.now)) c.args.writer.now c.write_chosen_lines.new.writer c.write_chosen_lines.result
    (subst (λ (settings : Settings). Passes g.W.Write.contents (chosen_lines (g.K.LineChoice.chooses c.args.choice.now) (state_under g.R.RecordTexts.rows c.args.self.now settings)) c.write_chosen_lines.result [] c.args.writer.now c.write_chosen_lines.new.writer) c.spanned.ensures c.write_chosen_lines.ensures.text)

pub returns-clause-table : goal.returns-clause-table
returns-clause-table g c =
    table-built (table_state g.R.RecordTexts.rows c.args.self.now) c.write_chosen_lines.result c.answer.result c.answer.ensures
    (subst (λ (settings : Settings). FitsOrFails (state_under g.R.RecordTexts.rows c.args.self.now settings) c.write_chosen_lines.result) c.spanned.ensures c.write_chosen_lines.ensures.table)
