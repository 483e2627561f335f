use Rattle.std.proofs.Common.{sym, ◌∙◌}
use Rattle.columns_asked.proofs.Resizes.{wrapped-stays, cut-stays}
use Rattle.columns_asked.proofs.measured_cells.resized_line.Goals as goal
use Rattle.columns_asked.proofs.measured_cells.resized_line.Goals.{then-asked, else-asked}

pub returns-then-stays : goal.returns-then-stays
returns-then-stays c =
    let asked = c.args.asked.now in
    elim c.if-asked.branch [
      | then-asked w ↦ cut-stays asked.truncate asked.keep_words c.args.room c.args.line.now c.args.columns c.requires.columns c.if-columns-room.true w.if-asked.true
      | else-asked w ↦ wrapped-stays asked.truncate asked.keep_words c.args.room c.args.line.now (sym w.stays.ensures ∙ sym w.value-is ∙ c.if-stays.true) w.if-asked.false
    ]
