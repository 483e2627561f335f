-- The row is ended, and some that are not kept may be gone.
use Rattle.std.proofs.Common.{◌∙◌, ap, max, refl, subst, sym}
use Rattle.basinmug_cells.specs.Held.{Held, row_ended}
use Rattle.basinmug_input.specs.Kept.{StandsFor}
use Rattle.basinmug_input.specs.declared.kept.RowChoice.{RowChoice}
use Rattle.basinmug_input.specs.declared.kept.RowChoice.TheVariants.{Ends}
use Rattle.basinmug_input.proofs.KeptRows.{kept-ended, stands-same}
use Rattle.basinmug_input.proofs.kept.KeptRows.end_row.Goals as goal

pub returns-in-Ends : goal.returns-in-Ends
returns-in-Ends c choice text rows begun has =
    let old = c.args.self.now in
    let new = c.remove_others.new.rows in
    let stands = subst (λ (choice : RowChoice). StandsFor choice (row_ended old.rows) new) (sym c.in-Ends.is)
    (subst (λ (ended : Held). StandsFor (Ends c.in-Ends.first c.in-Ends.last) ended new) c.in_ok-end_row.ensures.ended c.remove_others.ensures) in
    kept-ended choice text rows begun old _ has refl stands refl (c.max-self.ensures ∙ ap (max old.columns) c.begun_len.ensures)

pub returns-in_default : goal.returns-in_default
returns-in_default c choice text rows begun has =
    let old = c.args.self.now in
    let stands = subst (λ (ended : Held). StandsFor old.choice (row_ended old.rows) ended) (sym c.in_ok-end_row.ensures.ended) (stands-same old.choice (row_ended old.rows)) in
    kept-ended choice text rows begun old _ has refl stands refl (c.max-self.ensures ∙ ap (max old.columns) c.begun_len.ensures)
