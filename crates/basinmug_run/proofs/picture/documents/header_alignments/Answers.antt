-- One alignment more.
use Rattle.std.proofs.Common.{◌∙◌, ap, ℕ}
use Rattle.grid_config.specs.Looks.{Look}
use Rattle.grid_config.specs.Settings.{Settings}
use Rattle.grid_config_values.specs.Settings.{value_at}
use Rattle.grid_config_values.specs.declared.position.Position.{Position}
use Rattle.papergrid_picture.specs.Picture.{at}
use Rattle.basinmug_run.specs.Picture.TableRows.{state_of}
use Rattle.basinmug_run.proofs.PictureLemmas.Mapped.{next_mapped}
use Rattle.basinmug_run.proofs.picture.documents.header_alignments.Goals as goal

pub loop-column-preserved : goal.loop-column-preserved
loop-column-preserved c =
    let look : Look = (state_of c.args.table.now).look in
    next_mapped (λ (column : ℕ). look.alignment_horizontal (at 0 column)) c.loop-column.column c.loop-column.alignments.items _ _ c.loop-column.invariant c.in_ok-push.ensures.items
    (c.get_alignment_horizontal.ensures
    ∙ ap (λ (it : Settings). value_at it.alignment_horizontal c.new.result) c.spanned-config.ensures
    ∙ ap (λ (it : Look). it.alignment_horizontal c.new.result) c.get_config.ensures.look
    ∙ ap (λ (place : Position). look.alignment_horizontal place) c.new.ensures)
