-- Those that are kept are left.
use Rattle.std.proofs.Common.{◌∙◌, ◌-◌, ap, refl}
use Rattle.basinmug_cells.specs.Held.{Held}
use Rattle.basinmug_input.proofs.KeptRows.{kept-all}
use Rattle.basinmug_input.proofs.kept.KeptRows.finish.Goals as goal

pub returns : goal.returns
returns c choice text rows has =
    let kept = c.args.self in
    kept-all choice text rows kept _ has (ap (λ (rows : Held). rows.rows) c.remove_all_others.ensures) c.rows_before.ensures
    (c.saturating_sub-left_out.ensures ∙ ap (λ n. kept.count - n) c.len.ensures) refl
