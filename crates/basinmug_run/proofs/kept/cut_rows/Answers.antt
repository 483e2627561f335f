-- The rows that are kept.
use Rattle.std.proofs.Common.{◌∙◌, ◌≡◌, ◌≤◌, ap, sym, subst, ℕ, List, length}
use Rattle.basinmug_cells.specs.Held.{Held}
use Rattle.basinmug_input.specs.Kept.{kept_rows}
use Rattle.basinmug_input.specs.declared.kept.RowChoice.{RowChoice}
use Rattle.basinmug_run.proofs.OfKept.{kept-fewer}
use Rattle.basinmug_run.proofs.kept.cut_rows.Goals as goal

pub returns-in-Ends-clause-rows : goal.returns-in-Ends-clause-rows
returns-in-Ends-clause-rows c =
    ap (λ (held : Held). held.rows) c.keep_ends.ensures ∙ ap (λ (it : RowChoice). kept_rows it c.args.rows.rows) (sym c.in-Ends.is)

pub returns-in-Ends-clause-fewer : goal.returns-in-Ends-clause-fewer
returns-in-Ends-clause-fewer c =
    subst (λ (rows : List (List (List ℕ))). length rows ≤ length c.args.rows.rows) (sym (ap (λ (held : Held). held.rows) c.keep_ends.ensures)) (kept-fewer c.in-Ends.first c.in-Ends.last c.args.rows.rows)
