-- Some rows that are not kept are gone.
use Rattle.std.proofs.Common.{subst, sym}
use Rattle.basinmug_cells.specs.Held.{Held}
use Rattle.basinmug_input.specs.Kept.{StandsFor}
use Rattle.basinmug_input.specs.declared.kept.RowChoice.TheVariants.{Ends}
use Rattle.basinmug_input.proofs.KeptRows.{stands-without}
use Rattle.basinmug_input.proofs.kept.remove_others.Goals as goal

pub returns-then-len-saturating_add : goal.returns-then-len-saturating_add
returns-then-len-saturating_add c =
    let old = c.args.rows.now in
    subst (λ (rows : Held). StandsFor (Ends c.args.first c.args.last) old rows) (sym c.keep_ends.ensures) (stands-without c.args.first c.args.last old)
