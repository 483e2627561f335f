-- The shown columns are known, and the last of them is at place 2.
use Rattle.std.proofs.Common.{◌∙◌, ◌∷◌, [], List, ap}
use Rattle.basinmug_columns.specs.Names.{column_number}
use Rattle.basinmug_columns.specs.declared.shown.ShownColumn.{ShownColumn}
use Rattle.basinmug_columns.specs.declared.shown.ShownColumn.TheVariants.{LeftOut, Number as Shown}
use Rattle.grid_config_values.specs.declared.alignment.AlignmentHorizontal.{AlignmentHorizontal}
use Rattle.program_options.specs.declared.basinmug.ColumnName.{ColumnName}
use Rattle.basinmug_run.specs.Columns.{given_for, last_for, placed}
use Rattle.basinmug_laws.proofs.WorkedLemmas.{fit-wanted, two-fit}
use Rattle.basinmug_laws.proofs.worked.alignments_by_hand.Goals as goal

pub returns : goal.returns
returns c = λ options own none aligned is.
    is.alignments
    ∙ ap (λ (columns : List ShownColumn). placed columns (last_for (given_for (column_number []) options.alignments.items))) (fit-wanted 16 options.columns.items _ _ none two-fit)
    ∙ ap (λ (pairs : List (ColumnName × AlignmentHorizontal)). placed (Shown 0 ∷ LeftOut ∷ Shown 3 ∷ []) (last_for (given_for (column_number []) pairs))) aligned
