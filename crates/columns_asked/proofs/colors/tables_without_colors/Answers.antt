use Rattle.std.proofs.Common.{refl}
use Rattle.columns_asked.proofs.ColorsLemmas.Tables.{items-uncolored, text-uncolored}
use Rattle.columns_asked.proofs.colors.tables_without_colors.Goals as goal

pub returns : goal.returns
returns c = record { text = text-uncolored; picture = items-uncolored; none_given = λ cell. refl }
