use Rattle.std.proofs.Common.{length}
use Rattle.grid_config_values.specs.Entities.{covered_positions}
use Rattle.tabled_steps.proofs.ChangedTexts.{row-count, text-at, text-count}
use Rattle.tabled_steps.proofs.laws.texts_change_where_the_entity_covers.Goals as goal

pub returns-clause-texts : goal.returns-clause-texts
returns-clause-texts c = λ change at rows p inside column. text-at change rows p inside at column

pub returns-clause-rows : goal.returns-clause-rows
returns-clause-rows c = λ change at columns rows. row-count change rows (covered_positions at (length rows) columns)

pub returns-clause-row : goal.returns-clause-row
returns-clause-row c = λ change at columns rows i there. text-count change rows i there (covered_positions at (length rows) columns)
