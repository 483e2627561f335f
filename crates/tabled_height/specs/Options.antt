-- What the options of heights are made of.
use Rattle.tabled_height.specs.declared.increase.CellHeightIncrease.{CellHeightIncrease}
use Rattle.tabled_height.specs.declared.increase.TableHeightIncrease.{TableHeightIncrease}
use Rattle.tabled_height.specs.declared.limit.CellHeightLimit.{CellHeightLimit}
use Rattle.tabled_height.specs.declared.limit.TableHeightLimit.{TableHeightLimit}

-- the height of an option of cells
abbrev pub increase_height : {W : Type 0} → CellHeightIncrease W → W
increase_height option = option.height

abbrev pub limit_height : {W : Type 0} → CellHeightLimit W → W
limit_height option = option.height

-- the height and the priority of an option of a table
abbrev pub table_increase : {W P : Type 0} → TableHeightIncrease W P → W × P
table_increase option = (option.height, option.priority)

abbrev pub table_limit : {W P : Type 0} → TableHeightLimit W P → W × P
table_limit option = (option.height, option.priority)
