use Rattle.std.proofs.Common.{take}
use Rattle.columns_table.specs.KeptColors.{KeepsColors}
use Rattle.columns_table.proofs.colors.ColumnColors.new.Given as goal

abbrev pub invariant-loop-one : goal.invariant-loop-one
invariant-loop-one l = KeepsColors (take l.one-index l.given) l.kept.items
