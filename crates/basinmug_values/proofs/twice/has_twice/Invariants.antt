use Rattle.std.proofs.Common.{◌≡◌, map, take}
use Rattle.std.specs.List.{list_any}
use Rattle.basinmug_values.specs.Lists.{Column, column_of_name, has_twice, is_same}
use Rattle.basinmug_values.specs.Met.{is_met}
use Rattle.basinmug_values.proofs.twice.has_twice.Given as goal

abbrev pub invariant-loop-item : goal.invariant-loop-item
invariant-loop-item g l =
    let taken = map (λ item. column_of_name item.0) (take l.item-index l.given) in
    record {
      twice : l.twice ≡ has_twice taken;
      met : (other : Column) → is_met l.columns other ≡ list_any (λ column. is_same column other) taken;
    }
