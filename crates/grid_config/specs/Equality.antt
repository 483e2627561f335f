-- What `==` and `cmp` of the settings of compact tables return.
use Rattle.std.specs.Prelude.{Bool}
use Rattle.std.specs.declared.cmp.Ordering.{Ordering}
use Rattle.grid_config.specs.contracts.compact.CompactConfigPartialEq.TheImpl.{ghosts as equality}
use Rattle.grid_config.specs.contracts.compact.CompactConfigOrd.TheImpl.{ghosts as order}
use Rattle.grid_config.specs.declared.compact.CompactConfig.{CompactConfig}

abbrev pub equal : CompactConfig → CompactConfig → Bool
equal a b = equality.eq a b

abbrev pub compared : CompactConfig → CompactConfig → Ordering
compared a b = order.cmp a b
