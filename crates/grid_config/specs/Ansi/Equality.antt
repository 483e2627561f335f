-- What `==` and `cmp` of borrowed colours return.
use Rattle.std.specs.Prelude.{Bool}
use Rattle.std.specs.declared.cmp.Ordering.{Ordering}
use Rattle.grid_config.specs.contracts.colors.borrowed.ANSIStrPartialEq.TheImpl.{ghosts as equality}
use Rattle.grid_config.specs.contracts.colors.borrowed.ANSIStrOrd.TheImpl.{ghosts as order}
use Rattle.grid_config.specs.declared.colors.borrowed.ANSIStr.{ANSIStr}

abbrev pub equal : ANSIStr → ANSIStr → Bool
equal a b = equality.eq a b

abbrev pub compared : ANSIStr → ANSIStr → Ordering
compared a b = order.cmp a b
