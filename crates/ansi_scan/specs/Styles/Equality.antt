-- What `==` and `cmp` of styles return.
use Rattle.std.specs.Prelude.{Bool}
use Rattle.std.specs.declared.cmp.Ordering.{Ordering}
use Rattle.ansi_scan.specs.contracts.style.style.StylePartialEq.TheImpl.{ghosts as equality}
use Rattle.ansi_scan.specs.contracts.style.style.StyleOrd.TheImpl.{ghosts as order}
use Rattle.ansi_scan.specs.Styles.Attributes.{Attributes}

abbrev pub equal : Attributes → Attributes → Bool
equal a b = equality.eq a b

abbrev pub compared : Attributes → Attributes → Ordering
compared a b = order.cmp a b
