-- Comparisons, one after the other.
use Rattle.std.proofs.Common.{◌≡◌, Option, None, Some, refl}
use Rattle.std.specs.declared.cmp.Ordering.{Ordering}
use Rattle.std.specs.declared.cmp.Ordering.TheVariants.{Less, Equal, Greater}
use Rattle.std.specs.Ordering.{partial_ordering_then}

pub then-assoc : (p q r : Option Ordering) → partial_ordering_then (partial_ordering_then p q) r ≡ partial_ordering_then p (partial_ordering_then q r)
then-assoc None q r = refl
then-assoc (Some Less) q r = refl
then-assoc (Some Equal) q r = refl
then-assoc (Some Greater) q r = refl
