-- The order of sizes that a table keeps is total, and finds those equal for which `==` holds.
use Rattle.std.specs.Prelude.{◌≡◌, ℕ, List, Option, None, Some, nat_eq, refl}
use Rattle.std.specs.Cmp.{IsTotalOrder, both_tied, nat_cmp_total, on_total, then_total}
use Rattle.std.specs.Cmp.Lexicographic.{lists_total, options_total, pointwise, slice_cmp, texts_ties}
use Rattle.std.specs.Option.{option_cmp, option_eq}
use Rattle.std.specs.Ordering.{eq_by_cmp, nat_cmp}
use Rattle.tabled_size.specs.Dimension.Order.{stored_cmp, stored_eq}
use Rattle.tabled_size.specs.Dimension.Stored.{Stored}

list_ties : (a b : Option (List ℕ)) → option_eq (pointwise nat_eq) a b ≡ eq_by_cmp (option_cmp (slice_cmp nat_cmp)) a b
list_ties None None = refl
list_ties None (Some ys) = refl
list_ties (Some xs) None = refl
list_ties (Some xs) (Some ys) = texts_ties xs ys

pub stored_ties : (a b : Stored) → stored_eq a b ≡ eq_by_cmp stored_cmp a b
stored_ties a b = both_tied _ _ (option_cmp (slice_cmp nat_cmp) a.widths b.widths) (option_cmp (slice_cmp nat_cmp) a.heights b.heights) (list_ties a.widths b.widths) (list_ties a.heights b.heights)

pub stored_total : IsTotalOrder stored_cmp
stored_total =
    then_total (on_total (λ (stored : Stored). stored.widths) (options_total (lists_total nat_cmp_total)))
    (on_total (λ (stored : Stored). stored.heights) (options_total (lists_total nat_cmp_total)))
