-- How sizes that a table keeps compare.
use Rattle.std.specs.Prelude.{Bool, nat_eq}
use Rattle.std.specs.Cmp.Lexicographic.{pointwise, slice_cmp}
use Rattle.std.specs.Option.{option_cmp, option_eq}
use Rattle.std.specs.declared.cmp.Ordering.{Ordering}
use Rattle.std.specs.Ordering.{eq_of_both, nat_cmp, on, then_cmp}
use Rattle.tabled_size.specs.Dimension.Stored.{Stored}

-- by their widths and then by their heights: none comes before a list, and lists are compared number by number
abbrev pub stored_cmp : Stored → Stored → Ordering
stored_cmp =
    then_cmp (on (λ (stored : Stored). stored.widths) (option_cmp (slice_cmp nat_cmp))) (on (λ (stored : Stored). stored.heights) (option_cmp (slice_cmp nat_cmp)))

-- both are the same
abbrev pub stored_eq : Stored → Stored → Bool
stored_eq =
    eq_of_both (on (λ (stored : Stored). stored.widths) (option_eq (pointwise nat_eq))) (on (λ (stored : Stored). stored.heights) (option_eq (pointwise nat_eq)))
