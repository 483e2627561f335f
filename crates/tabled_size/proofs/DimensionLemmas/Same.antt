-- Sizes that a table keeps and that compare as equal are the same.
use Rattle.std.proofs.Common.{◌≡◌, ℕ, true, List, nat_eq, ap, ◌∙◌, sym}
use Rattle.std.proofs.lemmas.Bool.{and_parts}
use Rattle.std.specs.Cmp.{tied_itself, unsigned_Decides}
use Rattle.std.specs.Cmp.Lexicographic.{pointwise, pointwise_decides}
use Rattle.std.specs.declared.cmp.Ordering.TheVariants.{Equal}
use Rattle.std.specs.Option.{option_eq}
use Rattle.std.specs.Ordering.{is_eq}
use Rattle.grid_config_values.proofs.Equality.{same_option}
use Rattle.tabled_size.specs.Dimension.Order.{stored_cmp, stored_eq}
use Rattle.tabled_size.specs.Dimension.Stored.{Stored}
use Rattle.tabled_size.specs.Dimension.Ties.{stored_ties, stored_total}

list_same : (xs ys : List ℕ) → pointwise nat_eq xs ys ≡ true → xs ≡ ys
list_same xs ys e = (pointwise_decides unsigned_Decides xs ys).0 e

pub stored_same : (a b : Stored) → stored_eq a b ≡ true → a ≡ b
stored_same a b e =
    let parts = and_parts (option_eq (pointwise nat_eq) a.widths b.widths) (option_eq (pointwise nat_eq) a.heights b.heights) e in
    λ i. record { widths = same_option (pointwise nat_eq) list_same a.widths b.widths parts.0 i; heights = same_option (pointwise nat_eq) list_same a.heights b.heights parts.1 i }

pub compared_same : (a b : Stored) → stored_cmp a b ≡ Equal → a ≡ b
compared_same a b e = stored_same a b (stored_ties a b ∙ ap is_eq e)

pub same_compared : (a b : Stored) → a ≡ b → stored_cmp a b ≡ Equal
same_compared a b e = ap (stored_cmp a) (sym e) ∙ tied_itself stored_total a
