-- The order of positions, by numbers.
use Rattle.std.proofs.Common.{◌≡◌, true, ◌||◌, ◌&&◌, ◌==◌, nat_lt, refl, arith}
use Rattle.std.proofs.lemmas.Bool.Decides.{nat_tests}
use Rattle.std.specs.Ordering.{is_eq, is_le, is_lt, nat_cmp, ordering_then}
use Rattle.std.specs.declared.cmp.Ordering.TheVariants.{Less}
use Rattle.grid_config_values.specs.declared.position.Position.{Position}
use Rattle.grid_config_values.specs.Order.{position_cmp, same_place}
use Rattle.grid_config_values.specs.Spans.Search.{begins_before}

cmp_parts : (a b : Position) → position_cmp a b ≡ ordering_then (nat_cmp a.row b.row) (nat_cmp a.col b.col)
cmp_parts a b = refl

pub is_eq_cmp : (a b : Position) → is_eq (position_cmp a b) ≡ same_place a b
is_eq_cmp a b = grind (arith, nat_tests)

pub is_le_cmp : (a b : Position) → is_le (position_cmp a b) ≡ (nat_lt a.row b.row || (a.row == b.row && (nat_lt a.col b.col || a.col == b.col)))
is_le_cmp a b = grind (arith, nat_tests)

pub same_position : (a b : Position) → same_place a b ≡ true → a ≡ b
same_position a b same =
    let rows : a.row ≡ b.row = grind (arith, nat_tests) in
    let cols : a.col ≡ b.col = grind (arith, nat_tests) in
    λ i. record { row = rows i; col = cols i }

pub same_itself : (a : Position) → same_place a a ≡ true
same_itself a = grind (arith, nat_tests)

pub is_lt_cmp : (a b : Position) → is_lt (position_cmp a b) ≡ begins_before a b
is_lt_cmp a b = grind (arith, nat_tests)

pub less_cmp : (a b : Position) → begins_before a b ≡ true → position_cmp a b ≡ Less
less_cmp a b before = grind (arith, nat_tests)
