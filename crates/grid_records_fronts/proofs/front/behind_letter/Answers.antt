use Rattle.std.proofs.Common.{◌≡◌, drop, get_or, arith}
use Rattle.std.proofs.lemmas.Bool.Decides.{nat_tests}
use Rattle.std.proofs.lemmas.Grind.{common_steps}
use Rattle.grid_records_measure.specs.SimpleCharacters.{of_three, of_two}
use Rattle.grid_records_fronts.specs.Fronts.{BeginsWithSimple}
use Rattle.grid_records_fronts.proofs.Beginnings.{parts-one, scalar-one}
use Rattle.grid_records_fronts.proofs.FirstBytes.{first-three, first-two}
use Rattle.grid_records_fronts.proofs.NoSimple.{none-else, none-of-three, none-of-two}
use Rattle.grid_records_fronts.proofs.front.behind_letter.Goals as goal

pub columns_of_three-requires-clause-middle : goal.columns_of_three-requires-clause-middle
columns_of_three-requires-clause-middle c =
    let bytes = c.as_bytes.result.now in
    (first-three bytes c.as_bytes.ensures.utf8 (grind (arith, nat_tests)) (grind (arith, nat_tests)) (grind (arith, nat_tests))).1

pub columns_of_three-requires-clause-last : goal.columns_of_three-requires-clause-last
columns_of_three-requires-clause-last c =
    let bytes = c.as_bytes.result.now in
    (first-three bytes c.as_bytes.ensures.utf8 (grind (arith, nat_tests)) (grind (arith, nat_tests)) (grind (arith, nat_tests))).2

pub range_from-requires : goal.range_from-requires
range_from-requires c =
    let bytes = c.as_bytes.result.now in
    let first = first-three bytes c.as_bytes.ensures.utf8 (grind (arith, nat_tests)) (grind (arith, nat_tests)) (grind (arith, nat_tests)) in
    rw (← c.as_bytes.ensures.value) (λ _. first.0.boundary)

pub range_from-requires-in-192-to-223 : goal.range_from-requires-in-192-to-223
range_from-requires-in-192-to-223 c =
    let bytes = c.as_bytes.result.now in
    let first = first-two bytes c.as_bytes.ensures.utf8 (grind (arith, nat_tests)) (grind (arith, nat_tests)) (grind (arith, nat_tests)) in
    rw (← c.as_bytes.ensures.value) (λ _. first.0.boundary)

pub returns-in_ok-columns-in-224-to-239-clause-found : goal.returns-in_ok-columns-in-224-to-239-clause-found
returns-in_ok-columns-in-224-to-239-clause-found c =
    let bytes = c.as_bytes.result.now in
    let first = first-three bytes c.as_bytes.ensures.utf8 (grind (arith, nat_tests)) (grind (arith, nat_tests)) (grind (arith, nat_tests)) in
    let behind : c.range_from.result.now ≡ drop 3 bytes = grind (arith, common_steps) in
    let begins : BeginsWithSimple bytes c.in_ok-columns-in-224-to-239.columns (drop 3 bytes) = record { character = _; begins = record { parts = parts-one _ _ _ first.0.parts; scalar = scalar-one (of_three (get_or bytes 0 0) (get_or bytes 1 0) (get_or bytes 2 0)) c.in_ok-columns-in-224-to-239.columns c.in_ok-columns-in-224-to-239.ensures.takes }; simple = c.in_ok-columns-in-224-to-239.ensures.takes } in
    rw (behind, ← c.as_bytes.ensures.value) begins

pub returns-in_ok-columns-in-192-to-223-clause-found : goal.returns-in_ok-columns-in-192-to-223-clause-found
returns-in_ok-columns-in-192-to-223-clause-found c =
    let bytes = c.as_bytes.result.now in
    let first = first-two bytes c.as_bytes.ensures.utf8 (grind (arith, nat_tests)) (grind (arith, nat_tests)) (grind (arith, nat_tests)) in
    let behind : c.range_from-in-192-to-223.result.now ≡ drop 2 bytes = grind (arith, common_steps) in
    let begins : BeginsWithSimple bytes c.in_ok-columns-in-192-to-223.columns (drop 2 bytes) = record { character = _; begins = record { parts = parts-one _ _ _ first.0.parts; scalar = scalar-one (of_two (get_or bytes 0 0) (get_or bytes 1 0)) c.in_ok-columns-in-192-to-223.columns c.in_ok-columns-in-192-to-223.ensures.takes }; simple = c.in_ok-columns-in-192-to-223.ensures.takes } in
    rw (behind, ← c.as_bytes.ensures.value) begins

pub returns-in_err-columns-in-224-to-239-clause-none : goal.returns-in_err-columns-in-224-to-239-clause-none
returns-in_err-columns-in-224-to-239-clause-none c =
    let bytes = c.as_bytes.result.now in
    let none = none-of-three bytes (grind (arith, nat_tests)) (grind (arith, nat_tests)) c.in_err-columns-in-224-to-239.ensures.others in
    rw (c.from_residual.ensures, ← c.as_bytes.ensures.value) none

pub returns-in_err-columns-in-192-to-223-clause-none : goal.returns-in_err-columns-in-192-to-223-clause-none
returns-in_err-columns-in-192-to-223-clause-none c =
    let bytes = c.as_bytes.result.now in
    let none = none-of-two bytes (grind (arith, nat_tests)) (grind (arith, nat_tests)) c.in_err-columns-in-192-to-223.ensures.others in
    rw (c.from_residual-in_err-columns-in-192-to-223.ensures, ← c.as_bytes.ensures.value) none

pub returns-in_default-clause-none : goal.returns-in_default-clause-none
returns-in_default-clause-none c =
    let bytes = c.as_bytes.result.now in
    rw (← c.as_bytes.ensures.value) (none-else bytes (λ low high size. grind (arith, nat_tests, low, high, size)) (λ low high size. grind (arith, nat_tests, low, high, size)))
