use Rattle.std.proofs.Common.{◌≡◌, ◌-◌, length, take, arith}
use Rattle.std.proofs.lemmas.Bool.Decides.{nat_tests}
use Rattle.std.proofs.lemmas.Grind.{common_steps}
use Rattle.grid_records_measure.proofs.AddingColumns.{last-continues, middle-continues, takes-three, takes-two}
use Rattle.grid_records_measure.proofs.simple.without_letter.Goals as goal

pub columns_of_three-requires-clause-middle : goal.columns_of_three-requires-clause-middle
columns_of_three-requires-clause-middle c = middle-continues c.as_bytes.result.now c.as_bytes.ensures.utf8 (grind (arith, nat_tests)) (grind (arith, nat_tests)) (grind (arith, nat_tests))

pub columns_of_three-requires-clause-last : goal.columns_of_three-requires-clause-last
columns_of_three-requires-clause-last c = last-continues c.as_bytes.result.now c.as_bytes.ensures.utf8 (grind (arith, nat_tests)) (grind (arith, nat_tests)) (grind (arith, nat_tests))

pub returns-in_ok-columns-in-224-to-239-clause-adds : goal.returns-in_ok-columns-in-224-to-239-clause-adds
returns-in_ok-columns-in-224-to-239-clause-adds c =
    let bytes = c.as_bytes.result.now in
    let front : c.range.result.now ≡ take (length bytes - 3) bytes = grind (arith, common_steps) in
    let found = c.in_ok-columns-in-224-to-239 in
    let takes = takes-three bytes found.columns c.as_bytes.ensures.utf8 (rw (← front) c.range.utf8) (grind (arith, nat_tests)) (grind (arith, nat_tests)) (grind (arith, nat_tests)) found.ensures.takes in
    rw (front, ← c.as_bytes.ensures.value) takes

pub returns-in_ok-columns-in-192-to-223-clause-adds : goal.returns-in_ok-columns-in-192-to-223-clause-adds
returns-in_ok-columns-in-192-to-223-clause-adds c =
    let bytes = c.as_bytes.result.now in
    let front : c.range-in-192-to-223.result.now ≡ take (length bytes - 2) bytes = grind (arith, common_steps) in
    let found = c.in_ok-columns-in-192-to-223 in
    let takes = takes-two bytes found.columns c.as_bytes.ensures.utf8 (rw (← front) c.range-in-192-to-223.utf8) (grind (arith, nat_tests)) (grind (arith, nat_tests)) (grind (arith, nat_tests)) found.ensures.takes in
    rw (front, ← c.as_bytes.ensures.value) takes
