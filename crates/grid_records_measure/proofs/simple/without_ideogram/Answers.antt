use Rattle.std.proofs.Common.{◌≡◌, ◌-◌, length, take, arith}
use Rattle.std.proofs.lemmas.Bool.Decides.{nat_tests}
use Rattle.std.proofs.lemmas.Grind.{common_steps}
use Rattle.grid_records_measure.proofs.AddingColumns.{takes-ideogram}
use Rattle.grid_records_measure.proofs.simple.without_ideogram.Goals as goal

pub returns-in-228-to-233-clause-adds : goal.returns-in-228-to-233-clause-adds
returns-in-228-to-233-clause-adds c =
    let bytes = c.as_bytes.result.now in
    let front : c.range.result.now ≡ take (length bytes - 3) bytes = grind (arith, common_steps) in
    let takes = takes-ideogram bytes c.as_bytes.ensures.utf8 (rw (← front) c.range.utf8) (grind (arith, nat_tests)) (grind (arith, nat_tests)) (grind (arith, nat_tests)) (grind (arith, nat_tests)) in
    rw (front, ← c.as_bytes.ensures.value) takes
