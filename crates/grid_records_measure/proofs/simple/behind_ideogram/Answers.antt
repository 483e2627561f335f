use Rattle.std.proofs.Common.{◌≡◌, drop, arith}
use Rattle.std.proofs.lemmas.Bool.Decides.{nat_tests}
use Rattle.std.proofs.lemmas.Grind.{common_steps}
use Rattle.grid_records_measure.proofs.ClosedFront.{closed-first}
use Rattle.grid_records_measure.proofs.FirstCharacter.{first-three}
use Rattle.grid_records_measure.proofs.simple.behind_ideogram.Goals as goal

pub range_from-requires : goal.range_from-requires
range_from-requires c =
    let bytes = c.as_bytes.result.now in
    let first = first-three bytes c.as_bytes.ensures.utf8 (grind (arith, nat_tests)) (grind (arith, nat_tests)) (grind (arith, nat_tests)) in
    rw (← c.as_bytes.ensures.value) (λ _. first.boundary)

pub returns-in-228-to-233-clause-adds : goal.returns-in-228-to-233-clause-adds
returns-in-228-to-233-clause-adds c =
    let bytes = c.as_bytes.result.now in
    let behind : c.range_from.result.now ≡ drop 3 bytes = grind (arith, common_steps) in
    let adds = closed-first bytes c.as_bytes.ensures.utf8 (grind (arith, nat_tests)) (grind (arith, nat_tests)) (grind (arith, nat_tests)) (grind (arith, nat_tests)) in
    rw (behind, ← c.as_bytes.ensures.value) adds
