use Rattle.std.proofs.Common.{◌≡◌, true, false, drop, get_or, inl, arith, rules}
use Rattle.std.specs.Int.{is_in_range}
use Rattle.std.proofs.lemmas.Bool.Decides.{nat_tests}
use Rattle.std.proofs.lemmas.Grind.{common_steps}
use Rattle.grid_records_measure.specs.SimpleCharacters.{of_three, takes}
use Rattle.grid_records_fronts.specs.Fronts.{BeginsWithSimple}
use Rattle.grid_records_fronts.proofs.Beginnings.{parts-one, scalar-one}
use Rattle.grid_records_fronts.proofs.FirstBytes.{first-one, first-three}
use Rattle.grid_records_fronts.proofs.NoSimple.{none-of-emoji, none-of-letter, none-of-nothing}
use Rattle.grid_records_fronts.proofs.front.behind_addend.Goals as goal

pub range_from-requires : goal.range_from-requires
range_from-requires c =
    let bytes = c.as_bytes.result.now in
    let printable : is_in_range 0x20 0x7E (get_or bytes 0 0) ≡ true = search rules in
    let first = first-one bytes c.as_bytes.ensures.utf8 (grind (arith, nat_tests)) (grind (arith, nat_tests, printable)) in
    rw (← c.as_bytes.ensures.value) (λ _. first.boundary)

pub returns-then-is_printable-clause-found : goal.returns-then-is_printable-clause-found
returns-then-is_printable-clause-found c =
    let bytes = c.as_bytes.result.now in
    let printable : is_in_range 0x20 0x7E (get_or bytes 0 0) ≡ true = search rules in
    let first = first-one bytes c.as_bytes.ensures.utf8 (grind (arith, nat_tests)) (grind (arith, nat_tests, printable)) in
    let behind : c.range_from.result.now ≡ drop 1 bytes = grind (arith, common_steps) in
    let letter : takes (get_or bytes 0 0) 1 ≡ true = grind (arith, nat_tests, printable) in
    let begins : BeginsWithSimple bytes 1 (drop 1 bytes) = record { character = get_or bytes 0 0; begins = record { parts = parts-one _ _ _ first.parts; scalar = scalar-one (get_or bytes 0 0) 1 letter }; simple = letter } in
    inl (rw (behind, ← c.as_bytes.ensures.value) begins)

pub range_from-requires-then-begins_ideogram : goal.range_from-requires-then-begins_ideogram
range_from-requires-then-begins_ideogram c =
    let bytes = c.as_bytes.result.now in
    let lead = c.begins_ideogram.ensures c.if-begins_ideogram.true in
    let first = first-three bytes c.as_bytes.ensures.utf8 (grind (arith, nat_tests)) (grind (arith, nat_tests, lead)) (grind (arith, nat_tests, lead)) in
    rw (← c.as_bytes.ensures.value) (λ _. first.0.boundary)

pub returns-then-begins_ideogram-clause-found : goal.returns-then-begins_ideogram-clause-found
returns-then-begins_ideogram-clause-found c =
    let bytes = c.as_bytes.result.now in
    let lead = c.begins_ideogram.ensures c.if-begins_ideogram.true in
    let first = first-three bytes c.as_bytes.ensures.utf8 (grind (arith, nat_tests)) (grind (arith, nat_tests, lead)) (grind (arith, nat_tests, lead)) in
    let behind : c.range_from-then-begins_ideogram.result.now ≡ drop 3 bytes = grind (arith, common_steps) in
    let ideogram : takes (of_three (get_or bytes 0 0) (get_or bytes 1 0) (get_or bytes 2 0)) 2 ≡ true = grind (arith, nat_tests, lead, first.1, first.2) in
    let begins : BeginsWithSimple bytes 2 (drop 3 bytes) =
    record { character = of_three (get_or bytes 0 0) (get_or bytes 1 0) (get_or bytes 2 0); begins = record { parts = parts-one _ _ _ first.0.parts; scalar = scalar-one (of_three (get_or bytes 0 0) (get_or bytes 1 0) (get_or bytes 2 0)) 2 ideogram }; simple = ideogram } in
    inl (rw (behind, ← c.as_bytes.ensures.value) begins)

pub returns-in_default-clause-none : goal.returns-in_default-clause-none
returns-in_default-clause-none c = rw (← c.as_bytes.ensures.value) (none-of-nothing c.as_bytes.result.now c.in_default.len_below)

pub returns-in_err-behind_emoji-clause-none : goal.returns-in_err-behind_emoji-clause-none
returns-in_err-behind_emoji-clause-none c = rw (c.from_residual.ensures) (none-of-emoji c.args.text.now (c.may_be_emoji.ensures c.if-may_be_emoji.true))

pub returns-clause-none : goal.returns-clause-none
returns-clause-none c =
    let bytes = c.as_bytes.result.now in
    let other : is_in_range 0x20 0x7E (get_or c.args.text.now 0 0) ≡ false = search rules in
    none-of-letter c.args.text.now c.behind_letter.result other c.behind_letter.ensures.none
