use Rattle.std.specs.Fmt.{digits}
use Rattle.std.proofs.Common.{refl, arith, ◌<◌, ◌≤◌}
use Rattle.ansi_scan.specs.Attributes.{plain_attributes}
use Rattle.ansi_scan.specs.Rendition.{applied, after_parameters}
use Rattle.ansi_scan.specs.StartsAndEnds.{start_bytes, start_sequences, end_bytes, end_sequences}
use Rattle.ansi_str.proofs.laws.worked_cuts.Goals as goal

pub returns-clause-cut : goal.returns-clause-cut
unfolding applied after_parameters plain_attributes start_bytes start_sequences end_bytes end_sequences digits
returns-clause-cut c = refl

pub returns-clause-behind : goal.returns-clause-behind
unfolding applied after_parameters plain_attributes start_bytes start_sequences end_bytes end_sequences digits
returns-clause-behind c = refl

pub returns-clause-inside : goal.returns-clause-inside
unfolding applied after_parameters plain_attributes start_bytes start_sequences end_bytes end_sequences digits
returns-clause-inside c = refl

pub returns-clause-front : goal.returns-clause-front
unfolding applied after_parameters plain_attributes start_bytes start_sequences end_bytes end_sequences digits
returns-clause-front c = refl

pub returns-clause-whole : goal.returns-clause-whole
unfolding applied after_parameters plain_attributes start_bytes start_sequences end_bytes end_sequences digits
returns-clause-whole c = refl

pub returns-clause-good : goal.returns-clause-good
returns-clause-good c = record { ordered = omega arith; start_good = λ less. (omega arith, λ _ high. absurd (omega (arith, high))); end_good = λ less. (omega arith, λ _ high. absurd (omega (arith, high))) }

pub returns-clause-reversed : goal.returns-clause-reversed
returns-clause-reversed c = λ good. let order : 2 ≤ 1 = good.ordered in omega (arith, order)

pub returns-clause-divided : goal.returns-clause-divided
returns-clause-divided c = λ good.
    let inside : 1 < 2 = omega arith in
    let high : 128 ≤ 169 = omega arith in
    let begins : 192 ≤ 169 = (good.start_good inside).1 inside high in
    omega (arith, begins)
