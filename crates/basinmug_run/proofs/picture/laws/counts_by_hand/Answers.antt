use Rattle.std.proofs.Common.{◌++◌, ap, ap₂, arith, ℕ, List}
use Rattle.std.specs.Prelude.{codes}
use Rattle.std.proofs.lemmas.Fmt.{decimal_digit}
use Rattle.basinmug_run.proofs.picture.laws.counts_by_hand.Goals as goal

abbrev line : List ℕ → List ℕ → List ℕ
line digits said = codes "(" ++ (digits ++ (codes " " ++ said))

pub returns-clause-one_row : goal.returns-clause-one_row
returns-clause-one_row c = ap (λ (digits : List ℕ). line digits (codes "more row)\n")) (decimal_digit 1 (omega arith))

pub returns-clause-three_rows : goal.returns-clause-three_rows
returns-clause-three_rows c = ap (λ (digits : List ℕ). line digits (codes "more rows)\n")) (decimal_digit 3 (omega arith))

pub returns-clause-earlier : goal.returns-clause-earlier
returns-clause-earlier c = ap (λ (digits : List ℕ). line digits (codes "earlier rows)\n")) (decimal_digit 3 (omega arith))

pub returns-clause-between : goal.returns-clause-between
returns-clause-between c = ap (λ (digits : List ℕ). line digits (codes "rows left out)\n")) (decimal_digit 3 (omega arith))

pub returns-clause-of_document : goal.returns-clause-of_document
returns-clause-of_document c = ap (λ (digits : List ℕ). codes "\n" ++ line digits (codes "row left out)\n")) (decimal_digit 1 (omega arith))

pub returns-clause-columns : goal.returns-clause-columns
returns-clause-columns c =
    ap₂ (λ (both : List ℕ × List ℕ) (digits : List ℕ). (codes "(" ++ (both.0 ++ (codes " of " ++ (both.1 ++ codes " columns)\n")))) ++ line digits (codes "more row)\n"))
    (ap₂ (λ (shown all : List ℕ). (shown, all)) (decimal_digit 2 (omega arith)) (decimal_digit 4 (omega arith))) (decimal_digit 1 (omega arith))
