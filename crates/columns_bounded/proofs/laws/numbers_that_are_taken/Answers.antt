use Rattle.std.proofs.Common.{◌<◌, ◌≤◌, ℕ, arith}
use Rattle.columns_bounded.specs.Worked.{IsTaken, asks}
use Rattle.columns_bounded.proofs.Refusals.{asks-taken, sizes-taken}
use Rattle.columns_bounded.proofs.laws.numbers_that_are_taken.Goals as goal

pub returns-clause-styles : goal.returns-clause-styles
returns-clause-styles c = λ width.
    let each : (style : ℕ) → style < 4 → IsTaken (asks style width 4 1 1) = λ style below. asks-taken style width 4 1 1 below (omega arith) (omega arith) (omega arith) in
    (each 0 (omega arith), (each 1 (omega arith), (each 2 (omega arith), (each 3 (omega arith), tt))))

pub returns-clause-priorities : goal.returns-clause-priorities
returns-clause-priorities c = λ width.
    let each : (priority : ℕ) → priority < 5 → IsTaken (asks 3 width priority 1 1) = λ priority below. asks-taken 3 width priority 1 1 (omega arith) below (omega arith) (omega arith) in
    (each 0 (omega arith), (each 1 (omega arith), (each 2 (omega arith), (each 3 (omega arith), (each 4 (omega arith), tt)))))

pub returns-clause-truncates : goal.returns-clause-truncates
returns-clause-truncates c = λ width.
    let each : (truncate : ℕ) → truncate ≤ 1 → IsTaken (asks 3 width 4 truncate 1) = λ truncate below. asks-taken 3 width 4 truncate 1 (omega arith) (omega arith) below (omega arith) in
    (each 0 (omega arith), (each 1 (omega arith), tt))

pub returns-clause-words : goal.returns-clause-words
returns-clause-words c = λ width.
    let each : (keep_words : ℕ) → keep_words ≤ 1 → IsTaken (asks 3 width 4 1 keep_words) = λ keep_words below. asks-taken 3 width 4 1 keep_words (omega arith) (omega arith) (omega arith) below in
    (each 0 (omega arith), (each 1 (omega arith), tt))

pub returns-clause-sizes : goal.returns-clause-sizes
returns-clause-sizes c = sizes-taken
