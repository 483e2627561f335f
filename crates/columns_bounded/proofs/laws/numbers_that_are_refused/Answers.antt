use Rattle.std.proofs.Common.{◌≡◌, ◌≢◌, ◌<◌, ◌≤◌, ℕ, List, [], ◌∷◌, arith, refl}
use Rattle.columns_bounded.specs.Requests.{ReservesNothing}
use Rattle.columns_bounded.specs.Worked.{IsRefusedBy, greatest_32, greatest_64, numbers}
use Rattle.columns_bounded.specs.declared.request.RequestFault.TheVariants.{Version, Style, Priority, Truncate, KeepWords, Reserved}
use Rattle.columns_bounded.proofs.Refusals.{refused-told}
use Rattle.columns_bounded.proofs.laws.numbers_that_are_refused.Goals as goal

pub returns-clause-version : goal.returns-clause-version
returns-clause-version c = λ style priority truncate keep_words reserved words width max_size.
    let each : (version : ℕ) → version ≢ 1 → IsRefusedBy 33 (numbers version style priority truncate keep_words reserved words width max_size) =
    λ version other. refused-told (numbers version style priority truncate keep_words reserved words width max_size) Version other in
    (each 0 (λ is. omega (arith, is)), (each 2 (λ is. omega (arith, is)), (each greatest_32 (λ is. omega (arith, is)), tt)))

pub returns-clause-style : goal.returns-clause-style
returns-clause-style c = λ priority truncate keep_words reserved words width max_size.
    let each : (style : ℕ) → 4 ≤ style → IsRefusedBy 34 (numbers 1 style priority truncate keep_words reserved words width max_size) =
    λ style above. refused-told (numbers 1 style priority truncate keep_words reserved words width max_size) Style (refl, above) in
    (each 4 (omega arith), (each greatest_32 (omega arith), tt))

pub returns-clause-priority : goal.returns-clause-priority
returns-clause-priority c = λ truncate keep_words reserved words width max_size.
    let three : 3 < 4 = omega arith in
    let each : (priority : ℕ) → 5 ≤ priority → IsRefusedBy 35 (numbers 1 3 priority truncate keep_words reserved words width max_size) =
    λ priority above. refused-told (numbers 1 3 priority truncate keep_words reserved words width max_size) Priority (refl, three, above) in
    (each 5 (omega arith), (each greatest_32 (omega arith), tt))

pub returns-clause-truncate : goal.returns-clause-truncate
returns-clause-truncate c = λ keep_words reserved words width max_size.
    let three : 3 < 4 = omega arith in
    let four : 4 < 5 = omega arith in
    let each : (truncate : ℕ) → 1 < truncate → IsRefusedBy 36 (numbers 1 3 4 truncate keep_words reserved words width max_size) =
    λ truncate above. refused-told (numbers 1 3 4 truncate keep_words reserved words width max_size) Truncate (refl, three, four, above) in
    (each 2 (omega arith), (each greatest_32 (omega arith), tt))

pub returns-clause-keep_words : goal.returns-clause-keep_words
returns-clause-keep_words c = λ reserved words width max_size.
    let three : 3 < 4 = omega arith in
    let four : 4 < 5 = omega arith in
    let one : 1 ≤ 1 = omega arith in
    let each : (keep_words : ℕ) → 1 < keep_words → IsRefusedBy 37 (numbers 1 3 4 1 keep_words reserved words width max_size) =
    λ keep_words above. refused-told (numbers 1 3 4 1 keep_words reserved words width max_size) KeepWords (refl, three, four, one, above) in
    (each 2 (omega arith), (each greatest_32 (omega arith), tt))

-- numbers that are not all zeros
not-nothing : (reserved : ℕ) (words : List ℕ) (width max_size : ℕ) → ¬ (ReservesNothing (numbers 1 3 4 1 1 reserved words width max_size)) → IsRefusedBy 38 (numbers 1 3 4 1 1 reserved words width max_size)
not-nothing reserved words width max_size other =
    let three : 3 < 4 = omega arith in
    let four : 4 < 5 = omega arith in
    let one : 1 ≤ 1 = omega arith in
    refused-told (numbers 1 3 4 1 1 reserved words width max_size) Reserved (refl, three, four, one, one, other)

pub returns-clause-reserved : goal.returns-clause-reserved
returns-clause-reserved c = λ words width max_size. (
  not-nothing 1 words width max_size (λ zeros. let one : 1 ≡ 0 = zeros.0 in omega (arith, one)),
  (not-nothing greatest_32 words width max_size (λ zeros. let one : greatest_32 ≡ 0 = zeros.0 in omega (arith, one)), tt),
)

pub returns-clause-reserved_words : goal.returns-clause-reserved_words
returns-clause-reserved_words c = λ width max_size.
    let each : (words : List ℕ) → (words ≡ 0 ∷ 0 ∷ 0 ∷ [] → ⊥) → IsRefusedBy 38 (numbers 1 3 4 1 1 0 words width max_size) =
    λ words other. not-nothing 0 words width max_size (λ zeros. other zeros.1) in (
      each (1 ∷ 0 ∷ 0 ∷ []) (λ is. cc is),
      (each (0 ∷ 1 ∷ 0 ∷ []) (λ is. cc is), (each (0 ∷ 0 ∷ 1 ∷ []) (λ is. cc is), (each (0 ∷ 0 ∷ greatest_64 ∷ []) (λ is. cc is), tt))),
    )
