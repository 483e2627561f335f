use Rattle.std.proofs.Common.{◌≡◌, ℕ, ◌+◌, ◌-◌, ◌<◌, ◌≤◌, List, true, false, drop, get_or, length, take, ap, subst, sym, ◌∙◌, arith, length-drop}
use Rattle.std.proofs.lemmas.List.{get_or-drop, take_all}
use Rattle.columns_run.specs.Ends.{is_cell_text}
use Rattle.columns_run.proofs.Passes.{not-sought, sought}
use Rattle.columns_run.proofs.rows_without_escape.text_end.Goals as goal

-- the bytes from the start on
abbrev rest : List ℕ → ℕ → List ℕ
rest bytes start = take (length bytes - start) (drop start bytes)

all : (bytes : List ℕ) (start : ℕ) → rest bytes start ≡ drop start bytes
all bytes start = let fits : length (drop start bytes) ≤ length bytes - start = omega (arith, length-drop start bytes) in take_all (length bytes - start) (drop start bytes) fits

behind : (bytes : List ℕ) (start k : ℕ) → start ≤ k → get_or (rest bytes start) (k - start) 0 ≡ get_or bytes k 0
behind bytes start k low =
    let place : start + (k - start) ≡ k = omega (arith, low) in
    ap (λ part. get_or part (k - start) 0) (all bytes start) ∙ get_or-drop start bytes (k - start) 0 ∙ ap (λ n. get_or bytes n 0) place

pub returns-in-Some-clause-text : goal.returns-in-Some-clause-text
returns-in-Some-clause-text c = λ k low high.
    let bytes = c.args.bytes.now in
    let start = c.args.start in
    subst (λ b. is_cell_text b ≡ true) (behind bytes start k low) (not-sought (get_or (rest bytes start) (k - start) 0) (c.in-Some.ensures.0.before (k - start) (omega arith) (omega (arith, low, high))))

pub returns-in-None-clause-text : goal.returns-in-None-clause-text
returns-in-None-clause-text c = λ k low high.
    let bytes = c.args.bytes.now in
    let start = c.args.start in
    let inside : k - start < length (rest bytes start) = omega (arith, low, high, ap (λ (part : List ℕ). length part) (all bytes start), length-drop start bytes) in
    subst (λ b. is_cell_text b ≡ true) (behind bytes start k low) (not-sought (get_or (rest bytes start) (k - start) 0) (c.in-None.ensures (k - start) (omega arith) inside))

pub returns-in-Some-clause-stop : goal.returns-in-Some-clause-stop
returns-in-Some-clause-stop c = λ inside.
    let bytes = c.args.bytes.now in
    let start = c.args.start in
    let size : start + c.in-Some.size - start ≡ c.in-Some.size = omega arith in
    let at : get_or (rest bytes start) c.in-Some.size 0 ≡ get_or bytes (start + c.in-Some.size) 0 =
    ap (λ n. get_or (rest bytes start) n 0) (sym size) ∙ behind bytes start (start + c.in-Some.size) (omega arith) in
    subst (λ b. is_cell_text b ≡ false) at (sought (get_or (rest bytes start) c.in-Some.size 0) c.in-Some.ensures.1)
