-- A step that is accepted leaves the sizes that it says.
use Rattle.std.proofs.Common.{◌≡◌, ◌-◌, ◌∙◌, ℕ, Bool, List, Option, None, Some, Result, Ok, Err, ap, false, is_some, length, refl, subst, sym, true, if◌then◌else◌}
use Rattle.std.specs.Prelude.{nat_le, nat_lt}
use Rattle.grid_config_values.specs.declared.fault.Fault.{Fault}
use Rattle.tabled_height.specs.Steps.{keeping_heights}
use Rattle.tabled_steps.specs.States.{Outcome, State, column_count, settled}
use Rattle.tabled_width.specs.Steps.{Then}
use Rattle.tabled_size_priority.specs.Choices.{IsGrownByChoice}
use Rattle.tabled_width.specs.Rooms.{column_widths}
use Rattle.tabled_width.specs.Tables.{Grown, TableSizes, Where, Widens, keeping, table_sizes}
use Rattle.tabled_list.specs.Priorities.{grows_so}
use Rattle.tabled_list.proofs.laws.given_sizes_are_kept.Goals as goal

-- ---- what an outcome keeps

abbrev widths-of : Outcome → Option (List ℕ)
widths-of (Ok s) = s.sizes.widths
widths-of (Err fault) = None

abbrev heights-of : Outcome → Option (List ℕ)
heights-of (Ok s) = s.sizes.heights
heights-of (Err fault) = None

chosen : {X : Type 0} (test : Bool) (kept other : X) → test ≡ true → (if test then kept else other) ≡ kept
chosen true kept other is = refl
chosen false kept other is = cc is

not-chosen : {X : Type 0} (test : Bool) (other kept : X) → test ≡ false → (if test then other else kept) ≡ kept
not-chosen false other kept is = refl
not-chosen true other kept is = cc is

-- what is left of an outcome after a step that clears nothing
left-of : (changed kept last : Outcome) → changed ≡ kept → settled None changed ≡ last → settled None kept ≡ last
left-of changed kept last same left = subst (λ (o : Outcome). settled None o ≡ last) same left

pub returns-clause-widths : goal.returns-clause-widths
returns-clause-widths c = λ widths s last enough (changed, is, left).
    let same = sym is ∙ chosen (nat_le (column_count s.rows) (length widths.items)) (Ok (record s { sizes = record s.sizes { widths = Some widths.items } })) (Ok s) enough in
    sym (ap widths-of (left-of changed _ (Ok last) same left))

pub returns-clause-heights : goal.returns-clause-heights
returns-clause-heights c = λ heights s last enough (changed, is, left).
    let same = sym is ∙ ap (λ (state : State). Ok state) (not-chosen (nat_lt (length heights.items) (length s.rows)) s (keeping_heights (Some heights.items) s) enough) in
    sym (ap heights-of (left-of changed _ (Ok last) same left))

-- ---- what is kept of a table that is made wider

abbrev KeepsBoth : Outcome → Type 0
KeepsBoth (Ok s) = (is_some s.sizes.widths ≡ true) × (is_some s.sizes.heights ≡ true)
KeepsBoth (Err fault) = Unit {0}

both-then : {A : Type 0} (worked_out : Result A Fault) (next : A → Outcome → Type 0) (outcome : Outcome) → Then worked_out next outcome → ((x : A) → next x outcome → KeepsBoth outcome) → KeepsBoth outcome
both-then (Ok x) next outcome taken each = each x taken
both-then (Err fault) next outcome same each = subst KeepsBoth same tt

both-where : (test : Bool) (step : State → Outcome → Type 0) (s : State) (outcome : Outcome) → Where test step s outcome → KeepsBoth (Ok s) → (step s outcome → KeepsBoth outcome) → KeepsBoth outcome
both-where true step s outcome taken here each = each taken
both-where false step s outcome same here each = subst KeepsBoth same here

both-grown : (grows : ℕ → List ℕ → List ℕ → Type 0) (widths : List ℕ) (by : ℕ) (s : State) (outcome : Outcome) → is_some s.sizes.heights ≡ true → Grown (grows_so grows) tt widths by s outcome → KeepsBoth outcome
both-grown grows widths by s outcome heights (more, grown, same) = subst KeepsBoth same (refl, heights)

both-sized : (grows : ℕ → List ℕ → List ℕ → Type 0) (n : ℕ) (s : State) (it : TableSizes) (outcome : Outcome)
    → Where (nat_lt it.whole n) (Grown (grows_so grows) tt (column_widths (column_count s.rows) it.widths) (n - it.whole)) (keeping it s) outcome → KeepsBoth outcome
both-sized grows n s it outcome sized =
    both-where (nat_lt it.whole n) (Grown (grows_so grows) tt (column_widths (column_count s.rows) it.widths) (n - it.whole)) (keeping it s) outcome sized (refl, refl)
    (λ more. both-grown grows (column_widths (column_count s.rows) it.widths) (n - it.whole) (keeping it s) outcome refl more)

both-widens : (grows : ℕ → List ℕ → List ℕ → Type 0) (n : ℕ) (s : State) (outcome : Outcome) → Widens (grows_so grows) tt n s outcome → KeepsBoth outcome
both-widens grows n s outcome widens =
    both-then (table_sizes s.look (column_count s.rows) s.rows s.sizes)
    (λ it. Where (nat_lt it.whole n) (Grown (grows_so grows) tt (column_widths (column_count s.rows) it.widths) (n - it.whole)) (keeping it s))
    outcome widens (λ it sized. both-sized grows n s it outcome sized)

both-settled : (outcome : Outcome) → KeepsBoth outcome → KeepsBoth (settled None outcome)
both-settled (Ok s) both = both
both-settled (Err fault) both = tt

pub returns-clause-min_width : goal.returns-clause-min_width
returns-clause-min_width c = λ width priority s last cells (changed, taken, left).
    let (size, measured, next) = rw cells at taken in
    let both : KeepsBoth changed =
    both-then size (λ n. Widens (grows_so (IsGrownByChoice priority)) tt n s) changed next (λ n widens. both-widens (IsGrownByChoice priority) n s changed widens) in
    subst KeepsBoth left (both-settled changed both)
