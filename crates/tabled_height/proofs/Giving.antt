-- What may be refused or worked out, by what it follows from.
use Rattle.std.proofs.Common.{◌≡◌, ◌^◌, ◌<◌, ◌≤◌, ℕ, false, true, Result, Ok, Err, arith, refl, subst, sym}
use Rattle.std.proofs.lemmas.Bool.Decides.{nat_tests}
use Rattle.grid_config_values.specs.declared.fault.Fault.{Fault}
use Rattle.grid_config_values.specs.declared.fault.Fault.TheVariants.{Memory, Range, Spans, Room}
use Rattle.tabled_steps.specs.Outcomes.{GivesState, MayRefuseStep, passes_usize, sized}
use Rattle.tabled_steps.specs.States.{Outcome, State, column_count}
use Rattle.tabled_height.specs.Steps.{MeasuredHeight, Measuring}

pub held : (n : ℕ) → n < 2 ^ 64 → passes_usize n ≡ false
held n low = grind (arith, nat_tests)

pub passed : (n : ℕ) → 2 ^ 64 ≤ n → passes_usize n ≡ true
passed n high = grind (arith, nat_tests)

pub sized_held : (n : ℕ) → n < 2 ^ 64 → sized n ≡ Ok n
sized_held n low = rw (held n low) refl

pub sized_passed : (n : ℕ) → 2 ^ 64 ≤ n → sized n ≡ Err Range
sized_passed n high = rw (passed n high) refl

-- ---- refusals

pub memory_may : {Y : Type 0} (fault : Fault) (gives : Result Y Fault → Type 0) → fault ≡ Memory → MayRefuseStep fault gives
memory_may fault gives is = subst (λ (fault : Fault). MayRefuseStep fault gives) (sym is) tt

pub range_may : {Y : Type 0} (fault : Fault) (gives : Result Y Fault → Type 0) → fault ≡ Range → gives (Err Range) → MayRefuseStep fault gives
range_may fault gives is given = subst (λ (fault : Fault). MayRefuseStep fault gives) (sym is) given

-- what is refused as one is refused as another that follows from it
pub may_follow : {Y Z : Type 0} (fault : Fault) (gives : Result Y Fault → Type 0) (others : Result Z Fault → Type 0) → ((f : Fault) → gives (Err f) → others (Err f)) → MayRefuseStep fault gives → MayRefuseStep fault others
may_follow Memory gives others follows may = tt
may_follow Range gives others follows may = follows Range may
may_follow Spans gives others follows may = follows Spans may
may_follow (Room row column) gives others follows may = follows (Room row column) may

pub gives_follow : {X Y : Type 0} (view : X → Y) (result : Result X Fault) (gives others : Result Y Fault → Type 0) → ((outcome : Result Y Fault) → gives outcome → others outcome) → GivesState view result gives → GivesState view result others
gives_follow view (Ok x) gives others follows given = follows (Ok (view x)) given
gives_follow view (Err fault) gives others follows given = may_follow fault gives others (λ f. follows (Err f)) given

-- what is exactly worked out is given
pub gives_exactly : (result outcome : Result ℕ Fault) → result ≡ outcome → GivesState (λ n. n) result (λ other. outcome ≡ other)
gives_exactly (Ok n) outcome is = sym is
gives_exactly (Err Memory) outcome is = tt
gives_exactly (Err Range) outcome is = sym is
gives_exactly (Err Spans) outcome is = sym is
gives_exactly (Err (Room row column)) outcome is = sym is

-- ---- a height that is taken from the table

module _ (measures : Measuring) (step : ℕ → State → Outcome → Type 0) (s : State) where
  pub measured : (n : ℕ) (outcome : Outcome) → measures (column_count s.rows) s.rows s.look (Ok n) → step n s outcome → MeasuredHeight measures step s outcome
  measured n outcome measure done = (Ok n, measure, done)
