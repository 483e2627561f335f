-- What is worked out, or why it is refused. A failed allocation is no such refusal: it may come at any call.
use Rattle.std.specs.Prelude.{◌≡◌, ℕ, ◌^◌, Bool, if◌then◌else◌, List, MatchResult, Result, Ok, Err, nat_le}
use Rattle.std.specs.List.{list_any}
use Rattle.grid_config_values.specs.declared.fault.Fault.{Fault}
use Rattle.grid_config_values.specs.declared.fault.Fault.TheVariants.{Memory, Range, Spans, Room}

-- one after the other, up to the first refusal
infixl 10 ◌≫=◌
abbrev pub ◌≫=◌ : {A B : Type 0} → Result A Fault → (A → Result B Fault) → Result B Fault
(Ok x) ≫= f = f x
(Err fault) ≫= f = Err fault

-- a call may be refused by this error: by `Memory`, or where what it works out may be refused so
abbrev pub MayRefuseStep : {Y : Type 0} → Fault → (Result Y Fault → Type 0) → Type 0
MayRefuseStep Memory gives = Unit {0}
MayRefuseStep Range gives = gives (Err Range)
MayRefuseStep Spans gives = gives (Err Spans)
MayRefuseStep (Room row column) gives = gives (Err (Room row column))

-- a call returns what may be worked out, memory aside
abbrev pub GivesState : {X Y : Type 0} → (X → Y) → Result X Fault → (Result Y Fault → Type 0) → Type 0
GivesState view result gives = MatchResult result (λ x. gives (Ok (view x))) (λ fault. MayRefuseStep fault gives)

-- the same, where one outcome alone may be worked out
abbrev pub AnswersStep : {X Y : Type 0} → (X → Y) → Result X Fault → Result Y Fault → Type 0
AnswersStep view result worked = GivesState view result (λ outcome. worked ≡ outcome)

-- a number that no `usize` holds
abbrev pub passes_usize : ℕ → Bool
passes_usize n = nat_le (2 ^ 64) n

abbrev pub sized : ℕ → Result ℕ Fault
sized n = if passes_usize n then Err Range else Ok n

abbrev pub all_sized : List ℕ → Result (List ℕ) Fault
all_sized ns = if list_any passes_usize ns then Err Range else Ok ns
