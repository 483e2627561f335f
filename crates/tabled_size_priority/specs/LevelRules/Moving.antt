-- What a column gives or gets at a number, and what is moved of all columns in an order.
use Rattle.std.specs.Prelude.{◌≡◌, ◌≤◌, ◌<◌, ℕ, ◌+◌, ◌-◌, ◌^◌, ◌==◌, nat_lt, List, [], length, map, min, sum, slice_index, EachIndex, Option, MatchOption, if◌then◌else◌}
use Rattle.tabled_size_priority.specs.declared.levels.rule.Rule.{Rule}
use Rattle.tabled_size_priority.specs.declared.levels.rule.Rule.TheVariants.{Turns, Widest, Narrowest, Raised, Shared}
use Rattle.tabled_size_priority.specs.declared.levels.order.Order.{Order}
use Rattle.tabled_size_priority.specs.declared.levels.order.Order.TheVariants.{FromSide, FromColumn}
use Rattle.tabled_size_priority.specs.LevelRules.Columns.{column_numbers, from_column, from_side}

-- what a column of a width and a least gives or gets at a number
abbrev pub moved : Rule → ℕ → ℕ → ℕ → ℕ
moved Turns number width least = min (width - least) number
moved Widest number width least = min (width - least) (width - (2 ^ 64 - 1 - number))
moved Narrowest number width least = if nat_lt width number then width - least else 0
moved Raised number width least = number - width
moved Shared number width least = if width == 0 then 0 else number

-- all columns together
abbrev pub moved_sum : Rule → ℕ → List ℕ → List ℕ → ℕ
moved_sum rule number least widths = sum (map (λ column. moved rule number (slice_index widths column) (slice_index least column)) (column_numbers widths))

-- a turn more is a turn of what is left; else what is left is moved at the number that follows
abbrev pub next_of : Rule → ℕ → ℕ
next_of Turns number = 1
next_of Widest number = number + 1
next_of Narrowest number = number + 1
next_of Raised number = number + 1
next_of Shared number = 1

-- a rule by which columns are made narrower; the others make them wider
abbrev pub Takes : Rule → Type 0
Takes Turns = Unit {0}
Takes Widest = Unit {0}
Takes Narrowest = Unit {0}
Takes Raised = ⊥
Takes Shared = ⊥

abbrev pub Gives : Rule → Type 0
Gives Turns = ⊥
Gives Widest = ⊥
Gives Narrowest = ⊥
Gives Raised = Unit {0}
Gives Shared = Unit {0}

-- ---- orders

-- how many of `count` columns come before a column
abbrev pub place_of : Order → ℕ → ℕ → ℕ
place_of (FromSide right) count column = from_side right count column
place_of (FromColumn start) count column = from_column start count column

-- a round begins at one of `count` columns, or after the last
abbrev pub BeginsWithin : Order → ℕ → Type 0
BeginsWithin (FromSide right) count = Unit {0}
BeginsWithin (FromColumn start) count = start ≤ count

-- ---- what is moved

-- the columns before one of them are changed by all of the second amount, those after it by the first, and it by more than
-- the first and at most the second
pub record IsMovedInOrder (place first second change : ℕ → ℕ) (count column : ℕ) : Type 0 where
  pub inside : column < count
  pub more : first column < change column
  pub at_most : change column ≤ second column
  pub before : (other : ℕ) → other < count → place other < place column → change other ≡ second other
  pub behind : (other : ℕ) → other < count → place column < place other → change other ≡ first other

-- what the rule moves at the number is taken from, or given to, each column
abbrev pub IsTakenFromEach : Rule → ℕ → List ℕ → List ℕ → List ℕ → Type 0
IsTakenFromEach rule number least widths sizes =
    EachIndex widths (λ column. slice_index sizes column ≡ slice_index widths column - moved rule number (slice_index widths column) (slice_index least column))

abbrev pub IsGivenToEach : Rule → ℕ → List ℕ → List ℕ → Type 0
IsGivenToEach rule number widths sizes = EachIndex widths (λ column. slice_index sizes column ≡ slice_index widths column + moved rule number (slice_index widths column) 0)

-- what the rule moves at the number is taken from, or given to, the columns of an order, up to the last that changes
abbrev pub IsTakenInOrder : Rule → ℕ → (ℕ → ℕ) → List ℕ → List ℕ → List ℕ → ℕ → Type 0
IsTakenInOrder rule number place least widths sizes column =
    IsMovedInOrder place (λ other. 0) (λ other. moved rule number (slice_index widths other) (slice_index least other)) (λ other. slice_index widths other - slice_index sizes other) (length widths) column

abbrev pub IsGivenInOrder : Rule → ℕ → (ℕ → ℕ) → List ℕ → List ℕ → ℕ → Type 0
IsGivenInOrder rule number place widths sizes column =
    IsMovedInOrder place (λ other. 0) (λ other. moved rule number (slice_index widths other) 0) (λ other. slice_index sizes other - slice_index widths other) (length widths) column

-- no width rises, or none falls
abbrev pub NoneRises : List ℕ → List ℕ → Type 0
NoneRises widths sizes = EachIndex widths (λ column. slice_index sizes column ≤ slice_index widths column)

abbrev pub NoneFalls : List ℕ → List ℕ → Type 0
NoneFalls widths sizes = EachIndex widths (λ column. slice_index widths column ≤ slice_index sizes column)

-- nothing is moved, or so much as at some number, and up to the last column that changes as much as at the next
abbrev pub IsMovedByRule : Rule → (ℕ → ℕ) → List ℕ → List ℕ → (ℕ → ℕ) → ℕ → Option ℕ → Type 0
IsMovedByRule rule place least widths change amount last =
    MatchOption last
    ((amount ≡ 0) × EachIndex widths (λ column. change column ≡ 0))
    (λ column. (number : ℕ) × IsMovedInOrder place
    (λ other. moved rule number (slice_index widths other) (slice_index least other))
    (λ other. moved rule (number + 1) (slice_index widths other) (slice_index least other))
    change (length widths) column)

-- so much, or all that the rule can move
abbrev pub amount_of : Rule → List ℕ → ℕ → List ℕ → ℕ
amount_of rule least by widths = min by (moved_sum rule (2 ^ 64) least widths)

pub record IsTaken (rule : Rule) (place : ℕ → ℕ) (least : List ℕ) (by : ℕ) (widths sizes : List ℕ) (last : Option ℕ) : Type 0 where
  pub lower : NoneRises widths sizes
  pub sums : sum sizes + amount_of rule least by widths ≡ sum widths
  pub taken : IsMovedByRule rule place least widths (λ column. slice_index widths column - slice_index sizes column) (amount_of rule least by widths) last

pub record IsGiven (rule : Rule) (place : ℕ → ℕ) (by : ℕ) (widths sizes : List ℕ) (last : Option ℕ) : Type 0 where
  pub higher : NoneFalls widths sizes
  pub sums : sum sizes ≡ sum widths + amount_of rule [] by widths
  pub given : IsMovedByRule rule place [] widths (λ column. slice_index sizes column - slice_index widths column) (amount_of rule [] by widths) last

-- each column before the last that gives has given all that it has above its least, and none after it gives any
pub record IsTakenWhole (place : ℕ → ℕ) (least : List ℕ) (by : ℕ) (widths sizes : List ℕ) (last : Option ℕ) : Type 0 where
  pub lower : NoneRises widths sizes
  pub sums : sum sizes + amount_of Narrowest least by widths ≡ sum widths
  pub taken : MatchOption last
      (EachIndex widths (λ column. slice_index sizes column ≡ slice_index widths column))
      (λ column. IsMovedInOrder place (λ other. 0) (λ other. slice_index widths other - slice_index least other)
      (λ other. slice_index widths other - slice_index sizes other) (length widths) column)
