-- The column that a priority names: the first one above its least. A missing least is 0.
use Rattle.std.specs.Prelude.{◌≡◌, ◌<◌, ◌≤◌, ℕ, List, [], ◌∷◌, length, slice_index, EachIndex, Option, Some, None, MatchOption, ◌⊎◌}

-- a column that is above its least, and goes before each other one that is
pub record IsFirstAbove (goes_before : ℕ → ℕ → Type 0) (least sizes : List ℕ) (count column : ℕ) : Type 0 where
  pub inside : column < count
  pub above : slice_index least column < slice_index sizes column
  pub first : (other : ℕ) → other < count → slice_index least other < slice_index sizes other → goes_before column other

-- no column is above its least
abbrev pub NoneAbove : List ℕ → List ℕ → ℕ → Type 0
NoneAbove least sizes count = (other : ℕ) → other < count → slice_index sizes other ≤ slice_index least other

-- of the first columns that one is named, or none where none is above its least
abbrev pub NamesAmong : (ℕ → ℕ → Type 0) → List ℕ → List ℕ → ℕ → Option ℕ → Type 0
NamesAmong goes_before least sizes count answer = MatchOption answer (NoneAbove least sizes count) (IsFirstAbove goes_before least sizes count)

-- of all columns
abbrev pub Names : (ℕ → ℕ → Type 0) → List ℕ → List ℕ → Option ℕ → Type 0
Names goes_before least sizes answer = NamesAmong goes_before least sizes (length sizes) answer

-- ---- which of two columns goes before the other

abbrev pub InPlace : (ℕ → ℕ) → ℕ → ℕ → Type 0
InPlace place column other = place column ≤ place other

-- the widest, equal ones by their places
abbrev pub Widest : (ℕ → ℕ) → List ℕ → ℕ → ℕ → Type 0
Widest place sizes column other =
    (slice_index sizes other ≤ slice_index sizes column) × (slice_index sizes column ≡ slice_index sizes other → place column ≤ place other)

-- the narrowest, equal ones by their places
abbrev pub Narrowest : (ℕ → ℕ) → List ℕ → ℕ → ℕ → Type 0
Narrowest place sizes column other =
    (slice_index sizes column ≤ slice_index sizes other) × (slice_index sizes column ≡ slice_index sizes other → place column ≤ place other)

-- ---- the narrowest column grows only where none is 0

-- some column is 0, or there is none
abbrev pub HasNothing : List ℕ → Type 0
HasNothing sizes = (length sizes ≡ 0) ⊎ ((column : ℕ) × (column < length sizes) × (slice_index sizes column ≡ 0))

-- the narrowest column above its least; without leasts the narrowest of all, and none where that is 0
abbrev pub NamesNarrowest : (ℕ → ℕ) → List ℕ → List ℕ → Option ℕ → Type 0
NamesNarrowest place [] sizes None = HasNothing sizes
NamesNarrowest place [] sizes (Some column) =
    IsFirstAbove (Narrowest place sizes) [] sizes (length sizes) column × EachIndex sizes (λ other. 0 < slice_index sizes other)
NamesNarrowest place (l ∷ least) sizes answer = Names (Narrowest place sizes) (l ∷ least) sizes answer

-- ---- searches

-- the first column from one to another that is above its least, or none
abbrev pub FirstWithin : List ℕ → List ℕ → ℕ → ℕ → Option ℕ → Type 0
FirstWithin least sizes start end answer =
    MatchOption answer
    ((other : ℕ) → start ≤ other → other < end → slice_index sizes other ≤ slice_index least other)
    (λ column. (start ≤ column) × (column < end) × (slice_index least column < slice_index sizes column)
    × ((other : ℕ) → start ≤ other → other < column → slice_index sizes other ≤ slice_index least other))
