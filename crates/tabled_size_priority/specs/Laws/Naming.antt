-- What an answer says of the columns that are above their leasts.
use Rattle.std.proofs.Common.{◌≡◌, ℕ, ◌<◌, List, [], ◌∷◌, length, arith}
use Rattle.std.specs.Prelude.{Option, Some, None}
use Rattle.tabled_size_priority.specs.Peaking.{IsFirstAbove, NoneAbove, Names, Narrowest, NamesNarrowest}
use Rattle.tabled_size_priority.specs.Running.{IsNowhere}

-- where no column of these is named, none is above its least
pub names-none : (goes_before : ℕ → ℕ → Type 0) (least sizes : List ℕ) (answer : Option ℕ) → Names goes_before least sizes answer → IsNowhere (length sizes) answer → NoneAbove least sizes (length sizes)
names-none goes_before least sizes None named nowhere = named
names-none goes_before least sizes (Some column) named nowhere = let inside : column < length sizes = named.inside in absurd (omega arith)

-- with leasts and without them the narrowest is named among those above their leasts
pub narrowest-first : (place : ℕ → ℕ) (least sizes : List ℕ) (column : ℕ) → NamesNarrowest place least sizes (Some column) → IsFirstAbove (Narrowest place sizes) least sizes (length sizes) column
narrowest-first place [] sizes column named = named.0
narrowest-first place (l ∷ least) sizes column named = named

pub narrowest-none : (place : ℕ → ℕ) (least sizes : List ℕ) (answer : Option ℕ) → length sizes ≡ length least → NamesNarrowest place least sizes answer → IsNowhere (length sizes) answer → NoneAbove least sizes (length sizes)
narrowest-none place [] sizes answer size named nowhere = λ other below. absurd (omega arith)
narrowest-none place (l ∷ least) sizes answer size named nowhere = names-none (Narrowest place sizes) (l ∷ least) sizes answer named nowhere
