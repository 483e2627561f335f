-- What the five priorities return.
use Rattle.std.specs.Prelude.{◌≡◌, ℕ, ◌+◌, nat_lt, Bool, List, length, Option, MatchOption, if◌then◌else◌}
use Rattle.tabled_size_priority.specs.LevelRules.Columns.{from_side, from_column}
use Rattle.tabled_size_priority.specs.Peaking.{Names, InPlace, Widest, NamesNarrowest}

-- the first column from a side
abbrev pub side_peaks : {S : Type 0} → Bool → S → List ℕ → List ℕ → Option ℕ → S → Type 0
side_peaks right before least sizes answer after = Names (InPlace (from_side right (length sizes))) least sizes answer

-- the widest column, equal ones by the side that the priority has
abbrev pub widest_peaks : Bool → List ℕ → List ℕ → Option ℕ → Bool → Type 0
widest_peaks right least sizes answer after = Names (Widest (from_side right (length sizes)) sizes) least sizes answer × (after ≡ right)

-- the narrowest column, likewise; without leasts none where the narrowest is 0
abbrev pub narrowest_peaks : Bool → List ℕ → List ℕ → Option ℕ → Bool → Type 0
narrowest_peaks right least sizes answer after = NamesNarrowest (from_side right (length sizes)) least sizes answer × (after ≡ right)

-- where a round of `count` columns begins: past their end it begins at 0
abbrev pub start_of : ℕ → ℕ → ℕ
start_of next count = if nat_lt next count then next else 0

-- the first column of a round, which then goes on after it
abbrev pub turn_peaks : ℕ → List ℕ → List ℕ → Option ℕ → ℕ → Type 0
turn_peaks next least sizes answer after =
    Names (InPlace (from_column (start_of next (length sizes)) (length sizes))) least sizes answer
    × MatchOption answer (after ≡ next) (λ column. after ≡ column + 1)
