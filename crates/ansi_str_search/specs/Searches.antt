-- Rust's searches in a text: whether it begins or ends with a pattern, and where a pattern occurs first.
use Rattle.std.specs.Prelude.{◌≡◌, ℕ, List, ◌++◌, Option, MatchOption}
use Rattle.ansi_str_search.specs.Matches.{Occurs, IsFirstMatch}

-- the text is the pattern, and what comes after it
abbrev pub BeginsWith : List ℕ → List ℕ → Type 0
BeginsWith pattern text = (behind : List ℕ) × (text ≡ pattern ++ behind)

-- the text is what comes before the pattern, and the pattern
abbrev pub EndsWith : List ℕ → List ℕ → Type 0
EndsWith pattern text = (before : List ℕ) × (text ≡ before ++ pattern)

-- it is found exactly where this holds, and what is found is this
abbrev pub IsFoundWhere : {T : Type 0} → Type 0 → (T → Type 0) → Option T → Type 0
IsFoundWhere holds IsThis found = MatchOption found (¬ holds) (λ x. holds × IsThis x)

-- the first place at which the pattern occurs in the text, and none where it does not occur there
abbrev pub IsFound : List ℕ → List ℕ → Option ℕ → Type 0
IsFound pattern text found =
    MatchOption found ((at : ℕ) → ¬ (Occurs pattern text at)) (λ at. IsFirstMatch pattern text 0 at)
