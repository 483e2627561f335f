-- What a clause sees of a split that goes on.
use Rattle.std.specs.Prelude.{◌≡◌, ◌<◌, ℕ, Bool, IsTrue, List, [], ◌∷◌, length, Option, Result, MatchOption, MatchResult}
use Rattle.std.specs.Cow.{IsOwnedStr, cow_str_bytes}
use Rattle.std.specs.declared.borrow.CowStr.{CowStr}

-- the parts that are still to come, and whether they may take memory
pub record PartsLeft : Type 0 where
  pub parts : List (List ℕ)
  pub can_fail : Bool

-- a call gave the first part and left the others; or an error where allocation failed, and left none; or none,
-- where none was left. Where no part allocates, each is a borrow and comes
abbrev pub GivesPart : {E Z : Type 0} → PartsLeft → Option (Result (CowStr Z) E) → PartsLeft → Type 0
GivesPart old found new =
    (IsTrue new.can_fail → IsTrue old.can_fail)
    × MatchOption found ((old.parts ≡ []) × (new.parts ≡ [])) (λ answer.
    MatchResult answer
    (λ part. (old.parts ≡ cow_str_bytes part ∷ new.parts) × (IsOwnedStr part → IsTrue old.can_fail))
    (λ _. (0 < length old.parts) × (new.parts ≡ []) × IsTrue old.can_fail))
