-- What a clause reads of what is left of a split.
use Rattle.std.specs.Prelude.{ℕ, Bool, false, List, [], Option, None, Some}
use Rattle.ansi_scan.specs.Pieces.{pieces}
use Rattle.ansi_str_search.specs.declared.rest.Rest.{Rest}
use Rattle.ansi_str_search.specs.PartsLeft.{parts_left}
use Rattle.ansi_str_search.specs.Splitting.{PartsLeft}

-- the parts of what is left
abbrev pub rest_parts : Rest → List (List ℕ)
rest_parts rest = parts_left rest.pattern.now rest.begun rest.place.style (pieces rest.place.rest.now)

-- nothing is left after the last part
abbrev pub parts_of : Option Rest → List (List ℕ)
parts_of None = []
parts_of (Some rest) = rest_parts rest

abbrev pub can_fail : Option Rest → Bool
can_fail None = false
can_fail (Some rest) = rest.styled

abbrev pub what_is_left : Option Rest → PartsLeft
what_is_left rest = record { parts = parts_of rest; can_fail = can_fail rest }
