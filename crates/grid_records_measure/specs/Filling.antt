-- How far the characters of a text fill its lines up to a width: the tool by which the relation of `Cutting` is proved.
use Rattle.std.specs.Prelude.{ℕ, ◌+◌, Bool, ◌&&◌, nat_lt, nat_le, List, [], ◌∷◌, Option, None, Some, if◌then◌else◌}
use Rattle.grid_records_measure.specs.Measures.{cost}
use Rattle.grid_records_measure.specs.TextLines.{is_line_feed}

-- the columns of the line after a character, where `used` columns are used before it
abbrev pub used_behind : ℕ → ℕ → ℕ
used_behind used c = if is_line_feed c then 0 else used + cost c

-- the line is not full before the character, nor too long after it
abbrev pub has_room : ℕ → ℕ → ℕ → Bool
has_room width used c = nat_lt used width && nat_le (used_behind used c) width

-- the columns after a character that fits
abbrev pub columns_with : ℕ → ℕ → ℕ → Option ℕ
columns_with width used c = if has_room width used c then Some (used_behind used c) else None

-- the characters that fit, one after the other
abbrev pub fitting_front : ℕ → ℕ → List ℕ → List ℕ
fitting_front width used [] = []
fitting_front width used (c ∷ cs) = if has_room width used c then c ∷ fitting_front width (used_behind used c) cs else []

-- the columns of the line after them
abbrev pub front_columns : ℕ → ℕ → List ℕ → ℕ
front_columns width used [] = used
front_columns width used (c ∷ cs) = if has_room width used c then front_columns width (used_behind used c) cs else used

-- what is left after them
abbrev pub behind_front : ℕ → ℕ → List ℕ → List ℕ
behind_front width used [] = []
behind_front width used (c ∷ cs) = if has_room width used c then behind_front width (used_behind used c) cs else c ∷ cs
