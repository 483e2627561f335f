-- The style of the last character that fits in a line. By it the style of the last character of a cut is found.
use Rattle.std.specs.Prelude.{ℕ, if◌then◌else◌, List, [], ◌∷◌}
use Rattle.ansi_scan.specs.Attributes.{Attributes}
use Rattle.grid_records_measure.specs.Filling.{has_room, used_behind}

-- of these characters after `used` columns of a line; where none fits, this style
abbrev pub last_kept : ℕ → ℕ → Attributes → List (ℕ × Attributes) → Attributes
last_kept width used style [] = style
last_kept width used style (x ∷ xs) = if has_room width used x.0 then last_kept width (used_behind used x.0) x.1 xs else style
