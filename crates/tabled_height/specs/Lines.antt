-- Texts that get lines, and texts that keep only their first.
use Rattle.std.specs.Prelude.{ℕ, ◌-◌, ◌++◌, ◌∷◌, Bool, if◌then◌else◌, List, Option, None, Some, nat_lt, replicate, take}
use Rattle.std.specs.List.{join_with_byte}
use Rattle.grid_config_values.specs.declared.position.Position.{Position}
use Rattle.grid_records_measure.specs.TextLines.{line_feed, text_height, text_lines}

-- a text with fewer lines gets line feeds at its end, until it has `height` lines
abbrev pub raised : ℕ → Position → List ℕ → Option (List ℕ)
raised height place text =
    if nat_lt (text_height text) height then Some (text ++ replicate (height - text_height text) line_feed) else None

-- n of its lines from the first on, joined by line feeds
abbrev pub first_lines : ℕ → List ℕ → List ℕ
first_lines n text = join_with_byte line_feed (take n (text_lines text))

-- a text with more lines keeps only the first `height` of them
abbrev pub limited : ℕ → Position → List ℕ → Option (List ℕ)
limited height place text = if nat_lt height (text_height text) then Some (first_lines height text) else None

-- a line more, after a line feed where others came before it
abbrev pub with_line : List ℕ → Bool → List ℕ → List ℕ
with_line text behind_others line = text ++ (if behind_others then line_feed ∷ line else line)
