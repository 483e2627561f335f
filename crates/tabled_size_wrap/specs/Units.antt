-- The units of a line: what is not divided where it is wrapped.
use Rattle.std.specs.Prelude.{ℕ, ◌+◌, nat_le, Bool, List, [], ◌∷◌, length, map, encode_utf8_all, if◌then◌else◌, ◌==◌}
use Rattle.std.specs.List.{join_by, slice_split}
use Rattle.grid_records_measure.specs.Measures.{cost, measure}
use Rattle.grid_records_measure.specs.Tabs.{space}
use Rattle.tabled_size_wrap.specs.declared.line_units.Unit.{Unit}

-- characters that stay together, and the columns that they take
pub record LineUnit : Type 0 where
  pub text : List ℕ
  pub cost : ℕ

abbrev pub character_unit : ℕ → LineUnit
character_unit c = record { text = c ∷ []; cost = cost c }

abbrev pub space_unit : LineUnit
space_unit = record { text = space ∷ []; cost = 1 }

-- a word that measures at most the width stays together; a longer one is divided into its characters
abbrev pub word_units : ℕ → List ℕ → List LineUnit
word_units width [] = []
word_units width (c ∷ cs) =
    if nat_le (measure (c ∷ cs)) width then record { text = c ∷ cs; cost = measure (c ∷ cs) } ∷ []
    else map character_unit (c ∷ cs)

abbrev pub is_space : ℕ → Bool
is_space c = c == space

-- keeping words, the units of a line are its spaces, one by one, and those of the words between
-- them; else its characters
abbrev pub line_units : ℕ → Bool → List ℕ → List LineUnit
line_units width keep_words line =
    if keep_words then join_by (word_units width) (space_unit ∷ []) (slice_split is_space line)
    else map character_unit line

-- the bytes that a unit takes in the text
abbrev pub unit_len : LineUnit → ℕ
unit_len unit = length (encode_utf8_all unit.text)

-- the units with the bytes at which they begin and end, where the first begins here
abbrev pub placed_units : ℕ → List LineUnit → List Unit
placed_units place [] = []
placed_units place (unit ∷ units) =
    record { start = place; end = place + unit_len unit; cost = unit.cost } ∷ placed_units (place + unit_len unit) units
