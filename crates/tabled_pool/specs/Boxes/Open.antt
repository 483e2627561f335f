-- A text that is drawn, as the program holds it.
use Rattle.std.specs.Prelude.{ℕ, List, [], map, slice_index_or}
use Rattle.std.specs.Cow.{cow_str_bytes}
use Rattle.tabled_pool.specs.Boxes.Sizes.{widths_of}
use Rattle.tabled_pool.specs.declared.boxes.open_text.OpenText.{OpenText}

-- its lines
abbrev pub texts_of : OpenText → List (List ℕ)
texts_of shown = map cow_str_bytes shown.lines.items

-- what they measure
abbrev pub measures_of : OpenText → List ℕ
measures_of shown = widths_of shown.measured.now

-- line k, and after the last nothing
abbrev pub line_of : OpenText → ℕ → List ℕ
line_of shown k = slice_index_or (texts_of shown) k []
