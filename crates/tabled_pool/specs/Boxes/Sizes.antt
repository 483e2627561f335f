-- The sizes of all boxes in a nesting. That of an outer one comes before those of its members, and that of a
-- text before those of its lines.
use Rattle.std.specs.Prelude.{ℕ, ◌+◌, ◌^◌, ◌≤◌, false, max, List, [], ◌∷◌, ◌++◌, map}
use Rattle.grid_config.specs.Looks.{Look}
use Rattle.papergrid_picture.specs.CellLines.{cell_measures}
use Rattle.papergrid_picture.specs.Picture.{at}
use Rattle.tabled_pool.specs.Boxes.Boxes.{Box, box_of}
use Rattle.tabled_pool.specs.Boxes.Values.{Nesting, Text, Beside, Stacked, Nestings, NoMore, Member}
use Rattle.tabled_pool.specs.declared.boxes.size.Size.{Size}

abbrev pub size_of : Box → Size
size_of box = record { width = box.width; height = box.height }

-- the width or the height is out of the range of `usize`
abbrev pub IsTooLarge : Box → Type 0
IsTooLarge box = 2 ^ 64 ≤ max box.width box.height

-- a line of a text by itself, which measures so much
abbrev pub line_size : ℕ → Size
line_size measure = record { width = measure; height = 1 }

-- how wide these are
abbrev pub widths_of : List Size → List ℕ
widths_of sizes = map (λ size. size.width) sizes

-- the lines of a text
abbrev pub line_sizes : List ℕ → List Size
line_sizes text = map line_size (cell_measures false false text)

module _ (look : Look) where
  -- so many columns and lines with the paddings of a cell
  abbrev pub padded : ℕ → ℕ → Size
  padded columns lines =
      let padding = look.padding (at 0 0) in
      record { width = columns + padding.left.size + padding.right.size; height = lines + padding.top.size + padding.bottom.size }

  -- a row or a column without a member has no line of its own
  abbrev mutual
    pub sizes_of : Nesting → List Size
    sizes_of (Text text) = size_of (box_of look (Text text)) ∷ line_sizes text
    sizes_of (Beside nestings) = size_of (box_of look (Beside nestings)) ∷ sizes_of_all nestings
    sizes_of (Stacked nestings) = size_of (box_of look (Stacked nestings)) ∷ sizes_of_all nestings

    pub sizes_of_all : Nestings → List Size
    sizes_of_all NoMore = []
    sizes_of_all (Member nesting nestings) = sizes_of nesting ++ sizes_of_all nestings
