-- Lines of parts as they are made.
use Rattle.std.specs.Prelude.{◌≡◌, ℕ, ◌<◌, ◌≤◌, List, [], ◌++◌, length, map, slice_index_or, string_bytes, Vec}
use Rattle.std.specs.declared.alloc.Global.{Global}
use Rattle.grid_config_values.specs.Glyphs.{BoundaryKind, First, Between, Last}
use Rattle.tabled_pool.specs.Boxes.Boxes.{Box, BoxPart, Shown, Upright, Horizontal}
use Rattle.tabled_pool.specs.declared.boxes.part.Edge.{Edge}
use Rattle.tabled_pool.specs.declared.boxes.part.Edge.TheVariants.{First as AtFirst, Between as AtBetween, Last as AtLast}
use Rattle.tabled_pool.specs.declared.boxes.part.DrawnPart.{DrawnPart}
use Rattle.tabled_pool.specs.declared.boxes.part.DrawnPart.TheVariants.{Shown as AShown, Upright as AnUpright, Horizontal as AHorizontal}

abbrev pub kind_of : Edge → BoundaryKind
kind_of AtFirst = First
kind_of AtBetween = Between
kind_of AtLast = Last

abbrev pub box_part : DrawnPart → BoxPart
box_part (AShown width text) = Shown width (string_bytes text)
box_part (AnUpright edge) = Upright (kind_of edge)
box_part (AHorizontal edge width) = Horizontal (kind_of edge) width

abbrev pub box_parts : Vec DrawnPart Global → List BoxPart
box_parts line = map box_part line.items

-- what line k shows so far, and nothing after the last
abbrev pub shown_at : List (Vec DrawnPart Global) → ℕ → List BoxPart
shown_at lines k = slice_index_or (map box_parts lines) k []

-- each line shows this after what it showed before
abbrev pub Adds : List (Vec DrawnPart Global) → List (Vec DrawnPart Global) → (ℕ → List BoxPart) → Type 0
Adds before after line = (length after ≡ length before) × ((k : ℕ) → k < length before → shown_at after k ≡ shown_at before k ++ line k)

-- these come first
abbrev pub BeginWith : {T : Type 0} → List T → List T → Type 0
BeginWith {T} first all = (more : List T) × (all ≡ first ++ more)

-- a place of this width and height is large enough for the box
abbrev pub IsInCanvas : Box → ℕ → ℕ → Type 0
IsInCanvas box width height = (box.width ≤ width) × (box.height ≤ height)
