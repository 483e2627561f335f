-- What a search among the spans looks at.
use Rattle.std.specs.Prelude.{ℕ, ◌+◌, ◌==◌, Bool, ◌&&◌, ◌||◌, max, nat_le, nat_lt}
use Rattle.std.specs.Ordering.{is_le}
use Rattle.grid_config_values.specs.declared.position.Position.{Position}
use Rattle.grid_config_values.specs.Order.{position_cmp}
use Rattle.grid_config_values.specs.declared.spans.extent.Extent.{Extent}

-- whether the rectangle holds the place: `Holds`, as a test
abbrev pub holds : Position → Extent → Position → Bool
holds anchor extent place =
    (nat_le anchor.row place.row && nat_lt place.row (anchor.row + extent.rows)) && (nat_le anchor.col place.col && nat_lt place.col (anchor.col + extent.columns))

-- whether a span begins at this place or after it
abbrev pub begins_from : Position → Position × Extent → Bool
begins_from from span = is_le (position_cmp from span.0)

-- whether a place is before another one, by row, then by column
abbrev pub begins_before : Position → Position → Bool
begins_before a b = nat_lt a.row b.row || (a.row == b.row && nat_lt a.col b.col)

-- `IsInside`, as a test
abbrev pub is_inside : Position → Extent → ℕ → ℕ → Bool
is_inside anchor extent rows columns = nat_le (anchor.row + extent.rows) rows && nat_le (anchor.col + extent.columns) columns

-- two rectangles share a place where they share the first one that may be in both
abbrev pub corner : Position → Position → Position
corner a b = record { row = max a.row b.row; col = max a.col b.col }

abbrev pub overlaps : Position → Extent → Position → Extent → Bool
overlaps a a_extent b b_extent = holds a a_extent (corner a b) && holds b b_extent (corner a b)
