-- Which glyphs may be where lines meet.
use Rattle.std.specs.Prelude.{◌≡◌, ◌⊎◌, ℕ, Option, Some, None, List, encode_utf8}
use Rattle.grid_config.specs.Looks.{Look}
use Rattle.grid_config_values.specs.Glyphs.{BoundaryKind, crossing}
use Rattle.papergrid_picture.specs.Picture.{blank}
use Rattle.tabled_pool.specs.Boxes.Crossings.{Shape}

-- these are the bytes of a glyph, or of a space where none is set
abbrev pub IsSetOrSpace : Option ℕ → List ℕ → Type 0
IsSetOrSpace set bytes = ((character : ℕ) × (set ≡ Some character) × (bytes ≡ encode_utf8 character)) ⊎ ((set ≡ None) × (bytes ≡ encode_utf8 blank))

-- it shows one of the nine glyphs of crossings and corners, or a space where that one is not set
abbrev pub ShowsSetCrossing : Look → Shape → Type 0
ShowsSetCrossing look shape = (row : BoundaryKind) × (column : BoundaryKind) × IsSetOrSpace (crossing look.borders row column) shape.bytes
