-- The bytes of the first line that are outside of quoted fields and of sequences SELECT GRAPHIC RENDITION, as a list,
-- each with its neighbours.
use Rattle.std.specs.Prelude.{◌-◌, ◌==◌, ◌&&◌, ℕ, Bool, not, List, [], ◌∷◌, ◌++◌, if◌then◌else◌, max, slice_index}
use Rattle.std.specs.Char.{is_ascii_digit}
use Rattle.basinmug_delimiter.specs.Sequences.{rendition_len}
use Rattle.basinmug_delimiter.specs.States.{next_state, ends_in_quotes, is_outside}
use Rattle.basinmug_delimiter.specs.declared.places.Place.{Place}
use Rattle.basinmug_delimiter.specs.declared.state.State.{State}
use Rattle.basinmug_delimiter.specs.declared.state.State.TheVariants.{Before}

-- the byte is between two digits
abbrev pub is_decimal : Place → Bool
is_decimal place = is_ascii_digit place.before && is_ascii_digit place.after

-- so many bytes, from the first of these on, belong to a sequence: to one that has begun, or to one that begins here
abbrev pub covered_at : ℕ → List ℕ → ℕ
covered_at covered bytes = max covered (rendition_len bytes)

-- a byte read in this state is neither in a quoted field nor in a sequence
abbrev pub is_counted : State → ℕ → Bool
is_counted state covered = is_outside state && (covered == 0)

-- the first of these bytes, if it is outside
abbrev pub outside_at : State → ℕ → Place → List Place
outside_at state covered place = if is_counted state covered then place ∷ [] else []

-- those of these bytes that are outside. The first is read in this state, so many belong to a sequence that has begun,
-- and this byte is before
abbrev pub outside_from : Bool → State → ℕ → ℕ → List ℕ → List Place
outside_from quotes state covered before [] = []
outside_from quotes state covered before (byte ∷ rest) =
    outside_at state (covered_at covered (byte ∷ rest)) (record { before = before; here = byte; after = slice_index rest 0 })
    ++ outside_from quotes (next_state quotes state byte) (covered_at covered (byte ∷ rest) - 1) byte rest

-- those of a text, where quotes count or don't
abbrev pub outside_of : Bool → List ℕ → List Place
outside_of quotes text = outside_from quotes Before 0 0 text

-- quotes count, unless one is never closed
abbrev pub outside : List ℕ → List Place
outside text = outside_of (not (ends_in_quotes text)) text
