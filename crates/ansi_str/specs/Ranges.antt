-- The bounds of inclusive ranges of places.
use Rattle.std.specs.Prelude.{ℕ, ◌+◌, ◌^◌, Bool, ◌&&◌, nat_lt, nat_le, Option, None, Some, unwrap_or, if◌then◌else◌}

-- after an inclusive end, where that is a number of 64 bits
abbrev pub end_behind : ℕ → Option ℕ
end_behind last = if nat_lt (last + 1) (2 ^ 64) then Some (last + 1) else None

-- a range that was gone through to its end is empty there
abbrev pub inclusive_start : Bool → ℕ → ℕ → ℕ
inclusive_start exhausted first last =
    if exhausted && nat_le first last then unwrap_or (end_behind last) last else first
