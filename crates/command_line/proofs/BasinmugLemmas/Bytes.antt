-- Texts of one byte.
use Rattle.std.proofs.Common.{◌≡◌, ◌≤◌, ◌<◌, ℕ, Bool, List, [], ◌∷◌, Some, None, length, get_or, ap, arith}
use Rattle.std.specs.Prelude.{if◌then◌else◌}
use Rattle.basinmug_values.specs.Delimiters.{can_delimit}
use Rattle.command_line.specs.Basinmug.Asking.{byte_named}

pub byte-alone : (text : List ℕ) (can : Bool) → 1 ≤ length text → length text < 2 → can_delimit (get_or text 0 0) ≡ can → byte_named text ≡ (if can then Some (get_or text 0 0) else None)
byte-alone [] can some few is = absurd (omega arith)
byte-alone (byte ∷ []) can some few is = ap (λ (b : Bool). if b then Some byte else None) is
byte-alone (first ∷ second ∷ rest) can some few is = absurd (omega arith)
