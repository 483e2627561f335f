-- How options by numbers compare: by their parts, one after the other.
use Rattle.std.specs.Prelude.{ℕ}
use Rattle.std.specs.Cmp.Lexicographic.{slice_cmp}
use Rattle.std.specs.declared.cmp.Ordering.{Ordering}
use Rattle.std.specs.Ordering.{bool_cmp, nat_cmp, on, then_cmp}
use Rattle.tabled_size.specs.contracts.dimension.suffix.SuffixLimitOrd.TheImpl.{ghosts as limits}
use Rattle.tabled_width.specs.Options.{Truncation, Widening}

-- by the width, then by the character after lines, and then by the priority
abbrev pub widening_cmp : Widening ℕ ℕ → Widening ℕ ℕ → Ordering
widening_cmp =
    then_cmp (on (λ (it : Widening ℕ ℕ). it.width) nat_cmp) (then_cmp (on (λ (it : Widening ℕ ℕ). it.fill) nat_cmp) (on (λ (it : Widening ℕ ℕ). it.priority) nat_cmp))

-- by the width; by the suffix, byte by byte; by what is left where it does not fit; by the two switches, off
-- before on; and then by the priority
abbrev pub truncation_cmp : Truncation ℕ ℕ → Truncation ℕ ℕ → Ordering
truncation_cmp =
    then_cmp (on (λ (it : Truncation ℕ ℕ). it.width) nat_cmp)
    (then_cmp (on (λ (it : Truncation ℕ ℕ). it.cutting.suffix) (slice_cmp nat_cmp))
    (then_cmp (on (λ (it : Truncation ℕ ℕ). it.cutting.limit) limits.cmp)
    (then_cmp (on (λ (it : Truncation ℕ ℕ). it.cutting.multiline) bool_cmp)
    (then_cmp (on (λ (it : Truncation ℕ ℕ). it.cutting.try_color) bool_cmp) (on (λ (it : Truncation ℕ ℕ). it.priority) nat_cmp)))))
