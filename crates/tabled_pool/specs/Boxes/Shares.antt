-- Who takes what is left over of a row's columns, or of a column's lines.
use Rattle.std.specs.Prelude.{ℕ, ◌+◌, ◌/◌, ◌%◌, ◌==◌, nat_lt, if◌then◌else◌}
use Rattle.tabled_size.specs.declared.dimension.priority.DimensionPriority.{DimensionPriority}
use Rattle.tabled_size.specs.declared.dimension.priority.DimensionPriority.TheVariants.{First, Last, List as Each}

-- how much of `beyond` member i of n takes: the first one all, the last one all, or each as much as the others. Of what
-- can't be divided evenly the first ones take one more each
abbrev pub share : DimensionPriority → ℕ → ℕ → ℕ → ℕ
share First beyond n i = if i == 0 then beyond else 0
share Last beyond n i = if i + 1 == n then beyond else 0
share Each beyond n i = beyond / n + (if nat_lt i (beyond % n) then 1 else 0)
