-- Rows in batches: the number of the first row of each.
use Rattle.std.specs.Prelude.{ℕ, zero, suc, ◌+◌, ◌-◌, ◌*◌, ◌/◌, ◌%◌, ◌^◌, ◌==◌, if◌then◌else◌, List, [], ◌∷◌, map, min}
use Rattle.std.specs.List.{range_with_len}
use Rattle.tabled.specs.declared.layout.LayoutIterator.{LayoutIterator}

-- how many batches of this size hold `rows` rows, the last perhaps in part; none of size 0
abbrev pub batches : ℕ → ℕ → ℕ
batches rows batch = if batch == 0 then 0 else if rows % batch == 0 then rows / batch else rows / batch + 1

-- `count` multiples of a batch, from 0 on
abbrev pub multiples : ℕ → ℕ → List ℕ
multiples count batch = map (λ k. k * batch) (range_with_len 0 count)

-- what is left to be given: as many values as are left, each a batch after the one before; no value passes the
-- greatest `usize`
abbrev pub values_from : ℕ → ℕ → ℕ → List ℕ
values_from next batch zero = []
values_from next batch (suc left) = next ∷ values_from (min (next + batch) (2 ^ 64 - 1)) batch left

-- all batches of `rows` rows, before the first is given
abbrev pub begun_batches : ℕ → ℕ → LayoutIterator
begun_batches rows batch = record { next = 0; batch = batch; left = batches rows batch }

abbrev pub values_left : LayoutIterator → List ℕ
values_left iterator = values_from iterator.next iterator.batch iterator.left
