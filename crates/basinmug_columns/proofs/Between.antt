-- New widths between what columns keep and their widths.
use Rattle.std.proofs.Common.{◌≡◌, ◌≤◌, ◌<◌, ◌+◌, ◌-◌, ◌∙◌, ap, sym, ℕ, Bool, true, false, List, length, get_or, map, max, min, sum, arith, if◌then◌else◌}
use Rattle.std.specs.List.{range_with_len}
use Rattle.std.proofs.lemmas.Bool.Decides.{nat_tests}
use Rattle.std.proofs.lemmas.List.FromFn.{length-map-range_with_len}
use Rattle.tabled_size_priority.specs.Choices.{IsShrunkByChoice}
use Rattle.tabled_size_priority.specs.Columns.{by_width, from_column, from_side}
use Rattle.tabled_size_priority.specs.Laws.Lists.{at_column, sum-same}
use Rattle.tabled_size_priority.specs.Shrinking.{IsOfForm, StaysBetween, size_in_order, size_in_turns, shrunk_in_order, shrunk_in_turns, shrunk_sum, shrunk_to_level, size_at_level}
use Rattle.tabled_size_priority.specs.declared.choice.Choice.{Choice}
use Rattle.tabled_size_priority.specs.declared.choice.Choice.TheVariants.{None, MinLeft, MinRight, MaxLeft, MaxRight, Left, Right}
use Rattle.basinmug_columns.specs.Rooms.{AreShrunkWidths, first_room, first_rooms, kept_rooms, least_rooms, need_at, needed_rooms, one_column}
use Rattle.basinmug_columns.specs.declared.rooms.Need.{Need}
use Rattle.basinmug_columns.proofs.Sums.{Within, first-least, first-within, floors-same, kept-enough, kept-needed, kept-within, placed-at, shrunk-sum, sum-below}

-- ---- one column

order-one : (given c place w l : ℕ) → (min w l ≤ size_in_order given c place w l) × (size_in_order given c place w l ≤ w)
order-one given c place w l = (grind (arith, nat_tests), grind (arith, nat_tests))

level-one : (level c place w l : ℕ) → (min w l ≤ size_at_level level c place w l) × (size_at_level level c place w l ≤ w)
level-one level c place w l = (grind (arith, nat_tests), grind (arith, nat_tests))

turns-one : (turns c place w l : ℕ) → (min w l ≤ size_in_turns turns c place w l) × (size_in_turns turns c place w l ≤ w)
turns-one turns c place w l = (grind (arith, nat_tests), grind (arith, nat_tests))

-- ---- all columns

-- as many sizes, each between the least width and the width of its column
record Between (least widths sizes : List ℕ) : Type 0 where
  pub count : length sizes ≡ length widths
  pub each : StaysBetween least widths sizes

from-form : (f : ℕ → ℕ) (least widths sizes : List ℕ) → sizes ≡ map f (range_with_len 0 (length widths))
    → ((i : ℕ) → (min (get_or widths i 0) (get_or least i 0) ≤ f i) × (f i ≤ get_or widths i 0)) → Between least widths sizes
from-form f least widths sizes formed one = record {
  count = ap length formed ∙ length-map-range_with_len f 0 (length widths);
  each = λ i inside.
      let at : get_or sizes i 0 ≡ f i = ap (λ (xs : List ℕ). get_or xs i 0) formed ∙ at_column f (length widths) i inside in
      let bounds = one i in
      let low : min (get_or widths i 0) (get_or least i 0) ≤ f i = bounds.0 in
      let high : f i ≤ get_or widths i 0 = bounds.1 in
      (omega arith, omega arith);
}

order-all : (place : ℕ → ℕ) (least widths sizes : List ℕ) (total : ℕ) → IsOfForm (shrunk_in_order place least widths) total sizes → Between least widths sizes
order-all place least widths sizes total is =
    from-form (λ i. size_in_order is.number is.column (place i) (get_or widths i 0) (get_or least i 0)) least widths sizes is.formed
    (λ i. order-one is.number is.column (place i) (get_or widths i 0) (get_or least i 0))

level-all : (place : ℕ → ℕ) (least widths sizes : List ℕ) (total : ℕ) → IsOfForm (shrunk_to_level place least widths) total sizes → Between least widths sizes
level-all place least widths sizes total is =
    from-form (λ i. size_at_level is.number is.column (place i) (get_or widths i 0) (get_or least i 0)) least widths sizes is.formed
    (λ i. level-one is.number is.column (place i) (get_or widths i 0) (get_or least i 0))

turns-all : (place : ℕ → ℕ) (least widths sizes : List ℕ) (total : ℕ) → IsOfForm (shrunk_in_turns place least widths) total sizes → Between least widths sizes
turns-all place least widths sizes total is =
    from-form (λ i. size_in_turns is.number is.column (place i) (get_or widths i 0) (get_or least i 0)) least widths sizes is.formed
    (λ i. turns-one is.number is.column (place i) (get_or widths i 0) (get_or least i 0))

choice-all : (priority : Choice) (least : List ℕ) (by : ℕ) (widths sizes : List ℕ) → IsShrunkByChoice priority least by widths sizes → Between least widths sizes
choice-all None least by widths sizes is = turns-all (from_column 0 (length widths)) least widths sizes (shrunk_sum least widths by) is
choice-all MinLeft least by widths sizes is = order-all (by_width false widths) least widths sizes (shrunk_sum least widths by) is
choice-all MinRight least by widths sizes is = order-all (by_width true widths) least widths sizes (shrunk_sum least widths by) is
choice-all MaxLeft least by widths sizes is = level-all (from_side false (length widths)) least widths sizes (shrunk_sum least widths by) is
choice-all MaxRight least by widths sizes is = level-all (from_side true (length widths)) least widths sizes (shrunk_sum least widths by) is
choice-all Left least by widths sizes is = order-all (from_side false (length widths)) least widths sizes (shrunk_sum least widths by) is
choice-all Right least by widths sizes is = order-all (from_side true (length widths)) least widths sizes (shrunk_sum least widths by) is

-- ---- the two steps

module _ (priority : Choice) (needs : List Need) (by : ℕ) (widths rooms : List ℕ) (are : AreShrunkWidths priority needs by widths rooms) where
  abbrev kept : List ℕ
  kept = kept_rooms needs by widths

  abbrev first : List ℕ
  first = first_rooms needs kept widths

  within : Within widths kept
  within = kept-within needs by widths

  step-one : Between first widths are.first
  step-one = choice-all priority first by widths are.first are.numbers_stay

  step-two : Between kept are.first rooms
  step-two = choice-all priority kept (by - (sum widths - sum are.first)) are.first rooms are.all_give

  pub rooms-count : length rooms ≡ length widths
  rooms-count = step-two.count ∙ step-one.count

  -- the first step leaves each column what it keeps in any case
  one-bounds : (i : ℕ) → i < length widths → (get_or kept i 0 ≤ get_or are.first i 0) × (get_or are.first i 0 ≤ get_or widths i 0)
  one-bounds i inside =
      let some = first-least needs kept widths within i inside in
      let above : get_or kept i 0 ≤ get_or first i 0 = some.0 in
      let below : get_or first i 0 ≤ get_or widths i 0 = some.1 in
      let bounds = step-one.each i inside in
      let low : min (get_or widths i 0) (get_or first i 0) ≤ get_or are.first i 0 = bounds.0 in
      (omega (arith, above, below, low), bounds.1)

  rooms-bounds : (i : ℕ) → i < length widths → (get_or kept i 0 ≤ get_or rooms i 0) × (get_or rooms i 0 ≤ get_or are.first i 0)
  rooms-bounds i inside =
      let left : get_or kept i 0 ≤ get_or are.first i 0 = (one-bounds i inside).0 in
      let bounds = step-two.each i (omega (arith, inside, step-one.count)) in
      let low : min (get_or are.first i 0) (get_or kept i 0) ≤ get_or rooms i 0 = bounds.0 in
      (omega (arith, left, low), bounds.1)

  pub rooms-kept : (i : ℕ) → i < length widths → get_or kept i 0 ≤ get_or rooms i 0
  rooms-kept i inside = (rooms-bounds i inside).0

  pub rooms-most : (i : ℕ) → i < length widths → get_or rooms i 0 ≤ get_or widths i 0
  rooms-most i inside =
      let one : get_or rooms i 0 ≤ get_or are.first i 0 = (rooms-bounds i inside).1 in
      let other : get_or are.first i 0 ≤ get_or widths i 0 = (one-bounds i inside).1 in
      omega (arith, one, other)

  -- ---- sums

  within-first : Within are.first kept
  within-first = record {
    count = within.count ∙ sym step-one.count;
    low = λ i below. (one-bounds i (omega (arith, below, step-one.count))).0;
  }

  sum-first : sum are.first ≡ max (sum widths - by) (sum first)
  sum-first =
      shrunk-sum priority first by widths are.first are.numbers_stay
      ∙ ap (λ (xs : List ℕ). max (sum widths - by) (sum xs)) (sym (floors-same widths first (first-within needs kept widths within)))

  first-below : sum first ≤ sum widths
  first-below = sum-below widths first (first-within needs kept widths within)

  kept-below : sum kept ≤ sum are.first
  kept-below = sum-below are.first kept within-first

  pub sum-rooms : sum rooms ≡ max (sum widths - by) (sum kept)
  sum-rooms =
      let is : sum rooms ≡ max (sum are.first - (by - (sum widths - sum are.first))) (sum kept) =
      shrunk-sum priority kept (by - (sum widths - sum are.first)) are.first rooms are.all_give
      ∙ ap (λ (xs : List ℕ). max (sum are.first - (by - (sum widths - sum are.first))) (sum xs)) (sym (floors-same are.first kept within-first)) in
      omega (arith, is, sum-first, first-below, kept-below)

  -- ---- what is enough

  pub rooms-enough : by + sum (least_rooms one_column widths) ≤ sum widths → sum rooms ≡ sum widths - by
  rooms-enough enough = let some : by + sum kept ≤ sum widths = kept-enough needs by widths enough in omega (arith, sum-rooms, some)

  pub rooms-needed : by + sum (needed_rooms needs widths) ≤ sum widths → (i : ℕ) → i < length widths → get_or (needed_rooms needs widths) i 0 ≤ get_or rooms i 0
  rooms-needed enough i inside =
      let same : get_or kept i 0 ≡ get_or (needed_rooms needs widths) i 0 = ap (λ (xs : List ℕ). get_or xs i 0) (kept-needed needs by widths enough) in
      let least : get_or kept i 0 ≤ get_or rooms i 0 = rooms-kept i inside in
      omega (arith, same, least)

  -- ---- columns of numbers

  pub numbers-whole : by + sum first ≤ sum widths → (i : ℕ) → i < length widths → (need_at needs i).is_numeric ≡ true → get_or rooms i 0 ≡ get_or widths i 0
  numbers-whole enough i inside number =
      let sums : sum rooms ≡ sum are.first = omega (arith, sum-rooms, sum-first, kept-below, enough) in
      let same : rooms ≡ are.first = sum-same rooms are.first step-two.count
      (λ j below. (rooms-bounds j (omega (arith, below, rooms-count))).1) sums in
      let room : get_or first i 0 ≡ get_or widths i 0 =
      placed-at (first_room needs kept) widths i inside ∙ ap (λ (b : Bool). if b then get_or widths i 0 else get_or kept i 0) number in
      let bounds = step-one.each i inside in
      let low : min (get_or widths i 0) (get_or first i 0) ≤ get_or are.first i 0 = bounds.0 in
      let high : get_or are.first i 0 ≤ get_or widths i 0 = bounds.1 in
      let here : get_or rooms i 0 ≡ get_or are.first i 0 = ap (λ (xs : List ℕ). get_or xs i 0) same in
      omega (arith, room, low, high, here)
