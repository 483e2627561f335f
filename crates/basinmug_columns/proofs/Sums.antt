-- What widths sum to, and how many there are.
use Rattle.std.proofs.Common.{◌≡◌, ◌≤◌, ◌<◌, ◌+◌, ◌-◌, ◌∙◌, ap, refl, ℕ, zero, suc, Bool, true, false, List, [], ◌∷◌, get_or, length, map, max, min, sum, arith, if◌then◌else◌}
use Rattle.std.specs.List.{enumerate_from}
use Rattle.std.proofs.lemmas.Bool.Decides.{nat_tests}
use Rattle.std.proofs.lemmas.List.{get_or-map, length-map}
use Rattle.std.proofs.lemmas.List.FromFn.{get_or-enumerate_from, length-enumerate_from}
use Rattle.tabled_size_priority.specs.Choices.{IsShrunkByChoice}
use Rattle.tabled_size_priority.specs.Laws.Lists.{from_columns}
use Rattle.tabled_size_priority.specs.Laws.Runs.{floors-gaps}
use Rattle.tabled_size_priority.specs.Shrinking.{floor_of, floors, shrunk_sum}
use Rattle.tabled_size_priority.specs.declared.choice.Choice.{Choice}
use Rattle.tabled_size_priority.specs.declared.choice.Choice.TheVariants.{None, MinLeft, MinRight, MaxLeft, MaxRight, Left, Right}
use Rattle.basinmug_columns.specs.Rooms.{can_give, first_room, first_rooms, kept_rooms, least_rooms, narrow_room, need_at, needed_room, needed_rooms, one_column, two_columns}
use Rattle.basinmug_columns.specs.declared.rooms.Need.{Need}

pub shrunk-sum : (priority : Choice) (least : List ℕ) (by : ℕ) (widths sizes : List ℕ) → IsShrunkByChoice priority least by widths sizes → sum sizes ≡ shrunk_sum least widths by
shrunk-sum None least by widths sizes is = is.sums
shrunk-sum MinLeft least by widths sizes is = is.sums
shrunk-sum MinRight least by widths sizes is = is.sums
shrunk-sum MaxLeft least by widths sizes is = is.sums
shrunk-sum MaxRight least by widths sizes is = is.sums
shrunk-sum Left least by widths sizes is = is.sums
shrunk-sum Right least by widths sizes is = is.sums

-- widths that are shrunk are no more together
pub shrunk-below : (priority : Choice) (least : List ℕ) (by : ℕ) (widths sizes : List ℕ) → IsShrunkByChoice priority least by widths sizes → sum sizes ≤ sum widths
shrunk-below priority least by widths sizes is =
    let left : sum sizes ≡ max (sum widths - by) (sum (floors least widths)) = shrunk-sum priority least by widths sizes is in
    omega (arith, left, floors-gaps least widths)

-- ---- widths by the numbers of their columns

module _ (room : ℕ → ℕ → ℕ) (widths : List ℕ) where
  abbrev pub placed_rooms : List ℕ
  placed_rooms = map (λ (placed : ℕ × ℕ). room placed.0 placed.1) (enumerate_from 0 widths)

  pub placed-length : length placed_rooms ≡ length widths
  placed-length = length-map (enumerate_from 0 widths) (λ (placed : ℕ × ℕ). room placed.0 placed.1) ∙ length-enumerate_from 0 widths

  pub placed-at : (i : ℕ) → i < length widths → get_or placed_rooms i 0 ≡ room i (get_or widths i 0)
  placed-at i inside =
      let of : ℕ × ℕ → ℕ = λ placed. room placed.0 placed.1 in
      let numbered : i < length (enumerate_from 0 widths) = omega (arith, length-enumerate_from 0 widths, inside) in
      let same : 0 + i ≡ i = omega arith in
      get_or-map of (enumerate_from 0 widths) i (0, 0) 0 numbered ∙ ap of (get_or-enumerate_from 0 widths i (0, 0) inside) ∙ ap (λ (k : ℕ). room k (get_or widths i 0)) same

least_room-at : (room : ℕ) (widths : List ℕ) (i : ℕ) → get_or (least_rooms room widths) i 0 ≡ min (get_or widths i 0) room
least_room-at room [] i = let none : 0 ≡ min 0 room = omega arith in none
least_room-at room (w ∷ ws) zero = refl
least_room-at room (w ∷ ws) (suc i) = least_room-at room ws i

-- ---- widths that columns keep, none of which is more than the width

pub record Within (widths kept : List ℕ) : Type 0 where
  pub count : length kept ≡ length widths
  pub low : (i : ℕ) → i < length widths → get_or kept i 0 ≤ get_or widths i 0

pub least-within : (room : ℕ) (widths : List ℕ) → Within widths (least_rooms room widths)
least-within room widths = record {
  count = length-map widths (λ width. min width room);
  low = λ i inside. let at = least_room-at room widths i in omega (arith, at);
}

pub needed-within : (needs : List Need) (widths : List ℕ) → Within widths (needed_rooms needs widths)
needed-within needs widths = record {
  count = placed-length (needed_room needs) widths;
  low = λ i inside.
      let at : get_or (needed_rooms needs widths) i 0 ≡ min (get_or widths i 0) (need_at needs i).width = placed-at (needed_room needs) widths i inside in
      omega (arith, at);
}

pub kept-within : (needs : List Need) (by : ℕ) (widths : List ℕ) → Within widths (kept_rooms needs by widths)
kept-within needs by widths = either (can_give by widths (needed_rooms needs widths))
  where
    either : (b : Bool) → Within widths (if b then needed_rooms needs widths else least_rooms (narrow_room by widths) widths)
    either true = needed-within needs widths
    either false = least-within (narrow_room by widths) widths

first-bounds : (b : Bool) (width kept : ℕ) → kept ≤ width → (kept ≤ (if b then width else kept)) × ((if b then width else kept) ≤ width)
first-bounds true width kept low = (low, omega arith)
first-bounds false width kept low = (omega arith, low)

-- while others can give, a column keeps no less than in any case
module _ (needs : List Need) (kept widths : List ℕ) (within : Within widths kept) where
  pub first-least : (i : ℕ) → i < length widths → (get_or kept i 0 ≤ get_or (first_rooms needs kept widths) i 0) × (get_or (first_rooms needs kept widths) i 0 ≤ get_or widths i 0)
  first-least i inside =
      let at : get_or (first_rooms needs kept widths) i 0 ≡ first_room needs kept i (get_or widths i 0) = placed-at (first_room needs kept) widths i inside in
      let bounds = first-bounds (need_at needs i).is_numeric (get_or widths i 0) (get_or kept i 0) (within.low i inside) in
      let above : get_or kept i 0 ≤ first_room needs kept i (get_or widths i 0) = bounds.0 in
      let below : first_room needs kept i (get_or widths i 0) ≤ get_or widths i 0 = bounds.1 in
      (omega (arith, at, above), omega (arith, at, below))

  pub first-within : Within widths (first_rooms needs kept widths)
  first-within = record { count = placed-length (first_room needs kept) widths; low = λ i inside. (first-least i inside).1 }

-- ---- their sums

-- they are the floors of the widths
pub floors-same : (widths kept : List ℕ) → Within widths kept → kept ≡ floors kept widths
floors-same widths kept within =
    from_columns (floor_of kept widths) (length widths) kept within.count
    (λ i below. let low = within.low i below in let it : get_or kept i 0 ≡ min (get_or widths i 0) (get_or kept i 0) = omega arith in it)

pub sum-below : (widths kept : List ℕ) → Within widths kept → sum kept ≤ sum widths
sum-below widths kept within =
    let parts = floors-gaps kept widths in
    let same : sum kept ≡ sum (floors kept widths) = ap sum (floors-same widths kept within) in
    omega (arith, parts, same)

-- where one column of text is little enough for all, so is what they keep
module _ (needs : List Need) (by : ℕ) (widths : List ℕ) (enough : by + sum (least_rooms one_column widths) ≤ sum widths) where
  one-or-two : (two one : Bool) → can_give by widths (least_rooms two_columns widths) ≡ two → can_give by widths (least_rooms one_column widths) ≡ one
      → by + sum (least_rooms (if two then two_columns else if one then one_column else two_columns) widths) ≤ sum widths
  one-or-two true one is other = grind (arith, nat_tests, is)
  one-or-two false true is other = enough
  one-or-two false false is other = absurd (grind (arith, nat_tests, other, enough))

  needed-or-less : (b : Bool) → can_give by widths (needed_rooms needs widths) ≡ b
      → by + sum (if b then needed_rooms needs widths else least_rooms (narrow_room by widths) widths) ≤ sum widths
  needed-or-less true is = grind (arith, nat_tests, is)
  needed-or-less false is = one-or-two (can_give by widths (least_rooms two_columns widths)) (can_give by widths (least_rooms one_column widths)) refl refl

  pub kept-enough : by + sum (kept_rooms needs by widths) ≤ sum widths
  kept-enough = needed-or-less (can_give by widths (needed_rooms needs widths)) refl

-- where all can have what they need, they keep it
pub kept-needed : (needs : List Need) (by : ℕ) (widths : List ℕ) → by + sum (needed_rooms needs widths) ≤ sum widths → kept_rooms needs by widths ≡ needed_rooms needs widths
kept-needed needs by widths enough =
    let can : can_give by widths (needed_rooms needs widths) ≡ true = grind (arith, nat_tests, enough) in
    ap (λ (b : Bool). if b then needed_rooms needs widths else least_rooms (narrow_room by widths) widths) can
