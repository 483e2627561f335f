-- Widths that are shrunk in place are those of the narrower table.
use Rattle.std.proofs.Common.{◌≡◌, ◌-◌, ◌<◌, ◌≤◌, ◌+◌, ℕ, zero, suc, Bool, true, false, List, [], ◌∷◌, ◌++◌, None, Some, length, map, max, sum, take, drop, get_or, slice_index, replicate, nat_le, refl, ap, sym, ◌∙◌, arith, if◌then◌else◌}
use Rattle.std.specs.List.{range_with_len}
use Rattle.std.proofs.Math.Seq.{take-append_seam}
use Rattle.std.proofs.lemmas.Bool.Decides.{nat_tests}
use Rattle.std.proofs.lemmas.List.{length-map}
use Rattle.std.proofs.lemmas.List.FromFn.{length-map-range_with_len}
use Rattle.grid_config.specs.Compact.{Compact}
use Rattle.papergrid_picture.proofs.ByNumber.{by_number}
use Rattle.tabled_size_priority.specs.Choices.{IsShrunkByChoice}
use Rattle.tabled_size_priority.specs.Columns.{by_width, from_column, from_side}
use Rattle.tabled_size_priority.specs.Shrinking.{IsOfForm, size_at_level, floor_of, floors, size_in_order, size_in_turns, shrunk_in_order, shrunk_in_turns, shrunk_sum, shrunk_to_level}
use Rattle.tabled_size_priority.specs.declared.choice.Choice.{Choice}
use Rattle.tabled_size_priority.specs.declared.choice.Choice.TheVariants.{None as InTurns, MinLeft, MinRight, MaxLeft, MaxRight, Left, Right}
use Rattle.columns_asked.specs.WidthLimits.{WidthLimit}
use Rattle.columns_asked.specs.DrawnTables.{narrow, paddings}
use Rattle.columns_asked.specs.Shrunk.{shrunk_list}
use Rattle.columns_asked.proofs.Shrunk.{shrunk_list-meets, shrunk_list-one}

-- ---- as many widths

module _ (place : ℕ → ℕ) (least widths sizes : List ℕ) (total : ℕ) where
  order-length : IsOfForm (shrunk_in_order place least widths) total sizes → length sizes ≡ length widths
  order-length is =
      ap length is.formed ∙ length-map-range_with_len (λ i. size_in_order is.number is.column (place i) (get_or widths i 0) (get_or least i 0)) 0 (length widths)

  level-length : IsOfForm (shrunk_to_level place least widths) total sizes → length sizes ≡ length widths
  level-length is =
      ap length is.formed ∙ length-map-range_with_len (λ i. size_at_level is.number is.column (place i) (get_or widths i 0) (get_or least i 0)) 0 (length widths)

  turns-length : IsOfForm (shrunk_in_turns place least widths) total sizes → length sizes ≡ length widths
  turns-length is =
      ap length is.formed ∙ length-map-range_with_len (λ i. size_in_turns is.number is.column (place i) (get_or widths i 0) (get_or least i 0)) 0 (length widths)

pub shrunk-length : (priority : Choice) (least : List ℕ) (by : ℕ) (widths sizes : List ℕ) → IsShrunkByChoice priority least by widths sizes → length sizes ≡ length widths
shrunk-length InTurns least by widths sizes is = turns-length (from_column 0 (length widths)) least widths sizes _ is
shrunk-length MinLeft least by widths sizes is = order-length (by_width false widths) least widths sizes _ is
shrunk-length MinRight least by widths sizes is = order-length (by_width true widths) least widths sizes _ is
shrunk-length MaxLeft least by widths sizes is = level-length (from_side false (length widths)) least widths sizes _ is
shrunk-length MaxRight least by widths sizes is = level-length (from_side true (length widths)) least widths sizes _ is
shrunk-length Left least by widths sizes is = order-length (from_side false (length widths)) least widths sizes _ is
shrunk-length Right least by widths sizes is = order-length (from_side true (length widths)) least widths sizes _ is

-- ---- the narrower widths

all-same : (n : ℕ) (widths : List ℕ) → replicate (length widths) n ≡ map (λ _. n) widths
all-same n [] = refl
all-same n (w ∷ widths) = ap (λ (rest : List ℕ). n ∷ rest) (all-same n widths)

wider : (total width : ℕ) → width < total → nat_le total width ≡ false
wider total width more = grind (arith, nat_tests)

fitting : (total width : ℕ) → total ≤ width → nat_le total width ≡ true
fitting total width less = grind (arith, nat_tests)

pub narrowed-some : (style : Compact) (asked : WidthLimit) (widths least old new items : List ℕ) (total beside width len : ℕ) → beside ≡ paddings style → asked.width ≡ Some width → width < total
    → items ≡ widths → old ≡ items → least ≡ replicate (length widths) beside → len ≡ length items → IsShrunkByChoice asked.priority least (total - width) old new
    → Some (take len (new ++ drop (length new) items)) ≡ narrow style asked widths total asked.width
narrowed-some style asked widths least old new items total beside width len is_beside is_width more items_are old_are least_are len_is shrunk =
    let same : old ≡ widths = old_are ∙ items_are in
    let size : len ≡ length new = len_is ∙ sym (shrunk-length asked.priority least (total - width) old new shrunk ∙ ap length old_are) in
    let taken : take len (new ++ drop (length new) items) ≡ new = ap (λ (n : ℕ). take n (new ++ drop (length new) items)) size ∙ take-append_seam new (drop (length new) items) in
    let leasts : least ≡ map (λ _. paddings style) widths = least_are ∙ ap (replicate (length widths)) is_beside ∙ all-same (paddings style) widths in
    let list : new ≡ shrunk_list asked.priority (map (λ _. paddings style) widths) (total - width) widths =
    shrunk_list-one asked.priority least (total - width) old new shrunk
    ∙ ap (λ (ls : List ℕ). shrunk_list asked.priority ls (total - width) old) leasts ∙ ap (shrunk_list asked.priority (map (λ _. paddings style) widths) (total - width)) same in
    ap (λ (sizes : List ℕ). Some sizes) (taken ∙ list)
    ∙ sym (ap (narrow style asked widths total) is_width
    ∙ ap (λ (test : Bool). if test then None else Some (shrunk_list asked.priority (map (λ _. paddings style) widths) (total - width) widths)) (wider total width more))

pub narrowed-none : (style : Compact) (asked : WidthLimit) (widths : List ℕ) (total width : ℕ) → asked.width ≡ Some width → total ≤ width → narrow style asked widths total asked.width ≡ None
narrowed-none style asked widths total width is_width less =
    ap (narrow style asked widths total) is_width
    ∙ ap (λ (test : Bool). if test then None else Some (shrunk_list asked.priority (map (λ _. paddings style) widths) (total - width) widths)) (fitting total width less)

-- ---- what the narrower widths sum to

pub map-below : {X : Type 0} (f g : ℕ → X) (a n : ℕ) → ((k : ℕ) → a ≤ k → k < a + n → f k ≡ g k) → map f (range_with_len a n) ≡ map g (range_with_len a n)
map-below f g a zero h = refl
map-below f g a (suc n) h =
    ap (λ x. x ∷ map f (range_with_len (a + 1) n)) (h a (omega arith) (omega arith))
    ∙ ap (λ xs. g a ∷ xs) (map-below f g (a + 1) n (λ k low high. h k (omega (arith, low)) (omega (arith, high))))

-- what a priority leaves sums to what it is to sum to, but to no less than the floors
shrunk-sum : (priority : Choice) (least : List ℕ) (by : ℕ) (widths sizes : List ℕ) → IsShrunkByChoice priority least by widths sizes → sum sizes ≡ shrunk_sum least widths by
shrunk-sum InTurns least by widths sizes is = is.sums
shrunk-sum MinLeft least by widths sizes is = is.sums
shrunk-sum MinRight least by widths sizes is = is.sums
shrunk-sum MaxLeft least by widths sizes is = is.sums
shrunk-sum MaxRight least by widths sizes is = is.sums
shrunk-sum Left least by widths sizes is = is.sums
shrunk-sum Right least by widths sizes is = is.sums

least-at : (p : ℕ) (widths : List ℕ) (k : ℕ) → get_or (map (λ _. p) widths) k 0 ≤ p
least-at p [] k = omega arith
least-at p (w ∷ widths) zero = omega arith
least-at p (w ∷ widths) (suc k) = least-at p widths k

-- where no width is below the least of all, the floors are the leasts
floors-least : (p : ℕ) (widths : List ℕ) → ((k : ℕ) → k < length widths → p ≤ slice_index widths k) → floors (map (λ _. p) widths) widths ≡ map (λ _. p) widths
floors-least p widths enough =
    let least : List ℕ = map (λ _. p) widths in
    map-below (floor_of least widths) (slice_index least) 0 (length widths) (λ k low high. let more = enough k (omega (arith, high)) in let less = least-at p widths k in omega (arith, more, less))
    ∙ by_number least (length widths) (length-map widths (λ _. p))

pub shrunk-leaves : (priority : Choice) (p by : ℕ) (widths : List ℕ) → ((k : ℕ) → k < length widths → p ≤ slice_index widths k)
    → sum (shrunk_list priority (map (λ _. p) widths) by widths) ≡ max (sum widths - by) (sum (map (λ _. p) widths))
shrunk-leaves priority p by widths enough =
    let least : List ℕ = map (λ _. p) widths in
    shrunk-sum priority least by widths (shrunk_list priority least by widths) (shrunk_list-meets priority least by widths)
    ∙ ap (λ (found : List ℕ). max (sum widths - by) (sum found)) (floors-least p widths enough)
