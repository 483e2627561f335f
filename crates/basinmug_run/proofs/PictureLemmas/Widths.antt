-- The columns of a table take no more than the table, and no column of a table in range passes it.
use Rattle.std.proofs.Common.{◌≡◌, ◌∙◌, ◌⊎◌, ◌==◌, ◌||◌, ap, inl, inr, refl, sym, ℕ, zero, suc, ◌<◌, ◌≤◌, ◌+◌, ◌^◌, Bool, true, false, List, [], ◌∷◌, length, slice_index, sum, arith, cond}
use Rattle.std.proofs.Math.Seq.{take-length}
use Rattle.std.proofs.lemmas.Bool.Decides.{nat_tests}
use Rattle.std.proofs.lemmas.List.Sums.{sum_by-cons}
use Rattle.std.proofs.lemmas.List.FromFn.{length-map-range_with_len}
use Rattle.grid_config_values.specs.declared.fault.Fault.{Fault}
use Rattle.grid_config_values.specs.declared.fault.Fault.TheVariants.{Memory}
use Rattle.grid_records_estimate.specs.Sizes.{IsRefusal}
use Rattle.papergrid_picture.specs.Tables.{sizes_of}
use Rattle.grid_records_estimate.specs.Collecting.{PassesMax}
use Rattle.papergrid_picture.specs.Fitting.{InRange}
use Rattle.papergrid_picture.specs.Frame.{Frame, full_line_width}
use Rattle.tabled_steps.specs.States.{State, column_count}
use Rattle.tabled.specs.Printing.{drawn_frame, drawn_heights, drawn_widths}
use Rattle.tabled.specs.Totals.{drawn_width}

total-below : (frame : Frame) → sum frame.columns.sizes ≤ full_line_width frame
total-below frame = omega (arith, ap sum (take-length frame.columns.sizes))

where-some : (b : Bool) (part whole : ℕ) → part ≤ whole → 0 < cond b 0 whole → part ≤ cond b 0 whole
where-some true part whole less some = absurd (omega (arith, some))
where-some false part whole less some = less

pub widths-below : (s : State) → 0 < drawn_width s → sum (drawn_widths s) ≤ drawn_width s
widths-below s some = where-some _ (sum (drawn_widths s)) (full_line_width (drawn_frame s)) (total-below (drawn_frame s)) some

each-below : (xs : List ℕ) (i : ℕ) → slice_index xs i ≤ sum xs
each-below [] i = omega arith
each-below (x ∷ xs) zero =
    let all : sum (x ∷ xs) ≡ x + sum xs = sum_by-cons (λ n. n) x xs in
    let first : x ≤ sum (x ∷ xs) = omega (arith, all) in
    first
each-below (x ∷ xs) (suc i) =
    let all : sum (x ∷ xs) ≡ x + sum xs = sum_by-cons (λ n. n) x xs in
    let rest : slice_index xs i ≤ sum xs = each-below xs i in
    let more : slice_index xs i ≤ sum (x ∷ xs) = omega (arith, all, rest) in
    more

no-rows : (rows : List (List (List ℕ))) → length rows ≡ 0 → column_count rows ≡ 0
no-rows [] none = refl
no-rows (row ∷ rows) none = absurd (omega (arith, none))

either-none : (a b : ℕ) → (a == 0 || b == 0) ≡ true → (a ≡ 0) ⊎ (b ≡ 0)
either-none zero b some = inl refl
either-none (suc a) zero some = inr refl
either-none (suc a) (suc b) some =
    let neither : (suc a == 0 || suc b == 0) ≡ false = grind (arith, nat_tests) in
    let it : false ≡ true = sym neither ∙ some in
    cc it

sized : (b : Bool) (part whole most : ℕ) → (b ≡ true → part ≡ 0) → part ≤ whole → cond b 0 whole < most → part < most
sized true part whole most none less in_range = omega (arith, none refl, in_range)
sized false part whole most none less in_range = omega (arith, less, in_range)

sum-none : (xs : List ℕ) → length xs ≡ 0 → sum xs ≡ 0
sum-none [] none = refl
sum-none (x ∷ xs) none = absurd (omega (arith, none))

-- a table without rows or columns has no widths
no-cells : (rows : List (List (List ℕ))) (heights widths : List ℕ) → length heights ≡ length rows → length widths ≡ column_count rows → (length heights == 0 || length widths == 0) ≡ true → sum widths ≡ 0
no-cells rows heights widths all_rows all_columns none =
    elim (either-none (length heights) (length widths) none) as (λ _. sum widths ≡ 0) [
      | inl no_heights ↦ sum-none widths (all_columns ∙ no-rows rows (sym all_rows ∙ no_heights))
      | inr no_widths ↦ sum-none widths no_widths
    ]

length-sizes : (size : ℕ → ℕ) (n : ℕ) → length (sizes_of size n) ≡ n
length-sizes size n = length-map-range_with_len size 0 n

no-width-passes : (s : State) → InRange (drawn_frame s) → ¬ (PassesMax (drawn_widths s))
no-width-passes s in_range (track, past) =
    let below : sum (drawn_widths s) < 2 ^ 64 = sized _ (sum (drawn_widths s)) (full_line_width (drawn_frame s)) (2 ^ 64) (no-cells s.rows (drawn_heights s) (drawn_widths s) (length-sizes _ (length s.rows)) (length-sizes _ (column_count s.rows))) (total-below (drawn_frame s)) in_range.0 in
    omega (arith, below, past, each-below (drawn_widths s) track)

-- an error of the widths of a table in range is a lack of memory
pub only-memory : (s : State) (fault : Fault) → InRange (drawn_frame s) → IsRefusal fault (PassesMax (drawn_widths s)) → fault ≡ Memory
only-memory s fault in_range (inl is) = is
only-memory s fault in_range (inr (is, past)) = absurd (no-width-passes s in_range past)
