-- An estimate has a size for each track.
use Rattle.std.proofs.Common.{◌≡◌, ◌==◌, ℕ, suc, ◌+◌, ◌/◌, ◌<◌, Bool, false, List, [], ◌∷◌, ◌++◌, if◌then◌else◌, length, map, take, drop, refl, ap, sym, ◌∙◌, arith, length-append}
use Rattle.std.specs.List.{fold, range_with_len}
use Rattle.std.proofs.lemmas.Bool.Decides.{nat_tests}
use Rattle.std.proofs.lemmas.List.{length-map, take-append-drop}
use Rattle.std.proofs.lemmas.List.FromFn.{length-map-range_with_len}
use Rattle.grid_records_traits.specs.Rows.{evened, evened_row}
use Rattle.grid_records_estimate.specs.Estimates.{TrackNeeds, least_size, meet, met, spanning_needs, track_sizes, with_shares}
use Rattle.grid_records_estimate.specs.Sizes.{table_heights, table_widths}
use Rattle.grid_records_estimate.specs.Sizing.{TableSizing, column_needs, row_needs}
use Rattle.grid_records_estimate.specs.declared.need.Need.{Need}

length-with_shares : (n : ℕ) (sizes : List ℕ) → length (with_shares n sizes) ≡ length sizes
length-with_shares n [] = refl
length-with_shares n (size ∷ sizes) = ap suc (length-map sizes (λ other. other + n / length (size ∷ sizes)))

length-parts : (n : ℕ) (xs : List ℕ) → length (take n xs) + length (drop n xs) ≡ length xs
length-parts n xs = sym (length-append (take n xs) (drop n xs)) ∙ ap length (take-append-drop n xs)

length-meet : (has : ℕ → Bool) (sizes : List ℕ) (need : Need) → length (meet has sizes need) ≡ length sizes
length-meet has sizes need =
    let rest = drop need.first sizes in
    let shared = met has need (take need.length rest) in
    let same : length shared ≡ length (take need.length rest) = length-with_shares _ (take need.length rest) in
    omega (arith, length-append (take need.first sizes) (shared ++ drop need.length rest), length-append shared (drop need.length rest), same, length-parts need.first sizes, length-parts need.length rest)

length-all_met : (has : ℕ → Bool) (sizes : List ℕ) (needs : List Need) → length (fold (meet has) sizes needs) ≡ length sizes
length-all_met has sizes [] = refl
length-all_met has sizes (need ∷ needs) = length-all_met has (meet has sizes need) needs ∙ length-meet has sizes need

length-track_sizes : (table : TrackNeeds) → 0 < table.cross_tracks → length (track_sizes table) ≡ table.tracks
unfolding track_sizes
length-track_sizes table some =
    let sizes : List ℕ = map (least_size table) (range_with_len 0 table.tracks) in
    let crossed : (table.cross_tracks == 0) ≡ false = grind (arith, nat_tests, some) in
    ap (λ b. length (if b then [] else fold (meet table.has_boundary) sizes (spanning_needs table))) crossed
    ∙ length-all_met table.has_boundary sizes (spanning_needs table) ∙ length-map-range_with_len (least_size table) 0 table.tracks

pub length-evened : (columns : ℕ) (rows : List (List (List ℕ))) → length (evened columns rows) ≡ length rows
length-evened columns rows = length-map rows (evened_row columns)

pub length-table_widths : (sizing : TableSizing) (columns : ℕ) (rows : List (List (List ℕ))) → 0 < length rows → length (table_widths sizing columns rows) ≡ columns
unfolding table_widths
length-table_widths sizing columns rows some =
    let crossed : 0 < length (evened columns rows) = omega (arith, some, length-evened columns rows) in
    length-track_sizes (column_needs sizing columns (evened columns rows)) crossed

pub length-table_heights : (sizing : TableSizing) (columns : ℕ) (rows : List (List (List ℕ))) → 0 < columns → length (table_heights sizing columns rows) ≡ length rows
unfolding table_heights
length-table_heights sizing columns rows some = length-track_sizes (row_needs sizing columns (evened columns rows)) some ∙ length-evened columns rows
