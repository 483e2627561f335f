-- What is in a table that is printed, and when its sizes pass the range.
use Rattle.std.proofs.Common.{◌≡◌, ◌<◌, ◌≤◌, ◌+◌, ◌^◌, ◌==◌, ◌||◌, ◌⊎◌, inl, inr, ℕ, zero, suc, false, List, Option, None, Some, if◌then◌else◌, length, map, get_or, ap, subst, refl, ◌∙◌, arith}
use Rattle.std.proofs.lemmas.Bool.Decides.{nat_tests}
use Rattle.std.proofs.lemmas.List.{take-map}
use Rattle.std.proofs.lemmas.List.FromFn.{get_or-map-range_with_len, length-map-range_with_len}
use Rattle.grid_config.specs.Looks.{Look}
use Rattle.papergrid_picture.proofs.Frames.{boundary-bounded, boundary-next}
use Rattle.papergrid_picture.specs.Fitting.{InRange, table_width}
use Rattle.papergrid_picture.specs.Frame.{Frame, Tracks, column_count as columns_in, frame_of, full_line_width, line_count, row_count, track_at}
use Rattle.papergrid_picture.specs.Tables.{sizes_of}
use Rattle.tabled_compact.specs.Tables.{first_or_all}
use Rattle.tabled_compact.specs.Iter.Padded.{PassesRange, listed_count}
use Rattle.tabled_size.specs.Dimension.Sizes.{GivenSizes, given_size}

pub kept-map : {X Y : Type 0} (f : X → Y) (kept : Option ℕ) (xs : List X) → first_or_all kept (map f xs) ≡ map f (first_or_all kept xs)
kept-map f None xs = refl
kept-map f (Some count) xs = take-map f count xs

-- tracks of which one passes the range pass it together
track_passes : (tracks : Tracks) (t : ℕ) → t < length tracks.sizes → 2 ^ 64 ≤ get_or tracks.sizes t 0 → 2 ^ 64 ≤ track_at tracks (length tracks.sizes)
track_passes tracks t inside passes = omega (arith, boundary-next tracks t inside, boundary-bounded tracks (t + 1) (omega arith))

-- one of the sizes of a table passes, where it has some, and the one after its list is not greater than the first
pub one_passes : (sizes : GivenSizes) (more count : ℕ) → 0 < count → listed_count sizes ≤ count → given_size sizes count ≤ given_size sizes 0 → PassesRange more sizes → (t : ℕ) × (t < count) × (2 ^ 64 ≤ given_size sizes t + more)
one_passes sizes more count some few least passes =
    let k : ℕ = passes.0 in
    let below : k ≤ count = omega (arith, passes.1, few) in
    elim (le-split k count below) as (λ _. (t : ℕ) × (t < count) × (2 ^ 64 ≤ given_size sizes t + more)) [
      | inl less ↦ (k, less, passes.2)
      | inr same ↦ (
        0,
        some,
        let at : 2 ^ 64 ≤ given_size sizes count + more = subst (λ n. 2 ^ 64 ≤ given_size sizes n + more) same passes.2 in omega (arith, at, least),
      )
    ]
  where
    le-split : (a b : ℕ) → a ≤ b → (a < b) ⊎ (a ≡ b)
    le-split zero zero le = inr refl
    le-split zero (suc b) le = inl (omega arith)
    le-split (suc a) zero le = absurd (omega (arith, le))
    le-split (suc a) (suc b) le =
        let smaller : a ≤ b = omega (arith, le) in
        elim (le-split a b smaller) as (λ _. (suc a < suc b) ⊎ (suc a ≡ suc b)) [
          | inl less ↦ inl (omega (arith, less))
          | inr same ↦ inr (ap suc same)
        ]

module _ (look : Look) (width height : ℕ → ℕ) (columns rows : ℕ) (some_columns : 0 < columns) (some_rows : 0 < rows) where
  abbrev sized : Frame
  sized = frame_of look (sizes_of width columns) (sizes_of height rows)

  columns-are : columns_in sized ≡ columns
  columns-are = length-map-range_with_len width 0 columns

  rows-are : row_count sized ≡ rows
  rows-are = length-map-range_with_len height 0 rows

  wide-is : table_width sized ≡ full_line_width sized
  wide-is =
      let no_rows : (row_count sized == 0) ≡ false = grind (arith, nat_tests, rows-are, some_rows) in
      let no_columns : (columns_in sized == 0) ≡ false = grind (arith, nat_tests, columns-are, some_columns) in
      ap (λ b. if b || (columns_in sized == 0) then 0 else full_line_width sized) no_rows ∙ ap (λ b. if b then 0 else full_line_width sized) no_columns

  high-is : line_count sized ≡ track_at sized.rows (row_count sized) + look.margin.bottom.size
  high-is =
      let no_rows : (row_count sized == 0) ≡ false = grind (arith, nat_tests, rows-are, some_rows) in
      let no_columns : (columns_in sized == 0) ≡ false = grind (arith, nat_tests, columns-are, some_columns) in
      let whole : ℕ = track_at sized.rows (row_count sized) + look.margin.bottom.size in
      ap (λ b. if b then 0 else if columns_in sized == 0 then 0 else whole) no_rows ∙ ap (λ b. if b then 0 else whole) no_columns

  pub wide_passes : (t : ℕ) → t < columns → 2 ^ 64 ≤ width t → ¬ (InRange sized)
  wide_passes t below passes range =
      let size : get_or sized.columns.sizes t 0 ≡ width t = get_or-map-range_with_len width 0 columns t t 0 below (omega arith) in
      let passed : 2 ^ 64 ≤ track_at sized.columns (length sized.columns.sizes) = track_passes sized.columns t (omega (arith, columns-are, below)) (omega (arith, size, passes)) in
      omega (arith, range.0, wide-is, passed)

  pub high_passes : (t : ℕ) → t < rows → 2 ^ 64 ≤ height t → ¬ (InRange sized)
  high_passes t below passes range =
      let size : get_or sized.rows.sizes t 0 ≡ height t = get_or-map-range_with_len height 0 rows t t 0 below (omega arith) in
      let passed : 2 ^ 64 ≤ track_at sized.rows (length sized.rows.sizes) = track_passes sized.rows t (omega (arith, rows-are, below)) (omega (arith, size, passes)) in
      omega (arith, range.1, high-is, passed)
