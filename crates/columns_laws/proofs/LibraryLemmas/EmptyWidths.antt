-- Columns without texts are as wide as the paddings beside a text.
use Rattle.std.proofs.Common.{◌≡◌, ◌+◌, ◌<◌, ◌≤◌, ℕ, zero, suc, true, List, [], get_or, length, map, replicate, refl, ap, sym, ◌∙◌, arith}
use Rattle.std.specs.List.{range_with_len}
use Rattle.std.proofs.lemmas.List.{length-replicate}
use Rattle.grid_config.specs.Compact.{Compact}
use Rattle.grid_config.specs.Looks.{compact_look}
use Rattle.grid_config_values.specs.Spans.Spans.{extent_at}
use Rattle.grid_records_estimate.proofs.Lengths.{length-evened}
use Rattle.grid_records_estimate.specs.Estimates.{TrackNeeds, greatest}
use Rattle.grid_records_estimate.specs.Sizes.{table_widths}
use Rattle.grid_records_estimate.specs.Sizing.{column_needs, compact_sizing, position_at}
use Rattle.grid_records_measure.specs.TextLines.{text_width}
use Rattle.grid_records_traits.specs.Rows.{evened}
use Rattle.tabled_width.specs.WholeTables.Rooms.{empty_widths}
use Rattle.columns_asked.specs.DrawnTables.{longest_row_length, paddings}
use Rattle.columns_asked.proofs.Narrows.{map-below}
use Rattle.columns_table.proofs.Leasts.{map-from, single-sizes}
use Rattle.columns_laws.proofs.BoundsLemmas.CellBounds.{nothing-measures}
use Rattle.columns_laws.proofs.LibraryLemmas.FilledRows.{texts-same}
use Rattle.columns_laws.proofs.LibraryLemmas.SameSizes.{widths-same}

-- ---- rows of empty texts

none-there : (n j : ℕ) → get_or (replicate n (let none : List ℕ = [] in none)) j [] ≡ []
none-there zero zero = refl
none-there zero (suc j) = refl
none-there (suc n) zero = refl
none-there (suc n) (suc j) = none-there n j

nothing-at : (m n i j : ℕ) → get_or (get_or (replicate m (replicate n (let none : List ℕ = [] in none))) i []) j [] ≡ []
nothing-at zero n zero j = none-there 0 j
nothing-at zero n (suc i) j = none-there 0 j
nothing-at (suc m) n zero j = none-there n j
nothing-at (suc m) n (suc i) j = nothing-at m n i j

few : (m n : ℕ) → longest_row_length (replicate m (replicate n (let none : List ℕ = [] in none))) ≤ n
few zero n = omega arith
few (suc m) n = let here = length-replicate n (let none : List ℕ = [] in none) in omega (arith, here, few m n)

-- ---- the greatest of the same

greatest-same : (f : ℕ → ℕ) (p a n : ℕ) → 0 < n → ((k : ℕ) → f k ≡ p) → greatest (map f (range_with_len a n)) ≡ p
greatest-same f p a zero some each = absurd (omega (arith, some))
greatest-same f p a (suc zero) some each = omega (arith, each a)
greatest-same f p a (suc (suc n)) some each = omega (arith, each a, greatest-same f p (a + 1) (suc n) (omega arith) each)

module _ (style : Compact) (n m : ℕ) (some : 0 < m) where
  abbrev empties : List (List (List ℕ))
  empties = replicate m (replicate n [])

  abbrev table : TrackNeeds
  table = column_needs (compact_sizing style) n (evened n empties)

  cross_tracks : length (evened n empties) ≡ m
  cross_tracks = length-evened n empties ∙ length-replicate m (replicate n (let none : List ℕ = [] in none))

  need-is : (column row : ℕ) → table.need column row ≡ paddings style
  need-is column row =
      let empty = ap text_width (texts-same n empties (few m n) (position_at row column) ∙ nothing-at m n row column) ∙ nothing-measures in
      omega (arith, empty)

  column-is : (column : ℕ) → greatest (map (table.need column) (range_with_len 0 (length (evened n empties)))) ≡ paddings style
  column-is column = greatest-same (table.need column) (paddings style) 0 (length (evened n empties)) (omega (arith, cross_tracks, some)) (need-is column)

  seen : (column row : ℕ) → table.is_visible column row ≡ true
  seen column row = refl

  one : (column row : ℕ) → table.span column row ≡ 1
  unfolding extent_at
  one column row = refl

  pub empty-is : (natural : List ℕ) → length natural ≡ n → empty_widths (compact_look style) n m ≡ map (λ _. paddings style) natural
  unfolding table_widths
  empty-is natural long =
      widths-same style n empties
      ∙ single-sizes table seen one (omega (arith, cross_tracks, some))
      ∙ map-below _ (λ _. paddings style) 0 n (λ column low high. column-is column)
      ∙ ap (λ k. map (λ _. paddings style) (range_with_len 0 k)) (sym long)
      ∙ map-from (λ _. paddings style) (λ _. paddings style) 0 natural 0 (λ k below. refl)
