-- A text in given sizes is that of the table which keeps them.
use Rattle.std.proofs.Common.{◌≡◌, ◌+◌, ◌<◌, ℕ, suc, List, [], ◌∷◌, Option, Some, get_or, length, map, refl, ap, sym, ◌∙◌, arith}
use Rattle.std.specs.Prelude.{slice_index}
use Rattle.std.specs.List.{range_with_len}
use Rattle.grid_config.specs.Colors.{Color}
use Rattle.grid_config.specs.Looks.{Look}
use Rattle.grid_config_values.specs.declared.position.Position.{Position}
use Rattle.papergrid_picture.specs.Tables.{sizes_of, table_line, table_text}
use Rattle.tabled_size.specs.Dimension.Sizes.{given_size}
use Rattle.tabled_size.specs.Dimension.Stored.{stored_sizes}
use Rattle.tabled_steps.specs.States.{column_count}
use Rattle.tabled_list.specs.Stripping.Printing.{drawn_heights, drawn_widths, printed}
use Rattle.tabled_list.specs.Stripping.Totals.{drawn_line}
use Rattle.tables_laws.specs.Shown.ShownTables.{sized}

each-at : (size : ℕ → ℕ) (sizes : List ℕ) (a : ℕ) → ((k : ℕ) → k < length sizes → size (a + k) ≡ get_or sizes k 0) → map size (range_with_len a (length sizes)) ≡ sizes
each-at size [] a each = refl
each-at size (x ∷ xs) a each =
    let here : a + 0 ≡ a = omega arith in
    ap (λ y. y ∷ map size (range_with_len (a + 1) (length xs))) (ap size (sym here) ∙ each 0 (omega arith))
    ∙ ap (λ ys. x ∷ ys) (each-at size xs (a + 1) (λ k below. let step : a + 1 + k ≡ a + suc k = omega arith in ap size step ∙ each (suc k) (omega (arith, below))))

kept-sizes : (sizes : List ℕ) (n : ℕ) → length sizes ≡ n → sizes_of (given_size (stored_sizes (Some sizes))) n ≡ sizes
kept-sizes sizes n long =
    ap (λ count. map (slice_index sizes) (range_with_len 0 count)) (sym long)
    ∙ each-at (slice_index sizes) sizes 0 (λ k below. let here : 0 + k ≡ k = omega arith in ap (slice_index sizes) here)

module _ (look : Look) (rows : List (List (List ℕ))) (colors : Position → Option Color) (widths heights : List ℕ) (long : length widths ≡ column_count rows) (high : length heights ≡ length rows) where
  widths-kept : drawn_widths (sized look rows colors widths heights) ≡ widths
  widths-kept = kept-sizes widths (column_count rows) long

  heights-kept : drawn_heights (sized look rows colors widths heights) ≡ heights
  heights-kept = kept-sizes heights (length rows) high

  pub printed-sized : printed (sized look rows colors widths heights) ≡ table_text look rows colors widths heights
  printed-sized =
      ap (λ (w : List ℕ). table_text look rows colors w (drawn_heights (sized look rows colors widths heights))) widths-kept ∙ ap (λ (h : List ℕ). table_text look rows colors widths h) heights-kept

  pub line-sized : (y : ℕ) → drawn_line (sized look rows colors widths heights) y ≡ table_line look rows colors widths heights y
  line-sized y =
      ap (λ (w : List ℕ). table_line look rows colors w (drawn_heights (sized look rows colors widths heights)) y) widths-kept ∙ ap (λ (h : List ℕ). table_line look rows colors widths h y) heights-kept
