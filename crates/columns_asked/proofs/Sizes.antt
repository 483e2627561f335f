-- Tables of the same sizes: texts that are changed, but not in what they measure.
use Rattle.std.proofs.Common.{◌≡◌, ℕ, zero, suc, ◌+◌, ◌-◌, List, [], ◌∷◌, ◌++◌, map, length, take, replicate, refl, ap, sym, ◌∙◌}
use Rattle.std.specs.List.{take-map}
use Rattle.std.proofs.lemmas.List.{length-map}
use Rattle.std.proofs.lemmas.Simd.{map-map}
use Rattle.grid_config.specs.Compact.{Compact}
use Rattle.grid_config.specs.Looks.{compact_look}
use Rattle.grid_config_values.specs.Glyphs.{boundary_kind, has_row_boundary}
use Rattle.grid_records_measure.specs.TextLines.{text_height, text_width}
use Rattle.grid_records_estimate.specs.Rows.{evened, evened_row, text_at}
use Rattle.grid_records_estimate.specs.Estimates.{greatest, track_sizes}
use Rattle.grid_records_estimate.specs.Sizes.{table_heights, table_widths}
use Rattle.grid_records_estimate.specs.Sizing.{TableSizing, column_needs, compact_sizing, position_at, row_needs}
use Rattle.papergrid_picture.specs.Frame.{frame_of}
use Rattle.papergrid_picture.specs.Shown.{stripped_texts}
use Rattle.papergrid_picture.proofs.Stripped.{stripped}
use Rattle.tabled_size_wrap.proofs.CellsLemmas.CellStripping.{stripped-height, stripped-none, stripped-width, text-map}
use Rattle.columns_asked.specs.DrawnTables.{frame_under, heights_of, longest_row_length, widths_of}

module _ (f : List ℕ → List ℕ) (none : f [] ≡ []) where
  replicate-none : (n : ℕ) → replicate n [] ≡ map f (replicate n [])
  replicate-none zero = refl
  replicate-none (suc n) = ap (λ text. text ∷ replicate n []) (sym none) ∙ ap (λ texts. f [] ∷ texts) (replicate-none n)

  append-map : (xs ys : List (List ℕ)) → map f xs ++ map f ys ≡ map f (xs ++ ys)
  append-map [] ys = refl
  append-map (x ∷ xs) ys = ap (λ rest. f x ∷ rest) (append-map xs ys)

  evened_row-map : (n : ℕ) (row : List (List ℕ)) → evened_row n (map f row) ≡ map f (evened_row n row)
  evened_row-map n row =
      ap (λ front. front ++ replicate (n - length (map f row)) []) (take-map f n row)
      ∙ ap (λ m. map f (take n row) ++ replicate (n - m) []) (length-map row f)
      ∙ ap (λ back. map f (take n row) ++ back) (replicate-none (n - length row))
      ∙ append-map (take n row) (replicate (n - length row) [])

  evened-map : (n : ℕ) (rows : List (List (List ℕ))) → evened n (map (map f) rows) ≡ map (map f) (evened n rows)
  evened-map n rows =
      map-map (evened_row n) (map f) rows ∙ (λ k. map (λ row. evened_row-map n row k) rows) ∙ sym (map-map (map f) (evened_row n) rows)

  columns-map : (rows : List (List (List ℕ))) → longest_row_length (map (map f) rows) ≡ longest_row_length rows
  columns-map rows =
      ap greatest (map-map (λ (row : List (List ℕ)). length row) (map f) rows) ∙ (λ k. greatest (map (λ row. length-map row f k) rows))

  module _ (sizing : TableSizing) (n : ℕ) (rows : List (List (List ℕ))) where
    abbrev all : List (List (List ℕ))
    all = evened n rows

    widths-map : ((text : List ℕ) → text_width (f text) ≡ text_width text) → table_widths sizing n (map (map f) rows) ≡ table_widths sizing n rows
    unfolding table_widths
    widths-map same =
        ap (λ found. track_sizes (column_needs sizing n found)) (evened-map n rows)
        ∙ ap (λ cross_tracks. track_sizes (record (column_needs sizing n (map (map f) all)) { cross_tracks = cross_tracks })) (length-map all (map f))
        ∙ (λ k. track_sizes (record (column_needs sizing n all) { need = λ column row. let padding = sizing.padding (position_at row column) in (ap text_width (text-map f none all (position_at row column)) ∙ same (text_at all (position_at row column))) k + padding.left.size + padding.right.size }))

    heights-map : ((text : List ℕ) → text_height (f text) ≡ text_height text) → table_heights sizing n (map (map f) rows) ≡ table_heights sizing n rows
    unfolding table_heights
    heights-map same =
        ap (λ found. track_sizes (row_needs sizing n found)) (evened-map n rows)
        ∙ ap (λ m. track_sizes (record (row_needs sizing n (map (map f) all)) { tracks = m; has_boundary = λ i. has_row_boundary sizing.borders (boundary_kind i m) })) (length-map all (map f))
        ∙ (λ k. track_sizes (record (row_needs sizing n all) { need = λ row column. let padding = sizing.padding (position_at row column) in (ap text_height (text-map f none all (position_at row column)) ∙ same (text_at all (position_at row column))) k + padding.top.size + padding.bottom.size }))

  module _ (style : Compact) (rows : List (List (List ℕ))) (wide : (text : List ℕ) → text_width (f text) ≡ text_width text) (high : (text : List ℕ) → text_height (f text) ≡ text_height text) where
    pub same-widths : widths_of style (map (map f) rows) ≡ widths_of style rows
    same-widths = ap (λ n. table_widths (compact_sizing style) n (map (map f) rows)) (columns-map rows) ∙ widths-map (compact_sizing style) (longest_row_length rows) rows wide

    pub same-heights : heights_of style (map (map f) rows) ≡ heights_of style rows
    same-heights = ap (λ n. table_heights (compact_sizing style) n (map (map f) rows)) (columns-map rows) ∙ heights-map (compact_sizing style) (longest_row_length rows) rows high

    pub same-frame : frame_under style (map (map f) rows) ≡ frame_under style rows
    same-frame = ap (λ widths. frame_of (compact_look style) widths (heights_of style (map (map f) rows))) same-widths ∙ ap (frame_of (compact_look style) (widths_of style rows)) same-heights

-- ---- without sequences

module _ (style : Compact) (texts : List (List (List ℕ))) where
  pub widths-stripped : widths_of style (stripped_texts texts) ≡ widths_of style texts
  widths-stripped = same-widths stripped stripped-none style texts stripped-width stripped-height

  pub heights-stripped : heights_of style (stripped_texts texts) ≡ heights_of style texts
  heights-stripped = same-heights stripped stripped-none style texts stripped-width stripped-height

  pub frame-stripped : frame_under style (stripped_texts texts) ≡ frame_under style texts
  frame-stripped = same-frame stripped stripped-none style texts stripped-width stripped-height
