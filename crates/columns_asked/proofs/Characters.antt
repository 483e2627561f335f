-- One table of resized cells in different items.
use Rattle.std.proofs.Common.{◌≡◌, ◌==◌, ◌+◌, ℕ, Bool, true, false, List, [], ◌∷◌, ◌++◌, map, refl, ap, sym, ◌∙◌, if◌then◌else◌}
use Rattle.std.specs.Prelude.{encode_utf8_all}
use Rattle.std.proofs.lemmas.List.{map-append}
use Rattle.std.proofs.lemmas.Simd.{map-map}
use Rattle.grid_config.specs.Compact.{Compact}
use Rattle.grid_config.specs.Looks.{compact_look}
use Rattle.grid_records_measure.specs.TextLines.{line_feed}
use Rattle.papergrid_picture.specs.Frame.{Frame, frame_of, line_count}
use Rattle.papergrid_picture.specs.Shown.{Styled, character_of, character_picture, cell_characters, in_plain, styled_picture}
use Rattle.papergrid_picture.proofs.Items.{picture-characters}
use Rattle.columns_asked.specs.WidthLimits.{WidthLimit}
use Rattle.columns_asked.specs.DrawnTables.{asked_characters, asked_items, asked_picture, asked_widths, by_column, ended, heights_of, resized_cells, narrowed, resize_in, texts_in}
use Rattle.tabled_size_wrap.specs.Cells.Resizing.{Resize, resized}
use Rattle.tabled_size_wrap.proofs.CellsLemmas.Characters.{resized-natural, same}

-- ---- items that are made of others, each for the same character

module _ {X Y : Type 0} (f : X → Y) (character : Y → ℕ) (bare : ℕ → X) where
  abbrev character_in : X → ℕ
  character_in x = character (f x)

  abbrev bare_in : ℕ → Y
  bare_in n = f (bare n)

  -- ---- rows

  pub texts-natural : (rows : List (List (List X))) → texts_in character bare_in (map (map (map f)) rows) ≡ texts_in character_in bare rows
  texts-natural rows =
      map-map (map (λ (cell : List Y). encode_utf8_all (map character cell))) (map (map f)) rows
      ∙ (λ k. map (λ row. map-map (λ (cell : List Y). encode_utf8_all (map character cell)) (map f) row k) rows)
      ∙ (λ k. map (map (λ cell. encode_utf8_all (map-map character f cell k))) rows)

  column-natural : (resize : ℕ → Resize) (column : ℕ) (row : List (List X))
      → map (map f) (by_column (λ j. resized character_in bare (resize j)) column row) ≡ by_column (λ j. resized character bare_in (resize j)) column (map (map f) row)
  column-natural resize column [] = refl
  column-natural resize column (cell ∷ row) =
      ap (λ (first : List Y). first ∷ map (map f) (by_column (λ j. resized character_in bare (resize j)) (column + 1) row)) (resized-natural f character bare (resize column) cell)
      ∙ ap (λ (rest : List (List Y)). resized character bare_in (resize column) (map f cell) ∷ rest) (column-natural resize (column + 1) row)

  rows-natural : (resize : ℕ → Resize) (rows : List (List (List X)))
      → map (map (map f)) (map (by_column (λ j. resized character_in bare (resize j)) 0) rows) ≡ map (by_column (λ j. resized character bare_in (resize j)) 0) (map (map (map f)) rows)
  rows-natural resize [] = refl
  rows-natural resize (row ∷ rows) =
      ap (λ (first : List (List Y)). first ∷ map (map (map f)) (map (by_column (λ j. resized character_in bare (resize j)) 0) rows)) (column-natural resize 0 row)
      ∙ ap (λ (rest : List (List (List Y))). by_column (λ j. resized character bare_in (resize j)) 0 (map (map f) row) ∷ rest) (rows-natural resize rows)

  module _ (style : Compact) (asked : WidthLimit) where
    pub kept-natural : (rows : List (List (List X))) → map (map (map f)) (resized_cells character_in bare style asked rows) ≡ resized_cells character bare_in style asked (map (map (map f)) rows)
    unfolding resized_cells
    kept-natural rows =
        rows-natural (resize_in style asked (narrowed style asked (texts_in character_in bare rows))) rows
        ∙ ap (λ (texts : List (List (List ℕ))). map (by_column (λ j. resized character bare_in (resize_in style asked (narrowed style asked texts) j)) 0) (map (map (map f)) rows)) (sym (texts-natural rows))

-- ---- characters without their styles

characters-ended : (frame : Frame) (items : List Styled) → map character_of (ended (in_plain line_feed) frame items) ≡ ended line_feed frame (map character_of items)
characters-ended frame items = step (line_count frame == 0) where
  step : (b : Bool) → map character_of (if b then [] else items ++ in_plain line_feed ∷ []) ≡ if b then [] else map character_of items ++ line_feed ∷ []
  step true = refl
  step false = map-append character_of items (in_plain line_feed ∷ [])

module _ (style : Compact) (asked : WidthLimit) where
  pub texts-characters : (rows : List (List (List Styled))) → texts_in same same (cell_characters rows) ≡ texts_in character_of in_plain rows
  texts-characters rows = texts-natural character_of same in_plain rows

  pub kept-characters : (rows : List (List (List Styled))) → cell_characters (resized_cells character_of in_plain style asked rows) ≡ resized_cells same same style asked (cell_characters rows)
  kept-characters rows = kept-natural character_of same in_plain style asked rows

  pub picture-alone : (rows : List (List (List Styled))) → map character_of (asked_picture style asked rows) ≡ asked_characters style asked (cell_characters rows)
  unfolding asked_items
  picture-alone rows =
      let cells = resized_cells character_of in_plain style asked rows in
      let widths = asked_widths style asked (texts_in character_of in_plain rows) in
      let heights = heights_of style (texts_in character_of in_plain cells) in
      let drawn : List ℕ → List ℕ → List (List (List ℕ)) → List ℕ = λ ws hs found. ended line_feed (frame_of (compact_look style) ws hs) (character_picture (compact_look style) found ws hs) in
      characters-ended (frame_of (compact_look style) widths heights) (styled_picture (compact_look style) cells widths heights)
      ∙ ap (ended line_feed (frame_of (compact_look style) widths heights)) (picture-characters (compact_look style) cells widths heights)
      ∙ ap (drawn widths heights) (kept-characters rows)
      ∙ ap (λ (ws : List ℕ). drawn ws heights (resized_cells same same style asked (cell_characters rows))) (ap (asked_widths style asked) (sym (texts-characters rows)))
      ∙ ap (λ (hs : List ℕ). drawn (asked_widths style asked (texts_in same same (cell_characters rows))) hs (resized_cells same same style asked (cell_characters rows)))
      (ap (heights_of style) (sym (texts-characters cells) ∙ ap (texts_in same same) (kept-characters rows)))

  plain-cell : (cs : List Styled) → map character_of (map in_plain (map character_of cs)) ≡ map character_of cs
  plain-cell [] = refl
  plain-cell (c ∷ cs) = ap (λ rest. c.0 ∷ rest) (plain-cell cs)

  plain-row : (row : List (List Styled)) → map (map character_of) (map (map in_plain) (map (map character_of) row)) ≡ map (map character_of) row
  plain-row [] = refl
  plain-row (cell ∷ row) = ap (λ first. first ∷ map (map character_of) (map (map in_plain) (map (map character_of) row))) (plain-cell cell) ∙ ap (λ rest. map character_of cell ∷ rest) (plain-row row)

  plain-rows : (rows : List (List (List Styled))) → cell_characters (map (map (map in_plain)) (cell_characters rows)) ≡ cell_characters rows
  plain-rows [] = refl
  plain-rows (row ∷ rows) = ap (λ first. first ∷ cell_characters (map (map (map in_plain)) (cell_characters rows))) (plain-row row) ∙ ap (λ rest. map (map character_of) row ∷ rest) (plain-rows rows)

  -- without styles the picture is the same
  pub picture-plain : (rows : List (List (List Styled))) → map character_of (asked_picture style asked rows) ≡ map character_of (asked_picture style asked (map (map (map in_plain)) (cell_characters rows)))
  picture-plain rows = picture-alone rows ∙ ap (asked_characters style asked) (sym (plain-rows rows)) ∙ sym (picture-alone (map (map (map in_plain)) (cell_characters rows)))
