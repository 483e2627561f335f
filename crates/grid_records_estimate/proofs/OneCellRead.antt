-- One cell more that was read.
use Rattle.std.proofs.Common.{◌≡◌, ℕ, suc, ◌+◌, ◌≤◌, arith, length-drop, true, false, List, [], ◌∷◌, ◌++◌, length, drop, refl, ap, sym, ◌∙◌, subst, append_assoc}
use Rattle.std.specs.List.{flat_map}
use Rattle.std.proofs.lemmas.List.{drop-map}
use Rattle.std.proofs.lemmas.List.Concat.{flat_map-append}
use Rattle.ansi_scan.specs.Pieces.{pieces}
use Rattle.ansi_scan.specs.Sequences.{ArePiecesOf, Piece}
use Rattle.ansi_scan.proofs.Existence.{ArePiecesOf-pieces}
use Rattle.grid_config.specs.Spans.{extent_at}
use Rattle.grid_config_values.specs.declared.position.Position.{Position}
use Rattle.grid_records_traits.specs.Rows.{evened, evened_row, row_at}
use Rattle.grid_records_traits.specs.TextLines.{shown_lines, text_height, text_width, widest}
use Rattle.grid_records_traits.proofs.EvenedRows.{length-evened_row}
use Rattle.grid_records_estimate.specs.Collecting.{Collected, HasCollected}
use Rattle.grid_records_estimate.specs.CollectedNeeds.{HasRead, Placed, height_needs, width_needs, row_cells_from, table_cells}
use Rattle.grid_records_estimate.specs.Sizing.{TableSizing, around_height, around_width, height_need, is_visible, position_at, width_need}
use Rattle.grid_records_estimate.specs.declared.need.Need.{Need}

append-nil : {X : Type 0} (xs : List X) → xs ++ [] ≡ xs
append-nil [] = refl
append-nil (x ∷ xs) = ap (λ ys. x ∷ ys) (append-nil xs)

one_more : (ask : Placed → List Need) (cells : List Placed) (cell : Placed) → flat_map ask (cells ++ cell ∷ []) ≡ flat_map ask cells ++ ask cell
one_more ask cells cell = flat_map-append ask cells (cell ∷ []) ∙ ap (λ ys. flat_map ask cells ++ ys) (append-nil (ask cell))

hidden : (ask : Placed → List Need) (kept : Collected) (cells : List Placed) (cell : Placed) → ask cell ≡ [] → HasCollected kept (flat_map ask cells) → HasCollected kept (flat_map ask (cells ++ cell ∷ []))
hidden ask kept cells cell none h =
    let P : List Need → Type 0 = λ xs. HasCollected kept xs in
    subst P (sym (one_more ask cells cell ∙ ap (λ ys. flat_map ask cells ++ ys) none ∙ append-nil (flat_map ask cells))) h

added : (ask : Placed → List Need) (kept : Collected) (cells : List Placed) (cell : Placed) (need : Need) → ask cell ≡ need ∷ [] → HasCollected kept (flat_map ask cells ++ need ∷ []) → HasCollected kept (flat_map ask (cells ++ cell ∷ []))
added ask kept cells cell need is h =
    let P : List Need → Type 0 = λ xs. HasCollected kept xs in
    subst P (sym (one_more ask cells cell ∙ ap (λ ys. flat_map ask cells ++ ys) is)) h

-- a cell that is hidden needs nothing
pub HasRead-hidden : (sizing : TableSizing) (widths heights : Collected) (before : List Placed) (cell : Placed) → is_visible sizing.spans cell.0 ≡ false
    → HasRead sizing widths heights before → HasRead sizing widths heights (before ++ cell ∷ [])
HasRead-hidden sizing widths heights before cell off h = record {
  widths_are = hidden (width_needs sizing) widths before cell (rw off refl) h.widths_are;
  heights_are = hidden (height_needs sizing) heights before cell (rw off refl) h.heights_are;
}

pub HasRead-added : (sizing : TableSizing) (widths heights : Collected) (before : List Placed) (cell : Placed) (width height : Need)
    → width_needs sizing cell ≡ width ∷ [] → height_needs sizing cell ≡ height ∷ []
    → HasCollected widths (flat_map (width_needs sizing) before ++ width ∷ []) → HasCollected heights (flat_map (height_needs sizing) before ++ height ∷ [])
    → HasRead sizing widths heights (before ++ cell ∷ [])
HasRead-added sizing widths heights before cell width height w h ws hs = record {
  widths_are = added (width_needs sizing) widths before cell width w ws;
  heights_are = added (height_needs sizing) heights before cell height h hs;
}

text_width-is : (text : List ℕ) (width : ℕ) → ((ps : List Piece) → ArePiecesOf text ps → width ≡ widest (shown_lines ps)) → width ≡ text_width text
unfolding text_width
text_width-is text width h = h (pieces text) (ArePiecesOf-pieces text)

text_height-is : (text : List ℕ) (lines : ℕ) → ((ps : List Piece) → ArePiecesOf text ps → lines ≡ length (shown_lines ps)) → lines ≡ text_height text
unfolding text_height
text_height-is text lines h = h (pieces text) (ArePiecesOf-pieces text)

-- what a visible cell needs, by what was measured
pub asks-width : (sizing : TableSizing) (pos : Position) (text : List ℕ) (long width across : ℕ) → is_visible sizing.spans pos ≡ true
    → long ≡ (extent_at sizing.spans pos).columns → ((ps : List Piece) → ArePiecesOf text ps → width ≡ widest (shown_lines ps))
    → across ≡ around_width (sizing.padding pos)
    → width_needs sizing (pos, text) ≡ record { length = long; first = pos.col; cross_track = pos.row; size = width + across } ∷ []
asks-width sizing pos text long width across on columns measures padding =
    let wide : width ≡ text_width text = text_width-is text width measures in
    let whole : width + across ≡ width_need sizing pos text = omega (arith, wide, padding) in
    rw (on, columns, whole) refl

pub asks-height : (sizing : TableSizing) (pos : Position) (text : List ℕ) (long lines along : ℕ) → is_visible sizing.spans pos ≡ true
    → long ≡ (extent_at sizing.spans pos).rows → ((ps : List Piece) → ArePiecesOf text ps → lines ≡ length (shown_lines ps))
    → along ≡ around_height (sizing.padding pos)
    → height_needs sizing (pos, text) ≡ record { length = long; first = pos.row; cross_track = pos.col; size = lines + along } ∷ []
asks-height sizing pos text long lines along on rows counts padding =
    let high : lines ≡ text_height text = text_height-is text lines counts in
    let whole : lines + along ≡ height_need sizing pos text = omega (arith, high, padding) in
    rw (on, rows, whole) refl

-- of a row, these cells were read, and these texts are left
pub record RowRead (sizing : TableSizing) (widths heights : Collected) (before : List Placed) (row column : ℕ) (left texts : List (List ℕ)) : Type 0 where
  pub done : List Placed
  pub read : HasRead sizing widths heights (before ++ done)
  pub rest : done ++ row_cells_from row column left ≡ row_cells_from row 0 texts

pub RowRead-none : (sizing : TableSizing) (widths heights : Collected) (before : List Placed) (row : ℕ) (texts : List (List ℕ)) → HasRead sizing widths heights before
    → RowRead sizing widths heights before row 0 texts texts
RowRead-none sizing widths heights before row texts h = record {
  done = [];
  read = let P : List Placed → Type 0 = λ cells. HasRead sizing widths heights cells in subst P (sym (append-nil before)) h;
  rest = refl;
}

pub RowRead-more : (sizing : TableSizing) (old_widths old_heights widths heights : Collected) (before : List Placed) (row column next : ℕ) (text : List ℕ) (left others texts : List (List ℕ))
    → (old : RowRead sizing old_widths old_heights before row column left texts) → left ≡ text ∷ others → next ≡ column + 1
    → HasRead sizing widths heights ((before ++ old.done) ++ (position_at row column, text) ∷ [])
    → RowRead sizing widths heights before row next others texts
RowRead-more sizing old_widths old_heights widths heights before row column next text left others texts old split step h = record {
  done = old.done ++ (position_at row column, text) ∷ [];
  read = let P : List Placed → Type 0 = λ cells. HasRead sizing widths heights cells in subst P (append_assoc before old.done ((position_at row column, text) ∷ [])) h;
  rest = ap (λ n. (old.done ++ (position_at row column, text) ∷ []) ++ row_cells_from row n others) step
      ∙ append_assoc old.done ((position_at row column, text) ∷ []) (row_cells_from row (column + 1) others)
      ∙ ap (λ texts. old.done ++ row_cells_from row column texts) (sym split) ∙ old.rest;
}

pub RowRead-all : (sizing : TableSizing) (widths heights : Collected) (before : List Placed) (row column : ℕ) (left texts : List (List ℕ))
    → RowRead sizing widths heights before row column left texts → left ≡ [] → HasRead sizing widths heights (before ++ row_cells_from row 0 texts)
RowRead-all sizing widths heights before row column left texts r none =
    let all : r.done ≡ row_cells_from row 0 texts = sym (append-nil r.done) ∙ ap (λ texts. r.done ++ row_cells_from row column texts) (sym none) ∙ r.rest in
    let P : List Placed → Type 0 = λ cells. HasRead sizing widths heights (before ++ cells) in
    subst P all r.read

-- of a table, these cells were read, and these rows are left
pub record TableRead (sizing : TableSizing) (widths heights : Collected) (row : ℕ) (left rows : List (List (List ℕ))) : Type 0 where
  pub done : List Placed
  pub read : HasRead sizing widths heights done
  pub rest : done ++ table_cells row left ≡ table_cells 0 rows

pub TableRead-more : (sizing : TableSizing) (old_widths old_heights widths heights : Collected) (row next : ℕ) (texts : List (List ℕ)) (left others rows : List (List (List ℕ)))
    → (old : TableRead sizing old_widths old_heights row left rows) → left ≡ texts ∷ others → next ≡ row + 1
    → HasRead sizing widths heights (old.done ++ row_cells_from row 0 texts)
    → TableRead sizing widths heights next others rows
TableRead-more sizing old_widths old_heights widths heights row next texts left others rows old split step h = record {
  done = old.done ++ row_cells_from row 0 texts;
  read = h;
  rest = ap (λ n. (old.done ++ row_cells_from row 0 texts) ++ table_cells n others) step
      ∙ append_assoc old.done (row_cells_from row 0 texts) (table_cells (row + 1) others)
      ∙ ap (λ rest. old.done ++ table_cells row rest) (sym split) ∙ old.rest;
}

pub TableRead-all : (sizing : TableSizing) (widths heights : Collected) (row : ℕ) (left rows : List (List (List ℕ)))
    → TableRead sizing widths heights row left rows → left ≡ [] → HasRead sizing widths heights (table_cells 0 rows)
TableRead-all sizing widths heights row left rows r none =
    let all : r.done ≡ table_cells 0 rows = sym (append-nil r.done) ∙ ap (λ rest. r.done ++ table_cells row rest) (sym none) ∙ r.rest in
    let P : List Placed → Type 0 = λ cells. HasRead sizing widths heights cells in
    subst P all r.read

first_evened : (columns : ℕ) (left : List (List (List ℕ))) (row : List (List ℕ)) (others : List (List (List ℕ))) → evened columns left ≡ row ∷ others → length row ≡ columns
first_evened columns [] row others split =
    let short : 0 ≡ suc (length others) = ap length split in
    omega (arith, short)
first_evened columns (first ∷ left) row others split = sym (ap (λ rows. length (row_at rows 0)) split) ∙ length-evened_row first columns

-- a row that is left has as many texts as there are columns
pub row_counted : (columns : ℕ) (rows : List (List (List ℕ))) (n : ℕ) (row : List (List ℕ)) (others : List (List (List ℕ))) → drop n (evened columns rows) ≡ row ∷ others → length row ≡ columns
row_counted columns rows n row others split = first_evened columns (drop n rows) row others (sym (drop-map (evened_row columns) n rows) ∙ split)

-- where one more is taken, there was one left
pub more_than : {X : Type 0} (xs : List X) (n m : ℕ) (x : X) (others : List X) → m ≡ n + 1 → drop n xs ≡ x ∷ others → m ≤ length xs
more_than xs n m x others same split =
    let long : length (drop n xs) ≡ suc (length others) = ap length split in
    omega (arith, length-drop n xs)

-- where none is left, all were taken
pub no_more_than : {X : Type 0} (xs : List X) (n : ℕ) → n ≤ length xs → drop n xs ≡ [] → n ≡ length xs
no_more_than xs n inside none =
    let long : length (drop n xs) ≡ 0 = ap length none in
    omega (arith, length-drop n xs)
