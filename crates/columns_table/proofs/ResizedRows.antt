-- Rows that are resized, each text by its column: as they are made one after the other, and as they are kept.
use Rattle.std.proofs.Common.{◌≡◌, ℕ, suc, ◌+◌, ◌<◌, ◌≤◌, List, [], ◌∷◌, ◌++◌, Option, None, Some, map, length, sum, take, drop, get_or, refl, ap, sym, ◌∙◌, arith, length-drop}
use Rattle.std.specs.Borrow.{Bor}
use Rattle.std.specs.Cow.{cow_str_bytes}
use Rattle.std.specs.Option.{option_map, unwrap_or}
use Rattle.std.proofs.Math.Seq.{drop-append_seam, drop-cons, take-append_seam}
use Rattle.std.proofs.lemmas.List.{append-nil, append_assoc, drop_all, length-append, length-map, length-take}
use Rattle.std.proofs.lemmas.List.Sums.{sum_by-cons}
use Rattle.ansi_scan.specs.Pieces.{pieces}
use Rattle.ansi_scan.proofs.Existence.{ArePiecesOf-pieces}
use Rattle.grid_config.specs.Compact.{Compact}
use Rattle.grid_config_values.specs.declared.position.Position.{Position}
use Rattle.grid_records_measure.specs.TextLines.{text_lines, text_width}
use Rattle.grid_records_measure.proofs.TextLines.{text_lines-are}
use Rattle.grid_records_traits.specs.Rows.{text_at}
use Rattle.papergrid_picture.proofs.Shown.{get_or-map}
use Rattle.columns_asked.specs.DrawnTables.{by_column, paddings, resize_in}
use Rattle.columns_asked.specs.Resizing.{resized_text}
use Rattle.columns_asked.specs.declared.asked.WidthLimit.{WidthLimit}
use Rattle.columns_table.specs.Resized.{resized_row}
use Rattle.columns_table.specs.ResizedTexts.{cells_texts, rows_texts}
use Rattle.columns_table.specs.Records.{IsSingleLineCell, sliced_at, starts_from}
use Rattle.columns_table.specs.Rows.{cell_texts, split_by_lengths}
use Rattle.columns_table.specs.declared.cells.LineCell.{LineCell}
use Rattle.columns_table.specs.declared.resized_cell.ResizedCell.{ResizedCell}
use Rattle.columns_table.proofs.PlacedRows.{placed-split}
use Rattle.columns_table.proofs.Records.{only_line}
use Rattle.columns_table.proofs.SplitByLengths.{split_by_lengths-map}

-- a measured cell has the width of its text
pub width-is : (cell : LineCell) → IsSingleLineCell cell → cell.width ≡ text_width cell.text.now
unfolding text_width
width-is cell measured = measured.1 (pieces cell.text.now) (ArePiecesOf-pieces cell.text.now)

-- and is its only line
pub only_line-is : (cell : LineCell) → IsSingleLineCell cell → text_lines cell.text.now ≡ cell.text.now ∷ []
only_line-is cell measured = only_line cell.text.now cell.width measured (pieces cell.text.now) (text_lines cell.text.now) (ArePiecesOf-pieces cell.text.now) (text_lines-are cell.text.now)

-- ---- each text by its column

pub length-by_column : (f : ℕ → List ℕ → List ℕ) (column : ℕ) (row : List (List ℕ)) → length (by_column f column row) ≡ length row
length-by_column f column [] = refl
length-by_column f column (text ∷ row) = ap suc (length-by_column f (column + 1) row)

-- a cell more
pub row-pushed : (f : ℕ → List ℕ → List ℕ) (done before : List (List ℕ)) (text : List ℕ) (texts : List (List ℕ)) (column : ℕ) → column < length texts
    → done ≡ before ++ text ∷ [] → text ≡ f column (get_or texts column [])
    → done ++ by_column f (column + 1) (drop (column + 1) texts) ≡ before ++ by_column f column (drop column texts)
row-pushed f done before text texts column below pushed is =
    let next : suc column ≡ column + 1 = omega arith in
    let rest : List (List ℕ) = by_column f (column + 1) (drop (column + 1) texts) in
    ap (λ ts. ts ++ rest) pushed
    ∙ append_assoc before (text ∷ []) rest
    ∙ ap (λ t. before ++ (t ∷ rest)) is
    ∙ ap (λ n. before ++ (f column (get_or texts column []) ∷ by_column f (column + 1) (drop n texts))) (sym next)
    ∙ ap (λ ts. before ++ by_column f column ts) (sym (drop-cons texts column [] below))

-- after the last there is none
pub row-ended : (f : ℕ → List ℕ → List ℕ) (done : List (List ℕ)) (texts : List (List ℕ)) (column : ℕ) → length texts ≤ column → done ++ by_column f column (drop column texts) ≡ done
row-ended f done texts column past = ap (λ ts. done ++ by_column f column ts) (drop_all column texts past) ∙ append-nil done

-- ---- rows one after the other

-- the texts of all rows, of each what is made of it
abbrev pub all_texts : (List (List ℕ) → List (List ℕ)) → List ℕ → List LineCell → List (List ℕ)
all_texts f [] cells = []
all_texts f (n ∷ ns) cells = f (cell_texts (take n cells)) ++ all_texts f ns (drop n cells)

module _ (f : List (List ℕ) → List (List ℕ)) where
  -- a row more
  pub rows-pushed : (done before : List (List ℕ)) (counts : List ℕ) (cells : List LineCell) (i : ℕ) → i < length counts
      → done ≡ before ++ f (cell_texts (take (get_or counts i 0) cells))
      → done ++ all_texts f (drop (i + 1) counts) (drop (get_or counts i 0) cells) ≡ before ++ all_texts f (drop i counts) cells
  rows-pushed done before counts cells i below is =
      let n : ℕ = get_or counts i 0 in
      let next : suc i ≡ i + 1 = omega arith in
      let rest : List (List ℕ) = all_texts f (drop (i + 1) counts) (drop n cells) in
      ap (λ ts. ts ++ rest) is
      ∙ append_assoc before (f (cell_texts (take n cells))) rest
      ∙ ap (λ m. before ++ (f (cell_texts (take n cells)) ++ all_texts f (drop m counts) (drop n cells))) (sym next)
      ∙ ap (λ ns. before ++ all_texts f ns cells) (sym (drop-cons counts i 0 below))

  -- after the last there is none
  pub rows-ended : (done : List (List ℕ)) (counts : List ℕ) (cells : List LineCell) (i : ℕ) → length counts ≤ i → done ++ all_texts f (drop i counts) cells ≡ done
  rows-ended done counts cells i past = ap (λ ns. done ++ all_texts f ns cells) (drop_all i counts past) ∙ append-nil done

  -- where each row stays as long as it is
  module _ (same : (texts : List (List ℕ)) → length (f texts) ≡ length texts) where
    length-first : (n : ℕ) (cells : List LineCell) → n ≤ length cells → length (f (cell_texts (take n cells))) ≡ n
    length-first n cells fits =
        let kept = same (cell_texts (take n cells)) in
        let texts = length-map (take n cells) (λ (cell : LineCell). cell.text.now) in
        let taken = length-take n cells in
        omega (arith, kept, texts, taken, fits)

    -- they are as many as the cells
    pub length-texts : (counts : List ℕ) (cells : List LineCell) → sum counts ≤ length cells → length (all_texts f counts cells) ≡ sum counts
    length-texts [] cells whole = omega arith
    length-texts (n ∷ ns) cells whole =
        let total = sum_by-cons (λ k. k) n ns in
        let left : sum ns ≤ length (drop n cells) = omega (arith, whole, total, length-drop n cells) in
        let first = length-first n cells (omega (arith, whole, total)) in
        let rest = length-texts ns (drop n cells) left in
        let both = length-append (f (cell_texts (take n cells))) (all_texts f ns (drop n cells)) in
        omega (arith, total, first, rest, both)

    -- and the rows, where they are split again
    pub parted-texts : (counts : List ℕ) (cells : List LineCell) → sum counts ≤ length cells → split_by_lengths counts (all_texts f counts cells) ≡ map f (map cell_texts (split_by_lengths counts cells))
    parted-texts [] cells whole = refl
    parted-texts (n ∷ ns) cells whole =
        let total = sum_by-cons (λ k. k) n ns in
        let row : List (List ℕ) = f (cell_texts (take n cells)) in
        let rest : List (List ℕ) = all_texts f ns (drop n cells) in
        let long : length row ≡ n = length-first n cells (omega (arith, whole, total)) in
        let left : sum ns ≤ length (drop n cells) = omega (arith, whole, total, length-drop n cells) in
        ap (λ m. take m (row ++ rest) ∷ split_by_lengths ns (drop m (row ++ rest))) (sym long)
        ∙ ap (λ first. first ∷ split_by_lengths ns (drop (length row) (row ++ rest))) (take-append_seam row rest)
        ∙ ap (λ others. row ∷ split_by_lengths ns others) (drop-append_seam row rest)
        ∙ ap (λ rows. row ∷ rows) (parted-texts ns (drop n cells) left)

-- the rows of cells that are kept one row after the other
pub rows-kept : (counts : List ℕ) (kept : List ResizedCell) (rows : List (List (List ℕ))) → sum counts ≡ length kept → split_by_lengths counts (cells_texts kept) ≡ rows
    → rows_texts (starts_from 0 counts) kept ≡ rows
rows-kept counts kept rows whole are =
    ap (map cells_texts) (placed-split 0 counts kept (omega (arith, whole))) ∙ sym (split_by_lengths-map (λ (cell : ResizedCell). cow_str_bytes cell.text) counts kept) ∙ are

-- ---- one cell of them

pub kept-text : (starts : List ℕ) (kept : List ResizedCell) (pos : Position) → text_at (rows_texts starts kept) pos ≡ get_or (cells_texts (get_or (sliced_at starts kept) pos.row [])) pos.col []
kept-text starts kept pos = ap (λ row. get_or row pos.col []) (get_or-map cells_texts (sliced_at starts kept) pos.row [])

pub length-kept : (starts : List ℕ) (kept : List ResizedCell) → length (rows_texts starts kept) ≡ length starts
length-kept [] kept = refl
length-kept (start ∷ starts) kept = ap suc (length-kept starts kept)

-- where there is none the one in its place, which is empty
pub kept-cell : (starts : List ℕ) (kept : List ResizedCell) (pos : Position) (lacking : ResizedCell) → cow_str_bytes lacking.text ≡ []
    → cow_str_bytes (get_or (get_or (sliced_at starts kept) pos.row []) pos.col lacking).text ≡ text_at (rows_texts starts kept) pos
kept-cell starts kept pos lacking empty =
    let row : List ResizedCell = get_or (sliced_at starts kept) pos.row [] in
    sym (get_or-map (λ (cell : ResizedCell). cow_str_bytes cell.text) row pos.col lacking)
    ∙ ap (λ (none : List ℕ). get_or (cells_texts row) pos.col none) empty
    ∙ sym (kept-text starts kept pos)

pub lent : (found : Option (Bor ResizedCell)) (other : Bor ResizedCell) → (unwrap_or found other).now ≡ unwrap_or (option_map (λ cell. cell.now) found) other.now
lent None other = refl
lent (Some cell) other = refl

-- ---- they are the rows of the narrower table

pub rows-narrowed : (style : Compact) (asked : WidthLimit) (beside : ℕ) (widths : List ℕ) (texts : List (List (List ℕ))) → beside ≡ paddings style
    → map (resized_row asked beside widths) texts ≡ map (by_column (λ column. resized_text (resize_in style asked (Some widths) column)) 0) texts
rows-narrowed style asked beside widths texts is = ap (λ n. map (resized_row asked n widths) texts) is
