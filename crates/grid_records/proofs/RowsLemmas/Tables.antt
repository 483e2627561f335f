-- Tables of rows that are equally long.
use Rattle.std.proofs.Common.{arith, ◌≡◌, ◌<◌, ℕ, zero, suc, List, [], ◌∷◌, ap, map, refl, vec_len, length, get_or, sym, ◌∙◌, replicate, Vec, vec_items, slice_set}
use Rattle.std.proofs.lemmas.List.{get_or-map, get_or-replicate, length-map, length-replicate, map-set}
use Rattle.std.proofs.lemmas.List.Elements.{All-map}
use Rattle.std.specs.Vec.{with_item}
use Rattle.grid_config_values.specs.declared.Position.{Position}
use Rattle.grid_records_traits.proofs.EvenedRows.{evened-same}
use Rattle.grid_records_traits.specs.Rows.{HasCell, evened, row_at, with_text}
use Rattle.grid_records_traits.specs.Sources.{texts_of_rows}
use Rattle.grid_records.specs.RecordRows.Sources.{AreEquallyLong, columns_of}

-- equally long rows are evened already
pub evened_table : {T Z : Type 0} (text : T → List ℕ) (rows : List (Vec T Z)) → AreEquallyLong rows → evened (columns_of rows) (texts_of_rows text rows) ≡ texts_of_rows text rows
evened_table {T} {Z} text rows long =
    let texts = λ (row : Vec T Z). map text (vec_items row) in
    evened-same (texts_of_rows text rows) (columns_of rows)
    (All-map (λ row. length row ≡ columns_of rows) texts rows
    (λ k d lt. let row = get_or rows k d in length-map (vec_items row) text ∙ sym row.ok.0 ∙ long k d lt))

-- one cell that is set is one text that is set
pub set_text : {T Z : Type 0} (text : T → List ℕ) (rows : List (Vec T Z)) (pos : Position) (row : Vec T Z) (cell : T) →
    row ≡ get_or rows pos.row row → HasCell (texts_of_rows text rows) pos →
    texts_of_rows text (slice_set rows pos.row (with_item row pos.col cell)) ≡ with_text (texts_of_rows text rows) pos (text cell)
set_text {T} {Z} text rows pos row cell is inside =
    let texts = λ (row : Vec T Z). map text (vec_items row) in
    let at : row_at (texts_of_rows text rows) pos.row ≡ texts row = get_or-map texts rows pos.row row [] (omega (arith, inside.0, length-map rows texts)) ∙ ap texts (sym is) in
    map-set texts rows pos.row (with_item row pos.col cell)
    ∙ ap (λ v. slice_set (texts_of_rows text rows) pos.row v) (map-set text (vec_items row) pos.col cell ∙ ap (λ v. slice_set v pos.col (text cell)) (sym at))

-- and as many columns
pub set_columns : {T Z : Type 0} (rows : List (Vec T Z)) (i j : ℕ) (row : Vec T Z) (cell : T) → row ≡ get_or rows i row → columns_of (slice_set rows i (with_item row j cell)) ≡ columns_of rows
set_columns [] i j row cell is = refl
set_columns (first ∷ rows) zero j row cell is = ap vec_len is
set_columns (first ∷ rows) (suc i) j row cell is = refl

-- rows of so many empty texts are evened already
pub evened_empty : (rows columns : ℕ) → evened columns (replicate rows (replicate columns [])) ≡ replicate rows (replicate columns [])
evened_empty rows columns =
    evened-same (replicate rows (replicate columns [])) columns
    (λ k d lt. ap length (get_or-replicate rows k (replicate columns []) d (simp length-replicate at lt)) ∙ length-replicate columns [])

-- the texts of the same rows are equally many
columns_by_texts : {T Z : Type 0} (text : T → List ℕ) (rows : List (Vec T Z)) → columns_of rows ≡ length (row_at (texts_of_rows text rows) 0)
columns_by_texts text [] = refl
columns_by_texts text (row ∷ rows) = row.ok.0 ∙ sym (length-map (vec_items row) text)

pub even_again : {T Z : Type 0} (text : T → List ℕ) (rows again : List (Vec T Z)) → texts_of_rows text again ≡ texts_of_rows text rows → AreEquallyLong rows → AreEquallyLong again
even_again {T} {Z} text rows again same long = λ k d lt.
    let texts = λ (row : Vec T Z). map text (vec_items row) in
    let by_texts : (all : List (Vec T Z)) → k < length all → vec_len (get_or all k d) ≡ length (row_at (texts_of_rows text all) k) =
    λ all less. let row = get_or all k d in row.ok.0 ∙ sym (length-map (vec_items row) text) ∙ sym (ap length (get_or-map texts all k d [] less)) in
    let below : k < length rows = omega (arith, lt, length-map again texts, length-map rows texts, ap length same) in
    by_texts again lt ∙ ap (λ all. length (row_at all k)) same ∙ sym (by_texts rows below) ∙ long k d below
    ∙ columns_by_texts text rows ∙ sym (ap (λ all. length (row_at all 0)) same) ∙ sym (columns_by_texts text again)
