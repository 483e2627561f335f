-- Texts that change are there, and are set one by one.
use Rattle.std.proofs.Common.{◌≡◌, ℕ, zero, suc, ◌+◌, ◌<◌, List, [], ◌∷◌, ◌++◌, Option, None, Some, Vec, refl, ap, sym, ◌∙◌, arith, length, map, vec_items, vec_len, slice_set}
use Rattle.std.proofs.lemmas.List.{length-map, length-set}
use Rattle.std.proofs.lemmas.List.Elements.{All-append, All-cons, All-filter, All-head, All-map, All-nil, All-pop, All-tail, All-weaker}
use Rattle.std.specs.List.{All, cons_option, flat_map, range_with_len}
use Rattle.std.specs.Option.{option_map}
use Rattle.grid_config_values.specs.Entities.{covered_positions, covers, table_positions}
use Rattle.grid_config_values.specs.declared.entity.Entity.{Entity}
use Rattle.grid_config_values.specs.declared.position.Position.{Position}
use Rattle.grid_records.specs.RecordRows.Sources.{AreEquallyLong, columns_of}
use Rattle.grid_records_traits.specs.Rows.{HasCell, row_at, text_at, with_text}
use Rattle.grid_records_traits.specs.Sources.{texts_of_rows}
use Rattle.tabled_steps.specs.Changes.{AreInside, Change, changes, with_all}
use Rattle.tabled_steps.specs.States.{column_count}

-- ---- the places of a table

all_below : (a n : ℕ) → All (λ k. k < a + n) (range_with_len a n)
all_below a zero = All-nil (λ k. k < a + 0)
all_below a (suc n) =
    let first : a < a + suc n = omega arith in
    let rest : All (λ k. k < a + suc n) (range_with_len (a + 1) n) = All-weaker (λ k. k < a + 1 + n) (λ k. k < a + suc n) (λ k below. omega arith) (range_with_len (a + 1) n) (all_below (a + 1) n) in
    All-cons (λ k. k < a + suc n) a (range_with_len (a + 1) n) first rest

all_flat : {X Y : Type 0} (P : Y → Type 0) (f : X → List Y) (xs : List X) → All (λ x. All P (f x)) xs → All P (flat_map f xs)
all_flat P f [] all = All-nil P
all_flat P f (x ∷ xs) all = All-append P (f x) (flat_map f xs) (All-head (λ x. All P (f x)) x xs all) (all_flat P f xs (All-tail (λ x. All P (f x)) x xs all))

-- what holds of each place in so many rows and columns holds of those that an entity covers
all_covered : (P : Position → Type 0) (entity : Entity) (rows columns : ℕ) → ((row column : ℕ) → row < rows → column < columns → P (record { row = row; col = column })) →
    All P (covered_positions entity rows columns)
all_covered P entity rows columns holds =
    let at : ℕ → ℕ → Position = λ row column. record { row = row; col = column } in
    let in_row : (row : ℕ) → row < rows → All P (map (at row) (range_with_len 0 columns)) =
    λ row below. All-map P (at row) (range_with_len 0 columns) (All-weaker (λ k. k < 0 + columns) (λ k. P (at row k)) (λ k less. holds row k below (omega arith)) (range_with_len 0 columns) (all_below 0 columns)) in
    All-filter (covers entity) P (table_positions rows columns)
    (all_flat P (λ row. map (at row) (range_with_len 0 columns)) (range_with_len 0 rows)
    (All-weaker (λ k. k < 0 + rows) (λ k. All P (map (at k) (range_with_len 0 columns))) (λ k less. in_row k (omega arith)) (range_with_len 0 rows) (all_below 0 rows)))

-- ---- rows that are equally long

pub count_texts : {T Z : Type 0} (text : T → List ℕ) (rows : List (Vec T Z)) → column_count (texts_of_rows text rows) ≡ columns_of rows
count_texts text [] = refl
count_texts text (row ∷ rows) = length-map (vec_items row) text ∙ sym row.ok.0

length_of_row : {T Z : Type 0} (text : T → List ℕ) (rows : List (Vec T Z)) (columns i : ℕ) → All (λ row. vec_len row ≡ columns) rows → i < length rows → length (row_at (texts_of_rows text rows) i) ≡ columns
length_of_row text [] columns i long below = omega arith
length_of_row text (row ∷ rows) columns zero long below = length-map (vec_items row) text ∙ sym row.ok.0 ∙ All-head (λ row. vec_len row ≡ columns) row rows long
length_of_row text (row ∷ rows) columns (suc i) long below = length_of_row text rows columns i (All-tail (λ row. vec_len row ≡ columns) row rows long) (omega arith)

-- each place of the table has a text
covered_inside : {T Z : Type 0} (text : T → List ℕ) (rows : List (Vec T Z)) (entity : Entity) → AreEquallyLong rows →
    let texts = texts_of_rows text rows in All (HasCell texts) (covered_positions entity (length texts) (column_count texts))
covered_inside {T} {Z} text rows entity long =
    let texts : List (List (List ℕ)) = texts_of_rows text rows in
    let texts_of : Vec T Z → List (List ℕ) = λ row. map text (vec_items row) in
    all_covered (HasCell texts) entity (length texts) (column_count texts)
    (λ row column below less.
    let of_row : length (row_at texts row) ≡ columns_of rows = length_of_row text rows (columns_of rows) row long (omega (arith, below, length-map rows texts_of)) in
    (below, omega (arith, less, of_row, count_texts text rows)))

-- ---- changes

changed_inside : (change : Position → List ℕ → Option (List ℕ)) (rows : List (List (List ℕ))) (places : List Position) → All (HasCell rows) places → AreInside rows (changes change rows places)
changed_inside change rows [] all = All-nil (λ (it : Change). HasCell rows it.0)
changed_inside change rows (place ∷ places) all =
    let later = changed_inside change rows places (All-tail (HasCell rows) place places all) in
    elim (change place (text_at rows place)) as (λ text. AreInside rows (cons_option (option_map (λ text. (place, text)) text) (changes change rows places))) [
      | None ↦ later
      | Some text ↦ All-cons (λ (it : Change). HasCell rows it.0) (place, text) (changes change rows places) (All-head (HasCell rows) place places all) later
    ]

-- the changes of a table are of texts that are there
pub changes_inside : {T Z : Type 0} (text : T → List ℕ) (change : Position → List ℕ → Option (List ℕ)) (rows : List (Vec T Z)) (entity : Entity) → AreEquallyLong rows →
    let texts = texts_of_rows text rows in AreInside texts (changes change texts (covered_positions entity (length texts) (column_count texts)))
changes_inside text change rows entity long =
    let texts = texts_of_rows text rows in
    changed_inside change texts (covered_positions entity (length texts) (column_count texts)) (covered_inside text rows entity long)

lengths_kept : (rows : List (List (List ℕ))) (i j : ℕ) (row : List (List ℕ)) → length row ≡ length (row_at rows i) → length (row_at (slice_set rows i row) j) ≡ length (row_at rows j)
lengths_kept [] i j row same = refl
lengths_kept (first ∷ rows) zero zero row same = same
lengths_kept (first ∷ rows) zero (suc j) row same = refl
lengths_kept (first ∷ rows) (suc i) zero row same = refl
lengths_kept (first ∷ rows) (suc i) (suc j) row same = lengths_kept rows i j row same

-- a text that is set takes no other away
kept_inside : (rows : List (List (List ℕ))) (pos : Position) (text : List ℕ) (place : Position) → HasCell rows place → HasCell (with_text rows pos text) place
kept_inside rows pos text place inside =
    let row = slice_set (row_at rows pos.row) pos.col text in
    let same : length row ≡ length (row_at rows pos.row) = length-set (row_at rows pos.row) pos.col text in
    (omega (arith, inside.0, length-set rows pos.row row), omega (arith, inside.1, lengths_kept rows pos.row place.row row same))

last_set : (changes : List Change) (change : Change) (rows : List (List (List ℕ))) → with_all (changes ++ change ∷ []) rows ≡ with_all changes (with_text rows change.0 change.1)
last_set [] change rows = refl
last_set (first ∷ changes) change rows = ap (λ rows. with_text rows first.0 first.1) (last_set changes change rows)

-- the last of the changes is set, and the others are left
module _ (before after : List Change) (change : Change) (rows : List (List (List ℕ))) (split : before ≡ after ++ change ∷ []) where
  pub last_inside : AreInside rows before → AreInside (with_text rows change.0 change.1) after
  last_inside inside =
      All-weaker (λ (it : Change). HasCell rows it.0) (λ it. HasCell (with_text rows change.0 change.1) it.0) (λ it. kept_inside rows change.0 change.1 it.0) after
      (All-pop (λ (it : Change). HasCell rows it.0) before after (Some change) split inside).0

  pub last_is_inside : AreInside rows before → HasCell rows change.0
  last_is_inside inside = (All-pop (λ (it : Change). HasCell rows it.0) before after (Some change) split inside).1

  pub last_rows : (wanted : List (List (List ℕ))) → with_all before rows ≡ wanted → with_all after (with_text rows change.0 change.1) ≡ wanted
  last_rows wanted whole = sym (last_set after change rows) ∙ ap (λ changes. with_all changes rows) (sym split) ∙ whole
