-- The texts of a table, each changed by its place: what stays.
use Rattle.std.proofs.Common.{◌≡◌, ◌+◌, ◌-◌, ℕ, zero, suc, List, [], ◌∷◌, ◌++◌, Option, None, Some, map, length, take, get_or, replicate, slice_set, refl, ap, sym, ◌∙◌, arith}
use Rattle.std.specs.List.{AllByRecursion, cons_option}
use Rattle.std.specs.Option.{option_map}
use Rattle.std.specs.Prelude.{IfSome}
use Rattle.grid_config.specs.Looks.{Look}
use Rattle.grid_config_values.specs.Entities.{covered_positions}
use Rattle.grid_config_values.specs.Glyphs.{boundary_kind, has_row_boundary}
use Rattle.grid_config_values.specs.declared.entity.Entity.{Entity}
use Rattle.grid_config_values.specs.declared.position.Position.{Position}
use Rattle.grid_records_estimate.specs.Estimates.{track_sizes}
use Rattle.grid_records_estimate.specs.Sizing.{position_at}
use Rattle.grid_records_traits.specs.Rows.{evened, evened_row, row_at, text_at, with_text}
use Rattle.grid_records_traits.specs.TextLines.{text_height, text_width}
use Rattle.papergrid_picture.specs.Shown.{AreWholeTexts, IsWholeText}
use Rattle.tabled_steps.specs.Changes.{Change, changed_rows, changes, with_all}
use Rattle.tabled_steps.specs.Sizes.{column_needs_by_look, natural_heights, natural_widths, row_needs_by_look}
use Rattle.tabled_steps.specs.States.{column_count}
use Rattle.tabled_list.proofs.StrippingLemmas.TextsByPlace.{row_by, rows_from}

module _ (f : Position → List ℕ → List ℕ) where
  length-row : (r c : ℕ) (texts : List (List ℕ)) → length (row_by f r c texts) ≡ length texts
  length-row r c [] = refl
  length-row r c (text ∷ texts) = ap suc (length-row r (c + 1) texts)

  pub length-rows : (r : ℕ) (rows : List (List (List ℕ))) → length (rows_from f r rows) ≡ length rows
  length-rows r [] = refl
  length-rows r (row ∷ rows) = ap suc (length-rows (r + 1) rows)

  pub columns-same : (r : ℕ) (rows : List (List (List ℕ))) → column_count (rows_from f r rows) ≡ column_count rows
  columns-same r [] = refl
  columns-same r (row ∷ rows) = length-row r 0 row

  set-row : (r c k : ℕ) (texts : List (List ℕ)) (text : List ℕ) → row_by f r c (slice_set texts k text) ≡ slice_set (row_by f r c texts) k (f (position_at r (c + k)) text)
  set-row r c k [] text = refl
  set-row r c zero (first ∷ texts) text = let same : c ≡ c + zero = omega arith in ap (λ n. f (position_at r n) text ∷ row_by f r (c + 1) texts) same
  set-row r c (suc k) (first ∷ texts) text =
      let same : c + 1 + k ≡ c + suc k = omega arith in
      ap (λ rest. f (position_at r c) first ∷ rest) (set-row r (c + 1) k texts text ∙ ap (λ n. slice_set (row_by f r (c + 1) texts) k (f (position_at r n) text)) same)

  set-rows : (r k : ℕ) (rows : List (List (List ℕ))) (row : List (List ℕ)) → rows_from f r (slice_set rows k row) ≡ slice_set (rows_from f r rows) k (row_by f (r + k) 0 row)
  set-rows r k [] row = refl
  set-rows r zero (first ∷ rows) row = let same : r ≡ r + zero = omega arith in ap (λ n. row_by f n 0 row ∷ rows_from f (r + 1) rows) same
  set-rows r (suc k) (first ∷ rows) row =
      let same : r + 1 + k ≡ r + suc k = omega arith in
      ap (λ rest. row_by f r 0 first ∷ rest) (set-rows (r + 1) k rows row ∙ ap (λ n. slice_set (rows_from f (r + 1) rows) k (row_by f n 0 row)) same)

  row-there : (r k : ℕ) (rows : List (List (List ℕ))) → get_or (rows_from f r rows) k [] ≡ row_by f (r + k) 0 (get_or rows k [])
  row-there r k [] = refl
  row-there r zero (row ∷ rows) = let same : r ≡ r + zero = omega arith in ap (λ n. row_by f n 0 row) same
  row-there r (suc k) (row ∷ rows) = let same : r + 1 + k ≡ r + suc k = omega arith in row-there (r + 1) k rows ∙ ap (λ n. row_by f n 0 (get_or rows k [])) same

  from-first : (row column : ℕ) (text : List ℕ) → f (position_at (0 + row) (0 + column)) text ≡ f (position_at row column) text
  from-first row column text =
      let down : 0 + row ≡ row = omega arith in
      let over : 0 + column ≡ column = omega arith in
      ap (λ n. f (position_at n (0 + column)) text) down ∙ ap (λ n. f (position_at row n) text) over

  with-text : (rows : List (List (List ℕ))) (p : Position) (text : List ℕ) → rows_from f 0 (with_text rows p text) ≡ with_text (rows_from f 0 rows) p (f p text)
  with-text rows p text =
      set-rows 0 p.row rows (slice_set (row_at rows p.row) p.col text)
      ∙ ap (slice_set (rows_from f 0 rows) p.row)
      (set-row (0 + p.row) 0 p.col (row_at rows p.row) text
      ∙ ap (slice_set (row_by f (0 + p.row) 0 (row_at rows p.row)) p.col) (from-first p.row p.col text)
      ∙ ap (λ row. slice_set row p.col (f p text)) (sym (row-there 0 p.row rows)))

  module _ (none : (p : Position) → f p [] ≡ []) where
    text-in_row : (r c k : ℕ) (texts : List (List ℕ)) → get_or (row_by f r c texts) k [] ≡ f (position_at r (c + k)) (get_or texts k [])
    text-in_row r c k [] = sym (none (position_at r (c + k)))
    text-in_row r c zero (text ∷ texts) = let same : c ≡ c + zero = omega arith in ap (λ n. f (position_at r n) text) same
    text-in_row r c (suc k) (text ∷ texts) = let same : c + 1 + k ≡ c + suc k = omega arith in text-in_row r (c + 1) k texts ∙ ap (λ n. f (position_at r n) (get_or texts k [])) same

    pub text-same : (rows : List (List (List ℕ))) (p : Position) → text_at (rows_from f 0 rows) p ≡ f p (text_at rows p)
    text-same rows p =
        ap (λ row. get_or row p.col []) (row-there 0 p.row rows) ∙ text-in_row (0 + p.row) 0 p.col (get_or rows p.row []) ∙ from-first p.row p.col (text_at rows p)

    -- ---- sizes

    row-append : (r c : ℕ) (xs ys : List (List ℕ)) → row_by f r c (xs ++ ys) ≡ row_by f r c xs ++ row_by f r (c + length xs) ys
    row-append r c [] ys = let same : c ≡ c + zero = omega arith in ap (λ n. row_by f r n ys) same
    row-append r c (x ∷ xs) ys =
        let same : c + 1 + length xs ≡ c + suc (length xs) = omega arith in
        ap (λ rest. f (position_at r c) x ∷ rest) (row-append r (c + 1) xs ys ∙ ap (λ n. row_by f r (c + 1) xs ++ row_by f r n ys) same)

    row-empty : (r c n : ℕ) → row_by f r c (replicate n []) ≡ replicate n []
    row-empty r c zero = refl
    row-empty r c (suc n) = ap (λ first. first ∷ row_by f r (c + 1) (replicate n [])) (none (position_at r c)) ∙ ap (λ rest. [] ∷ rest) (row-empty r (c + 1) n)

    row-take : (r c n : ℕ) (xs : List (List ℕ)) → row_by f r c (take n xs) ≡ take n (row_by f r c xs)
    row-take r c zero xs = refl
    row-take r c (suc n) [] = refl
    row-take r c (suc n) (x ∷ xs) = ap (λ rest. f (position_at r c) x ∷ rest) (row-take r (c + 1) n xs)

    row-evened : (r n : ℕ) (row : List (List ℕ)) → row_by f r 0 (evened_row n row) ≡ evened_row n (row_by f r 0 row)
    row-evened r n row =
        row-append r 0 (take n row) (replicate (n - length row) [])
        ∙ ap (λ rest. row_by f r 0 (take n row) ++ rest) (row-empty r (0 + length (take n row)) (n - length row))
        ∙ ap (λ front. front ++ replicate (n - length row) []) (row-take r 0 n row)
        ∙ ap (λ m. take n (row_by f r 0 row) ++ replicate (n - m) []) (sym (length-row r 0 row))

    rows-evened : (r n : ℕ) (rows : List (List (List ℕ))) → evened n (rows_from f r rows) ≡ rows_from f r (evened n rows)
    rows-evened r n [] = refl
    rows-evened r n (row ∷ rows) =
        ap (λ first. first ∷ evened n (rows_from f (r + 1) rows)) (sym (row-evened r n row)) ∙ ap (λ rest. row_by f r 0 (evened_row n row) ∷ rest) (rows-evened (r + 1) n rows)

    module _ (look : Look) (n : ℕ) (rows : List (List (List ℕ))) where
      abbrev all : List (List (List ℕ))
      all = evened n rows

      pub widths-same : ((p : Position) (text : List ℕ) → text_width (f p text) ≡ text_width text) → natural_widths look n (rows_from f 0 rows) ≡ natural_widths look n rows
      unfolding natural_widths
      widths-same wide =
          ap (λ found. track_sizes (column_needs_by_look look n found)) (rows-evened 0 n rows)
          ∙ ap (λ cross_tracks. track_sizes (record (column_needs_by_look look n (rows_from f 0 all)) { cross_tracks = cross_tracks })) (length-rows 0 all)
          ∙ (λ k. track_sizes (record (column_needs_by_look look n all) { need = λ column row. let padding = look.padding (position_at row column) in (ap text_width (text-same all (position_at row column)) ∙ wide (position_at row column) (text_at all (position_at row column))) k + padding.left.size + padding.right.size }))

      pub heights-same : ((p : Position) (text : List ℕ) → text_height (f p text) ≡ text_height text) → natural_heights look n (rows_from f 0 rows) ≡ natural_heights look n rows
      unfolding natural_heights
      heights-same high =
          ap (λ found. track_sizes (row_needs_by_look look n found)) (rows-evened 0 n rows)
          ∙ ap (λ m. track_sizes (record (row_needs_by_look look n (rows_from f 0 all)) { tracks = m; has_boundary = λ i. has_row_boundary look.borders (boundary_kind i m) })) (length-rows 0 all)
          ∙ (λ k. track_sizes (record (row_needs_by_look look n all) { need = λ row column. let padding = look.padding (position_at row column) in (ap text_height (text-same all (position_at row column)) ∙ high (position_at row column) (text_at all (position_at row column))) k + padding.top.size + padding.bottom.size }))

    -- ---- texts that change

    abbrev by : Change → Change
    by change = (change.0, f change.0 change.1)

    all-same : (cs : List Change) (rows : List (List (List ℕ))) → with_all (map by cs) (rows_from f 0 rows) ≡ rows_from f 0 (with_all cs rows)
    all-same [] rows = refl
    all-same (c ∷ cs) rows = ap (λ found. with_text found c.0 (f c.0 c.1)) (all-same cs rows) ∙ sym (with-text (with_all cs rows) c.0 c.1)

    module _ (change : Position → List ℕ → Option (List ℕ)) (rows : List (List (List ℕ))) (commutes : (p : Position) → change p (f p (text_at rows p)) ≡ option_map (f p) (change p (text_at rows p))) where
      first-change : (p : Position) (found : Option (List ℕ)) (rest : List Change) → cons_option (option_map (λ text. (p, text)) (option_map (f p) found)) (map by rest) ≡ map by (cons_option (option_map (λ text. (p, text)) found) rest)
      first-change p None rest = refl
      first-change p (Some text) rest = refl

      changes-same : (places : List Position) → changes change (rows_from f 0 rows) places ≡ map by (changes change rows places)
      changes-same [] = refl
      changes-same (p ∷ places) =
          ap (λ (found : Option (List ℕ)). cons_option (option_map (λ text. (p, text)) found) (changes change (rows_from f 0 rows) places)) (ap (change p) (text-same rows p) ∙ commutes p)
          ∙ ap (λ (rest : List Change). cons_option (option_map (λ text. (p, text)) (option_map (f p) (change p (text_at rows p)))) rest) (changes-same places)
          ∙ first-change p (change p (text_at rows p)) (changes change rows places)

      pub changed-same : (at : Entity) (n : ℕ) → changed_rows change at n (rows_from f 0 rows) ≡ rows_from f 0 (changed_rows change at n rows)
      changed-same at n =
          ap (λ m. with_all (changes change (rows_from f 0 rows) (covered_positions at m n)) (rows_from f 0 rows)) (length-rows 0 rows)
          ∙ ap (λ (cs : List Change). with_all cs (rows_from f 0 rows)) (changes-same (covered_positions at (length rows) n))
          ∙ all-same (changes change rows (covered_positions at (length rows) n)) rows

-- ---- whole texts stay whole

All-set : {X : Type 0} (P : X → Type 0) (xs : List X) (k : ℕ) (x : X) → AllByRecursion P xs → P x → AllByRecursion P (slice_set xs k x)
All-set P [] k x all is = all
All-set P (y ∷ ys) zero x all is = (is, all.1)
All-set P (y ∷ ys) (suc k) x all is = (all.0, All-set P ys k x all.1 is)

All-get : {X : Type 0} (P : X → Type 0) (xs : List X) (k : ℕ) (d : X) → AllByRecursion P xs → P d → P (get_or xs k d)
All-get P [] k d each is = is
All-get P (x ∷ xs) zero d each is = each.0
All-get P (x ∷ xs) (suc k) d each is = All-get P xs k d each.1 is

module _ (change : Position → List ℕ → Option (List ℕ)) (rows : List (List (List ℕ))) (whole : AreWholeTexts rows)
    (stays : (p : Position) → IfSome (change p (text_at rows p)) IsWholeText) where
  set-whole : (others : List (List (List ℕ))) (p : Position) (text : List ℕ) → AreWholeTexts others → IsWholeText text → AreWholeTexts (with_text others p text)
  set-whole others p text all is =
      All-set (AllByRecursion IsWholeText) others p.row (slice_set (row_at others p.row) p.col text) all
      (All-set IsWholeText (row_at others p.row) p.col text (All-get (AllByRecursion IsWholeText) others p.row [] all tt) is)

  first-whole : (p : Position) (found : Option (List ℕ)) (rest : List Change) → IfSome found IsWholeText → AreWholeTexts (with_all rest rows) → AreWholeTexts (with_all (cons_option (option_map (λ text. (p, text)) found) rest) rows)
  first-whole p None rest is all = all
  first-whole p (Some text) rest is all = set-whole (with_all rest rows) p text all is

  all-whole : (places : List Position) → AreWholeTexts (with_all (changes change rows places) rows)
  all-whole [] = whole
  all-whole (p ∷ places) = first-whole p (change p (text_at rows p)) (changes change rows places) (stays p) (all-whole places)

  pub changed-whole : (at : Entity) (n : ℕ) → AreWholeTexts (changed_rows change at n rows)
  changed-whole at n = all-whole (covered_positions at (length rows) n)
