-- The cells of an input of a class, and what they are resized to.
use Rattle.std.proofs.Common.{◌≡◌, ◌==◌, ◌+◌, ◌||◌, ◌&&◌, ℕ, Bool, true, false, List, [], ◌∷◌, map, refl, ap, sym, subst, ◌∙◌}
use Rattle.std.specs.List.{AllByRecursion, list_all, slice_split}
use Rattle.std.proofs.lemmas.Bool.{and_parts}
use Rattle.ansi_str.specs.Characters.{shown_chars}
use Rattle.columns_asked.specs.DrawnTables.{by_column}
use Rattle.columns_run.specs.Rows.{cell_parts, row_texts, rows_of, without_empty_last}
use Rattle.columns_run.proofs.Cells.{Fails, slice_split-fails, slice_split-keeps, styled-cell_parts, whole_cells, whole_text}
use Rattle.columns_run.proofs.Splits.{styled_characters}
use Rattle.grid_records_measure.specs.Cutting.{replacement}
use Rattle.grid_records_measure.specs.Tabs.{tab}
use Rattle.grid_records_measure.specs.TextLines.{is_line_feed, line_feed}
use Rattle.tables_laws.specs.Grids.TextsOf.{AreTextsOf, IsTextOf}
use Rattle.tables_laws.proofs.GridsLemmas.Lists.{list_all-weaker, or-feed}
use Rattle.tables_laws.proofs.GridsLemmas.Resized.{resized-text}
use Rattle.papergrid_picture.specs.Shown.{IsWholeText, Styled, character_of}
use Rattle.papergrid_picture.proofs.Shown.{characters-styled, styled_of}
use Rattle.tabled_size_wrap.specs.Cells.Resizing.{Resize, resized_text}
use Rattle.columns_laws.specs.Plain.AdditiveInputs.{IsInputOf}

-- ---- lists

without-last-keeps : (P : List Styled → Type 0) (parts : List (List Styled)) → AllByRecursion P parts → AllByRecursion P (without_empty_last parts)
without-last-keeps P [] all = tt
without-last-keeps P ([] ∷ []) all = tt
without-last-keeps P ([] ∷ next ∷ parts) all = (all.0, without-last-keeps P (next ∷ parts) all.1)
without-last-keeps P ((x ∷ xs) ∷ parts) all = (all.0, without-last-keeps P parts all.1)

both : {A : Type 0} (P Q : A → Type 0) (xs : List A) → AllByRecursion P xs → AllByRecursion Q xs → AllByRecursion (λ x. P x × Q x) xs
both P Q [] first second = tt
both P Q (x ∷ xs) first second = ((first.0, second.0), both P Q xs first.1 second.1)

both-rows : {A : Type 0} (P Q : A → Type 0) (rows : List (List A)) → AllByRecursion (AllByRecursion P) rows → AllByRecursion (AllByRecursion Q) rows → AllByRecursion (AllByRecursion (λ x. P x × Q x)) rows
both-rows P Q [] first second = tt
both-rows P Q (row ∷ rows) first second = (both P Q row first.0 second.0, both-rows P Q rows first.1 second.1)

abbrev is_feed : Styled → Bool
is_feed x = x.0 == line_feed

abbrev is_tab : Styled → Bool
is_tab x = x.0 == tab

class-left : (a b c : Bool) → (a || (b || c)) ≡ true → b ≡ false → c ≡ false → a ≡ true
class-left true b c is feed tab_is = refl
class-left false true c is feed tab_is = absurd (cc feed)
class-left false false true is feed tab_is = absurd (cc tab_is)
class-left false false false is feed tab_is = is

module _ (p : ℕ → Bool) where
  -- ---- the characters of the cells

  abbrev passes : ℕ → Bool
  passes c = p c || (is_line_feed c || c == tab)

  abbrev IsOfInput : Styled → Type 0
  IsOfInput x = passes x.0 ≡ true

  each-passes : (xs : List Styled) → list_all passes (map character_of xs) ≡ true → AllByRecursion IsOfInput xs
  each-passes [] all = tt
  each-passes (x ∷ xs) all = let parts = and_parts (passes x.0) (list_all passes (map character_of xs)) all in (parts.0, each-passes xs parts.1)

  abbrev InRow : Styled → Type 0
  InRow x = IsOfInput x × Fails is_feed x

  abbrev IsOf : Styled → Type 0
  IsOf x = p x.0 ≡ true

  cell-of : (cell : List Styled) → AllByRecursion (λ x. InRow x × Fails is_tab x) cell → AllByRecursion IsOf cell
  cell-of [] all = tt
  cell-of (x ∷ cell) all = (class-left (p x.0) (is_line_feed x.0) (x.0 == tab) all.0.0.0 all.0.0.1 all.0.1, cell-of cell all.1)

  cells-of : (cells : List (List Styled)) → AllByRecursion (AllByRecursion (λ x. InRow x × Fails is_tab x)) cells → AllByRecursion (AllByRecursion IsOf) cells
  cells-of [] all = tt
  cells-of (cell ∷ cells) all = (cell-of cell all.0, cells-of cells all.1)

  row-of : (row : List Styled) → AllByRecursion InRow row → AllByRecursion (AllByRecursion IsOf) (slice_split is_tab row)
  row-of row all = cells-of (slice_split is_tab row) (both-rows InRow (Fails is_tab) (slice_split is_tab row) (slice_split-keeps InRow is_tab row all) (slice_split-fails is_tab row))

  each-row : (rows : List (List Styled)) → AllByRecursion (AllByRecursion InRow) rows → AllByRecursion (AllByRecursion (AllByRecursion IsOf)) (map (slice_split is_tab) rows)
  each-row [] all = tt
  each-row (row ∷ rows) all = (row-of row all.0, each-row rows all.1)

  rows-of_class : (xs : List Styled) → AllByRecursion IsOfInput xs → AllByRecursion (AllByRecursion (AllByRecursion IsOf)) (rows_of (λ x. x.0) xs)
  rows-of_class xs all =
      let lines = slice_split is_feed xs in
      each-row (row_texts (λ x. x.0) xs)
      (without-last-keeps (AllByRecursion InRow) lines (both-rows IsOfInput (Fails is_feed) lines (slice_split-keeps IsOfInput is_feed xs all) (slice_split-fails is_feed xs)))

  -- ---- the cells

  letters-of : (xs : List Styled) → AllByRecursion IsOf xs → list_all p (map character_of xs) ≡ true
  letters-of [] all = refl
  letters-of (x ∷ xs) all = ap (λ b. b && list_all p (map character_of xs)) all.0 ∙ letters-of xs all.1

  text-of_class : (cell : List ℕ) → IsWholeText cell → AllByRecursion IsOf (styled_of cell) → IsTextOf p cell
  text-of_class cell whole all = record {
    whole = whole;
    shown =
        list_all-weaker p (λ c. p c || is_line_feed c) (or-feed p) (shown_chars cell)
        (ap (list_all p) (sym (characters-styled cell whole.utf8)) ∙ letters-of (styled_of cell) all);
  }

  row-cells : (row : List (List ℕ)) → AllByRecursion IsWholeText row → AllByRecursion (AllByRecursion IsOf) (map styled_characters row) → AllByRecursion (IsTextOf p) row
  row-cells [] whole all = tt
  row-cells (cell ∷ row) whole all = (text-of_class cell whole.0 all.0, row-cells row whole.1 all.1)

  all-cells : (rows : List (List (List ℕ))) → AllByRecursion (AllByRecursion IsWholeText) rows → AllByRecursion (AllByRecursion (AllByRecursion IsOf)) (map (map styled_characters) rows) → AreTextsOf p rows
  all-cells [] whole all = tt
  all-cells (row ∷ rows) whole all = (row-cells row whole.0 all.0, all-cells rows whole.1 all.1)

  pub cells-of_input : (input : List ℕ) → IsInputOf p input → AreTextsOf p (cell_parts input)
  cells-of_input input is =
      let whole = whole_text input is.utf8 is.whole in
      let shown : map character_of (styled_characters input) ≡ shown_chars input = characters-styled input is.utf8 in
      let all : list_all passes (map character_of (styled_characters input)) ≡ true = ap (list_all passes) shown ∙ is.shown in
      all-cells (cell_parts input) (whole_cells input whole)
      (subst (AllByRecursion (AllByRecursion (AllByRecursion IsOf))) (sym (styled-cell_parts input whole)) (rows-of_class (styled_characters input) (each-passes (styled_characters input) all)))

  -- ---- the cells of a row, each resized by its column

  module _ (mark : p replacement ≡ true) (resize : ℕ → Resize) where
    row-resized : (column : ℕ) (row : List (List ℕ)) → AllByRecursion (IsTextOf p) row → AllByRecursion (IsTextOf p) (by_column (λ j. resized_text (resize j)) column row)
    row-resized column [] all = tt
    row-resized column (cell ∷ row) all = (resized-text p mark (resize column) cell all.0, row-resized (column + 1) row all.1)

    pub rows-resized : (rows : List (List (List ℕ))) → AreTextsOf p rows → AreTextsOf p (map (by_column (λ j. resized_text (resize j)) 0) rows)
    rows-resized [] all = tt
    rows-resized (row ∷ rows) all = (row-resized 0 row all.0, rows-resized rows all.1)
