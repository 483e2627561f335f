-- What holds of the texts of rows, and of what is requested of their columns, holds of those of chosen columns.
use Rattle.std.proofs.Common.{◌≡◌, ◌∙◌, ap, sym, refl, subst, ℕ, zero, suc, Bool, true, false, List, [], ◌∷◌, ◌++◌, Option, None, Some, length, if◌then◌else◌}
use Rattle.std.proofs.lemmas.Bool.{false≢true}
use Rattle.std.specs.Prelude.{◌==◌, ◌&&◌, ⊤, MatchOption, slice_index_or}
use Rattle.std.specs.List.{AllByRecursion, count_by, flat_map, range_with_len}
use Rattle.std.specs.Option.{option_or}
use Rattle.grid_config.specs.Colors.{Color}
use Rattle.tabled_text.specs.Rows.{longest}
use Rattle.papergrid_picture.specs.Colors.ClosingColors.{IsClosing}
use Rattle.program_options.specs.declared.basinmug.ColumnChoice.{ColumnChoice}
use Rattle.program_options.specs.declared.basinmug.ColumnName.{ColumnName}
use Rattle.basinmug_run.specs.declared.options.Options.{Options}
use Rattle.basinmug_columns.specs.Fitting.Fitting.{ellipsis}
use Rattle.basinmug_columns.specs.declared.shown.ShownColumn.{ShownColumn}
use Rattle.basinmug_columns.specs.declared.shown.ShownColumn.TheVariants.{Number, LeftOut}
use Rattle.basinmug_run.specs.Columns.{AreOfColumns, asked_at, columns_in, columns_of_table, are_none, given_for, is_number, is_of_input, last_for, missing_choices, missing_in, number_in, own_rows, placed, rows_with, shown_field, shown_row, shows_whole_rows, value_at, wanted_columns, with_columns}
use Rattle.basinmug_run.specs.Picture.Pictures.{missing_of}
use Rattle.basinmug_run.specs.Kept.{shown_rows}
use Rattle.basinmug_run.proofs.OfKept.{missing-kept}
use Rattle.basinmug_laws.specs.Shown.ClosingOptions.{HaveClosingColors}

-- ---- texts

-- of the texts of rows, of the empty text and of an ellipsis
module _ (P : List ℕ → Type 0) (none : P []) (dots : P ellipsis) where
  field-of : (row : List (List ℕ)) (number : ℕ) → AllByRecursion P row → P (slice_index_or row number [])
  field-of [] number all = none
  field-of (text ∷ row) zero all = all.0
  field-of (text ∷ row) (suc number) all = field-of row number all.1

  shown-of : (row : List (List ℕ)) (column : ShownColumn) → AllByRecursion P row → P (shown_field row column)
  shown-of row (Number number) all = field-of row number all
  shown-of row LeftOut all = dots

  row-of : (columns : List ShownColumn) (row : List (List ℕ)) → AllByRecursion P row → AllByRecursion P (shown_row columns row)
  row-of [] row all = tt
  row-of (column ∷ columns) row all = (shown-of row column all, row-of columns row all)

  pub columns-of : (columns : List ShownColumn) (rows : List (List (List ℕ))) → AllByRecursion (AllByRecursion P) rows → AllByRecursion (AllByRecursion P) (with_columns columns rows)
  columns-of columns [] all = tt
  columns-of columns (row ∷ rows) all = (row-of columns row all.0, columns-of columns rows all.1)

  with-of : (choices : List ColumnChoice) (columns : List ShownColumn) (rows : List (List (List ℕ))) → AllByRecursion (AllByRecursion P) rows → AllByRecursion (AllByRecursion P) (rows_with choices columns rows)
  with-of [] columns rows all = all
  with-of (choice ∷ choices) columns rows all = columns-of columns rows all

  pub own-of : (options : Options) (rows : List (List (List ℕ))) → AllByRecursion (AllByRecursion P) rows → AllByRecursion (AllByRecursion P) (own_rows options rows)
  own-of options rows all = with-of options.columns.items (columns_in options rows) rows all

-- ---- what is requested of columns

-- a value, if there is one
abbrev If : {X : Type 0} → (X → Type 0) → Option X → Type 0
If Q found = MatchOption found ⊤ Q

module _ {X : Type 0} (Q : X → Type 0) where
  one-of : (b : Bool) (value : X) → Q value → If Q (if b then Some value else None)
  one-of true value is = is
  one-of false value is = tt

  either-of : (a b : Option X) → If Q a → If Q b → If Q (option_or a b)
  either-of None b first second = second
  either-of (Some value) b first second = first

  last-of : (given : List (Option ℕ × X)) (column : ℕ) → AllByRecursion (λ one. Q one.1) given → If Q (last_for given column)
  last-of [] column all = tt
  last-of (one ∷ given) column all =
      either-of (last_for given column) (if is_number one.0 column then Some one.1 else None) (last-of given column all.1) (one-of (is_number one.0 column) one.1 all.0)

  given-of : (number_of : ColumnName → Option ℕ) (pairs : List (ColumnName × X)) → AllByRecursion (λ pair. Q pair.1) pairs → AllByRecursion (λ one. Q one.1) (given_for number_of pairs)
  given-of number_of [] all = tt
  given-of number_of (pair ∷ pairs) all = (all.0, given-of number_of pairs all.1)

  at-of : (place : ℕ) (found : Option X) → If Q found → AllByRecursion (λ pair. Q pair.1) (asked_at place found)
  at-of place None is = tt
  at-of place (Some value) is = (is, tt)

  value-of : (value_of : ℕ → Option X) → ((column : ℕ) → If Q (value_of column)) → (column : ShownColumn) → If Q (value_at value_of column)
  value-of value_of all (Number number) = all number
  value-of value_of all LeftOut = tt

  joined : (xs ys : List (ColumnName × X)) → AllByRecursion (λ pair. Q pair.1) xs → AllByRecursion (λ pair. Q pair.1) ys → AllByRecursion (λ pair. Q pair.1) (xs ++ ys)
  joined [] ys first second = second
  joined (x ∷ xs) ys first second = (first.0, joined xs ys first.1 second)

  each-of : (gives : ℕ → List (ColumnName × X)) (numbers : List ℕ) → ((number : ℕ) → AllByRecursion (λ pair. Q pair.1) (gives number)) → AllByRecursion (λ pair. Q pair.1) (flat_map gives numbers)
  each-of gives [] all = tt
  each-of gives (number ∷ numbers) all = joined (gives number) (flat_map gives numbers) (all number) (each-of gives numbers all)

  placed-of : (columns : List ShownColumn) (value_of : ℕ → Option X) → ((column : ℕ) → If Q (value_of column)) → AllByRecursion (λ pair. Q pair.1) (placed columns value_of)
  placed-of columns value_of all =
      each-of (λ place. asked_at place (value_at value_of (slice_index_or columns place LeftOut))) (range_with_len 0 (length columns))
      (λ place. at-of place (value_at value_of (slice_index_or columns place LeftOut)) (value-of value_of all (slice_index_or columns place LeftOut)))

-- what holds of the colours that are requested holds of those of chosen columns
pub own-colors : (Q : Color → Type 0) (options own : Options) (rows : List (List (List ℕ))) (columns : List ShownColumn) → AllByRecursion (λ (pair : ColumnName × Color). Q pair.1) options.colors.items
    → AreOfColumns options rows columns own → AllByRecursion (λ (pair : ColumnName × Color). Q pair.1) own.colors.items
own-colors Q options own rows columns all are =
    let given = given_for (number_in options rows) options.colors.items in
    subst (λ (pairs : List (ColumnName × Color)). AllByRecursion (λ (pair : ColumnName × Color). Q pair.1) pairs) (sym are.colors)
    (placed-of Q columns (last_for given) (λ column. last-of Q given column (given-of Q (number_in options rows) options.colors.items all)))

-- they close
pub own-closes : (options own : Options) (rows : List (List (List ℕ))) (columns : List ShownColumn) → HaveClosingColors options → AreOfColumns options rows columns own → HaveClosingColors own
own-closes = own-colors IsClosing

-- ---- names

no-choices : (number_of : ColumnName → Option ℕ) (count : ℕ) (choices : List ColumnChoice) → are_none choices ≡ true → missing_choices number_of count choices ≡ []
no-choices number_of count [] none = refl
no-choices number_of count (choice ∷ choices) none = absurd (false≢true none)

-- where no columns are chosen, the names that are missing are those that the shown rows lack
pub missing-same : (options : Options) (rows : List (List (List ℕ))) → are_none options.columns.items ≡ true → missing_of options (shown_rows options rows) ≡ missing_in options rows
missing-same options rows none =
    let shown = shown_rows options rows in
    ap (λ (names : List (List ℕ)). names ++ missing_of options shown) (sym (no-choices (number_in options shown) (longest rows) options.columns.items none)) ∙ missing-kept options rows

both-first : (a b : Bool) → (a && b) ≡ true → a ≡ true
both-first true b both = refl
both-first false b both = absurd (false≢true both)

-- where whole rows are shown, no columns are chosen
pub whole-none : (options : Options) (rows : List (List (List ℕ))) → shows_whole_rows options rows ≡ true → are_none options.columns.items ≡ true
whole-none options rows = both-first (are_none options.columns.items) (count_by is_of_input (columns_of_table options rows []) == length (wanted_columns options rows []))
