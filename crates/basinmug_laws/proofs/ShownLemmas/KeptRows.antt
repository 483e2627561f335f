-- What holds of rows holds of those that are shown of them; and with a row of ellipses between them, if it holds of an ellipsis.
use Rattle.std.proofs.Common.{ℕ, ◌+◌, Bool, List, ◌∷◌, drop, take}
use Rattle.std.specs.Prelude.{insert}
use Rattle.std.specs.List.{AllByRecursion}
use Rattle.tabled_text.specs.Rows.{longest}
use Rattle.papergrid_picture.proofs.Related.{All-append, All-replicate}
use Rattle.papergrid_picture.proofs.Shown.{All-drop, All-take}
use Rattle.basinmug_columns.specs.Fitting.Fitting.{ellipsis}
use Rattle.basinmug_columns.specs.declared.rows.RowsShown.{RowsShown}
use Rattle.basinmug_columns.specs.declared.rows.RowsShown.TheVariants.{All, More, Earlier, Between}
use Rattle.basinmug_input.specs.Kept.{kept_rows, last_of}
use Rattle.basinmug_input.specs.declared.kept.RowChoice.{RowChoice}
use Rattle.basinmug_input.specs.declared.kept.RowChoice.TheVariants.{All as AllRows, Ends}
use Rattle.basinmug_run.specs.Kept.{choice_of, shown_rows}
use Rattle.basinmug_run.specs.declared.options.Options.{Options}
use Rattle.basinmug_run.specs.Picture.Rows.{header_rows, mark_row, marked_rows}

module _ {X : Type 0} (P : X → Type 0) where
  last-all : (most : ℕ) (xs : List X) → AllByRecursion P xs → AllByRecursion P (last_of most xs)
  last-all most xs all = All-drop P _ xs all

  pub kept-all : (choice : RowChoice) (xs : List X) → AllByRecursion P xs → AllByRecursion P (kept_rows choice xs)
  kept-all AllRows xs all = all
  kept-all (Ends first last) xs all =
      All-append P (take first xs) (last_of last (drop first xs)) (All-take P first xs all) (last-all last (drop first xs) (All-drop P first xs all))

module _ (P : List ℕ → Type 0) where
  pub shown-all : (options : Options) (rows : List (List (List ℕ))) → AllByRecursion (AllByRecursion P) rows → AllByRecursion (AllByRecursion P) (shown_rows options rows)
  shown-all options rows all = kept-all (AllByRecursion P) (choice_of options) rows all

  module _ (dots : P ellipsis) where
    put-all : (place : ℕ) (rows : List (List (List ℕ))) → AllByRecursion (AllByRecursion P) rows → AllByRecursion (AllByRecursion P) (insert rows place (mark_row rows))
    put-all place rows all =
        All-append (AllByRecursion P) (take place rows) (mark_row rows ∷ drop place rows) (All-take (AllByRecursion P) place rows all)
        (All-replicate P (longest rows) ellipsis dots, All-drop (AllByRecursion P) place rows all)

    pub marked-all : (header : Bool) (shown : RowsShown) (rows : List (List (List ℕ))) → AllByRecursion (AllByRecursion P) rows → AllByRecursion (AllByRecursion P) (marked_rows header shown rows)
    marked-all header All rows all = all
    marked-all header (More count) rows all = all
    marked-all header (Earlier count) rows all = all
    marked-all header (Between first count) rows all = put-all (first + header_rows header) rows all
