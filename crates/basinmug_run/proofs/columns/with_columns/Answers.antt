-- A column that is shown is selected by its number, and an ellipsis is in place of one that is left out.
use Rattle.std.proofs.Common.{◌≡◌, ◌∙◌, ap, ap₂, refl, ℕ, List, [], ◌∷◌, Option, map}
use Rattle.std.proofs.lemmas.Result.{IfOk-weaker}
use Rattle.basinmug_cells.specs.Held.{Held}
use Rattle.basinmug_cells.specs.Selecting.{selected, selected_text}
use Rattle.basinmug_columns.specs.Fitting.Fitting.{ellipsis}
use Rattle.basinmug_columns.specs.declared.shown.ShownColumn.{ShownColumn}
use Rattle.basinmug_columns.specs.declared.shown.ShownColumn.TheVariants.{Number, LeftOut}
use Rattle.basinmug_run.specs.Columns.{number_if_shown, shown_field, shown_row, with_columns}
use Rattle.basinmug_run.proofs.columns.with_columns.Goals as goal

one : (row : List (List ℕ)) (column : ShownColumn) → selected_text ellipsis row (number_if_shown column) ≡ shown_field row column
one row (Number number) = refl
one row LeftOut = refl

each : (row : List (List ℕ)) (shown : List ShownColumn) → selected (map number_if_shown shown) ellipsis row ≡ shown_row shown row
each row [] = refl
each row (column ∷ shown) = ap₂ (λ (text : List ℕ) (rest : List (List ℕ)). text ∷ rest) (one row column) (each row shown)

all : (rows : List (List (List ℕ))) (shown : List ShownColumn) → map (selected (map number_if_shown shown) ellipsis) rows ≡ with_columns shown rows
all [] shown = refl
all (row ∷ rows) shown = ap₂ (λ (it : List (List ℕ)) (rest : List (List (List ℕ))). it ∷ rest) (each row shown) (all rows shown)

pub returns : goal.returns
returns c =
    let rows = c.args.rows.rows in
    let shown = c.args.shown.now in
    IfOk-weaker c.select.result _ _
    (λ chosen is.
    ap (λ (held : Held). held.rows) is
    ∙ ap (λ (columns : List (Option ℕ)). map (selected columns ellipsis) rows) (c.deref.ensures.value ∙ c.in_ok-columns.ensures)
    ∙ all rows shown) c.select.ensures
