-- The first row, or one past the last.
use Rattle.std.proofs.Common.{◌≡◌, ◌∙◌, ap, refl, sym, Bool, true, ℕ, List, [], ◌∷◌, length}
use Rattle.grid_records_traits.specs.Rows.{row_at}
use Rattle.basinmug_cells.specs.Views.{view_rows}
use Rattle.basinmug_run.specs.Picture.Rows.{header_of}
use Rattle.basinmug_run.proofs.picture.rows.header_of.Goals as goal

first : (rows : List (List (List ℕ))) → row_at rows 0 ≡ header_of true rows
first [] = refl
first (row ∷ rows) = refl

past : (rows : List (List (List ℕ))) → row_at rows (length rows) ≡ []
past [] = refl
past (row ∷ rows) = past rows

pub returns-then-header : goal.returns-then-header
returns-then-header c =
    c.row.ensures ∙ first (view_rows c.args.rows) ∙ ap (λ (header : Bool). header_of header (view_rows c.args.rows)) (sym c.if-header.true)

pub returns-else-header : goal.returns-else-header
returns-else-header c =
    c.row-else-header.ensures ∙ ap (row_at (view_rows c.args.rows)) c.len.ensures ∙ past (view_rows c.args.rows) ∙ ap (λ (header : Bool). header_of header (view_rows c.args.rows)) (sym c.if-header.false)
