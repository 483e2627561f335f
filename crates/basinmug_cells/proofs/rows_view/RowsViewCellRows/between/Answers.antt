-- The rows from one on before another.
use Rattle.std.proofs.Common.{◌≡◌, ◌∙◌, List, ap, ap₂, length, map, min, subst, sym, ℕ}
use Rattle.basinmug_cells.specs.Ends.{Ascend, rows_by, start_at}
use Rattle.basinmug_cells.specs.OwnTexts.{own_texts}
use Rattle.basinmug_cells.specs.Places.{place_text}
use Rattle.basinmug_cells.proofs.Ends.{rows-part}
use Rattle.basinmug_cells.proofs.Views.{ascend-part}
use Rattle.basinmug_cells.proofs.rows_view.RowsViewCellRows.between.Goals as goal

pub invariant_of-result : goal.invariant_of-result
invariant_of-result c =
    let rows = c.args.self in
    let first : c.min-first.result ≡ min c.args.start (min c.args.end (length rows.ends.now)) = c.min-first.ensures ∙ ap (min c.args.start) c.min.ensures in
    let start : c.start_of.result ≡ start_at rows.start rows.ends.now (min c.args.start (min c.args.end (length rows.ends.now))) = c.start_of.ensures ∙ ap (start_at rows.start rows.ends.now) first in
    record {
      are = rows.are;
      ascending = subst (λ (n : ℕ). Ascend n c.part.result.now (length rows.places.now)) (sym start)
          (subst (λ (of : List ℕ). Ascend (start_at rows.start rows.ends.now (min c.args.start (min c.args.end (length rows.ends.now)))) of (length rows.places.now)) (sym c.part.ensures)
          (ascend-part rows.start rows.ends.now (length rows.places.now) c.args.start c.args.end rows.ascending));
    }

pub returns : goal.returns
returns c =
    let rows = c.args.self in
    let texts = map (place_text rows.text.now (own_texts rows.own.now)) rows.places.now in
    let first : c.min-first.result ≡ min c.args.start (min c.args.end (length rows.ends.now)) = c.min-first.ensures ∙ ap (min c.args.start) c.min.ensures in
    ap₂ (λ (n : ℕ) (of : List ℕ). rows_by n of texts) (c.start_of.ensures ∙ ap (start_at rows.start rows.ends.now) first) c.part.ensures
    ∙ rows-part rows.start rows.ends.now texts c.args.start c.args.end
