-- A record whose cell in the column is a text.
use Rattle.std.proofs.Common.{◌≡◌, ap, ◌∙◌, sym, arith, List, [], ℕ, length, ◌<◌, get_or}
use Rattle.basinmug_columns.proofs.NumbersLemmas.Texts.{is_numeric-text}
use Rattle.std.proofs.lemmas.List.{get_or_default}
use Rattle.basinmug_columns.specs.Numbers.Columns.{kind_of_cell}
use Rattle.basinmug_columns.specs.declared.numbers.columns.Content.TheVariants.{Text}
use Rattle.basinmug_columns.proofs.numbers.columns.is_numeric.Goals as goal

pub returns-in-Text : goal.returns-in-Text
returns-in-Text g c =
    let records = g.R.CellRows.rows c.args.records in
    let place = c.loop-place.place in
    let row = get_or records place [] in
    let kind : kind_of_cell c.args.column row ≡ Text = ap (kind_of_cell c.args.column) (sym c.row.ensures) ∙ (sym c.in_ok-content_at.ensures ∙ c.in-Text.is) in
    let below : place < length records = omega (arith, c.len-place-end.ensures, c.loop-place-test.true, c.loop-place.auto.place-end) in
    sym (is_numeric-text records c.args.column place row below (get_or_default records place row [] below) kind)
