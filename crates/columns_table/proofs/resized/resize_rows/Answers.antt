use Rattle.std.proofs.Common.{◌≡◌, ℕ, ◌+◌, ◌<◌, ◌≤◌, All, List, ◌++◌, drop, get_or, length, take, ap, sym, subst, ◌∙◌, arith}
use Rattle.std.specs.Cow.{cow_str_bytes}
use Rattle.std.proofs.lemmas.List.{length-map}
use Rattle.std.proofs.lemmas.List.Elements.{All-drop, All-take}
use Rattle.columns_table.specs.CellRows.{row_cells}
use Rattle.columns_table.specs.Resized.{resized_row}
use Rattle.columns_table.specs.ResizedTexts.{cells_texts}
use Rattle.columns_table.specs.Records.{IsSingleLineCell}
use Rattle.columns_table.specs.Rows.{cell_texts, split_by_lengths}
use Rattle.columns_table.specs.declared.resized_cell.ResizedCell.{ResizedCell}
use Rattle.columns_table.proofs.ResizedRows.{all_texts, length-by_column, length-texts, parted-texts, rows-ended, rows-pushed}
use Rattle.columns_table.proofs.resized.resize_rows.Goals as goal

pub loop-count-init : goal.loop-count-init
loop-count-init c =
    let kept = resized_row c.args.asked.now c.args.beside c.args.widths.now in
    let counts = c.args.rows.now.counts.items in
    record {
      texts =
          ap (λ (done : List ResizedCell). cells_texts done ++ all_texts kept counts (row_cells c.all-rest.result)) c.in_ok-kept.ensures.items
          ∙ ap (all_texts kept counts) c.all-rest.ensures;
      measured = subst (All IsSingleLineCell) (sym c.all-rest.ensures) c.requires.measured;
    }

pub push_row-requires : goal.push_row-requires
push_row-requires c = subst (All IsSingleLineCell) (sym c.split.ensures.first) (All-take IsSingleLineCell _ (row_cells c.loop-count.rest) c.loop-count.invariant.measured)

pub loop-count-preserved : goal.loop-count-preserved
loop-count-preserved c =
    let kept = resized_row c.args.asked.now c.args.beside c.args.widths.now in
    let counts = c.args.rows.now.counts.items in
    let i = c.loop-count.count-index in
    let rest = row_cells c.loop-count.rest in
    let done = cells_texts c.loop-count.kept.items in
    let now = cells_texts c.push_row.new.kept.items in
    let inside : i < length counts = omega (arith, c.loop-count-test.true, ap (λ (xs : List ℕ). length xs) c.deref-count-items.ensures.value) in
    let count : get_or c.deref-count-items.result.now i 0 ≡ get_or counts i 0 = ap (λ xs. get_or xs i 0) c.deref-count-items.ensures.value in
    record {
      texts =
          ap (λ cells. now ++ all_texts kept (drop (i + 1) counts) cells) (c.split.ensures.behind ∙ ap (λ n. drop n rest) count)
          ∙ rows-pushed kept now done counts rest i inside (c.in_ok-push_row.ensures ∙ ap (λ cells. done ++ kept (cell_texts cells)) (c.split.ensures.first ∙ ap (λ n. take n rest) count))
          ∙ c.loop-count.invariant.texts;
      measured = subst (All IsSingleLineCell) (sym c.split.ensures.behind) (All-drop IsSingleLineCell _ rest c.loop-count.invariant.measured);
    }

pub returns-clause-texts : goal.returns-clause-texts
returns-clause-texts c =
    let kept = resized_row c.args.asked.now c.args.beside c.args.widths.now in
    let rows = c.args.rows.now in
    let past : length rows.counts.items ≤ c.loop-count.count-index = omega (arith, c.loop-count-test.false, ap (λ (xs : List ℕ). length xs) c.deref-count-items.ensures.value) in
    ap (split_by_lengths rows.counts.items)
    (sym (rows-ended kept (cells_texts c.loop-count.kept.items) rows.counts.items (row_cells c.loop-count.rest) c.loop-count.count-index past) ∙ c.loop-count.invariant.texts)
    ∙ parted-texts kept (length-by_column _ 0) rows.counts.items rows.cells (omega (arith, rows.whole))

pub returns-clause-whole : goal.returns-clause-whole
returns-clause-whole c =
    let kept = resized_row c.args.asked.now c.args.beside c.args.widths.now in
    let rows = c.args.rows.now in
    let past : length rows.counts.items ≤ c.loop-count.count-index = omega (arith, c.loop-count-test.false, ap (λ (xs : List ℕ). length xs) c.deref-count-items.ensures.value) in
    let all : cells_texts c.loop-count.kept.items ≡ all_texts kept rows.counts.items rows.cells =
    sym (rows-ended kept (cells_texts c.loop-count.kept.items) rows.counts.items (row_cells c.loop-count.rest) c.loop-count.count-index past) ∙ c.loop-count.invariant.texts in
    let many = length-texts kept (length-by_column _ 0) rows.counts.items rows.cells (omega (arith, rows.whole)) in
    omega (arith, many, ap (λ (texts : List (List ℕ)). length texts) all, length-map c.loop-count.kept.items (λ (cell : ResizedCell). cow_str_bytes cell.text))
