-- The rows are chosen in turn.
use Rattle.std.proofs.Common.{◌≡◌, ◌∙◌, ◌++◌, List, ap, arith, get_or, length, map, subst, sym, ℕ}
use Rattle.std.specs.Prelude.{slice_range}
use Rattle.std.proofs.lemmas.List.{take_all}
use Rattle.basinmug_cells.specs.Ends.{Ascend, rows_by, start_at}
use Rattle.basinmug_cells.specs.Places.{IsPlace}
use Rattle.basinmug_cells.specs.Selecting.{selected_place}
use Rattle.basinmug_cells.specs.declared.place.Place.{Place}
use Rattle.basinmug_cells.proofs.Ends.{count-rows, end-within, start-push}
use Rattle.basinmug_cells.proofs.Selected.{all-then, ascend-then, rows-then, start-behind}
use Rattle.basinmug_cells.proofs.choosing.selected_rows.Goals as goal

pub all_between-row-requires-clause-there : goal.all_between-row-requires-clause-there
all_between-row-requires-clause-there c = end-within 0 c.args.ends.now (length c.args.places.now) c.loop-end.end-index c.requires (omega (arith, c.loop-end-test.true))

pub loop-end-preserved : goal.loop-end-preserved
loop-end-preserved c =
    let ends = c.args.ends.now in
    let places = c.args.places.now in
    let i = c.loop-end.end-index in
    let was = c.loop-end.invariant in
    let after = c.push_selected.new.chosen.items in
    let added : after ≡ c.loop-end.chosen.items ++ map (selected_place (slice_range places (start_at 0 ends i) (get_or ends i 0)) c.args.mark c.args.empty) c.args.columns.now =
    c.in_ok-push_selected.ensures
    ∙ ap (λ (row : List Place). c.loop-end.chosen.items ++ map (selected_place row c.args.mark c.args.empty) c.args.columns.now)
    (c.all_between-row.ensures ∙ ap (λ (start : ℕ). slice_range places start (get_or ends i 0)) was.begins) in
    let long : c.len.result ≡ length after = c.len.ensures ∙ c.push_selected.new.chosen.ok.0 in
    let ends_are = c.in_ok-push.ensures.items in
    record {
      begins = sym (start-behind 0 ends i);
      rows =
          ap (λ (of : List ℕ). rows_by 0 of after) ends_are
          ∙ rows-then places ends c.requires c.args.mark c.args.empty c.args.columns.now c.loop-end.chosen.items after c.loop-end.chosen_ends.items i c.len.result (omega (arith, c.loop-end-test.true)) was.ascending was.all added long was.rows;
      all = ap (λ (of : List ℕ). start_at 0 of (length of)) ends_are ∙ start-push 0 c.loop-end.chosen_ends.items c.len.result ∙ long;
      ascending = subst (λ (of : List ℕ). Ascend 0 of (length after)) (sym ends_are)
          (ascend-then places ends c.requires c.args.mark c.args.empty c.args.columns.now c.loop-end.chosen.items after c.loop-end.chosen_ends.items i c.len.result (omega (arith, c.loop-end-test.true)) was.ascending was.all added long);
      are = λ text own all is none.
          all-then places ends c.requires c.args.mark c.args.empty c.args.columns.now c.loop-end.chosen.items after c.loop-end.chosen_ends.items i c.len.result (omega (arith, c.loop-end-test.true)) was.ascending was.all added long
          (IsPlace text own) all is none (was.are text own all is none);
    }

pub returns-clause-rows : goal.returns-clause-rows
returns-clause-rows c =
    let rows = rows_by 0 c.args.ends.now c.args.places.now in
    c.loop-end.invariant.rows
    ∙ ap (map (λ (row : List Place). map (selected_place row c.args.mark c.args.empty) c.args.columns.now))
    (take_all c.loop-end.end-index rows (omega (arith, c.loop-end-test.false, count-rows 0 c.args.ends.now c.args.places.now)))
