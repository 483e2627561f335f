-- The rows between are removed.
use Rattle.std.proofs.Common.{◌≡◌, ◌∙◌, List, ap, arith, length, map, sym, ℕ}
use Rattle.basinmug_cells.specs.Held.{Held}
use Rattle.basinmug_cells.specs.OwnTexts.{own_texts}
use Rattle.basinmug_cells.specs.Places.{place_text}
use Rattle.basinmug_cells.proofs.Changed.{ends-kept}
use Rattle.basinmug_cells.proofs.Ends.{count-rows}
use Rattle.basinmug_cells.proofs.rows.Rows.keep_ends.Goals as goal

pub remove-requires-clause-there : goal.remove-requires-clause-there
remove-requires-clause-there c =
    let rows = c.self.inside in
    omega (arith, c.len-count.ensures, rows.ends.ok.0, ap (λ (held : Held). length held.rows) (sym c.self.view_is), count-rows 0 rows.ends.items (map (place_text rows.text.now (own_texts rows.own.items)) rows.places.items))

pub returns : goal.returns
returns c =
    let rows = c.self.inside in
    let now = c.args.self.now in
    let count : c.len-count.result ≡ length now.rows = omega (arith, c.len-count.ensures, rows.ends.ok.0, ap (λ (held : Held). length held.rows) (sym c.self.view_is), count-rows 0 rows.ends.items (map (place_text rows.text.now (own_texts rows.own.items)) rows.places.items)) in
    c.free.ensures ∙ c.remove.ensures
    ∙ ap (λ (of : List (List (List ℕ))). let it : Held = record now { rows = of } in it) (ends-kept now.rows c.args.first c.args.last c.len-count.result c.min-start.result c.min.result count c.min-start.ensures c.min.ensures)
