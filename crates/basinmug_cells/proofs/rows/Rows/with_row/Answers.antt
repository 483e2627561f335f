-- The cells of the row, and its end, come between the others.
use Rattle.std.proofs.Common.{◌≡◌, ◌∙◌, ◌++◌, ◌∷◌, ◌≤◌, List, ap, ap₂, arith, drop, length, map, replicate, string_bytes, sym, take, ℕ}
use Rattle.std.proofs.lemmas.Grind.{get_or_default_zero}
use Rattle.std.proofs.lemmas.List.{length-map}
use Rattle.basinmug_cells.specs.Ends.{start_at}
use Rattle.basinmug_cells.specs.Held.{Held}
use Rattle.basinmug_cells.specs.OwnTexts.{own_text, own_texts}
use Rattle.basinmug_cells.specs.Places.{own_place, place_text}
use Rattle.basinmug_cells.specs.declared.place.Place.{Place}
use Rattle.basinmug_cells.proofs.Changed.{row-came, with-cells-long}
use Rattle.basinmug_cells.proofs.Ends.{count-rows, end-within}
use Rattle.basinmug_cells.proofs.rows.Rows.with_row.Goals as goal

pub start_of-start-requires : goal.start_of-start-requires
start_of-start-requires c =
    let rows = c.self.inside in
    omega (arith, c.requires, ap (λ (of : List ℕ). length of) c.deref.ensures.value, ap (λ (held : Held). length held.rows) (sym c.self.view_is), count-rows 0 rows.ends.items (map (place_text rows.text.now (own_texts rows.own.items)) rows.places.items))

pub insert_cells-requires : goal.insert_cells-requires
insert_cells-requires c =
    let rows = c.self.inside in
    let there : c.args.row ≤ length rows.ends.items = omega (arith, c.requires, ap (λ (held : Held). length held.rows) (sym c.self.view_is), count-rows 0 rows.ends.items (map (place_text rows.text.now (own_texts rows.own.items)) rows.places.items)) in
    omega (arith, c.start_of-start.ensures ∙ ap (λ (of : List ℕ). start_at 0 of c.args.row) c.deref.ensures.value, c.self.invariant.1.within c.args.row there)

pub insert_end-requires-clause-there : goal.insert_end-requires-clause-there
insert_end-requires-clause-there c =
    let rows = c.self.inside in
    omega (arith, c.requires, ap (λ (held : Held). length held.rows) (sym c.self.view_is), count-rows 0 rows.ends.items (map (place_text rows.text.now (own_texts rows.own.items)) rows.places.items))

pub insert_end-requires-clause-fit : goal.insert_end-requires-clause-fit
insert_end-requires-clause-fit c = λ k d below.
    let rows = c.self.inside in
    let new = c.insert_cells.new.places in
    let there : c.args.row ≤ length rows.ends.items = omega (arith, c.requires, ap (λ (held : Held). length held.rows) (sym c.self.view_is), count-rows 0 rows.ends.items (map (place_text rows.text.now (own_texts rows.own.items)) rows.places.items)) in
    let begin : c.start_of-start.result ≤ length rows.places.items = omega (arith, c.start_of-start.ensures ∙ ap (λ (of : List ℕ). start_at 0 of c.args.row) c.deref.ensures.value, c.self.invariant.1.within c.args.row there) in
    omega (
      arith,
      get_or_default_zero rows.ends.items k d below,
      end-within 0 rows.ends.items (length rows.places.items) k c.self.invariant.1 below,
      ap (λ (of : List Place). length of) c.in_ok-insert_cells.ensures,
      with-cells-long c.start_of-start.result c.args.columns c.in_ok-place.place rows.places.items begin,
      new.ok.0,
      new.ok.1,
      new.small,
    )

pub insert_end-requires-clause-begin : goal.insert_end-requires-clause-begin
insert_end-requires-clause-begin c =
    let rows = c.self.inside in
    let new = c.insert_cells.new.places in
    let there : c.args.row ≤ length rows.ends.items = omega (arith, c.requires, ap (λ (held : Held). length held.rows) (sym c.self.view_is), count-rows 0 rows.ends.items (map (place_text rows.text.now (own_texts rows.own.items)) rows.places.items)) in
    let begin : c.start_of-start.result ≤ length rows.places.items = omega (arith, c.start_of-start.ensures ∙ ap (λ (of : List ℕ). start_at 0 of c.args.row) c.deref.ensures.value, c.self.invariant.1.within c.args.row there) in
    omega (arith, begin, ap (λ (of : List Place). length of) c.in_ok-insert_cells.ensures, with-cells-long c.start_of-start.result c.args.columns c.in_ok-place.place rows.places.items begin, new.ok.0, new.ok.1, new.small)

pub invariant_of-result : goal.invariant_of-result
invariant_of-result c =
    let rows = c.self.inside in
    let texts = own_texts rows.own.items in
    let there : c.args.row ≤ length rows.ends.items = omega (arith, c.requires, ap (λ (held : Held). length held.rows) (sym c.self.view_is), count-rows 0 rows.ends.items (map (place_text rows.text.now (own_texts rows.own.items)) rows.places.items)) in
    let place : c.in_ok-place.place ≡ own_place (length texts) = c.in_ok-place.ensures.place ∙ ap own_place (sym (length-map rows.own.items (λ shared. own_text shared.value))) in
    (row-came rows.text.now texts rows.places.items rows.ends.items c.self.invariant (own_texts c.push_own.new.own.items) c.in_ok-place.place (string_bytes c.in_ok-text.text) c.in_ok-place.ensures.more place
    c.args.row c.args.columns c.start_of-start.result c.insert_cells.new.places.items c.insert_end.new.ends.items there
    (c.start_of-start.ensures ∙ ap (λ (of : List ℕ). start_at 0 of c.args.row) c.deref.ensures.value) c.in_ok-insert_cells.ensures c.in_ok-insert_end.ensures).0

pub returns : goal.returns
returns c =
    let rows = c.self.inside in
    let texts = own_texts rows.own.items in
    let there : c.args.row ≤ length rows.ends.items = omega (arith, c.requires, ap (λ (held : Held). length held.rows) (sym c.self.view_is), count-rows 0 rows.ends.items (map (place_text rows.text.now (own_texts rows.own.items)) rows.places.items)) in
    let place : c.in_ok-place.place ≡ own_place (length texts) = c.in_ok-place.ensures.place ∙ ap own_place (sym (length-map rows.own.items (λ shared. own_text shared.value))) in
    (row-came rows.text.now texts rows.places.items rows.ends.items c.self.invariant (own_texts c.push_own.new.own.items) c.in_ok-place.place (string_bytes c.in_ok-text.text) c.in_ok-place.ensures.more place
    c.args.row c.args.columns c.start_of-start.result c.insert_cells.new.places.items c.insert_end.new.ends.items there
    (c.start_of-start.ensures ∙ ap (λ (of : List ℕ). start_at 0 of c.args.row) c.deref.ensures.value) c.in_ok-insert_cells.ensures c.in_ok-insert_end.ensures).1
    ∙ ap₂ (λ (held : Held) (bytes : List ℕ). let it : Held = record held { rows = take c.args.row held.rows ++ replicate c.args.columns bytes ∷ drop c.args.row held.rows } in it) c.self.view_is c.in_ok-text.ensures.ok
