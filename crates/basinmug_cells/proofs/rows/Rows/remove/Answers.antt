-- Rows are removed with their cells.
use Rattle.std.proofs.Common.{◌∙◌, ◌++◌, ◌≤◌, List, ap, arith, drop, length, map, sym, take, ℕ}
use Rattle.std.proofs.lemmas.List.{length-append, length-take}
use Rattle.basinmug_cells.specs.Ends.{start_at}
use Rattle.basinmug_cells.specs.Held.{Held}
use Rattle.basinmug_cells.specs.OwnTexts.{own_texts}
use Rattle.basinmug_cells.specs.Places.{place_text}
use Rattle.basinmug_cells.proofs.Changed.{removed}
use Rattle.basinmug_cells.proofs.Ends.{count-rows, start-up}
use Rattle.basinmug_cells.proofs.rows.Rows.remove.Goals as goal

pub start_of-from-requires : goal.start_of-from-requires
start_of-from-requires c =
    let rows = c.self.inside in
    omega (arith, c.requires.ascending, c.requires.there, ap (λ (of : List ℕ). length of) c.deref.ensures.value, ap (λ (held : Held). length held.rows) (sym c.self.view_is), count-rows 0 rows.ends.items (map (place_text rows.text.now (own_texts rows.own.items)) rows.places.items))

pub start_of-to-requires : goal.start_of-to-requires
start_of-to-requires c =
    let rows = c.self.inside in
    omega (arith, c.requires.there, ap (λ (of : List ℕ). length of) c.deref-2.ensures.value, ap (λ (held : Held). length held.rows) (sym c.self.view_is), count-rows 0 rows.ends.items (map (place_text rows.text.now (own_texts rows.own.items)) rows.places.items))

pub remove_items-requires-clause-ascending : goal.remove_items-requires-clause-ascending
remove_items-requires-clause-ascending c =
    let rows = c.self.inside in
    let there : c.args.end ≤ length rows.ends.items = omega (arith, c.requires.there, ap (λ (held : Held). length held.rows) (sym c.self.view_is), count-rows 0 rows.ends.items (map (place_text rows.text.now (own_texts rows.own.items)) rows.places.items)) in
    omega (
      arith,
      c.start_of-from.ensures ∙ ap (λ (of : List ℕ). start_at 0 of c.args.start) c.deref.ensures.value,
      c.start_of-to.ensures ∙ ap (λ (of : List ℕ). start_at 0 of c.args.end) c.deref-2.ensures.value,
      start-up 0 rows.ends.items (length rows.places.items) c.args.start c.args.end c.self.invariant.1 c.requires.ascending there,
    )

pub remove_items-requires-clause-there : goal.remove_items-requires-clause-there
remove_items-requires-clause-there c =
    let rows = c.self.inside in
    let there : c.args.end ≤ length rows.ends.items = omega (arith, c.requires.there, ap (λ (held : Held). length held.rows) (sym c.self.view_is), count-rows 0 rows.ends.items (map (place_text rows.text.now (own_texts rows.own.items)) rows.places.items)) in
    omega (arith, c.start_of-to.ensures ∙ ap (λ (of : List ℕ). start_at 0 of c.args.end) c.deref-2.ensures.value, c.self.invariant.1.within c.args.end there)

pub remove_items-requires-2-clause-there : goal.remove_items-requires-2-clause-there
remove_items-requires-2-clause-there c =
    let rows = c.self.inside in
    omega (arith, c.requires.there, ap (λ (held : Held). length held.rows) (sym c.self.view_is), count-rows 0 rows.ends.items (map (place_text rows.text.now (own_texts rows.own.items)) rows.places.items))

pub overflow_sub-to : goal.overflow_sub-to
overflow_sub-to c =
    let rows = c.self.inside in
    let there : c.args.end ≤ length rows.ends.items = omega (arith, c.requires.there, ap (λ (held : Held). length held.rows) (sym c.self.view_is), count-rows 0 rows.ends.items (map (place_text rows.text.now (own_texts rows.own.items)) rows.places.items)) in
    omega (
      arith,
      c.start_of-from.ensures ∙ ap (λ (of : List ℕ). start_at 0 of c.args.start) c.deref.ensures.value,
      c.start_of-to.ensures ∙ ap (λ (of : List ℕ). start_at 0 of c.args.end) c.deref-2.ensures.value,
      start-up 0 rows.ends.items (length rows.places.items) c.args.start c.args.end c.self.invariant.1 c.requires.ascending there,
    )

pub lower-requires : goal.lower-requires
lower-requires c =
    let rows = c.self.inside in
    omega (arith, c.requires.ascending, c.requires.there, ap (λ (of : List ℕ). length of) c.remove_items-2.ensures, length-append (take c.args.start rows.ends.items) (drop c.args.end rows.ends.items), length-take c.args.start rows.ends.items, ap (λ (held : Held). length held.rows) (sym c.self.view_is), count-rows 0 rows.ends.items (map (place_text rows.text.now (own_texts rows.own.items)) rows.places.items))

pub invariant_of-self : goal.invariant_of-self
invariant_of-self c =
    let rows = c.self.inside in
    let there : c.args.end ≤ length rows.ends.items = omega (arith, c.requires.there, ap (λ (held : Held). length held.rows) (sym c.self.view_is), count-rows 0 rows.ends.items (map (place_text rows.text.now (own_texts rows.own.items)) rows.places.items)) in
    (removed rows.text.now (own_texts rows.own.items) rows.places.items rows.ends.items c.self.invariant c.args.start c.args.end c.start_of-from.result c.start_of-to.result
    c.remove_items.new.items.items c.remove_items-2.new.items.items c.lower.new.numbers.items c.requires.ascending there
    (c.start_of-from.ensures ∙ ap (λ (of : List ℕ). start_at 0 of c.args.start) c.deref.ensures.value) (c.start_of-to.ensures ∙ ap (λ (of : List ℕ). start_at 0 of c.args.end) c.deref-2.ensures.value)
    c.remove_items.ensures c.remove_items-2.ensures c.lower.ensures).0

pub returns : goal.returns
returns c =
    let rows = c.self.inside in
    let there : c.args.end ≤ length rows.ends.items = omega (arith, c.requires.there, ap (λ (held : Held). length held.rows) (sym c.self.view_is), count-rows 0 rows.ends.items (map (place_text rows.text.now (own_texts rows.own.items)) rows.places.items)) in
    (removed rows.text.now (own_texts rows.own.items) rows.places.items rows.ends.items c.self.invariant c.args.start c.args.end c.start_of-from.result c.start_of-to.result
    c.remove_items.new.items.items c.remove_items-2.new.items.items c.lower.new.numbers.items c.requires.ascending there
    (c.start_of-from.ensures ∙ ap (λ (of : List ℕ). start_at 0 of c.args.start) c.deref.ensures.value) (c.start_of-to.ensures ∙ ap (λ (of : List ℕ). start_at 0 of c.args.end) c.deref-2.ensures.value)
    c.remove_items.ensures c.remove_items-2.ensures c.lower.ensures).1
    ∙ ap (λ (held : Held). let it : Held = record held { rows = take c.args.start held.rows ++ drop c.args.end held.rows } in it) c.self.view_is
