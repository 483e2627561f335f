-- The cell is there, and gets the place of the text.
use Rattle.std.proofs.Common.{◌≡◌, ◌∙◌, ◌+◌, List, ap, arith, length, set, string_bytes, subst, sym, ℕ}
use Rattle.std.proofs.lemmas.List.{length-map}
use Rattle.grid_records_traits.specs.Rows.{HasCell, with_text}
use Rattle.basinmug_cells.specs.Ends.{start_at}
use Rattle.basinmug_cells.specs.Held.{Held}
use Rattle.basinmug_cells.specs.OwnTexts.{own_text, own_texts}
use Rattle.basinmug_cells.specs.Places.{own_place}
use Rattle.basinmug_cells.proofs.Ends.{end-within}
use Rattle.basinmug_cells.proofs.Held.{cell-there, own-set}
use Rattle.basinmug_cells.proofs.rows.Rows.set_text.Goals as goal

pub start_of-requires : goal.start_of-requires
start_of-requires c =
    let rows = c.self.inside in
    let there = cell-there rows.text.now (own_texts rows.own.items) rows.places.items rows.ends.items c.args.pos c.self.invariant.1
    (subst (λ (held : Held). HasCell held.rows c.args.pos) (sym c.self.view_is) c.requires) in
    omega (arith, there.0, ap (λ (of : List ℕ). length of) c.deref.ensures.value)

pub overflow_add-index : goal.overflow_add-index
overflow_add-index c =
    let rows = c.self.inside in
    let there = cell-there rows.text.now (own_texts rows.own.items) rows.places.items rows.ends.items c.args.pos c.self.invariant.1
    (subst (λ (held : Held). HasCell held.rows c.args.pos) (sym c.self.view_is) c.requires) in
    let index : c.start_of.result ≡ start_at 0 rows.ends.items c.args.pos.row = c.start_of.ensures ∙ ap (λ (ends : List ℕ). start_at 0 ends c.args.pos.row) c.deref.ensures.value in
    omega (arith, index, there.1, end-within 0 rows.ends.items (length rows.places.items) c.args.pos.row c.self.invariant.1 there.0, rows.places.ok.0, rows.places.ok.1, rows.places.small)

pub index_mut-requires : goal.index_mut-requires
index_mut-requires c =
    let rows = c.self.inside in
    let there = cell-there rows.text.now (own_texts rows.own.items) rows.places.items rows.ends.items c.args.pos c.self.invariant.1
    (subst (λ (held : Held). HasCell held.rows c.args.pos) (sym c.self.view_is) c.requires) in
    let index : c.start_of.result ≡ start_at 0 rows.ends.items c.args.pos.row = c.start_of.ensures ∙ ap (λ (ends : List ℕ). start_at 0 ends c.args.pos.row) c.deref.ensures.value in
    omega (arith, index, there.1, end-within 0 rows.ends.items (length rows.places.items) c.args.pos.row c.self.invariant.1 there.0, rows.places.ok.0)

pub invariant_of-self-2 : goal.invariant_of-self-2
invariant_of-self-2 c =
    let rows = c.self.inside in
    let texts = own_texts rows.own.items in
    let there = cell-there rows.text.now texts rows.places.items rows.ends.items c.args.pos c.self.invariant.1
    (subst (λ (held : Held). HasCell held.rows c.args.pos) (sym c.self.view_is) c.requires) in
    let index : c.start_of.result ≡ start_at 0 rows.ends.items c.args.pos.row = c.start_of.ensures ∙ ap (λ (ends : List ℕ). start_at 0 ends c.args.pos.row) c.deref.ensures.value in
    let place : c.in_ok-place.place ≡ own_place (length texts) = c.in_ok-place.ensures.place ∙ ap own_place (sym (length-map rows.own.items (λ shared. own_text shared.value))) in
    (own-set rows.text.now texts rows.places.items rows.ends.items (own_texts c.push_own.new.own.items) c.in_ok-place.place (string_bytes c.args.text) c.in_ok-place.ensures.more place c.self.invariant
    (set rows.places.items (c.start_of.result + c.args.pos.col) c.in_ok-place.place) c.args.pos.row c.args.pos.col
    (ap (λ (n : ℕ). set rows.places.items (n + c.args.pos.col) c.in_ok-place.place) index) there.0 there.1).0

pub returns-clause-set : goal.returns-clause-set
returns-clause-set c =
    let rows = c.self.inside in
    let texts = own_texts rows.own.items in
    let there = cell-there rows.text.now texts rows.places.items rows.ends.items c.args.pos c.self.invariant.1
    (subst (λ (held : Held). HasCell held.rows c.args.pos) (sym c.self.view_is) c.requires) in
    let index : c.start_of.result ≡ start_at 0 rows.ends.items c.args.pos.row = c.start_of.ensures ∙ ap (λ (ends : List ℕ). start_at 0 ends c.args.pos.row) c.deref.ensures.value in
    let place : c.in_ok-place.place ≡ own_place (length texts) = c.in_ok-place.ensures.place ∙ ap own_place (sym (length-map rows.own.items (λ shared. own_text shared.value))) in
    (own-set rows.text.now texts rows.places.items rows.ends.items (own_texts c.push_own.new.own.items) c.in_ok-place.place (string_bytes c.args.text) c.in_ok-place.ensures.more place c.self.invariant
    (set rows.places.items (c.start_of.result + c.args.pos.col) c.in_ok-place.place) c.args.pos.row c.args.pos.col
    (ap (λ (n : ℕ). set rows.places.items (n + c.args.pos.col) c.in_ok-place.place) index) there.0 there.1).1
    ∙ ap (λ (held : Held). let it : Held = record held { rows = with_text held.rows c.args.pos (string_bytes c.args.text) } in it) c.self.view_is
