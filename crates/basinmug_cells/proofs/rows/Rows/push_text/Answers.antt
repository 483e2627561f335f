-- The text of the cell's own has its place.
use Rattle.std.proofs.Common.{◌≡◌, ◌∙◌, List, ap, length, string_bytes, sym}
use Rattle.std.proofs.lemmas.List.{length-map}
use Rattle.basinmug_cells.specs.Held.{Held, held_in, with_cell}
use Rattle.basinmug_cells.specs.OwnTexts.{own_text, own_texts}
use Rattle.basinmug_cells.specs.Places.{own_place}
use Rattle.basinmug_cells.specs.declared.place.Place.{Place}
use Rattle.basinmug_cells.proofs.Held.{on-err, own-came, own-pushed}
use Rattle.basinmug_cells.proofs.rows.Rows.push_text.Goals as goal

pub returns-in_err-push-clause-err : goal.returns-in_err-push-clause-err
returns-in_err-push-clause-err c =
    let rows = c.self.inside in
    let texts = own_texts rows.own.items in
    let place : c.in_ok-place.place ≡ own_place (length texts) = c.in_ok-place.ensures.place ∙ ap own_place (sym (length-map rows.own.items (λ shared. own_text shared.value))) in
    on-err c.from_residual-in_err-push.result
    (ap (λ (these : List Place). held_in rows.text.now (own_texts c.push_own.new.own.items) these rows.ends.items) c.in_err-push.ensures.items
    ∙ own-came rows.text.now texts rows.places.items rows.ends.items (own_texts c.push_own.new.own.items) c.in_ok-place.place (string_bytes c.args.text) c.in_ok-place.ensures.more place c.self.invariant
    ∙ c.self.view_is)

pub invariant_of-self-2 : goal.invariant_of-self-2
invariant_of-self-2 c =
    let rows = c.self.inside in
    let texts = own_texts rows.own.items in
    let place : c.in_ok-place.place ≡ own_place (length texts) = c.in_ok-place.ensures.place ∙ ap own_place (sym (length-map rows.own.items (λ shared. own_text shared.value))) in
    (own-pushed rows.text.now texts rows.places.items rows.ends.items (own_texts c.push_own.new.own.items) c.in_ok-place.place (string_bytes c.args.text) c.in_ok-place.ensures.more place c.self.invariant c.push.new.self.items c.in_ok-push.ensures.items).0

pub returns-clause-more : goal.returns-clause-more
returns-clause-more c =
    let rows = c.self.inside in
    let texts = own_texts rows.own.items in
    let place : c.in_ok-place.place ≡ own_place (length texts) = c.in_ok-place.ensures.place ∙ ap own_place (sym (length-map rows.own.items (λ shared. own_text shared.value))) in
    (own-pushed rows.text.now texts rows.places.items rows.ends.items (own_texts c.push_own.new.own.items) c.in_ok-place.place (string_bytes c.args.text) c.in_ok-place.ensures.more place c.self.invariant c.push.new.self.items c.in_ok-push.ensures.items).1
    ∙ ap (λ (held : Held). with_cell held (string_bytes c.args.text)) c.self.view_is
