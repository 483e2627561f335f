-- The texts that are kept, and their numbers.
use Rattle.std.proofs.Common.{◌≡◌, ◌∙◌, ◌++◌, All, List, ap, ap₂, drop, length, subst, sym, take, ℕ}
use Rattle.std.specs.Global.{Global}
use Rattle.std.specs.declared.rc.Rc.{Rc}
use Rattle.basinmug_cells.specs.declared.own_text.OwnText.{OwnText}
use Rattle.basinmug_cells.specs.Ends.{Ascend}
use Rattle.basinmug_cells.specs.Held.{held_in, owned, renumbered}
use Rattle.basinmug_cells.specs.OwnTexts.{own_texts}
use Rattle.basinmug_cells.specs.Places.{IsPlace}
use Rattle.basinmug_cells.specs.declared.place.Place.{Place}
use Rattle.basinmug_cells.proofs.Changed.{are-kept, held-kept, numbered-long, whole-written}
use Rattle.basinmug_cells.proofs.rows.Rows.free.Goals as goal

pub invariant_of-self : goal.invariant_of-self
invariant_of-self c =
    let rows = c.self.inside in
    let places = rows.places.items in
    let new : c.renumber.new.places ≡ renumbered 0 places = c.renumber.ensures ∙ ap (renumbered 0) c.deref_mut.ensures.value in
    let items : take rows.places.len (c.renumber.new.places ++ drop (length c.renumber.new.places) places) ≡ renumbered 0 places =
    whole-written rows.places.len c.renumber.new.places places (ap (λ (of : List Place). length of) new ∙ numbered-long 0 places) rows.places.ok.0 ∙ new in
    let owns : own_texts c.in-Ok.own.items ≡ owned places (own_texts rows.own.items) = c.in-Ok.ensures ∙ ap (λ (of : List (Rc OwnText Global)). owned places (own_texts of)) c.deref.ensures.value in
    let them = take rows.places.len (c.renumber.new.places ++ drop (length c.renumber.new.places) places) in
    subst (λ (of : List (List ℕ)). All (IsPlace rows.text.now of) them × Ascend 0 rows.ends.items (length them)) (sym owns)
    (subst (λ (these : List Place). All (IsPlace rows.text.now (owned places (own_texts rows.own.items))) these × Ascend 0 rows.ends.items (length these)) (sym items)
    (are-kept rows.text.now (own_texts rows.own.items) places rows.ends.items c.self.invariant))

pub returns : goal.returns
returns c =
    let rows = c.self.inside in
    let places = rows.places.items in
    let new : c.renumber.new.places ≡ renumbered 0 places = c.renumber.ensures ∙ ap (renumbered 0) c.deref_mut.ensures.value in
    let items : take rows.places.len (c.renumber.new.places ++ drop (length c.renumber.new.places) places) ≡ renumbered 0 places =
    whole-written rows.places.len c.renumber.new.places places (ap (λ (of : List Place). length of) new ∙ numbered-long 0 places) rows.places.ok.0 ∙ new in
    let owns : own_texts c.in-Ok.own.items ≡ owned places (own_texts rows.own.items) = c.in-Ok.ensures ∙ ap (λ (of : List (Rc OwnText Global)). owned places (own_texts of)) c.deref.ensures.value in
    ap₂ (λ (os : List (List ℕ)) (ps : List Place). held_in rows.text.now os ps rows.ends.items) owns items
    ∙ held-kept rows.text.now (own_texts rows.own.items) places rows.ends.items c.self.invariant
    ∙ c.self.view_is
