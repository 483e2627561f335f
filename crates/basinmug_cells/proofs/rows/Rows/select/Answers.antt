-- The columns are chosen of each row.
use Rattle.std.proofs.Common.{◌≡◌, ◌∙◌, ◌++◌, ◌∷◌, All, List, [], ap, ap₂, length, map, string_bytes, subst, sym, ℕ}
use Rattle.std.proofs.lemmas.List.{length-map}
use Rattle.basinmug_cells.specs.Ends.{rows_by}
use Rattle.basinmug_cells.specs.Held.{Held, held}
use Rattle.basinmug_cells.specs.OwnTexts.{own_text, own_texts}
use Rattle.basinmug_cells.specs.Places.{IsPlace, own_place}
use Rattle.basinmug_cells.specs.Selecting.{selected, selected_place}
use Rattle.basinmug_cells.specs.declared.place.Place.{Place}
use Rattle.basinmug_cells.proofs.Changed.{chosen-are}
use Rattle.basinmug_cells.proofs.rows.Rows.select.Goals as goal

pub invariant_of-result : goal.invariant_of-result
invariant_of-result c =
    let rows = c.self.inside in
    let texts = own_texts rows.own.items in
    let marked = own_texts c.push_own.new.own.items in
    let mark : c.in_ok-mark-2.mark ≡ own_place (length texts) = c.in_ok-mark-2.ensures.place ∙ ap own_place (sym (length-map rows.own.items (λ shared. own_text shared.value))) in
    let empty : c.in_ok-empty.empty ≡ own_place (length marked) = c.in_ok-empty.ensures.place ∙ ap own_place (sym (length-map c.push_own.new.own.items (λ shared. own_text shared.value))) in
    let more : own_texts c.push_own-2.new.own.items ≡ marked ++ [] ∷ [] = c.in_ok-empty.ensures.more ∙ ap (λ (bytes : List ℕ). marked ++ bytes ∷ []) c.new.ensures.bytes in
    let chosen_rows : rows_by 0 c.in_ok-places.ends.items c.in_ok-places.places.items ≡ map (λ (row : List Place). map (selected_place row c.in_ok-mark-2.mark c.in_ok-empty.empty) c.args.columns.now) (rows_by 0 rows.ends.items rows.places.items) =
    c.in_ok-places.ensures.rows
    ∙ ap₂ (λ (es : List ℕ) (ps : List Place). map (λ (row : List Place). map (selected_place row c.in_ok-mark-2.mark c.in_ok-empty.empty) c.args.columns.now) (rows_by 0 es ps)) c.deref-2.ensures.value c.deref.ensures.value in
    let chosen = chosen-are rows.text.now texts rows.places.items rows.ends.items c.self.invariant marked (own_texts c.push_own-2.new.own.items) c.in_ok-mark-2.mark c.in_ok-empty.empty (string_bytes c.in_ok-mark.mark)
    c.in_ok-mark-2.ensures.more mark more empty c.args.columns.now c.in_ok-places.places.items c.in_ok-places.ends.items chosen_rows c.in_ok-places.ensures.all c.in_ok-places.ensures.ascending
    (λ of its all is none. c.in_ok-places.ensures.places of its (subst (λ (ps : List Place). All (IsPlace of its) ps) (sym c.deref.ensures.value) all) is none) in
    chosen.0

pub returns : goal.returns
returns c =
    let rows = c.self.inside in
    let texts = own_texts rows.own.items in
    let marked = own_texts c.push_own.new.own.items in
    let mark : c.in_ok-mark-2.mark ≡ own_place (length texts) = c.in_ok-mark-2.ensures.place ∙ ap own_place (sym (length-map rows.own.items (λ shared. own_text shared.value))) in
    let empty : c.in_ok-empty.empty ≡ own_place (length marked) = c.in_ok-empty.ensures.place ∙ ap own_place (sym (length-map c.push_own.new.own.items (λ shared. own_text shared.value))) in
    let more : own_texts c.push_own-2.new.own.items ≡ marked ++ [] ∷ [] = c.in_ok-empty.ensures.more ∙ ap (λ (bytes : List ℕ). marked ++ bytes ∷ []) c.new.ensures.bytes in
    let chosen_rows : rows_by 0 c.in_ok-places.ends.items c.in_ok-places.places.items ≡ map (λ (row : List Place). map (selected_place row c.in_ok-mark-2.mark c.in_ok-empty.empty) c.args.columns.now) (rows_by 0 rows.ends.items rows.places.items) =
    c.in_ok-places.ensures.rows
    ∙ ap₂ (λ (es : List ℕ) (ps : List Place). map (λ (row : List Place). map (selected_place row c.in_ok-mark-2.mark c.in_ok-empty.empty) c.args.columns.now) (rows_by 0 es ps)) c.deref-2.ensures.value c.deref.ensures.value in
    let chosen = chosen-are rows.text.now texts rows.places.items rows.ends.items c.self.invariant marked (own_texts c.push_own-2.new.own.items) c.in_ok-mark-2.mark c.in_ok-empty.empty (string_bytes c.in_ok-mark.mark)
    c.in_ok-mark-2.ensures.more mark more empty c.args.columns.now c.in_ok-places.places.items c.in_ok-places.ends.items chosen_rows c.in_ok-places.ensures.all c.in_ok-places.ensures.ascending
    (λ of its all is none. c.in_ok-places.ensures.places of its (subst (λ (ps : List Place). All (IsPlace of its) ps) (sym c.deref.ensures.value) all) is none) in
    chosen.1 ∙ ap₂ (λ (before : Held) (bytes : List ℕ). held before.text (map (selected c.args.columns.now bytes) before.rows)) c.self.view_is c.in_ok-mark.ensures.ok
