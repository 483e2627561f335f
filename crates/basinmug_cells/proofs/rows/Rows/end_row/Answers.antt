-- The row ends where the cells do.
use Rattle.std.proofs.Common.{◌≡◌, ◌∙◌, ◌++◌, ◌∷◌, [], List, ℕ, ap, length, subst, sym}
use Rattle.basinmug_cells.specs.Ends.{Ascend}
use Rattle.basinmug_cells.specs.Held.{held_in, row_ended}
use Rattle.basinmug_cells.specs.OwnTexts.{own_texts}
use Rattle.basinmug_cells.proofs.Ends.{ascend-push}
use Rattle.basinmug_cells.proofs.Held.{held-end}
use Rattle.basinmug_cells.proofs.rows.Rows.end_row.Goals as goal

pub invariant_of-self-2 : goal.invariant_of-self-2
invariant_of-self-2 c =
    let rows = c.self.inside in
    let count : c.len.result ≡ length rows.places.items = c.len.ensures ∙ rows.places.ok.0 in
    let ends : c.push.new.self.items ≡ rows.ends.items ++ length rows.places.items ∷ [] = c.in_ok-push.ensures.items ∙ ap (λ (n : ℕ). rows.ends.items ++ n ∷ []) count in
    (c.self.invariant.0, subst (λ (of : List ℕ). Ascend 0 of (length rows.places.items)) (sym ends) (ascend-push 0 rows.ends.items (length rows.places.items) c.self.invariant.1))

pub returns-clause-ended : goal.returns-clause-ended
returns-clause-ended c =
    let rows = c.self.inside in
    ap (held_in rows.text.now (own_texts rows.own.items) rows.places.items) c.in_ok-push.ensures.items
    ∙ held-end rows.text.now (own_texts rows.own.items) rows.places.items rows.ends.items c.len.result (c.len.ensures ∙ rows.places.ok.0)
    ∙ ap row_ended c.self.view_is
