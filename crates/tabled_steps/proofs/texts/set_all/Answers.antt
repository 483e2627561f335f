use Rattle.std.proofs.Common.{◌≡◌, List, ℕ, ap, ◌∙◌, subst, sym}
use Rattle.grid_records_traits.specs.Rows.{with_text}
use Rattle.grid_records_traits.specs.Sources.{texts_of_rows}
use Rattle.tabled_steps.specs.Changes.{AreInside, Change, with_all}
use Rattle.tabled_steps.proofs.Changing.{last_inside, last_is_inside, last_rows}
use Rattle.tabled_steps.proofs.texts.set_all.Goals as goal

pub set-requires : goal.set-requires
set-requires g c =
    last_is_inside c.loop-pos.found.items c.pop.new.self.items (c.in-Some.pos, c.in-Some.text) (texts_of_rows g.T.Cell.text c.loop-pos.records.rows.items) c.in-Some.ensures.items c.loop-pos.invariant.inside

pub loop-pos-preserved : goal.loop-pos-preserved
loop-pos-preserved g c =
    let texts = texts_of_rows g.T.Cell.text in
    let rows : List (List (List ℕ)) = texts c.loop-pos.records.rows.items in
    let change : Change = (c.in-Some.pos, c.in-Some.text) in
    let before : List Change = c.loop-pos.found.items in
    let after : List Change = c.pop.new.self.items in
    let set : List (List (List ℕ)) = texts c.set.new.self.rows.items in
    let is : set ≡ with_text rows change.0 change.1 = c.set.ensures.text in
    let inside : AreInside (with_text rows change.0 change.1) after = last_inside before after change rows c.in-Some.ensures.items c.loop-pos.invariant.inside in
    record {
      inside = subst (λ (rows : List (List (List ℕ))). AreInside rows after) (sym is) inside;
      rows = ap (λ rows. with_all after rows) is ∙ last_rows before after change rows c.in-Some.ensures.items (with_all c.args.found.items (texts c.args.records.now.rows.items)) c.loop-pos.invariant.rows;
    }
