use Rattle.std.proofs.Common.{List, ◌∷◌, ◌++◌, [], ℕ, map, refl, subst, sym}
use Rattle.std.specs.List.{AllZip}
use Rattle.tabled.specs.Making.{HoldsTexts}
use Rattle.tabled.proofs.Rowing.{all_pushed}
use Rattle.tabled.proofs.makers.of_texts.builder_of.Goals as goal

pub loop-row-preserved : goal.loop-row-preserved
loop-row-preserved g c =
    let holds = HoldsTexts g.I.Item.IntoIterator.into_iter_gives g.I.Item.IntoIter.Iterator.next_gives g.I.Item.Item.AsStr.text in
    let pushed = c.in_ok-push_record.ensures.pushed in
    subst (λ (rows : List (List (List ℕ))). AllZip holds (c.loop-row.yielded ++ c.in-Some.row ∷ []) rows) (sym pushed.4)
    (all_pushed holds c.loop-row.yielded c.loop-row.builder c.in-Some.row (map g.I.Item.Item.AsStr.text pushed.1) c.loop-row.invariant (pushed.0, pushed.1, pushed.2, pushed.3, refl))
