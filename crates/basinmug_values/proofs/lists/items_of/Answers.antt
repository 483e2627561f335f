use Rattle.std.proofs.Common.{◌≡◌, ◌∙◌, List, ℕ, Option, Some, None, Vec, Global, ap, lit<, map, option_map, subst}
use Rattle.std.proofs.lemmas.Iterator.Consumers.{YieldsList-at, YieldsList-end}
use Rattle.std.proofs.lemmas.Iterator.Splits.{YieldsList-from_str_split}
use Rattle.program_options.specs.declared.basinmug.ColumnName.{ColumnName}
use Rattle.program_options.specs.ColorList.Listed.{all_of}
use Rattle.basinmug_values.specs.Lists.{item_of, seen_items}
use Rattle.basinmug_values.proofs.OneMore.{items-push}
use Rattle.basinmug_values.proofs.lists.items_of.Goals as goal

pub loop-item-preserved-in_ok-given-in-Some-given : goal.loop-item-preserved-in_ok-given-in-Some-given
loop-item-preserved-in_ok-given-in-Some-given g c =
    let v = g.T.Named.value_of in
    let so_far : Some (seen_items c.in-Some-given.items.items) ≡ all_of (map (item_of v) (map (λ item. item.now) c.loop-item.yielded)) =
    subst (λ (o : Option (Vec (ColumnName × g.row.T.Denot) Global)). option_map (λ items. seen_items items.items) o ≡ all_of (map (item_of v) (map (λ item. item.now) c.loop-item.yielded))) c.in-Some-given.is c.loop-item.invariant in
    c.in_ok-given-in-Some-given.ensures ∙ items-push v c.loop-item.yielded c.in-Some.item (Some (seen_items c.in-Some-given.items.items)) so_far

pub loop-item-preserved : goal.loop-item-preserved
loop-item-preserved g c =
    let v = g.T.Named.value_of in
    let so_far : None ≡ all_of (map (item_of v) (map (λ item. item.now) c.loop-item.yielded)) =
    subst (λ (o : Option (Vec (ColumnName × g.row.T.Denot) Global)). option_map (λ items. seen_items items.items) o ≡ all_of (map (item_of v) (map (λ item. item.now) c.loop-item.yielded))) c.in-None-given.is c.loop-item.invariant in
    items-push v c.loop-item.yielded c.in-Some.item None so_far

pub returns : goal.returns
returns g c =
    let all = YieldsList-end
    (YieldsList-at c.into_iter-item-iterator.ensures.into_iter_gives
    (YieldsList-from_str_split 0x2c c.args.list.now (lit< tt) c.split-item-items.ensures.text c.split-item-items.ensures.has_more c.split-item-items.ensures.pattern))
    c.loop-item.yielded _ c.loop-item.yielded_by _ _ c.in-None.is c.next.ensures.steps in
    c.loop-item.invariant ∙ ap (λ (parts : List (List ℕ)). all_of (map (item_of g.T.Named.value_of) parts)) all.0
