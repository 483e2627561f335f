use Rattle.std.proofs.Common.{◌≡◌, ◌∙◌, List, ℕ, Option, Some, None, Vec, Global, ap, lit<, map, option_map, subst}
use Rattle.std.proofs.lemmas.Iterator.Consumers.{YieldsList-at, YieldsList-end}
use Rattle.std.proofs.lemmas.Iterator.Splits.{YieldsList-from_str_split}
use Rattle.program_options.specs.declared.basinmug.ColumnChoice.{ColumnChoice}
use Rattle.program_options.specs.ColorList.Listed.{all_of}
use Rattle.program_options.proofs.ColorListLemmas.OneMore.{parts-push}
use Rattle.basinmug_values.specs.Choices.{chosen_named, chosen_of}
use Rattle.basinmug_values.proofs.choices.chosen_listed.Goals as goal

pub loop-item-preserved-in_ok-chosen-in-Some-chosen : goal.loop-item-preserved-in_ok-chosen-in-Some-chosen
loop-item-preserved-in_ok-chosen-in-Some-chosen c =
    let so_far : Some (map chosen_of c.in-Some-chosen.choices.items) ≡ all_of (map chosen_named (map (λ item. item.now) c.loop-item.yielded)) =
    subst (λ (o : Option (Vec ColumnChoice Global)). option_map (λ choices. map chosen_of choices.items) o ≡ all_of (map chosen_named (map (λ item. item.now) c.loop-item.yielded))) c.in-Some-chosen.is c.loop-item.invariant in
    c.in_ok-chosen-in-Some-chosen.ensures ∙ parts-push chosen_named c.loop-item.yielded c.in-Some.item (Some (map chosen_of c.in-Some-chosen.choices.items)) so_far

pub loop-item-preserved : goal.loop-item-preserved
loop-item-preserved c =
    let so_far : None ≡ all_of (map chosen_named (map (λ item. item.now) c.loop-item.yielded)) =
    subst (λ (o : Option (Vec ColumnChoice Global)). option_map (λ choices. map chosen_of choices.items) o ≡ all_of (map chosen_named (map (λ item. item.now) c.loop-item.yielded))) c.in-None-chosen.is c.loop-item.invariant in
    parts-push chosen_named c.loop-item.yielded c.in-Some.item None so_far

pub returns : goal.returns
returns c =
    let all = YieldsList-end
    (YieldsList-at c.into_iter-item-iterator.ensures.into_iter_gives
    (YieldsList-from_str_split 0x2c c.args.list.now (lit< tt) c.split-item-items.ensures.text c.split-item-items.ensures.has_more c.split-item-items.ensures.pattern))
    c.loop-item.yielded _ c.loop-item.yielded_by _ _ c.in-None.is c.next.ensures.steps in
    c.loop-item.invariant ∙ ap (λ (parts : List (List ℕ)). all_of (map chosen_named parts)) all.0
