use Rattle.std.proofs.Common.{◌≡◌, ◌∙◌, List, ℕ, Option, Some, None, Vec, Global, ap, lit<, map, option_map, subst, vec_items}
use Rattle.std.proofs.lemmas.Iterator.Consumers.{YieldsList-at, YieldsList-end}
use Rattle.std.proofs.lemmas.Iterator.Splits.{YieldsList-from_str_split}
use Rattle.grid_config.specs.declared.colors.owned.ANSIBuf.{ANSIBuf}
use Rattle.program_options.specs.ColorList.Listed.{all_of, listed_color}
use Rattle.program_options.proofs.ColorListLemmas.OneMore.{parts-push}
use Rattle.program_options.proofs.color_list.reading.all_colors.Goals as goal

abbrev Colors : Type 0
Colors = Vec (ℕ × ANSIBuf) Global

pub loop-item-preserved-in_ok-colors-in-Some-colors : goal.loop-item-preserved-in_ok-colors-in-Some-colors
loop-item-preserved-in_ok-colors-in-Some-colors c =
    let so_far : Some (vec_items c.in-Some-colors.found) ≡ all_of (map listed_color (map (λ item. item.now) c.loop-item.yielded)) =
    subst (λ (o : Option Colors). option_map vec_items o ≡ all_of (map listed_color (map (λ item. item.now) c.loop-item.yielded))) c.in-Some-colors.is c.loop-item.invariant in
    c.in_ok-colors-in-Some-colors.ensures ∙ parts-push listed_color c.loop-item.yielded c.in-Some.item (Some (vec_items c.in-Some-colors.found)) so_far

pub loop-item-preserved : goal.loop-item-preserved
loop-item-preserved c =
    let so_far : None ≡ all_of (map listed_color (map (λ item. item.now) c.loop-item.yielded)) =
    subst (λ (o : Option Colors). option_map vec_items o ≡ all_of (map listed_color (map (λ item. item.now) c.loop-item.yielded))) c.in-None-colors.is c.loop-item.invariant in
    parts-push listed_color c.loop-item.yielded c.in-Some.item None so_far

pub returns : goal.returns
returns c =
    let all = YieldsList-end
    (YieldsList-at c.into_iter-item-iterator.ensures.into_iter_gives
    (YieldsList-from_str_split 0x2c c.args.list.now (lit< tt) c.split-item-items.ensures.text c.split-item-items.ensures.has_more c.split-item-items.ensures.pattern))
    c.loop-item.yielded _ c.loop-item.yielded_by _ _ c.in-None.is c.next.ensures.steps in
    c.loop-item.invariant ∙ ap (λ (parts : List (List ℕ)). all_of (map listed_color parts)) all.0
