use Rattle.std.proofs.Common.{◌∙◌, rules, sym}
use Rattle.std.proofs.lemmas.List.Sorted.{answers_always}
use Rattle.grid_config_values.proofs.Kept.{is_less, past_last, searched}
use Rattle.grid_config_values.proofs.numbered.place.Goals as goal

pub returns-in-Some-clause-gap : goal.returns-in-Some-clause-gap
returns-in-Some-clause-gap g c =
    let less = sym c.cmp.ensures ∙ is_less c.cmp.result (sym c.eq.ensures ∙ c.if-eq.true) in
    past_last g.K.Ord.cmp g.met.K.Ord.total c.args.kept.now c.args.key c.requires c.in-Some.last.now (sym c.in-Some.ensures.value) less

pub returns-in_default : goal.returns-in_default
returns-in_default g c =
    let facts = c.binary_search_by_key.ensures in
    let by_key = facts.position (λ one. one.key) (answers_always _ _ _ (λ f a r g called. search rules)) in
    let it = searched g.K.Ord.cmp g.met.K.Ord.total c.args.kept.now c.args.key c.requires c.binary_search_by_key.result facts.bound by_key in
    record { at = it.at; gap = it.gap }
