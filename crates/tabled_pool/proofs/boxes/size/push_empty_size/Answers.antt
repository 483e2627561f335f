use Rattle.std.proofs.Common.{◌^◌, ◌≤◌, ◌∷◌, ◌++◌, [], max, ap, subst, ◌∙◌, rules}
use Rattle.grid_config.specs.Looks.{look_of}
use Rattle.tabled_pool.specs.declared.boxes.size.Size.{Size}
use Rattle.tabled_pool.specs.Boxes.Boxes.{text_box}
use Rattle.tabled_pool.specs.Boxes.Sizes.{IsTooLarge}
use Rattle.tabled_pool.proofs.BoxesLemmas.Sizes.{no-text-size}
use Rattle.tabled_pool.proofs.boxes.size.push_empty_size.Goals as goal

pub returns-in_err-size-clause-range : goal.returns-in_err-size-clause-range
returns-in_err-size-clause-range c =
    let look = look_of c.args.cfg.now in
    let large : IsTooLarge (text_box look []) = subst (λ (s : Size). 2 ^ 64 ≤ max s.width s.height) (no-text-size look) c.in_err-size.ensures.range in
    search (rules, large)

pub returns-clause-sizes : goal.returns-clause-sizes
returns-clause-sizes c =
    c.in_ok-push_size.ensures ∙ ap (λ s. c.args.sizes.now.items ++ s ∷ []) (c.in_ok-size.ensures.own ∙ no-text-size (look_of c.args.cfg.now))

pub returns-clause-own : goal.returns-clause-own
returns-clause-own c = c.in_ok-size.ensures.own ∙ no-text-size (look_of c.args.cfg.now)
