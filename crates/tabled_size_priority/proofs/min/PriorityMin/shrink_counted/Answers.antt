use Rattle.std.proofs.Common.{◌≡◌, Bool, refl, subst}
use Rattle.tabled_size_priority.specs.Shrinking.{IsShrunkByNarrowest}
use Rattle.tabled_size_priority.specs.Laws.Moves.{narrowest-taken}
use Rattle.tabled_size_priority.proofs.min.PriorityMin.shrink_counted.Goals as goal

pub returns-clause-shrunk : goal.returns-clause-shrunk
returns-clause-shrunk c =
    let right : Bool = c.self.inside.right in
    let same : right ≡ c.args.self.now = c.self.view_is in
    let At : Bool → Type 0 = λ (side : Bool). IsShrunkByNarrowest side c.args.least.now c.args.by c.args.widths.now c.take.new.widths in
    (subst At same (narrowest-taken right c.args.least.now c.args.by c.args.widths.now c.take.new.widths c.take.result.last c.requires.range c.take.auto.widths c.take.ensures.taken), refl)
