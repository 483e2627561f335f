use Rattle.std.proofs.Common.{◌≡◌, Bool, length, refl, subst}
use Rattle.tabled_size_priority.specs.LevelRules.Columns.{from_side}
use Rattle.tabled_size_priority.specs.Shrinking.{IsShrunkByWidest}
use Rattle.tabled_size_priority.specs.Laws.Moves.{widest-taken}
use Rattle.tabled_size_priority.specs.Laws.Places.{side-placing}
use Rattle.tabled_size_priority.proofs.max.PriorityMax.shrink_counted.Goals as goal

pub returns-clause-shrunk : goal.returns-clause-shrunk
returns-clause-shrunk c =
    let n = length c.args.widths.now in
    let right : Bool = c.self.inside.right in
    let same : right ≡ c.args.self.now = c.self.view_is in
    let At : Bool → Type 0 = λ (side : Bool). IsShrunkByWidest side c.args.least.now c.args.by c.args.widths.now c.take.new.widths in
    (subst At same (widest-taken (from_side right n) c.args.least.now c.args.by c.args.widths.now c.take.new.widths c.take.result.last (side-placing right n) c.requires.range c.take.auto.widths c.take.ensures.taken), refl)
