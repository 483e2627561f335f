use Rattle.std.proofs.Common.{◌≡◌, ◌<◌, ℕ, Bool, get_or, refl, subst, arith, false}
use Rattle.std.specs.Prelude.{◌==◌}
use Rattle.std.proofs.lemmas.Bool.Decides.{nat_tests}
use Rattle.tabled_size_priority.specs.Growing.{IsGrownByNarrowest}
use Rattle.tabled_size_priority.specs.Laws.Moves.{narrowest-given}
use Rattle.tabled_size_priority.proofs.min.PriorityMin.grow_counted.Goals as goal

not-zero : (n : ℕ) → (n == 0) ≡ false → 0 < n
not-zero n h = grind (arith, nat_tests)

pub returns-clause-grown : goal.returns-clause-grown
returns-clause-grown c =
    let right : Bool = c.self.inside.right in
    let same : right ≡ c.args.self.now = c.self.view_is in
    let At : Bool → Type 0 = λ (side : Bool). IsGrownByNarrowest side c.args.by c.args.widths.now c.give.new.widths in
    let none = c.if-contains.ensures.cases in (
      subst At same (narrowest-given right c.args.by c.args.widths.now c.give.new.widths c.give.result.last c.requires c.give.auto.widths
          (λ i below. not-zero (get_or c.args.widths.now i 0) (none i 0 (omega arith) below)) c.give.ensures.given),
      refl,
    )
