use Rattle.std.proofs.Common.{ℕ, ◌≤◌, All, arith, length, refl, subst, ◌∙◌}
use Rattle.std.proofs.lemmas.List.{take_all}
use Rattle.std.proofs.lemmas.List.Elements.{All-more}
use Rattle.grid_config.specs.Colors.{Color}
use Rattle.papergrid_picture.specs.Colors.ClosingColors.{IsClosing}
use Rattle.program_options.proofs.columns.closing.colors_close.Goals as goal

pub loop-given-preserved : goal.loop-given-preserved
loop-given-preserved c =
    All-more (λ given. IsClosing given.1) c.deref-given-items.result.now c.loop-given.given-index c.given-item.result c.loop-given-test.true c.loop-given.invariant
    (subst (λ (given : ℕ × Color). IsClosing given.1) c.given-item.is (c.is_closing.ensures.0 c.if-not-is_closing.false))

pub returns : goal.returns
returns c = (
  λ _.
      let items = c.deref-given-items.result.now in
      let past : length items ≤ c.loop-given.given-index = omega (arith, c.loop-given-test.false) in
      subst (All (λ (given : ℕ × Color). IsClosing given.1)) (take_all c.loop-given.given-index items past ∙ c.deref-given-items.ensures.value) c.loop-given.invariant,
  λ _. refl,
)
