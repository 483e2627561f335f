use Rattle.std.proofs.Common.{◌≡◌, ◌∙◌, ◌<◌, ℕ, zero, suc, [], ◌∷◌, Err, Ok, Some, ap, arith, refl, sym}
use Rattle.grid_config_values.specs.Glyphs.{no_borders}
use Rattle.grid_config_values.specs.declared.borders.Borders.{Borders as Glyphs}
use Rattle.grid_config_values.specs.declared.entity.Entity.TheVariants.{Global as EveryCell}
use Rattle.grid_config_values.specs.declared.fault.Fault.TheVariants.{Spans as BadSpan}
use Rattle.papergrid_picture.specs.Picture.{at}
use Rattle.tabled_list.specs.Lists.{RefusedAt}
use Rattle.tabled_list.specs.declared.setting.Setting.TheVariants.{Borders, ColumnSpan}
use Rattle.tabled_steps.specs.States.{Outcome, State, settled}
use Rattle.tables_laws.proofs.worked.refused_lists_by_hand.Goals as goal

pub returns-clause-only : goal.returns-clause-only
returns-clause-only c = λ s. record { inside = omega arith; before = refl; refused = (Err BadSpan, refl, refl) }

pub returns-clause-second : goal.returns-clause-second
returns-clause-second c = λ s new index refused. by s new index refused
  where
    borders-of : Outcome → Glyphs ℕ
    borders-of (Ok state) = state.look.borders
    borders-of (Err fault) = no_borders

    by : (s new : State) (index : ℕ) → RefusedAt (Borders no_borders ∷ ColumnSpan (at 0 0) 0 ∷ []) s new index BadSpan → (index ≡ 1) × (new.look.borders ≡ no_borders)
    by s new zero refused = let clash = ap (settled (Some EveryCell)) refused.refused.1 ∙ refused.refused.2 in cc clash
    by s new (suc zero) refused =
        let step = refused.before.1 in
        let is = ap (settled (Some EveryCell)) step.1 ∙ step.2 in
        (refl, sym (ap borders-of is ∙ ap (λ state. state.look.borders) refused.before.2))
    by s new (suc (suc index)) refused = let inside : suc (suc index) < 2 = refused.inside in let none : ⊥ = omega (arith, inside) in absurd none
