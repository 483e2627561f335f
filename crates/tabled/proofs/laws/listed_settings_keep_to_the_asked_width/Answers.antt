use Rattle.std.proofs.Common.{None, Some, refl, sym, ◌∙◌, string_bytes}
use Rattle.grid_config_values.specs.declared.entity.Entity.TheVariants.{Row as OneRow}
use Rattle.tabled_list.specs.Amounts.{width_of}
use Rattle.tabled_list.specs.Priorities.{measured_so, shrinks_so}
use Rattle.tabled_list.specs.Settings.{cutting_by}
use Rattle.tabled_size_priority.specs.Choices.{IsShrunkByChoice}
use Rattle.tabled_width.specs.WrappedOrCut.{wrapping_each}
use Rattle.tabled_width.specs.Cutting.{truncating}
use Rattle.tabled.proofs.Narrowing.{lines-within, named-takes}
use Rattle.tabled.proofs.laws.listed_settings_keep_to_the_asked_width.Goals as goal

pub returns-clause-wrapped : goal.returns-clause-wrapped
returns-clause-wrapped c = λ width keep_words priority settings s new asked y done gives is allowed.
    lines-within settings s new asked (Some (OneRow 0)) (shrinks_so (IsShrunkByChoice priority)) tt (wrapping_each keep_words) (measured_so (width_of width)) (λ kept. refl) (named-takes priority)
    (λ size given. sym given ∙ gives) is allowed y done

pub returns-clause-cut : goal.returns-clause-cut
returns-clause-cut c = λ width suffix limit multiline try_color priority settings s new asked y done gives is allowed.
    lines-within settings s new asked None (shrinks_so (IsShrunkByChoice priority)) tt (truncating (cutting_by (string_bytes suffix) limit multiline try_color)) (measured_so (width_of width)) (λ kept. refl) (named-takes priority)
    (λ size given. sym given ∙ gives) is allowed y done
