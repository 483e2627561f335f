use Rattle.std.proofs.Common.{None, Some, refl}
use Rattle.grid_config_values.specs.declared.entity.Entity.TheVariants.{Row as OneRow}
use Rattle.tabled_width.specs.WrappedOrCut.{wrapping_each}
use Rattle.tabled_width.specs.Cutting.{truncating}
use Rattle.tabled_width.specs.Options.{truncation}
use Rattle.tabled.proofs.Narrowing.{lines-within}
use Rattle.tabled.proofs.laws.narrowed_tables_are_no_wider_than_asked.Goals as goal

pub returns-clause-wrapped : goal.returns-clause-wrapped
returns-clause-wrapped g c = λ option settings s new asked y done takes gives is allowed.
    lines-within settings s new asked (Some (OneRow 0)) g.P.Peaker.shrinks option.priority (wrapping_each option.keep_words) (g.W.Measurement.measures option.width) (λ kept. refl) takes gives is allowed y done

pub returns-clause-cut : goal.returns-clause-cut
returns-clause-cut g c = λ option settings s new asked y done takes gives is allowed.
    lines-within settings s new asked None g.P.Peaker.shrinks option.priority (truncating (truncation option).cutting) (g.W.Measurement.measures option.width) (λ kept. refl) takes gives is allowed y done
