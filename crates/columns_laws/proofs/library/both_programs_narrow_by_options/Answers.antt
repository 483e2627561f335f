use Rattle.columns_laws.proofs.LibraryLemmas.OptionSteps.{cut-option, wrapped-option}
use Rattle.tabled_width.specs.Options.{truncation}
use Rattle.columns_laws.proofs.library.both_programs_narrow_by_options.Goals as goal

pub returns-clause-wrapped : goal.returns-clause-wrapped
returns-clause-wrapped g c = λ option wanted input width left is_width wraps words named gives did.
    wrapped-option wanted input width is_width g.P.Peaker.shrinks g.P.Peaker.grows option.priority (g.W.Measurement.measures option.width) option.keep_words left wraps words named gives did

pub returns-clause-cut : goal.returns-clause-cut
returns-clause-cut g c = λ option wanted input width left is_width cuts named gives none lines did.
    cut-option wanted input width is_width g.P.Peaker.shrinks g.P.Peaker.grows option.priority (g.W.Measurement.measures option.width) (truncation option).cutting left cuts named gives none lines did
