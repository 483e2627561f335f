use Rattle.tabled_list.proofs.StrippingLemmas.OneOutcome.{no-refusal, one-outcome, one-refusal, one-run}
use Rattle.tabled_list.proofs.stripping.lists_lead_to_one_table.Goals as goal

pub returns-clause-step : goal.returns-clause-step
returns-clause-step c = one-outcome

pub returns-clause-run : goal.returns-clause-run
returns-clause-run c = one-run

pub returns-clause-refused : goal.returns-clause-refused
returns-clause-refused c = λ settings s a b i j fault other named_fault named_other is bs. one-refusal a b fault other named_fault named_other settings s i j is bs

pub returns-clause-not_both : goal.returns-clause-not_both
returns-clause-not_both c = λ settings s a b i fault is_named runs is. no-refusal settings s a b i fault is_named runs is.before is.inside is.refused
