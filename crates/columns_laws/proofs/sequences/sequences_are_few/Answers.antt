use Rattle.columns_laws.proofs.SequencesLemmas.OutputSequences.{few-sequences, no-colors}
use Rattle.columns_laws.proofs.sequences.sequences_are_few.Goals as goal

pub returns : goal.returns
returns c = record { all = λ wanted input runnable utf8 whole. few-sequences wanted input runnable.narrow runnable.close utf8 whole; no_colors = no-colors }
