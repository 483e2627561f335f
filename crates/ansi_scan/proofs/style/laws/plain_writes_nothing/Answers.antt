use Rattle.std.proofs.Common.{ap}
use Rattle.std.specs.List.{concat}
use Rattle.ansi_scan.proofs.StyleLemmas.Effects.{start_sequences-plain, end_sequences-plain, start_bytes-sequences, end_bytes-sequences}
use Rattle.std.proofs.Common.{◌∙◌}
use Rattle.ansi_scan.specs.Styles.Attributes.{plain_attributes}
use Rattle.ansi_scan.proofs.style.laws.plain_writes_nothing.Goals as goal

pub returns-clause-start : goal.returns-clause-start
returns-clause-start c = start_bytes-sequences plain_attributes ∙ ap concat start_sequences-plain

pub returns-clause-end : goal.returns-clause-end
returns-clause-end c = end_bytes-sequences plain_attributes ∙ ap concat end_sequences-plain
