use Rattle.tabled_size_wrap.proofs.CellsLemmas.WrappedLines.{cut-line, line-wrapped, wrapped-lines}
use Rattle.tables_laws.proofs.shown.wrapped_texts_have_the_lines_of_their_runs.Goals as goal

pub returns : goal.returns
returns c = record { text = wrapped-lines; line = line-wrapped; cut = cut-line }
