-- The lemmas of `TextLines`.
use Rattle.grid_records_measure.proofs.TextLines.{length-text_lines, text_lines-are, text_lines-one}
use Rattle.grid_records_measure.proofs.laws.lines_of_texts.Goals as goal

pub returns-clause-lines : goal.returns-clause-lines
returns-clause-lines c = text_lines-are

pub returns-clause-one : goal.returns-clause-one
returns-clause-one c = text_lines-one

pub returns-clause-count : goal.returns-clause-count
returns-clause-count c = length-text_lines
