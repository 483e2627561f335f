-- The lemmas of `TextAnswers`.
use Rattle.grid_records_traits.proofs.TextAnswers.{count_of_text, height_of_text, line_of_text, line_width_of_text, width_of_text}
use Rattle.grid_records_traits.proofs.laws.cells_answer_by_their_texts.Goals as goal

pub returns-clause-line : goal.returns-clause-line
returns-clause-line c = line_of_text

pub returns-clause-count : goal.returns-clause-count
returns-clause-count c = count_of_text

pub returns-clause-height : goal.returns-clause-height
returns-clause-height c = height_of_text

pub returns-clause-width : goal.returns-clause-width
returns-clause-width c = width_of_text

pub returns-clause-line_width : goal.returns-clause-line_width
returns-clause-line_width c = line_width_of_text
