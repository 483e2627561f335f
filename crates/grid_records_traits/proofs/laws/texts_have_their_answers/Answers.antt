-- The lemmas of `TextAnswers`.
use Rattle.grid_records_traits.proofs.TextAnswers.{HasLineCount-text_height, HasLineCount-text_lines, HasLineWidth-measure, HasWidth-text_width, IsLineAt-text_lines}
use Rattle.grid_records_traits.proofs.laws.texts_have_their_answers.Goals as goal

pub returns-clause-line : goal.returns-clause-line
returns-clause-line c = IsLineAt-text_lines

pub returns-clause-count : goal.returns-clause-count
returns-clause-count c = HasLineCount-text_lines

pub returns-clause-height : goal.returns-clause-height
returns-clause-height c = HasLineCount-text_height

pub returns-clause-width : goal.returns-clause-width
returns-clause-width c = HasWidth-text_width

pub returns-clause-line_width : goal.returns-clause-line_width
returns-clause-line_width c = HasLineWidth-measure
