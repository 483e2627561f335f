-- A lemma of `Lines`.
use Rattle.std.proofs.Common.{◌∙◌}
use Rattle.ansi_str_search.proofs.Lines.{split-lines}
use Rattle.ansi_str_search.proofs.laws.closed_lines_join.Goals as goal

pub returns : goal.returns
returns c = λ lines parts pieces some closed of_text are. are.are_parts ∙ split-lines lines pieces are.matches some closed of_text are.are_matches
