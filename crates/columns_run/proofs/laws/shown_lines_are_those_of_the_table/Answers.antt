use Rattle.columns_run.proofs.Feeds.{line-closed, lines-are}
use Rattle.columns_run.proofs.laws.shown_lines_are_those_of_the_table.Goals as goal

pub returns : goal.returns
returns c = record {
  closed = λ wanted input y runnable utf8 whole. line-closed wanted input runnable utf8 whole y;
  lines = λ wanted input runnable utf8 whole. lines-are wanted input runnable utf8 whole;
}
