use Rattle.tabled_list.specs.Stripping.Totals.{drawn_line}
use Rattle.tables_laws.specs.Shown.ShownTables.{shown_line}
use Rattle.tables_laws.proofs.ShownLemmas.LineEnds.{line-closed, text_lines-drawn}
use Rattle.tables_laws.proofs.ShownLemmas.Pictures.{by-pieces, line-here}
use Rattle.tables_laws.proofs.shown.lines_of_texts_are_those_of_tables.Goals as goal

pub returns : goal.returns
returns c = record {
  lines = text_lines-drawn;
  shown = λ s y look texts colors. by-pieces (drawn_line s y) (shown_line s y) (line-here s look texts colors y);
  closed = λ s y look texts colors. line-closed s look texts colors y;
}
