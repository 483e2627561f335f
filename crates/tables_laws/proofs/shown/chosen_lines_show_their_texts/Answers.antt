use Rattle.tabled.specs.Writing.{chosen_lines}
use Rattle.tables_laws.specs.Shown.ShownTables.{chosen_picture}
use Rattle.tables_laws.proofs.ShownLemmas.ChosenLines.{chosen-here, chosen-plain, text_lines-chosen}
use Rattle.tables_laws.proofs.ShownLemmas.LineEnds.{ends-plain}
use Rattle.tables_laws.proofs.ShownLemmas.Pictures.{by-pieces}
use Rattle.tables_laws.proofs.ShownLemmas.StrippedLines.{chosen-leaves}
use Rattle.tables_laws.proofs.shown.chosen_lines_show_their_texts.Goals as goal

pub returns : goal.returns
returns c = record {
  shown = λ chooses s look texts colors. by-pieces (chosen_lines chooses s) (chosen_picture s chooses) (chosen-here s chooses look texts colors);
  plain = λ chooses s look texts colors. ends-plain (chosen_lines chooses s) (chosen-plain s chooses look texts colors);
  lines = λ chooses s look texts colors. text_lines-chosen s chooses look texts colors;
  stripped = λ chooses s look bare texts colors. (chosen-leaves s look bare texts colors chooses).left;
}
