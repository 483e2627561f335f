use Rattle.std.proofs.lemmas.List.Elements.{All-from_recursion}
use Rattle.tables_laws.specs.Shown.ShownTables.{shown_picture}
use Rattle.tables_laws.proofs.ShownLemmas.LineEnds.{FeedIsPlain, ends-plain, picture-plain, text-plain}
use Rattle.tabled_list.specs.Stripping.Printing.{printed}
use Rattle.tables_laws.proofs.ShownLemmas.Pictures.{by-pieces, text-here}
use Rattle.tables_laws.proofs.ShownLemmas.Untrimmed.{picture-untrimmed}
use Rattle.tables_laws.proofs.shown.tables_show_their_texts.Goals as goal

pub returns : goal.returns
returns c = record {
  shown = λ s look texts colors. by-pieces (printed s) (shown_picture s) (text-here s look texts colors);
  plain = λ s look texts colors. ends-plain (printed s) (text-plain s look texts colors);
  line_feeds = λ s look texts colors. All-from_recursion FeedIsPlain (shown_picture s) (picture-plain s look texts colors);
  untrimmed = picture-untrimmed;
}
