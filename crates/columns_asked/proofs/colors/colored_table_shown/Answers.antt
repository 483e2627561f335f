use Rattle.columns_asked.proofs.ColorsLemmas.Tables.{items-characters, items-feeds, text-shows}
use Rattle.columns_asked.proofs.colors.colored_table_shown.Goals as goal

pub returns : goal.returns
returns c = record {
  shown = λ style asked colors texts bare all close. text-shows style asked colors texts all bare close;
  line_feeds = λ style asked colors texts all. items-feeds style asked colors texts all;
  characters = λ style asked colors texts all. items-characters style asked colors texts all;
}
