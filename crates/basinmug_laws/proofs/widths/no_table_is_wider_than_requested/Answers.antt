use Rattle.basinmug_laws.proofs.WidthLemmas.RunWidths.{all-within, kept-within, run-within}
use Rattle.basinmug_laws.proofs.widths.no_table_is_wider_than_requested.Goals as goal

pub returns : goal.returns
returns c = record {
  kept = λ options kept width wider old new is whole prints. kept-within options width is kept whole wider old new prints;
  runs = λ delimiter bytes options width result before after is run. run-within delimiter bytes options width result before after is run;
  all_columns = λ options shown rows width counts wider old new asked whole enough prints. all-within options shown rows width asked whole enough counts wider old new prints;
}
