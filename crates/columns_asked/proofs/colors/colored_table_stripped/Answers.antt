use Rattle.columns_asked.proofs.ColorsLemmas.Stripped.{text-left, text-whole}
use Rattle.columns_asked.proofs.colors.colored_table_stripped.Goals as goal

pub returns : goal.returns
returns c = record {
  text = λ style asked colors texts ps bare all silent of_text. text-left style asked colors texts all bare silent ps of_text;
  whole = λ style asked colors texts ps bare all silent of_text. text-whole style asked colors texts all bare silent ps of_text;
}
