use Rattle.papergrid_picture.proofs.ColorsLemmas.Stripped.{around, closing-show_nothing, colors-stripped, colors-whole, lines-same}
use Rattle.papergrid_picture.proofs.colors.colors_are_stripped.Goals as goal

pub returns : goal.returns
returns c = record {
  text = λ look rows colors widths heights ps bare texts silent of_text. colors-stripped look rows colors widths heights bare texts silent ps of_text;
  whole = λ look rows colors widths heights ps bare texts silent of_text. colors-whole look rows colors widths heights bare texts silent ps of_text;
  lines = λ look rows colors widths heights y bare texts silent. (lines-same look rows colors widths heights bare texts silent y).one.left;
  line = λ color bytes silent whole. (around color silent bytes whole).one.left;
  closing = closing-show_nothing;
}
