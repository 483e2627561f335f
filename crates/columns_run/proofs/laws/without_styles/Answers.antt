use Rattle.columns_run.proofs.Accepted.{HasTable-strip, fits-strip, wide_cell-strip}
use Rattle.columns_run.proofs.Pictures.{output-plain, picture-alone, picture-characters, picture-plain, strip-both, strip-output}
use Rattle.columns_run.proofs.Pieces.{line-left}
use Rattle.columns_run.proofs.laws.without_styles.Goals as goal

pub returns : goal.returns
returns c = record {
  picture = picture-plain;
  characters = picture-alone;
  colors = picture-characters;
  without_escape = λ wanted text narrow utf8 none. output-plain text utf8 none wanted narrow;
  accepted = HasTable-strip;
  in_range = fits-strip;
  too_wide = wide_cell-strip;
  output = λ wanted input ps qs runnable utf8 whole. strip-output wanted input ps qs runnable.narrow runnable.close utf8 whole.of_text whole.none_broken;
  lines = λ wanted input y runnable utf8 whole. line-left wanted input y runnable.narrow runnable.close utf8 whole;
  both = λ wanted input ps qs rs runnable utf8 whole. strip-both wanted input ps qs rs runnable.narrow runnable.close utf8 whole.of_text whole.none_broken;
}
