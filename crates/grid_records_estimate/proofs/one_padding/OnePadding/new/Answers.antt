use Rattle.std.proofs.Common.{sym}
use Rattle.grid_records_estimate.proofs.one_padding.OnePadding.new.Goals as goal

pub returns : goal.returns
returns g c = λ i. record {
  margin = c.margin.ensures i;
  borders = c.borders.ensures i;
  padding = λ place. sym (c.requires.paddings place) i;
  spans = sym c.requires.spans i;
}
