use Rattle.std.proofs.Common.{refl}
use Rattle.command_line.proofs.columns.laws.the_command_is_columns.Goals as goal

pub returns : goal.returns
returns c = record {
  priority = _;
  style = _;
  priorities = (_, refl, refl);
  styles = (_, refl, refl);
  is = refl;
}
