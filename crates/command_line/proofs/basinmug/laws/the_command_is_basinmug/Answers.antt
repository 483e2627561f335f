use Rattle.std.proofs.Common.{refl}
use Rattle.command_line.proofs.basinmug.laws.the_command_is_basinmug.Goals as goal

pub returns : goal.returns
returns c = record {
  escapes = _;
  priority = _;
  style = _;
  rules = _;
  all_escapes = (_, refl, refl);
  priorities = (_, refl, refl);
  styles = (_, refl, refl);
  all_rules = (_, refl, refl);
  is = refl;
}
