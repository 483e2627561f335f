use Rattle.ansi_scan.proofs.StyleLemmas.Effects.{end_from_itself}
use Rattle.ansi_scan.proofs.style.laws.end_clears_its_style.Goals as goal

pub returns : goal.returns
returns c = end_from_itself
