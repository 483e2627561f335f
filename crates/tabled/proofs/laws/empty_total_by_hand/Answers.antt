use Rattle.std.proofs.Common.{refl}
use Rattle.std.specs.Str.{chars}
use Rattle.ansi_scan.specs.Pieces.{first_pieces, pieces}
use Rattle.grid_records_estimate.specs.Estimates.{track_sizes}
use Rattle.grid_records_measure.specs.TextLines.{text_width}
use Rattle.unicode_width.specs.Width.{str_width}
use Rattle.tabled_steps.specs.Sizes.{natural_widths}
use Rattle.tabled.proofs.laws.empty_total_by_hand.Goals as goal

pub returns : goal.returns
unfolding natural_widths track_sizes text_width pieces first_pieces chars str_width
returns c = refl
