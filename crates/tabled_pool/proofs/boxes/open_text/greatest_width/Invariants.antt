use Rattle.std.proofs.Common.{◌≡◌, max, drop}
use Rattle.papergrid_picture.specs.Blocks.{greatest}
use Rattle.tabled_pool.specs.Boxes.Sizes.{widths_of}
use Rattle.tabled_pool.proofs.boxes.open_text.greatest_width.Given as goal

abbrev pub invariant-loop-size : goal.invariant-loop-size
invariant-loop-size l = max l.widest (greatest (widths_of (drop l.size-index l.measured))) ≡ greatest (widths_of l.measured)
