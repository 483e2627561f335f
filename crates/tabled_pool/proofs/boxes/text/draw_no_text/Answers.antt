use Rattle.std.proofs.Common.{sym}
use Rattle.tabled_pool.proofs.BoxesLemmas.Sizes.{no-text-sizes}
use Rattle.tabled_pool.proofs.boxes.text.draw_no_text.Goals as goal

pub draw_text-requires-clause-measured : goal.draw_text-requires-clause-measured
draw_text-requires-clause-measured c = sym no-text-sizes
