-- A part is one line.
use Rattle.std.proofs.Common.{List, subst, sym, ℕ}
use Rattle.grid_records_traits.specs.SingleLines.{IsSingleLine}
use Rattle.basinmug_cells.proofs.place.Place.field.Goals as goal

pub new-requires : goal.new-requires
new-requires c = subst (λ (text : List ℕ). IsSingleLine text c.args.self.width) (sym c.range-part.ensures.value) (c.requires.part c.if-self.false).line
