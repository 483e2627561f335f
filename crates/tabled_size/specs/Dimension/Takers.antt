-- Who takes what is left over.
use Rattle.tabled_size.specs.declared.dimension.priority.DimensionPriority.{DimensionPriority}

-- of the widths and of the heights
pub record Takers : Type 0 where
  pub width : DimensionPriority
  pub height : DimensionPriority
