-- What the sizes are that a value gives.
use Rattle.tabled_size.specs.Dimension.Sizes.{GivenSizes, Alike, Listed, ListedBefore}
use Rattle.tabled_size.specs.declared.dimension.const_size.ConstSize.{ConstSize}
use Rattle.tabled_size.specs.declared.dimension.const_size.ConstSize.TheVariants.{List as ConstList, Value}
use Rattle.tabled_size.specs.declared.dimension.value.DimensionValue.{DimensionValue}
use Rattle.tabled_size.specs.declared.dimension.value.DimensionValue.TheVariants.{Exact, List as ValueList, Partial}

abbrev pub value_sizes : DimensionValue → GivenSizes
value_sizes (Exact size) = Alike size
value_sizes (ValueList sizes) = Listed sizes.items
value_sizes (Partial sizes size) = ListedBefore sizes.items size

abbrev pub const_sizes : {N : _} → ConstSize N → GivenSizes
const_sizes (ConstList sizes) = Listed sizes
const_sizes (Value size) = Alike size

-- of the widths and of the heights
abbrev pub BothSizes : Type 0
BothSizes = GivenSizes × GivenSizes

abbrev pub ValuePair : Type 0
ValuePair = DimensionValue × DimensionValue
