-- The columns that were met.
use Rattle.std.specs.Prelude.{Bool, nat_eq}
use Rattle.std.specs.HashSet.{contains, contains_by}
use Rattle.std.specs.Str.{bytes_eq}
use Rattle.basinmug_values.specs.Lists.{Column, Numbered, Titled}
use Rattle.basinmug_values.specs.declared.twice.MetColumns.{MetColumns}

abbrev pub is_met : MetColumns → Column → Bool
is_met columns (Numbered number) = contains nat_eq columns.numbers number
is_met columns (Titled title) = contains_by (λ known. bytes_eq title known.now) columns.titles
