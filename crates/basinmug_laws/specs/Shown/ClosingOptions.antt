-- Options whose colours clear what they set.
use Rattle.std.specs.List.{AllByRecursion}
use Rattle.papergrid_picture.specs.Colors.ClosingColors.{IsClosing}
use Rattle.basinmug_run.specs.declared.options.Options.{Options}

-- each colour of a column closes
abbrev pub HaveClosingColors : Options → Type 0
HaveClosingColors options = AllByRecursion (λ pair. IsClosing pair.1) options.colors.items
