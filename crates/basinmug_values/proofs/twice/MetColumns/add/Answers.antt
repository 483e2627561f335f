use Rattle.std.proofs.Common.{◌∙◌, ap, refl, sym}
use Rattle.basinmug_values.specs.Lists.{Titled, column_of_name}
use Rattle.basinmug_values.proofs.ColumnsMet.{title-met}
use Rattle.basinmug_values.proofs.twice.MetColumns.add.Goals as goal

pub returns-in_ok-insert-in-Header-clause-met : goal.returns-in_ok-insert-in-Header-clause-met
returns-in_ok-insert-in-Header-clause-met c =
    title-met c.args.self.now (record { numbers = c.args.self.now.numbers; titles = c.insert-in-Header.new.self }) c.as_str.result (column_of_name c.args.column.now)
    (ap column_of_name c.in-Header.is ∙ ap Titled (sym c.as_str.ensures.value)) refl c.in_ok-insert-in-Header.ensures.updates
