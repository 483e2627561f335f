use Rattle.std.proofs.Common.{◌<◌, sym, ◌∙◌, arith}
use Rattle.std.proofs.lemmas.Bool.Decides.{nat_tests}
use Rattle.tabled_size.specs.Dimension.Sizes.{given_size}
use Rattle.tabled_size.specs.Dimension.Stored.{stored_sizes}
use Rattle.papergrid_fits.proofs.Ranges.{in_range-both, in_range-not}
use Rattle.tabled.proofs.table_of.printing.are_in_range.Goals as goal

pub returns-then-is_some : goal.returns-then-is_some
returns-then-is_some c =
    let some_rows : 0 < c.args.rows = grind (arith, nat_tests, c.if-rows-eq0.false) in
    let some_columns : 0 < c.args.columns = grind (arith, nat_tests, c.if-columns-eq0.false) in
    in_range-both c.args.config.now (given_size (stored_sizes c.args.sizes.now.widths)) (given_size (stored_sizes c.args.sizes.now.heights)) c.args.columns c.args.rows
    c.full_line_width.result c.total_height.result some_rows some_columns c.full_line_width.ensures c.total_height.ensures
    c.is_some-then-is_some.result (sym c.is_some.ensures ∙ c.if-is_some.true) c.is_some-then-is_some.ensures

pub returns-else-is_some : goal.returns-else-is_some
returns-else-is_some c =
    let some_rows : 0 < c.args.rows = grind (arith, nat_tests, c.if-rows-eq0.false) in
    let some_columns : 0 < c.args.columns = grind (arith, nat_tests, c.if-columns-eq0.false) in
    in_range-not c.args.config.now (given_size (stored_sizes c.args.sizes.now.widths)) (given_size (stored_sizes c.args.sizes.now.heights)) c.args.columns c.args.rows
    c.full_line_width.result c.is_some.result some_rows some_columns c.full_line_width.ensures (sym c.is_some.ensures ∙ c.if-is_some.false) c.is_some.ensures
