use Rattle.std.proofs.Common.{◌∙◌, None, ap, arith, sym}
use Rattle.std.proofs.lemmas.Bool.Decides.{nat_tests}
use Rattle.std.proofs.lemmas.Cmp.{nat_cmp_total}
use Rattle.std.specs.Ordering.{nat_cmp}
use Rattle.grid_config_values.specs.Numbers.{later, seen, value_or}
use Rattle.grid_config_values.specs.Order.{position_cmp}
use Rattle.grid_config_values.proofs.Kept.{none_kept}
use Rattle.grid_config_values.proofs.Numbers.{later_none}
use Rattle.grid_config_values.proofs.Together.{position_total, value_found}
use Rattle.grid_config_values.proofs.calls.newest_of.Goals as goal

-- all calls are for cells
pub returns-then-is_empty-2 : goal.returns-then-is_empty-2
returns-then-is_empty-2 g c otherwise =
    let no_columns = none_kept nat_cmp nat_cmp_total c.args.columns.now c.args.pos.col (grind (arith, nat_tests)) in
    let no_rows = none_kept nat_cmp nat_cmp_total c.args.rows.now c.args.pos.row (grind (arith, nat_tests)) in
    value_found c.args.columns.now c.args.rows.now c.args.cells.now otherwise c.args.pos c.requires.columns c.requires.rows c.requires.cells
    None None (seen c.found_cell.result) no_columns no_rows c.found_cell.ensures

-- all calls are for columns
pub returns-then-is_empty-4 : goal.returns-then-is_empty-4
returns-then-is_empty-4 g c otherwise =
    let no_rows = none_kept nat_cmp nat_cmp_total c.args.rows.now c.args.pos.row (grind (arith, nat_tests)) in
    let no_cells = none_kept position_cmp position_total c.args.cells.now c.args.pos (grind (arith, nat_tests)) in
    value_found c.args.columns.now c.args.rows.now c.args.cells.now otherwise c.args.pos c.requires.columns c.requires.rows c.requires.cells
    (seen c.found_line.result) None None c.found_line.ensures no_rows no_cells
    ∙ ap (value_or otherwise) (later_none (seen c.found_line.result))

-- all calls are for rows
pub returns-then-is_empty-6 : goal.returns-then-is_empty-6
returns-then-is_empty-6 g c otherwise =
    let no_columns = none_kept nat_cmp nat_cmp_total c.args.columns.now c.args.pos.col (grind (arith, nat_tests)) in
    let no_cells = none_kept position_cmp position_total c.args.cells.now c.args.pos (grind (arith, nat_tests)) in
    value_found c.args.columns.now c.args.rows.now c.args.cells.now otherwise c.args.pos c.requires.columns c.requires.rows c.requires.cells
    None (seen c.found_line-then-is_empty-6.result) None no_columns c.found_line-then-is_empty-6.ensures no_cells
    ∙ ap (value_or otherwise) (later_none (seen c.found_line-then-is_empty-6.result))

pub returns : goal.returns
returns g c otherwise =
    let column = seen c.found_line-column.result in
    value_found c.args.columns.now c.args.rows.now c.args.cells.now otherwise c.args.pos c.requires.columns c.requires.rows c.requires.cells
    column (seen c.found_line-row.result) (seen c.found_cell-cell.result) c.found_line-column.ensures c.found_line-row.ensures c.found_cell-cell.ensures
    ∙ ap (value_or otherwise) (sym (c.later_of-2.ensures ∙ ap (later column) c.later_of.ensures))
