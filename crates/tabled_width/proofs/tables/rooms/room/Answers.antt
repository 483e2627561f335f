use Rattle.std.proofs.Common.{◌≡◌, ◌∙◌, ◌-◌, ◌≤◌, ap, arith, drop, length, sum, take}
use Rattle.grid_config.specs.Looks.{look_of}
use Rattle.tabled_width.proofs.TablesLemmas.Rooming.{cell-below}
use Rattle.tabled_width.proofs.tables.rooms.room.Goals as goal

pub sum_of-columns-requires : goal.sum_of-columns-requires
sum_of-columns-requires c =
    let look = look_of c.args.cfg.now in
    let taken = c.cell_columns-taken.result in
    let inside : taken ≤ length c.args.widths.now - c.args.pos.col = omega (arith, c.cell_columns-taken.ensures) in
    let part : sum c.columns_from.result.now ≡ sum (take taken (drop c.args.pos.col c.args.widths.now)) = ap sum c.columns_from.ensures in
    omega (arith, cell-below look c.args.widths.now c.args.pos.col taken inside, part, c.requires.range)

pub overflow_add-width : goal.overflow_add-width
overflow_add-width c =
    let look = look_of c.args.cfg.now in
    let taken = c.cell_columns-taken.result in
    let inside : taken ≤ length c.args.widths.now - c.args.pos.col = omega (arith, c.cell_columns-taken.ensures) in
    let part : c.sum_of-columns.result ≡ sum (take taken (drop c.args.pos.col c.args.widths.now)) = c.sum_of-columns.ensures ∙ ap sum c.columns_from.ensures in
    omega (arith, cell-below look c.args.widths.now c.args.pos.col taken inside, part, c.boundaries_between.ensures, c.requires.range)
