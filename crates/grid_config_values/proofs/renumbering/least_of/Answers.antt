use Rattle.std.proofs.Common.{ℕ, ◌-◌, ◌^◌, List, ◌++◌, subst, sym}
use Rattle.grid_config_values.specs.Numbers.{IsLeastFrom, numbers_of}
use Rattle.grid_config_values.proofs.Numbers.{numbers_of_all}
use Rattle.grid_config_values.proofs.NewNumbers.{least_joined}
use Rattle.grid_config_values.proofs.renumbering.least_of.Goals as goal

pub returns : goal.returns
returns g c =
    let most : ℕ = 2 ^ 128 - 1 in
    let from = c.args.from in
    let columns = c.args.columns.now in
    let rows = c.args.rows.now in
    let cells = c.args.cells.now in
    let first = c.least_from-least.result in
    let least = c.least_from.result in
    let others = least_joined from first c.least_from-least-2.result least (numbers_of rows) (numbers_of cells) c.least_from-least-2.ensures c.least_from.ensures in
    subst (λ (ns : List ℕ). IsLeastFrom from most ns least) (sym (numbers_of_all columns rows cells))
    (least_joined from most first least (numbers_of columns) (numbers_of rows ++ numbers_of cells) c.least_from-least.ensures others)
