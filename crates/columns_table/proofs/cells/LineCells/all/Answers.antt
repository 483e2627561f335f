use Rattle.std.proofs.Common.{◌-◌, ◌∙◌, arith}
use Rattle.std.proofs.lemmas.List.{take_all}
use Rattle.columns_table.proofs.cells.LineCells.all.Goals as goal

pub returns : goal.returns
returns c = c.range.ensures ∙ take_all (c.len.result - 0) c.args.self.now (omega (arith, c.len.ensures))
