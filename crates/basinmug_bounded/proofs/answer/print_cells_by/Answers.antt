use Rattle.std.proofs.Common.{ℕ, Option, inr, subst}
use Rattle.basinmug_bounded.proofs.answer.print_cells_by.Goals as goal
use Rattle.basinmug_bounded.specs.Cells.{given_by}
use Rattle.basinmug_bounded.specs.CellOutputs.{IsCellsPrinted}

pub returns : goal.returns
returns c =
    inr (record {
      options = c.in_ok-options.options;
      meant = c.in_ok-options.ensures.options;
      printed = subst (λ (head : Option ℕ). IsCellsPrinted c.in_ok-options.options head (given_by c.args.cells) c.args.request.now.max_size c.args.out.now c.print_cells_into.new.out c.print_cells_into.result)
          c.head_in-head.ensures c.print_cells_into.ensures;
    })
