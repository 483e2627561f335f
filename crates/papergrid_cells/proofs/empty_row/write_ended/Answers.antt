use Rattle.std.proofs.lemmas.Result.{on_ok_weaker}
use Rattle.papergrid_cells.proofs.WrittenTexts.{for-end, for-first, spaces-begin, spaces-end, two-written}
use Rattle.papergrid_cells.proofs.empty_row.write_ended.Goals as goal

pub write_over-requires-clause-start : goal.write_over-requires-clause-start
write_over-requires-clause-start c = spaces-begin _ _ _ (for-first _ _ c.args.text.now c.args.suffix.now c.requires.spaces)

pub write_over-requires-clause-end : goal.write_over-requires-clause-end
write_over-requires-clause-end c = spaces-end _ _ _ (for-first _ _ c.args.text.now c.args.suffix.now c.requires.spaces)

pub write_over-requires-2-clause-start : goal.write_over-requires-2-clause-start
write_over-requires-2-clause-start c = spaces-begin _ _ _ (for-end _ _ c.args.text.now c.args.suffix.now c.requires.spaces c.in_ok-write_over.ensures)

pub write_over-requires-2-clause-end : goal.write_over-requires-2-clause-end
write_over-requires-2-clause-end c = spaces-end _ _ _ (for-end _ _ c.args.text.now c.args.suffix.now c.requires.spaces c.in_ok-write_over.ensures)

pub returns : goal.returns
returns c =
    on_ok_weaker c.write_over-2.result
    (λ second. two-written _ _ c.args.text.now c.args.suffix.now c.requires.spaces c.in_ok-write_over.ensures second)
    c.write_over-2.ensures
