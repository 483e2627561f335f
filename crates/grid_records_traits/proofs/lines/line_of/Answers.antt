-- The lines of a text are one list, and the loop goes through it.
use Rattle.std.proofs.Common.{Global}
use Rattle.std.specs.declared.alloc.AllocError.{AllocError}
use Rattle.grid_records_measure.proofs.LinesAndBlocks.{lines-unique}
use Rattle.grid_records_traits.proofs.LineAt.{line_found, line_lacking}
use Rattle.grid_records_traits.proofs.lines.line_of.Goals as goal

pub returns-then-before-eq0-clause-line : goal.returns-then-before-eq0-clause-line
returns-then-before-eq0-clause-line c = λ pieces lines of_text of_lines.
    line_found c.loop-line.line-iterator c.next.new.self c.into_iter-line-iterator.result c.get_lines-line-items.result c.in-Some.line c.in_ok-line.line c.loop-line.before c.args.index lines
    c.in-Some.ensures.steps c.in_ok-line.was c.if-before-eq0.true c.loop-line.invariant.sought c.into_iter-line-iterator.ensures.into_iter_gives
    (lines-unique pieces c.get_lines-line-items.result.parts lines (c.get_lines-line-items.ensures.lines pieces of_text) of_lines)

pub returns-clause-line : goal.returns-clause-line
returns-clause-line c = λ pieces lines of_text of_lines.
    line_lacking AllocError Global c.loop-line.line-iterator c.next.new.self c.into_iter-line-iterator.result c.get_lines-line-items.result c.loop-line.before c.args.index lines
    c.in-None.ensures.steps c.loop-line.invariant.sought c.into_iter-line-iterator.ensures.into_iter_gives
    (lines-unique pieces c.get_lines-line-items.result.parts lines (c.get_lines-line-items.ensures.lines pieces of_text) of_lines)
