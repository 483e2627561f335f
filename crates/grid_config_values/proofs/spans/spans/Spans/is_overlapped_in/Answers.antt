use Rattle.std.proofs.Common.{◌≡◌, true, arith}
use Rattle.grid_config_values.specs.Spans.Clear.{IsLeftOf, is_overlapped_by, right_end}
use Rattle.grid_config_values.proofs.spans.spans.Spans.is_overlapped_in.Goals as goal

pub returns-then-ne-clause-overlapped : goal.returns-then-ne-clause-overlapped
returns-then-ne-clause-overlapped c met =
    let left : IsLeftOf (right_end c.args.anchor c.args.extent c.args.row) c.in-Some.other = rw c.new.ensures at c.in-Some.ensures.1 in
    let overlaps : is_overlapped_by c.args.anchor c.args.extent (c.in-Some.other, c.in-Some.size) ≡ true = grind (arith, met, c.overlaps.ensures, c.if-ne.true, c.ne.ensures) in
    ((c.in-Some.other, c.in-Some.size), c.in-Some.ensures.0, left, overlaps)
