use Rattle.std.proofs.Common.{arith}
use Rattle.grid_config_values.proofs.SpansLemmas.Lasts.{clear_more}
use Rattle.grid_config_values.proofs.spans.spans.Spans.is_overlapped.Goals as goal

pub loop-row-preserved : goal.loop-row-preserved
loop-row-preserved c = (
  omega arith,
  omega arith,
  clear_more c.args.self.now c.args.anchor c.args.extent c.loop-row.row c.next_row-row.result c.loop-row.invariant.2 (c.is_overlapped_in.ensures.clear c.if-is_overlapped_in.false) c.next_row-row.ensures.none,
)
