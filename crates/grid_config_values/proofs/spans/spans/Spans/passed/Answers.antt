use Rattle.std.proofs.Common.{arith}
use Rattle.grid_config_values.proofs.spans.spans.Spans.passed.Goals as goal

pub overflow_sub-self-inside : goal.overflow_sub-self-inside
overflow_sub-self-inside c = omega (arith, c.self.invariant.columns c.args.pos)
