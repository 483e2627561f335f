use Rattle.std.proofs.Common.{arith}
use Rattle.grid_config_values.proofs.spans.spans.Spans.first_that_may_hold.Goals as goal

pub overflow_sub-self-inside : goal.overflow_sub-self-inside
overflow_sub-self-inside c = omega (arith, c.self.invariant.columns c.args.pos)

pub overflow_sub-self-inside-else-self-eq1 : goal.overflow_sub-self-inside-else-self-eq1
overflow_sub-self-inside-else-self-eq1 c = omega (arith, c.self.invariant.rows c.args.pos)
