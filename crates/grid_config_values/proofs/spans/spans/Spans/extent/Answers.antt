use Rattle.std.proofs.Common.{None, Some}
use Rattle.grid_config_values.proofs.SpansLemmas.Extents.{extent_found}
use Rattle.grid_config_values.proofs.spans.spans.Spans.extent.Goals as goal

pub returns-in-Some-clause-kept : goal.returns-in-Some-clause-kept
returns-in-Some-clause-kept c = rw (← c.self.view_is) (extent_found c.self.inside.extents.entries c.args.pos (Some c.in-Some.extent.now) c.in-Some.ensures.value)

pub returns-in-Some-clause-rows : goal.returns-in-Some-clause-rows
returns-in-Some-clause-rows c = rw (extent_found c.self.inside.extents.entries c.args.pos (Some c.in-Some.extent.now) c.in-Some.ensures.value) (c.self.invariant.rows c.args.pos).0

pub returns-in-Some-clause-columns : goal.returns-in-Some-clause-columns
returns-in-Some-clause-columns c = rw (extent_found c.self.inside.extents.entries c.args.pos (Some c.in-Some.extent.now) c.in-Some.ensures.value) (c.self.invariant.columns c.args.pos).0

pub returns-in-None-clause-kept : goal.returns-in-None-clause-kept
returns-in-None-clause-kept c = rw (← c.self.view_is) (extent_found c.self.inside.extents.entries c.args.pos None c.in-None.ensures.value)
