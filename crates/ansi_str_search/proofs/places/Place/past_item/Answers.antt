-- The text after the first item is shorter.
use Rattle.std.proofs.Common.{arith}
use Rattle.ansi_str_search.proofs.Walks.{first-shorter, empty-nothing}
use Rattle.ansi_str_search.proofs.places.Place.past_item.Goals as goal

pub returns-clause-shorter : goal.returns-clause-shorter
returns-clause-shorter c = first-shorter c.args.self.now.rest.now c.in-Some.rest.now (record { kind = c.in-Some.kind; bytes = c.in-Some.bytes.now }) c.in-Some.ensures

pub returns-in_default-clause-first : goal.returns-in_default-clause-first
returns-in_default-clause-first c = let none = empty-nothing c.args.self.now.rest.now c.in_default.ensures in absurd (omega (arith, none, c.requires))

pub returns-in_default-clause-shorter : goal.returns-in_default-clause-shorter
returns-in_default-clause-shorter c = let none = empty-nothing c.args.self.now.rest.now c.in_default.ensures in absurd (omega (arith, none, c.requires))
