-- The text after the first item is shorter.
use Rattle.std.proofs.Common.{arith}
use Rattle.ansi_str_search.proofs.Walks.{first-shorter, empty-nothing}
use Rattle.ansi_str_search.proofs.places.behind_item.Goals as goal

pub returns-in-Some-clause-shorter : goal.returns-in-Some-clause-shorter
returns-in-Some-clause-shorter c = first-shorter c.args.text.now c.in-Some.rest.now (record { kind = c.in-Some.field-0-0; bytes = c.in-Some.field-0-1.now }) c.in-Some.ensures

pub returns-in-None-clause-parted : goal.returns-in-None-clause-parted
returns-in-None-clause-parted c = let none = empty-nothing c.args.text.now c.in-None.ensures in absurd (omega (arith, none, c.requires))

pub returns-in-None-clause-shorter : goal.returns-in-None-clause-shorter
returns-in-None-clause-shorter c = let none = empty-nothing c.args.text.now c.in-None.ensures in absurd (omega (arith, none, c.requires))
