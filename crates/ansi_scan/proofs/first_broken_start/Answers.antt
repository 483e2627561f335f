-- What `find` gives of the items that are left.
use Rattle.std.proofs.Common.{rules, tests, refl}
use Rattle.std.proofs.lemmas.Iterator.Search.{find_from_yields_List}
use Rattle.std.proofs.lemmas.Iterator.Consumers.{YieldsList-from_first}
use Rattle.ansi_scan.specs.Places.{is_broken}
use Rattle.ansi_scan.specs.Scan.{items_left}
use Rattle.ansi_scan.proofs.first_broken_start.Goals as goal

pub returns : goal.returns
returns c =
    let found = find_from_yields_List is_broken c.find.new.self _ c.find.result c.find.ensures.ran (YieldsList-from_first (λ x. x) items_left _ refl) (λ x b q k. search (rules, tests)) in
    search (rules, tests, found)
