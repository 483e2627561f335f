-- The first Broken item of the text's items.
use Rattle.ansi_scan.specs.Scan.{items_left}
use Rattle.ansi_scan.proofs.FirstBroken.{IsFirstBrokenAnswer-items}
use Rattle.ansi_scan.proofs.first_broken.Goals as goal

pub returns-clause-broken : goal.returns-clause-broken
returns-clause-broken c = (IsFirstBrokenAnswer-items c.args.text.now (items_left c.scan.result) c.first_broken_start.result c.scan.ensures.items c.first_broken_start.ensures).broken

pub returns-clause-whole : goal.returns-clause-whole
returns-clause-whole c = (IsFirstBrokenAnswer-items c.args.text.now (items_left c.scan.result) c.first_broken_start.result c.scan.ensures.items c.first_broken_start.ensures).whole
