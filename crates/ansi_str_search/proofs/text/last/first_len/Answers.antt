-- The first item, as the scan gives it.
use Rattle.ansi_scan.specs.Scan.{items_left}
use Rattle.ansi_str_search.proofs.TextLemmas.FirstItem.{IsFirstItem-items, pieces-nothing}
use Rattle.ansi_str_search.proofs.TextLemmas.LastSequence.{leading_piece-IsFirstItem, nothing-short}
use Rattle.ansi_str_search.proofs.text.last.first_len.Goals as goal

pub returns-in-Some-clause-value : goal.returns-in-Some-clause-value
returns-in-Some-clause-value c =
    leading_piece-IsFirstItem c.args.text.now c.in-Some.item c.requires
    (IsFirstItem-items c.args.text.now (items_left c.scan.result) (items_left c.next.new.self) c.in-Some.item c.scan.ensures.items c.in-Some.ensures.steps)

pub returns-in-None-clause-value : goal.returns-in-None-clause-value
returns-in-None-clause-value c =
    absurd (nothing-short c.args.text.now c.requires (pieces-nothing c.args.text.now (items_left c.scan.result) c.scan.ensures.items c.in-None.ensures.steps.0))

pub returns-in-None-clause-cut : goal.returns-in-None-clause-cut
returns-in-None-clause-cut c =
    absurd (nothing-short c.args.text.now c.requires (pieces-nothing c.args.text.now (items_left c.scan.result) c.scan.ensures.items c.in-None.ensures.steps.0))
