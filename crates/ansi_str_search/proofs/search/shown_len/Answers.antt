-- A step over the first item.
use Rattle.std.proofs.Common.{rules, ◌≡◌, ap, ◌+◌, ◌≤◌, length, arith}
use Rattle.ansi_scan.specs.Pieces.{pieces}
use Rattle.ansi_str_search.specs.Text.StyledText.{shown, strip}
use Rattle.ansi_str_search.proofs.Rests.{strip-fits}
use Rattle.ansi_str_search.proofs.Walks.{first-shorter}
use Rattle.ansi_str_search.proofs.Searches.{shown-step}
use Rattle.ansi_str_search.proofs.search.shown_len.Goals as goal

pub overflow_add-len : goal.overflow_add-len
overflow_add-len c =
    let sum = shown-step c.loop-kind.rest.now c.in-Some.behind.now (record { kind = c.in-Some.kind; bytes = c.in-Some.bytes.now }) c.loop-kind.len (length (strip (pieces c.args.text.now))) c.in-Some.ensures c.loop-kind.invariant.1 in
    let all = strip-fits c.args.text.now in
    let own : length (shown c.in-Some.kind c.in-Some.bytes.now) ≡ length c.in-Some.bytes.now = ap (λ kind. length (shown kind c.in-Some.bytes.now)) c.in-Text.is in
    let fits : c.loop-kind.len + length c.in-Some.bytes.now ≤ length c.args.text.now = omega (arith, sum, all, own) in
    search (rules, fits)

pub loop-kind-smaller-in-Text : goal.loop-kind-smaller-in-Text
loop-kind-smaller-in-Text c = first-shorter c.loop-kind.rest.now c.in-Some.behind.now (record { kind = c.in-Some.kind; bytes = c.in-Some.bytes.now }) c.in-Some.ensures

pub loop-kind-smaller : goal.loop-kind-smaller
loop-kind-smaller c = first-shorter c.loop-kind.rest.now c.in-Some.behind.now (record { kind = c.in-Some.kind; bytes = c.in-Some.bytes.now }) c.in-Some.ensures
