-- The first item is taken off the start of the text.
use Rattle.std.proofs.Common.{rules, ◌∙◌, ap, sym, subst, arith, ℕ, ◌-◌, ◌<◌, ◌≤◌, List, ◌∷◌, drop, length}
use Rattle.std.specs.Prelude.{slice_index}
use Rattle.ansi_scan.specs.Pieces.{pieces}
use Rattle.ansi_scan.specs.Scan.{items_left}
use Rattle.ansi_str_search.proofs.TextLemmas.FirstItem.{IsFirstItem-items, pieces-nothing}
use Rattle.ansi_str_search.proofs.ShortSequences.{cut_behind}
use Rattle.ansi_str_search.proofs.places.split_item.Goals as goal

pub returns : goal.returns
returns c =
    let text = c.args.text.now in
    let item = c.in_ok-item.item in
    (IsFirstItem-items text (items_left c.scan.result) (items_left c.next.new.self) item c.scan.ensures.items c.in_ok-item.ensures.steps).read
    ∙ ap (λ (bytes : List ℕ). record { kind = item.kind; bytes = bytes } ∷ pieces (drop item.end text)) (sym c.range-2.ensures.value)
    ∙ ap (λ (behind : List ℕ). record { kind = item.kind; bytes = c.range-2.result.now } ∷ pieces behind) (sym c.range_from-2.ensures.value)

pub range-requires-clause-end_boundary : goal.range-requires-clause-end_boundary
range-requires-clause-end_boundary c =
    let len = c.short_sequence_len-len in
    let same = c.as_bytes.ensures.value in
    let within : len.result ≤ length c.args.text.now = omega (arith, ap length same, len.ensures.within) in
    let last : slice_index c.args.text.now (len.result - 1) < 128 = subst (λ bytes. slice_index bytes (len.result - 1) < 128) same (len.ensures.last c.if-len-gt0.true) in
    cut_behind c.args.text.now len.result c.utf8.text c.if-len-gt0.true within last

pub range_from-requires : goal.range_from-requires
range_from-requires c = λ some.
    let len = c.short_sequence_len-len in
    let same = c.as_bytes.ensures.value in
    let within : len.result ≤ length c.args.text.now = omega (arith, ap length same, len.ensures.within) in
    let last : slice_index c.args.text.now (len.result - 1) < 128 = subst (λ bytes. slice_index bytes (len.result - 1) < 128) same (len.ensures.last c.if-len-gt0.true) in
    cut_behind c.args.text.now len.result c.utf8.text c.if-len-gt0.true within last

pub returns-in_err-item : goal.returns-in_err-item
returns-in_err-item c =
    let nothing = pieces-nothing c.args.text.now (items_left c.scan.result) c.scan.ensures.items c.in_err-item.ensures.steps.0 in
    search (rules, nothing)
