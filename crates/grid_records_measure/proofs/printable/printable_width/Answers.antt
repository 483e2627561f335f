-- An item at a time is passed, as long as all is printable.
use Rattle.std.proofs.Common.{rules, ◌≡◌, ◌++◌, ◌<◌, ◌^◌, ℕ, List, length, drop, slice_range, refl, ap, sym, ◌∙◌, subst, arith}
use Rattle.ansi_scan.specs.declared.items.Kind.{Kind}
use Rattle.ansi_scan.specs.Pieces.{pieces}
use Rattle.ansi_scan.specs.Scan.{items_left}
use Rattle.ansi_str_search.specs.Text.StyledText.{shown, strip}
use Rattle.ansi_str_search.proofs.TextLemmas.FirstItem.{pieces-nothing}
use Rattle.ansi_str_search.proofs.TextLemmas.FirstBlock.{shorter}
use Rattle.ansi_str_search.proofs.TextLemmas.Stripping.{shown-sequence}
use Rattle.ansi_str_search.proofs.TextLemmas.LastSequence.{strip-first}
use Rattle.grid_records_measure.proofs.PrintableWidth.{IsPassed, IsPassed-text, IsPassed-other, IsPassed-end, IsPassed-fits, not-printable}
use Rattle.grid_records_measure.proofs.printable.printable_width.Goals as goal
use Rattle.grid_records_measure.proofs.printable.printable_width.Goals.{in-Text+else-not-is_printable, in_default-kind}

pub overflow_add-width : goal.overflow_add-width
overflow_add-width c =
    let rest : List ℕ = c.loop-item.rest.now in
    let behind : List ℕ = drop c.in-Some.item.end rest in
    let shows : strip (pieces rest) ≡ c.range-shown.result.now ++ strip (pieces behind) =
    strip-first rest c.range-shown.result.now behind (items_left c.scan.result) (items_left c.next.new.self) c.in-Some.item c.scan.ensures.items c.in-Some.ensures.steps c.range-shown.ensures.value refl
    ∙ ap (λ (kind : Kind). shown kind c.range-shown.result.now ++ strip (pieces behind)) c.in-Text.is in
    let sum = IsPassed-fits c.loop-item.width rest c.args.text.now c.range-shown.result.now behind c.loop-item.invariant.1 shows in
    let fits : length c.args.text.now < 2 ^ 64 = search rules in
    omega (arith, sum, fits)

pub loop-item-smaller : goal.loop-item-smaller
loop-item-smaller c = shorter c.loop-item.rest.now c.range_from-rest.result.now (items_left c.scan.result) (items_left c.next.new.self) c.in-Some.item c.scan.ensures.items c.in-Some.ensures.steps c.range_from-rest.ensures.value

pub loop-item-preserved : goal.loop-item-preserved
loop-item-preserved c =
    let rest : List ℕ = c.loop-item.rest.now in
    let behind : List ℕ = c.range_from-rest.result.now in
    let Passed : ℕ → Type 0 = λ n. IsPassed n behind c.args.text.now in
    let passed : IsPassed c.match-item.width behind c.args.text.now =
    elim c.match-item.branch [
      | in-Text+else-not-is_printable w ↦
          subst Passed (sym w.width-is)
          (IsPassed-text c.loop-item.width rest c.args.text.now w.range-shown.result.now behind c.loop-item.invariant.1
          (strip-first rest w.range-shown.result.now behind (items_left c.scan.result) (items_left c.next.new.self) c.in-Some.item c.scan.ensures.items c.in-Some.ensures.steps w.range-shown.ensures.value c.range_from-rest.ensures.value
          ∙ ap (λ (kind : Kind). shown kind w.range-shown.result.now ++ strip (pieces behind)) w.in-Text.is)
          (sym w.is_printable.ensures ∙ w.if-not-is_printable.false))
      | in_default-kind w ↦
          subst Passed (sym w.width-is)
          (IsPassed-other c.loop-item.width rest c.args.text.now behind c.loop-item.invariant.1
          (strip-first rest (slice_range rest 0 c.in-Some.item.end) behind (items_left c.scan.result) (items_left c.next.new.self) c.in-Some.item c.scan.ensures.items c.in-Some.ensures.steps refl c.range_from-rest.ensures.value
          ∙ ap (λ (bs : List ℕ). bs ++ strip (pieces behind)) (shown-sequence c.in-Some.item.kind (slice_range rest 0 c.in-Some.item.end) w.in_default-kind.not-Text)))
    ] in
    (c.range_from-rest.utf8, passed)

pub returns-then-not-is_printable : goal.returns-then-not-is_printable
returns-then-not-is_printable c =
    let rest : List ℕ = c.loop-item.rest.now in
    let behind : List ℕ = drop c.in-Some.item.end rest in
    not-printable c.loop-item.width rest c.args.text.now c.range-shown.result.now behind c.loop-item.invariant.1
    (strip-first rest c.range-shown.result.now behind (items_left c.scan.result) (items_left c.next.new.self) c.in-Some.item c.scan.ensures.items c.in-Some.ensures.steps c.range-shown.ensures.value refl
    ∙ ap (λ (kind : Kind). shown kind c.range-shown.result.now ++ strip (pieces behind)) c.in-Text.is)
    (sym c.is_printable.ensures ∙ c.if-not-is_printable.true)

pub returns : goal.returns
returns c =
    IsPassed-end c.loop-item.width c.loop-item.rest.now c.args.text.now c.loop-item.invariant.1
    (ap strip (pieces-nothing c.loop-item.rest.now (items_left c.scan.result) c.scan.ensures.items c.in_default.ensures.steps.0))
