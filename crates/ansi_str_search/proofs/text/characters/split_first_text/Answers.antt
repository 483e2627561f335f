-- An item at a time comes off the start of the text, and what is shown stays what it was.
use Rattle.std.proofs.Common.{rules, ◌≡◌, [], ◌++◌, ℕ, List, slice_range, refl, ap, sym, ◌∙◌}
use Rattle.ansi_scan.specs.declared.items.Kind.{Kind}
use Rattle.ansi_scan.specs.Pieces.{pieces}
use Rattle.ansi_scan.specs.Scan.{items_left}
use Rattle.std.specs.Prelude.{chars}
use Rattle.std.proofs.lemmas.Str.{chars-nil}
use Rattle.ansi_str_search.specs.Text.StyledText.{shown, strip}
use Rattle.ansi_str_search.specs.Text.Characters.{shown_chars}
use Rattle.ansi_str_search.proofs.TextLemmas.FirstItem.{pieces-nothing}
use Rattle.ansi_str_search.proofs.TextLemmas.FirstBlock.{shorter}
use Rattle.ansi_str_search.proofs.TextLemmas.Stripping.{shown-sequence}
use Rattle.ansi_str_search.proofs.TextLemmas.LastSequence.{strip-first, first-some}
use Rattle.ansi_str_search.proofs.TextLemmas.ShownCharacters.{shown_chars-first, shown_chars-nothing}
use Rattle.ansi_str_search.proofs.text.characters.split_first_text.Goals as goal

pub returns-in-Text-clause-shown : goal.returns-in-Text-clause-shown
returns-in-Text-clause-shown c =
    shown_chars-first c.args.text.now c.range.result.now c.range_from-behind.result.now
    (sym c.loop-item.invariant.1
    ∙ strip-first c.loop-item.rest.now c.range.result.now c.range_from-behind.result.now (items_left c.scan.result) (items_left c.next.new.self) c.in-Some.item c.scan.ensures.items c.in-Some.ensures.steps c.range.ensures.value c.range_from-behind.ensures.value
    ∙ ap (λ (kind : Kind). shown kind c.range.result.now ++ strip (pieces c.range_from-behind.result.now)) c.in-Text.is)
    c.range.utf8

pub returns-in-Text-clause-empty : goal.returns-in-Text-clause-empty
returns-in-Text-clause-empty c = λ empty.
    absurd (first-some c.loop-item.rest.now c.range.result.now (items_left c.scan.result) (items_left c.next.new.self) c.in-Some.item c.scan.ensures.items c.in-Some.ensures.steps c.range.ensures.value empty)

pub loop-item-smaller : goal.loop-item-smaller
loop-item-smaller c = shorter c.loop-item.rest.now c.range_from-behind.result.now (items_left c.scan.result) (items_left c.next.new.self) c.in-Some.item c.scan.ensures.items c.in-Some.ensures.steps c.range_from-behind.ensures.value

pub loop-item-preserved : goal.loop-item-preserved
loop-item-preserved c =
    let same : strip (pieces c.range_from-behind.result.now) ≡ strip (pieces c.args.text.now) =
    sym (strip-first c.loop-item.rest.now (slice_range c.loop-item.rest.now 0 c.in-Some.item.end) c.range_from-behind.result.now (items_left c.scan.result) (items_left c.next.new.self) c.in-Some.item c.scan.ensures.items c.in-Some.ensures.steps refl c.range_from-behind.ensures.value
    ∙ ap (λ (bs : List ℕ). bs ++ strip (pieces c.range_from-behind.result.now)) (shown-sequence c.in-Some.item.kind (slice_range c.loop-item.rest.now 0 c.in-Some.item.end) c.in_default-kind.not-Text))
    ∙ c.loop-item.invariant.1 in
    search (rules, same)

pub returns-clause-shown : goal.returns-clause-shown
returns-clause-shown c =
    let none : shown_chars c.args.text.now ≡ [] =
    ap chars (sym c.loop-item.invariant.1 ∙ ap strip (pieces-nothing c.loop-item.rest.now (items_left c.scan.result) c.scan.ensures.items c.in_default.ensures.steps.0)) ∙ chars-nil in
    none ∙ sym (ap (λ (cs : List ℕ). cs ++ shown_chars []) chars-nil ∙ shown_chars-nothing)

pub returns-clause-empty : goal.returns-clause-empty
returns-clause-empty c = λ _. shown_chars-nothing
