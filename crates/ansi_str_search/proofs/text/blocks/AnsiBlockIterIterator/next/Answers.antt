-- An item at a time comes off the start of the text, and the blocks of the rest stay what they were.
use Rattle.std.proofs.Common.{rules, List, ◌++◌, ap, sym, ◌∙◌}
use Rattle.ansi_scan.specs.declared.items.Kind.{Kind}
use Rattle.ansi_scan.specs.Sequences.{Piece}
use Rattle.ansi_scan.specs.Attributes.{Attributes}
use Rattle.ansi_scan.specs.Pieces.{pieces}
use Rattle.ansi_scan.specs.Scan.{items_left}
use Rattle.ansi_str_search.specs.Text.StyledText.{style_by}
use Rattle.ansi_str_search.specs.Text.Blocks.{block_if, blocks_from}
use Rattle.ansi_str_search.proofs.TextLemmas.FirstItem.{pieces-nothing}
use Rattle.ansi_str_search.proofs.TextLemmas.FirstBlock.{blocks_from-item, block_if-other, shorter}
use Rattle.ansi_str_search.proofs.text.blocks.AnsiBlockIterIterator.next.Goals as goal

pub returns-in-Text-clause-steps : goal.returns-in-Text-clause-steps
returns-in-Text-clause-steps c =
    let self = c.loop-item.self-inside in
    sym c.loop-item.invariant
    ∙ blocks_from-item self.style self.rest.now c.range-bytes.result.now c.range_from-self-inside.result.now (items_left c.scan.result) (items_left c.next.new.self) c.in-Some.item c.scan.ensures.items c.in-Some.ensures.steps c.range-bytes.ensures.value c.range_from-self-inside.ensures.value
    ∙ ap (λ (kind : Kind). block_if kind c.range-bytes.result.now self.style ++ blocks_from (style_by self.style kind c.range-bytes.result.now) (pieces c.range_from-self-inside.result.now)) c.in-Text.is

pub returns-in-Text-clause-goes : goal.returns-in-Text-clause-goes
returns-in-Text-clause-goes c = let steps = returns-in-Text-clause-steps c in search (rules, steps)

pub loop-item-smaller-in-Sgr : goal.loop-item-smaller-in-Sgr
loop-item-smaller-in-Sgr c = shorter c.loop-item.self-inside.rest.now c.range_from-self-inside.result.now (items_left c.scan.result) (items_left c.next.new.self) c.in-Some.item c.scan.ensures.items c.in-Some.ensures.steps c.range_from-self-inside.ensures.value

pub loop-item-preserved-in-Sgr : goal.loop-item-preserved-in-Sgr
loop-item-preserved-in-Sgr c =
    let self = c.loop-item.self-inside in
    ap (λ (style : Attributes). blocks_from style (pieces c.range_from-self-inside.result.now)) c.apply-self-inside.ensures
    ∙ ap (λ (kind : Kind). block_if kind c.range-bytes.result.now self.style ++ blocks_from (style_by self.style kind c.range-bytes.result.now) (pieces c.range_from-self-inside.result.now)) (sym c.in-Sgr.is)
    ∙ sym (blocks_from-item self.style self.rest.now c.range-bytes.result.now c.range_from-self-inside.result.now (items_left c.scan.result) (items_left c.next.new.self) c.in-Some.item c.scan.ensures.items c.in-Some.ensures.steps c.range-bytes.ensures.value c.range_from-self-inside.ensures.value)
    ∙ c.loop-item.invariant

pub loop-item-smaller : goal.loop-item-smaller
loop-item-smaller c = shorter c.loop-item.self-inside.rest.now c.range_from-self-inside.result.now (items_left c.scan.result) (items_left c.next.new.self) c.in-Some.item c.scan.ensures.items c.in-Some.ensures.steps c.range_from-self-inside.ensures.value

pub loop-item-preserved : goal.loop-item-preserved
loop-item-preserved c =
    let self = c.loop-item.self-inside in
    sym (block_if-other c.in-Some.item.kind c.range-bytes.result.now self.style (pieces c.range_from-self-inside.result.now) c.in_default-kind.not-Text c.in_default-kind.not-Sgr)
    ∙ sym (blocks_from-item self.style self.rest.now c.range-bytes.result.now c.range_from-self-inside.result.now (items_left c.scan.result) (items_left c.next.new.self) c.in-Some.item c.scan.ensures.items c.in-Some.ensures.steps c.range-bytes.ensures.value c.range_from-self-inside.ensures.value)
    ∙ c.loop-item.invariant

pub returns-clause-steps : goal.returns-clause-steps
returns-clause-steps c =
    let none = ap (λ (found : List Piece). blocks_from c.loop-item.self-inside.style found) (pieces-nothing c.loop-item.self-inside.rest.now (items_left c.scan.result) c.scan.ensures.items c.in_default.ensures.steps.0) in
    (sym c.loop-item.invariant ∙ none, none)
