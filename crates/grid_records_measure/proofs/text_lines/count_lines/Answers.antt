-- A block at a time comes off what is left.
use Rattle.std.proofs.Common.{rules, ◌≡◌, ◌+◌, ◌≤◌, ◌++◌, ◌∙◌, flat_map, length, ap, sym, arith, List, if◌then◌else◌}
use Rattle.std.specs.List.{count_by}
use Rattle.std.proofs.lemmas.List.Sums.{count_by-le-length, sum_by-append}
use Rattle.std.proofs.lemmas.List.Splits.{length-slice_split}
use Rattle.ansi_scan.specs.Sequences.{Piece}
use Rattle.ansi_scan.specs.Pieces.{pieces}
use Rattle.ansi_scan.proofs.Existence.{ArePiecesOf-pieces}
use Rattle.ansi_scan.proofs.Uniqueness.{ArePiecesOf-unique}
use Rattle.ansi_str.specs.StyledText.{strip}
use Rattle.ansi_str.specs.Blocks.{Block, text_of_block}
use Rattle.ansi_str_search.proofs.Rests.{strip-fits}
use Rattle.grid_records_measure.specs.TextLines.{is_line_feed, shown_lines}
use Rattle.grid_records_measure.proofs.LinesAndBlocks.{shown-blocks}
use Rattle.grid_records_measure.proofs.TextLines.{height-of_pieces}
use Rattle.grid_records_measure.proofs.text_lines.count_lines.Goals as goal

pub loop-block-init : goal.loop-block-init
loop-block-init c =
    let text = c.args.text.now in
    let same : c.into_iter-block-iterator.result ≡ c.get_blocks-block-items.result = cc in
    let all = ap (count_by is_line_feed) (ap (flat_map text_of_block) same ∙ shown-blocks text c.get_blocks-block-items.result c.get_blocks-block-items.ensures.blocks) in
    record { goes = search rules; all = omega (arith, all) }

pub overflow_add-count : goal.overflow_add-count
overflow_add-count c =
    let text = c.args.text.now in
    let first = c.text.result.now in
    let rest = flat_map text_of_block c.next.new.self in
    let step : flat_map text_of_block c.loop-block.block-iterator ≡ first ++ rest = ap (flat_map text_of_block) c.in-Some.ensures.steps ∙ ap (λ bytes. bytes ++ rest) (sym c.text.ensures) in
    let parts = ap (count_by is_line_feed) step ∙ sum_by-append (λ byte. if is_line_feed byte then 1 else 0) first rest in
    let few = count_by-le-length is_line_feed (strip (pieces text)) in
    let fits : c.loop-block.count + c.line_feeds-count.result ≤ length text + 1 = omega (arith, parts, few, strip-fits text, c.loop-block.invariant.all, c.line_feeds-count.ensures) in
    search (rules, fits)

pub returns-clause-pieces : goal.returns-clause-pieces
returns-clause-pieces c = λ ps of_text.
    let text = c.args.text.now in
    let none = ap (λ (blocks : List Block). count_by is_line_feed (flat_map text_of_block blocks)) c.in-None.ensures.steps.0 in
    let all : c.loop-block.count ≡ count_by is_line_feed (strip (pieces text)) + 1 = omega (arith, none, c.loop-block.invariant.all) in
    all ∙ sym (length-slice_split is_line_feed (strip (pieces text)))
    ∙ ap (λ (of : List Piece). length (shown_lines of)) (ArePiecesOf-unique text (pieces text) ps (ArePiecesOf-pieces text) of_text)

pub returns-clause-text : goal.returns-clause-text
returns-clause-text c = height-of_pieces c.args.text.now c.loop-block.count (returns-clause-pieces c)
