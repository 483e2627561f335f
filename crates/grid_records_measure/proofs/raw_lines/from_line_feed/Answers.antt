-- A step over a sequence and the bytes of text after it.
use Rattle.std.proofs.Common.{◌<◌, ◌∙◌, refl, sym, arith}
use Rattle.ansi_scan.specs.Pieces.{pieces}
use Rattle.ansi_scan.specs.Attributes.{plain_attributes}
use Rattle.ansi_str.specs.StyledText.{style_after}
use Rattle.ansi_str.specs.Walking.{AreFirstAndRest}
use Rattle.ansi_str_search.proofs.Walks.{escape_first}
use Rattle.ansi_str_search.proofs.Finds.{other_boundary}
use Rattle.ansi_str_search.proofs.Landing.{SameLanding-same, SameLanding-left, SameLanding-sequence, run_over, Lands-end}
use Rattle.grid_records_measure.specs.TextLines.{line_feed}
use Rattle.grid_records_measure.proofs.raw_lines.from_line_feed.Goals as goal

low : line_feed < 128
low = omega arith

pub range_from-rest-requires : goal.range_from-rest-requires
range_from-rest-requires c = λ some. other_boundary line_feed low c.args.text.now c.run_len.result c.run_len.ensures.value

pub loop-rest-init : goal.loop-rest-init
loop-rest-init c =
    let text = c.args.text.now in
    let left = c.range_from-rest in (
      left.utf8,
      (
        plain_attributes,
        SameLanding-left line_feed low text left.result.now plain_attributes c.run_len.result c.run_len.ensures.value left.ensures.value text plain_attributes
            (SameLanding-same line_feed text text plain_attributes plain_attributes refl refl),
      ),
      run_over line_feed text left.result.now c.run_len.result c.run_len.ensures.value left.ensures.value,
    )

pub range_from-rest-requires-in-loop-rest : goal.range_from-rest-requires-in-loop-rest
range_from-rest-requires-in-loop-rest c = λ some. other_boundary line_feed low c.behind_item-rest.result.now c.run_len-in-loop-rest.result c.run_len-in-loop-rest.ensures.value

pub loop-rest-preserved : goal.loop-rest-preserved
loop-rest-preserved c =
    let text = c.args.text.now in
    let before = c.loop-rest.rest.now in
    let same = c.loop-rest.invariant.1 in
    let item = c.behind_item-rest in
    let behind = item.result.now in
    let left = c.range_from-rest-in-loop-rest in
    let run = c.run_len-in-loop-rest in
    let none = (escape_first before (sym c.begins_with_escape.ensures ∙ c.loop-rest-test.true)).0 in
    let style = style_after same.0 item.ensures.parted.first in
    let parted : AreFirstAndRest same.0 (pieces before) style (pieces behind) = record { first = item.ensures.parted.first; parted = item.ensures.parted.parted; styled = refl } in (
      left.utf8,
      (
        style,
        SameLanding-left line_feed low behind left.result.now style run.result run.ensures.value left.ensures.value text plain_attributes
            (SameLanding-sequence line_feed before same.0 behind style parted none text plain_attributes same.1),
      ),
      run_over line_feed behind left.result.now run.result run.ensures.value left.ensures.value,
    )

pub returns : goal.returns
returns c =
    let same = c.loop-rest.invariant.1 in
    (same.0, Lands-end line_feed c.loop-rest.rest.now same.0 c.args.text.now plain_attributes low same.1 c.loop-rest.invariant.2 (sym c.begins_with_escape.ensures ∙ c.loop-rest-test.false))
