-- A step over a sequence and the bytes of text after it.
use Rattle.std.proofs.Common.{◌∙◌, sym}
use Rattle.ansi_str_search.proofs.Walks.{escape_first}
use Rattle.ansi_str_search.proofs.Finds.{other_boundary}
use Rattle.ansi_str_search.proofs.Landing.{SameLanding-same, SameLanding-left, SameLanding-sequence, run_over, Lands-end}
use Rattle.ansi_str_search.proofs.places.Place.to_byte.Goals as goal

pub range_from-place-requires : goal.range_from-place-requires
range_from-place-requires c = λ some. other_boundary c.args.byte c.requires c.same-place.result.rest.now c.run_len.result c.run_len.ensures.value

pub loop-place-init : goal.loop-place-init
loop-place-init c =
    let self = c.args.self.now in
    let place = c.same-place.result in (
      SameLanding-left c.args.byte c.requires place.rest.now c.range_from-place.result.now place.style c.run_len.result c.run_len.ensures.value c.range_from-place.ensures.value self.rest.now self.style
          (SameLanding-same c.args.byte place.rest.now self.rest.now place.style self.style c.same-place.ensures.rest c.same-place.ensures.style),
      run_over c.args.byte place.rest.now c.range_from-place.result.now c.run_len.result c.run_len.ensures.value c.range_from-place.ensures.value,
    )

pub range_from-place-requires-in-loop-place : goal.range_from-place-requires-in-loop-place
range_from-place-requires-in-loop-place c = λ some. other_boundary c.args.byte c.requires c.past_item-place.result.rest.now c.run_len-in-loop-place.result c.run_len-in-loop-place.ensures.value

pub loop-place-preserved : goal.loop-place-preserved
loop-place-preserved c =
    let self = c.args.self.now in
    let before = c.loop-place.place in
    let place = c.past_item-place.result in
    let left = c.range_from-place-in-loop-place in
    let run = c.run_len-in-loop-place in
    let none = (escape_first before.rest.now (sym c.begins_with_escape.ensures ∙ c.loop-place-test.true)).0 in (
      SameLanding-left c.args.byte c.requires place.rest.now left.result.now place.style run.result run.ensures.value left.ensures.value self.rest.now self.style
          (SameLanding-sequence c.args.byte before.rest.now before.style place.rest.now place.style c.past_item-place.ensures.first none self.rest.now self.style c.loop-place.invariant.0),
      run_over c.args.byte place.rest.now left.result.now run.result run.ensures.value left.ensures.value,
    )

pub returns : goal.returns
returns c = Lands-end c.args.byte c.loop-place.place.rest.now c.loop-place.place.style c.args.self.now.rest.now c.args.self.now.style c.requires c.loop-place.invariant.0 c.loop-place.invariant.1 (sym c.begins_with_escape.ensures ∙ c.loop-place-test.false)
