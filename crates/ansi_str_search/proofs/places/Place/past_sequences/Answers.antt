-- A step over a sequence.
use Rattle.std.proofs.Common.{◌∙◌, sym, ap}
use Rattle.ansi_scan.specs.Attributes.{Attributes}
use Rattle.ansi_scan.specs.Pieces.{pieces}
use Rattle.ansi_str_search.specs.Text.StyledText.{style_after_all}
use Rattle.ansi_str_search.specs.Parts.{through_place}
use Rattle.ansi_str_search.proofs.Walks.{escape_first, at_text, from_text-sequence, style_through-sequence}
use Rattle.ansi_str_search.proofs.places.Place.past_sequences.Goals as goal

pub loop-place-preserved : goal.loop-place-preserved
loop-place-preserved c =
    let place = c.loop-place.place in
    let after = c.past_item-place.result in
    let parted = c.past_item-place.ensures.first in
    let none = (escape_first place.rest.now (sym c.begins_with_escape.ensures ∙ c.loop-place-test.true)).0 in (
      sym (from_text-sequence place.rest.now after.rest.now parted.first parted.parted none) ∙ c.loop-place.invariant.0,
      ap (λ (style : Attributes). style_after_all style (through_place 0 (pieces after.rest.now))) parted.styled
          ∙ sym (style_through-sequence place.rest.now after.rest.now parted.first parted.parted none place.style) ∙ c.loop-place.invariant.1,
    )

pub returns-clause-rest : goal.returns-clause-rest
returns-clause-rest c = sym (at_text c.loop-place.place.rest.now c.loop-place.place.style (sym c.begins_with_escape.ensures ∙ c.loop-place-test.false)).0 ∙ c.loop-place.invariant.0

pub returns-clause-style : goal.returns-clause-style
returns-clause-style c = sym (at_text c.loop-place.place.rest.now c.loop-place.place.style (sym c.begins_with_escape.ensures ∙ c.loop-place-test.false)).1 ∙ c.loop-place.invariant.1
