-- A plain style has an empty start and an empty end.
use Rattle.std.proofs.Common.{◌∙◌, sym}
use Rattle.ansi_str_search.proofs.PlainParts.{plain_part}
use Rattle.ansi_str_search.proofs.places.Place.part_to.Goals as goal

pub returns-then-is_plain-2-clause-part : goal.returns-then-is_plain-2-clause-part
returns-then-is_plain-2-clause-part c =
    c.front-slice.ensures ∙ sym (plain_part c.args.self.now.style c.args.end.now.style _ (c.is_plain.ensures.0 c.if-is_plain.true) (c.is_plain-then-is_plain.ensures.0 c.if-is_plain-2.true))
