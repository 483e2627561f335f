-- The slice up to the place, with the sequences there.
use Rattle.std.proofs.Common.{◌≡◌, ◌∙◌, true, false}
use Rattle.ansi_scan.specs.Sequences.{joined}
use Rattle.ansi_scan.specs.Pieces.{pieces}
use Rattle.ansi_str_search.specs.Parts.{through_place}
use Rattle.ansi_str_search.proofs.Rests.{rest_slice, slice_part, plain-end}
use Rattle.ansi_str_search.proofs.places.Place.part.Goals as goal

pub part_to-requires : goal.part_to-requires
part_to-requires c =
    let self = c.args.self.now in
    let cut = c.after-cut.result in
    let end = c.past_sequences.result in (
      joined (through_place c.args.n (pieces self.rest.now)),
      rest_slice self.rest.now self.style c.args.n cut.rest.now cut.style c.after-cut.ensures.rest c.after-cut.ensures.style end.rest.now end.style c.past_sequences.ensures.rest c.past_sequences.ensures.style,
    )

pub returns-in_err-part-clause-answers : goal.returns-in_err-part-clause-answers
returns-in_err-part-clause-answers c = λ plain gone.
    let self = c.args.self.now in
    let cut = c.after-cut.result in
    let end = c.past_sequences.result in
    let answered : false ≡ true = c.in_err-part.ensures.answers plain (plain-end self.rest.now self.style c.args.n cut.rest.now cut.style c.after-cut.ensures.rest c.after-cut.ensures.style gone end.style c.past_sequences.ensures.style plain c.requires.fits) in
    cc answered

pub returns-clause-part : goal.returns-clause-part
returns-clause-part c =
    let self = c.args.self.now in
    let cut = c.after-cut.result in
    let end = c.past_sequences.result in
    c.in_ok-part.ensures.part
    ∙ slice_part self.rest.now self.style c.args.n cut.rest.now cut.style c.after-cut.ensures.rest c.after-cut.ensures.style end.rest.now end.style c.past_sequences.ensures.rest c.past_sequences.ensures.style

pub returns-clause-borrows : goal.returns-clause-borrows
returns-clause-borrows c = λ plain gone owned.
    let self = c.args.self.now in
    let cut = c.after-cut.result in
    let end = c.past_sequences.result in
    c.in_ok-part.ensures.borrows plain (plain-end self.rest.now self.style c.args.n cut.rest.now cut.style c.after-cut.ensures.rest c.after-cut.ensures.style gone end.style c.past_sequences.ensures.style plain c.requires.fits) owned
