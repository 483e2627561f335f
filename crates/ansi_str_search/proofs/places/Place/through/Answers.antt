-- After the place, the sequences there are passed.
use Rattle.ansi_str_search.proofs.Rests.{rest_slice, slice-style}
use Rattle.ansi_str_search.proofs.places.Place.through.Goals as goal

pub returns-clause-style : goal.returns-clause-style
returns-clause-style c =
    let self = c.args.self.now in
    let cut = c.after.result in
    let end = c.past_sequences.result in
    slice-style self.rest.now self.style c.args.n cut.rest.now cut.style c.after.ensures.rest c.after.ensures.style end.rest.now end.style c.past_sequences.ensures.rest c.past_sequences.ensures.style

pub returns-clause-slice : goal.returns-clause-slice
returns-clause-slice c =
    let self = c.args.self.now in
    let cut = c.after.result in
    let end = c.past_sequences.result in
    rest_slice self.rest.now self.style c.args.n cut.rest.now cut.style c.after.ensures.rest c.after.ensures.style end.rest.now end.style c.past_sequences.ensures.rest c.past_sequences.ensures.style
