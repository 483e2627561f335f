use Rattle.std.proofs.Common.{◌∙◌, ap, sym, take}
use Rattle.bounded_output.proofs.Fills.{filled-more}
use Rattle.bounded_output.specs.Filled.{filled, filled_from}
use Rattle.bounded_output.proofs.bounded.BoundedWrite.write.Goals as goal

pub invariant_of-self-clause-written : goal.invariant_of-self-clause-written
invariant_of-self-clause-written c =
    let self = c.args.self.now in
    let piece = take c.min-count.result c.args.buf.now in
    c.fill_from.ensures
    ∙ ap (λ out. filled_from self.count out.now piece) c.take-out.ensures.value
    ∙ ap (λ memory. filled_from self.count memory piece) self.written
    ∙ ap (λ place. filled_from place (filled self.before.bytes self.taken.bytes) piece) self.counted
    ∙ sym (filled-more self.before.bytes self.taken.bytes piece)
    ∙ ap (filled self.before.bytes) (sym c.and-taken.ensures)
