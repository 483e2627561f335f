use Rattle.std.proofs.Common.{◌+◌, ◌∷◌, sym, ◌∙◌, ap, arith, rules}
use Rattle.grid_config_values.proofs.Rectangles.{no_places_left, places_in_row, places_below}
use Rattle.grid_config_values.proofs.entity_iterator.EntityIteratorIterator.next.Goals as goal

pub returns-then-self-clause-steps : goal.returns-then-self-clause-steps
returns-then-self-clause-steps c =
    let none = sym c.self.view_is ∙ no_places_left c.self.inside.row c.self.inside.end_row c.self.inside.col c.self.inside.first_col c.self.inside.end_col c.if-self.true in
    (none, none)

pub returns-then-self-2-clause-steps : goal.returns-then-self-2-clause-steps
returns-then-self-2-clause-steps c =
    rw c.new-place.ensures (sym c.self.view_is ∙ places_in_row c.self.inside.row c.self.inside.end_row c.self.inside.col c.self.inside.first_col c.self.inside.end_col c.if-self.false (omega arith))

pub returns-then-self-2-clause-goes : goal.returns-then-self-2-clause-goes
returns-then-self-2-clause-goes c =
    let step = returns-then-self-2-clause-steps c in
    search rules

pub returns-else-self-2-clause-steps : goal.returns-else-self-2-clause-steps
returns-else-self-2-clause-steps c =
    let i = c.self.inside in
    let in_row = places_in_row i.row i.end_row i.col i.first_col i.end_col c.if-self.false (c.self.invariant.right c.if-self.false) in
    let below = places_below i.row i.end_row (i.col + 1) i.first_col i.end_col c.if-self.false (omega arith) in
    rw c.new-place.ensures (sym c.self.view_is ∙ in_row ∙ ap (λ places. record { row = i.row; col = i.col } ∷ places) below)

pub returns-else-self-2-clause-goes : goal.returns-else-self-2-clause-goes
returns-else-self-2-clause-goes c =
    let step = returns-else-self-2-clause-steps c in
    search rules
