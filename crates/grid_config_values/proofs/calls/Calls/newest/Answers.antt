use Rattle.std.proofs.Common.{◌≡◌, ◌∙◌, List, ap, sym}
use Rattle.grid_config_values.specs.Numbers.{calls_of, seen, value_or}
use Rattle.grid_config_values.specs.Settings.{value_after}
use Rattle.grid_config_values.proofs.calls.Calls.newest.Goals as goal
use Rattle.grid_config_values.proofs.calls.Calls.newest.Goals.{After-newest_of}

-- the value of what was found is that of the last call
which : (g : _) (c : After-newest_of g) → value_after c.args.otherwise.now c.args.self.now c.args.pos ≡ value_or c.args.otherwise.now (seen c.newest_of.result)
unfolding calls_of
which g c =
    let value = c.args.otherwise.now in
    ap (λ (calls : List (_ × _)). value_after value calls c.args.pos) (sym c.self.view_is)
    ∙ rw (← c.deref.ensures.value) (rw (← c.deref-2.ensures.value) (rw (← c.deref-3.ensures.value) (c.newest_of.ensures value)))

pub returns-in-Some : goal.returns-in-Some
returns-in-Some g c = sym (which g (goal.at.returns-in-Some g c).After-newest_of ∙ ap (λ (r : _). value_or c.args.otherwise.now (seen r)) c.in-Some.is)

pub returns-in-None : goal.returns-in-None
returns-in-None g c = sym (which g (goal.at.returns-in-None g c).After-newest_of ∙ ap (λ (r : _). value_or c.args.otherwise.now (seen r)) c.in-None.is)
