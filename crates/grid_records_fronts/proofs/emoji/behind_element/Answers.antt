use Rattle.std.proofs.Common.{◌≡◌, true, [], ◌∷◌, rules}
use Rattle.grid_records_fronts.specs.Emoji.{is_element}
use Rattle.grid_records_fronts.proofs.Beginnings.{begins-both}
use Rattle.grid_records_fronts.proofs.emoji.behind_element.Goals as goal

pub returns-then-is_marked : goal.returns-then-is_marked
returns-then-is_marked c =
    let base = c.in_ok-base.base in
    let mark = c.in-Some.mark in
    let marked : is_element (base ∷ mark ∷ []) ≡ true = search rules in
    record { characters = base ∷ mark ∷ []; begins = begins-both _ _ _ (base ∷ []) (mark ∷ []) c.in_ok-base.ensures c.in-Some.ensures; element = marked }
