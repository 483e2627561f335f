use Rattle.std.proofs.Common.{◌≡◌, ◌&&◌, true, [], ◌∷◌, ap, rules, ◌∙◌}
use Rattle.grid_records_fronts.specs.Emoji.{is_indicator}
use Rattle.grid_records_fronts.proofs.Beginnings.{begins-both}
use Rattle.grid_records_fronts.proofs.emoji.behind_flag.Goals as goal

pub returns-then-is_indicator : goal.returns-then-is_indicator
returns-then-is_indicator c =
    let first = c.in_ok-first.first in
    let second = c.in_ok-second.second in
    let one : is_indicator first ≡ true = search rules in
    let two : is_indicator second ≡ true = search rules in
    record {
      characters = first ∷ second ∷ [];
      begins = begins-both _ _ _ (first ∷ []) (second ∷ []) c.in_ok-first.ensures c.in_ok-second.ensures;
      flag = ap (λ b. b && is_indicator second) one ∙ two;
    }
