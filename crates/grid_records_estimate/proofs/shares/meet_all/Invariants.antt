use Rattle.std.proofs.Common.{◌≡◌, ℕ, Bool, fold, length, take}
use Rattle.grid_records_estimate.specs.Estimates.{meet}
use Rattle.grid_records_estimate.specs.Collecting.{HasBetween}
use Rattle.grid_records_estimate.proofs.shares.meet_all.Given as goal

abbrev pub invariant-loop-need : goal.invariant-loop-need
invariant-loop-need l = (has_boundary : ℕ → Bool) → HasBetween has_boundary (length l.initial.sizes) l.between
    → l.sizes ≡ fold (meet has_boundary) l.initial.sizes (take l.need-index l.needs)
