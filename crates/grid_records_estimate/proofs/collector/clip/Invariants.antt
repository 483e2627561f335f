use Rattle.std.proofs.Common.{◌≡◌, ℕ, ◌<◌, ◌≤◌, get_or}
use Rattle.grid_records_estimate.specs.declared.need.Need.{Need}
use Rattle.grid_records_estimate.specs.Collecting.{clipped}
use Rattle.grid_records_estimate.proofs.collector.clip.Given as goal

abbrev pub invariant-loop-need : goal.invariant-loop-need
invariant-loop-need l = record {
  done : (k : ℕ) (d : Need) → k < l.need-index → get_or l.needs k d ≡ clipped l.tracks (get_or l.initial.needs k d);
  same : (k : ℕ) (d : Need) → l.need-index ≤ k → get_or l.needs k d ≡ get_or l.initial.needs k d;
}
