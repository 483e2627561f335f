use Rattle.std.proofs.Common.{◌≤◌, ◌-◌}
use Rattle.grid_config_values.specs.Spans.Clear.{IsClearFrom}
use Rattle.grid_config_values.proofs.spans.spans.Spans.is_overlapped.Given as goal

abbrev pub invariant-loop-row : goal.invariant-loop-row
invariant-loop-row l = (l.anchor.row ≤ l.row) × (l.row ≤ l.end) × IsClearFrom l.self l.anchor l.extent l.row

abbrev pub decreases-loop-row : goal.decreases-loop-row
decreases-loop-row l = l.end - l.row
