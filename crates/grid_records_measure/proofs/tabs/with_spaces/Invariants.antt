-- The items so far were appended.
use Rattle.std.proofs.Common.{◌≡◌, flat_map, string_bytes}
use Rattle.ansi_scan.specs.Places.{piece_at}
use Rattle.grid_records_measure.specs.Tabs.{piece_with}
use Rattle.grid_records_measure.proofs.tabs.with_spaces.Given as goal

abbrev pub invariant-loop-item : goal.invariant-loop-item
invariant-loop-item l = string_bytes l.out ≡ flat_map (λ item. piece_with (string_bytes l.spaces) (piece_at l.text item)) l.yielded
