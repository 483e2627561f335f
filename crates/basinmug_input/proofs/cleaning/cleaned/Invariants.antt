-- The items so far were appended.
use Rattle.std.proofs.Common.{◌≡◌, flat_map, string_bytes}
use Rattle.ansi_scan.specs.Places.{piece_at}
use Rattle.basinmug_input.specs.Cleaning.{cleaned_piece}
use Rattle.basinmug_input.proofs.cleaning.cleaned.Given as goal

abbrev pub invariant-loop-item : goal.invariant-loop-item
invariant-loop-item l = string_bytes l.out ≡ flat_map (λ item. cleaned_piece l.escapes (piece_at l.text item)) l.yielded
