use Rattle.std.proofs.Common.{◌≡◌, flat_map, string_bytes}
use Rattle.ansi_scan.specs.Places.{piece_at}
use Rattle.ansi_str_search.specs.Text.StyledText.{text_of}
use Rattle.ansi_str_search.proofs.strip.joined_texts.Given as goal

abbrev pub invariant-loop-item : goal.invariant-loop-item
invariant-loop-item l = string_bytes l.out ≡ flat_map (λ item. text_of (piece_at l.text item)) l.yielded
