-- The widest so far, and of those that are left.
use Rattle.std.proofs.Common.{◌≡◌, drop, map, max, string_bytes}
use Rattle.tabled_expanded.specs.Expanded.{widest_text}
use Rattle.tabled_expanded.proofs.lines.widest_text.Given as goal

abbrev pub invariant-loop-text : goal.invariant-loop-text
invariant-loop-text l = max (widest_text (map string_bytes (drop l.text-index l.texts))) l.widest ≡ widest_text (map string_bytes l.texts)
