-- What is left of the text gives what is left to append.
use denote.Text.{Utf8}
use denote.Shadow.{shadow}
use Rattle.std.proofs.Common.{◌≡◌, ◌++◌, string_bytes, length}
use Rattle.grid_records_measure.specs.Tabs.{put_for_tabs}
use Rattle.grid_records_measure.proofs.tabs.push_with.Given as goal

abbrev pub invariant-loop-before : goal.invariant-loop-before
invariant-loop-before l =
    shadow (Utf8 l.rest) × (string_bytes l.out ++ put_for_tabs l.put l.rest ≡ string_bytes l.fn.out ++ put_for_tabs l.put l.text)

abbrev pub decreases-loop-before : goal.decreases-loop-before
decreases-loop-before l = length l.rest
