use Rattle.std.proofs.Common.{◌≡◌, length}
use Rattle.ansi_scan.specs.Pieces.{pieces}
use Rattle.ansi_str_search.specs.Text.Blocks.{blocks_from}
use Rattle.ansi_str_search.proofs.text.blocks.AnsiBlockIterIterator.next.Given as goal

abbrev pub invariant-loop-item : goal.invariant-loop-item
invariant-loop-item l = blocks_from l.self-inside.style (pieces l.self-inside.rest.now) ≡ l.fn.self

abbrev pub decreases-loop-item : goal.decreases-loop-item
decreases-loop-item l = length l.self-inside.rest.now
