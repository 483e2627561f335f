-- What the bytes so far and those that are left give together stays the same.
use Rattle.std.proofs.Common.{◌≡◌, drop}
use Rattle.std.specs.Prelude.{◌&&◌}
use Rattle.grid_records_measure.specs.Measures.{are_printable}
use Rattle.grid_records_measure.proofs.printable.is_printable.Given as goal

abbrev pub invariant-loop-byte : goal.invariant-loop-byte
invariant-loop-byte l = (l.printable && are_printable (drop l.byte-index l.text)) ≡ are_printable l.text
