-- As many names as the loop has counted.
use Rattle.std.proofs.Common.{◌≡◌, vec_len}
use Rattle.tabled_text.specs.Fields.{numbers, texts_of}
use Rattle.tabled_text.proofs.tabled.arrays.ArrayTabled.headers.Given as goal

abbrev pub invariant-loop-number : goal.invariant-loop-number
invariant-loop-number g l = (texts_of l.headers.items ≡ numbers l.number-counter) × (vec_len l.headers ≡ l.number-counter)
