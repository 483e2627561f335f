-- So many are there as the loop has counted.
use Rattle.std.proofs.Common.{◌≡◌, [], replicate, vec_len}
use Rattle.tabled_text.specs.Fields.{texts_of}
use Rattle.tabled_text.proofs.tabled.empty_texts.Given as goal

abbrev pub invariant-loop : goal.invariant-loop
invariant-loop l = (texts_of l.texts.items ≡ replicate l.counter []) × (vec_len l.texts ≡ l.counter)
