-- The bytes one by one, up to the `m`.
use Rattle.std.proofs.Common.{arith, drop, slice_index_or}
use Rattle.std.proofs.lemmas.Grind.{common_steps}
use Rattle.ansi_str_search.proofs.ShortSequences.{no_digit, one_digit, two_digits}
use Rattle.ansi_str_search.proofs.places.short_sequence_len.Goals as goal

pub returns-in-27-clause-first : goal.returns-in-27-clause-first
returns-in-27-clause-first c = λ some. no_digit c.args.bytes.now (drop 3 c.args.bytes.now) (grind (arith, common_steps))

pub returns-in-27-2-clause-first : goal.returns-in-27-2-clause-first
returns-in-27-2-clause-first c = λ some. one_digit c.args.bytes.now (drop 4 c.args.bytes.now) (slice_index_or c.args.bytes.now 2 0) (omega arith) (omega arith) (grind (arith, common_steps))

pub returns-in-27-2-2-clause-first : goal.returns-in-27-2-2-clause-first
returns-in-27-2-2-clause-first c = λ some. one_digit c.args.bytes.now (drop 4 c.args.bytes.now) (slice_index_or c.args.bytes.now 2 0) (omega arith) (omega arith) (grind (arith, common_steps))

pub returns-in-27-3-clause-first : goal.returns-in-27-3-clause-first
returns-in-27-3-clause-first c = λ some. two_digits c.args.bytes.now (drop 5 c.args.bytes.now) (slice_index_or c.args.bytes.now 2 0) (slice_index_or c.args.bytes.now 3 0) (omega arith) (omega arith) (omega arith) (omega arith) (grind (arith, common_steps))

pub returns-in-27-4-clause-first : goal.returns-in-27-4-clause-first
returns-in-27-4-clause-first c = λ some. no_digit c.args.bytes.now (drop 3 c.args.bytes.now) (grind (arith, common_steps))

pub returns-in-27-5-clause-first : goal.returns-in-27-5-clause-first
returns-in-27-5-clause-first c = λ some. no_digit c.args.bytes.now (drop 3 c.args.bytes.now) (grind (arith, common_steps))
