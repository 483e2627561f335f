-- Digits alone are a number, if there are any.
use Rattle.std.proofs.Common.{◌∙◌, ap, not, sym}
use Rattle.basinmug_columns.proofs.NumbersLemmas.Digits.{digits-unsigned}
use Rattle.basinmug_columns.proofs.numbers.numbers.is_unsigned.Goals as goal

pub returns-then-are_digits : goal.returns-then-are_digits
returns-then-are_digits c = ap not c.is_empty.ensures ∙ sym (digits-unsigned c.args.bytes.now (sym c.are_digits.ensures ∙ c.if-are_digits.true))
