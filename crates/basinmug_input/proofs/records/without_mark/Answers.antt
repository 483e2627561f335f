-- Three bytes that are the mark go; other bytes stay.
use Rattle.std.proofs.Common.{◌∙◌, sym, arith}
use Rattle.std.proofs.lemmas.List.{take_rest}
use Rattle.csv.proofs.ReadFacts.{strip-short}
use Rattle.basinmug_input.proofs.Rows.{mark-goes, mark-stays}
use Rattle.basinmug_input.proofs.records.without_mark.Goals as goal

pub returns-in-len3-up : goal.returns-in-len3-up
returns-in-len3-up c = take_rest c.args.bytes.now 3 ∙ mark-goes c.args.bytes.now c.in-len3-up.len_at_least (sym c.is_mark.ensures ∙ c.if-is_mark.true)

pub returns-in_default : goal.returns-in_default
returns-in_default c = sym (strip-short c.args.bytes.now (omega (arith, c.in_default.len_below)))

pub returns-in_default-2 : goal.returns-in_default-2
returns-in_default-2 c = mark-stays c.args.bytes.now c.in-len3-up.len_at_least (sym c.is_mark.ensures ∙ c.if-is_mark.false)
