use Rattle.std.proofs.Common.{◌∙◌, sym}
use Rattle.program_options.proofs.ColorListLemmas.DigitTexts.{no-column-read}
use Rattle.program_options.proofs.color_list.columns.column_of.Goals as goal

pub returns-in-Err : goal.returns-in-Err
returns-in-Err c = no-column-read c.args.text.now c.parse.result c.parse.ensures.value.0 (sym c.are_digits.ensures ∙ c.if-not-are_digits.false) c.in-Err.field-0 c.in-Err.is
