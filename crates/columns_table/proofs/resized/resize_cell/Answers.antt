-- A cell that is resized has the text that was made, and one that stays is the line that it was.
use Rattle.std.proofs.Common.{Option, ap, sym, ◌∙◌}
use Rattle.std.specs.Cow.{cow_str_bytes}
use Rattle.std.specs.Option.{option_map, unwrap_or}
use Rattle.columns_asked.specs.WidthLimits.{MeasuredText}
use Rattle.columns_table.proofs.ResizedRows.{only_line-is, width-is}
use Rattle.columns_table.proofs.resized.resize_cell.Goals as goal

pub resized_line-requires-clause-one : goal.resized_line-requires-clause-one
resized_line-requires-clause-one c = only_line-is c.args.cell c.requires

pub resized_line-requires-clause-columns : goal.resized_line-requires-clause-columns
resized_line-requires-clause-columns c = width-is c.args.cell c.requires

pub of_line-requires-clause-one : goal.of_line-requires-clause-one
of_line-requires-clause-one c = c.requires.0

pub of_line-requires-clause-width : goal.of_line-requires-clause-width
of_line-requires-clause-width c = c.requires.1

pub returns-in-Some : goal.returns-in-Some
returns-in-Some c =
    c.new.ensures ∙ sym (ap (λ (made : Option MeasuredText). unwrap_or (option_map (λ text. cow_str_bytes text.text) made) c.args.cell.text.now) c.in-Some.is) ∙ c.in_ok-text.ensures

pub returns-in-None : goal.returns-in-None
returns-in-None c =
    c.of_line.ensures ∙ sym (ap (λ (made : Option MeasuredText). unwrap_or (option_map (λ text. cow_str_bytes text.text) made) c.args.cell.text.now) c.in-None.is) ∙ c.in_ok-text.ensures
