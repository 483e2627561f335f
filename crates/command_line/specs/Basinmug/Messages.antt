-- The messages for values that are wrong.
use Rattle.std.specs.Prelude.{codes}
use Rattle.clap.specs.Words.{Text}
use Rattle.command_line.specs.declared.basinmug.fault.ValueFault.{ValueFault}
use Rattle.command_line.specs.declared.basinmug.fault.ValueFault.TheVariants.{Delimiter, Rows, HeadAndTail, Width, MarkdownWidth, Alignment, Color, Columns, Memory}

abbrev pub refusal_text : ValueFault → Text
refusal_text Delimiter = codes "basinmug: bad delimiter: use an ASCII character, tab, or auto"
refusal_text Rows = codes "basinmug: bad number of rows: use 0 to 4294967295"
refusal_text HeadAndTail = codes "basinmug: --head and --tail exclude each other"
refusal_text Width = codes "basinmug: bad width: use 0 to 4294967295, or none"
refusal_text MarkdownWidth = codes "basinmug: markdown takes no width"
refusal_text Alignment = codes "basinmug: bad alignment: use COLUMN=left, center or right, separated by commas"
refusal_text Color = codes "basinmug: bad color: use COLUMN=NAME, separated by commas"
refusal_text Columns = codes "basinmug: bad columns: use COLUMN or N-M, separated by commas"
refusal_text Memory = codes "basinmug: out of memory"
