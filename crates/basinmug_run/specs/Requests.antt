-- What is requested of a run.
use Rattle.std.specs.Prelude.{ℕ, Option}
use Rattle.program_options.specs.declared.basinmug.Options.{Options as OfCommandLine}
use Rattle.basinmug_run.specs.declared.options.ColumnsShown.{ColumnsShown}
use Rattle.basinmug_run.specs.declared.options.Options.{Options}

-- what the options of a command line request, of these columns and of so many of the last records
abbrev pub options_of : OfCommandLine → ColumnsShown → Option ℕ → Options
options_of given columns_shown tail = record {
  line_style = given.line_style;
  header = given.header;
  escapes = given.escapes;
  rules = given.rules;
  width = given.width;
  truncate = given.truncate;
  priority = given.priority;
  columns = given.columns;
  columns_shown = columns_shown;
  alignments = given.alignments;
  colors = given.colors;
  expanded = given.expanded;
  max_rows = given.max_rows;
  tail = tail;
}
