-- As a table, or one below the other.
use Rattle.std.proofs.Common.{Bool, true, false, List, ℕ, Option, None, Some}
use Rattle.std.specs.Prelude.{MatchBool}
use Rattle.std.specs.Io.KnownBytes.{Appends}
use Rattle.basinmug_input.specs.Rows.{rows_in}
use Rattle.basinmug_run.specs.Kept.{Kept, kept_of}
use Rattle.basinmug_run.specs.Picture.Printed.{PrintsShown}
use Rattle.basinmug_run.specs.Columns.{column_counts, own_rows, shows_whole_rows, table_columns}
use Rattle.basinmug_run.specs.Runs.{PrintsColumns, PrintsRecords, kept_text, table_rows}
use Rattle.papergrid_picture.specs.Shown.{AreWholeTexts, IsWholeText}
use Rattle.basinmug_run.specs.declared.options.Options.{Options}
use Rattle.tables_laws.specs.Shown.PlainEnds.{EndsLinesPlain}
use Rattle.basinmug_laws.specs.Shown.ClosingOptions.{HaveClosingColors}
use Rattle.basinmug_laws.proofs.ShownLemmas.ChosenColumns.{columns-of, own-closes, own-of}
use Rattle.basinmug_laws.proofs.ShownLemmas.FittedTexts.{ellipsis-whole}
use Rattle.basinmug_laws.proofs.ShownLemmas.KeptRows.{shown-all}
use Rattle.basinmug_laws.proofs.ShownLemmas.PlainRecords.{shown-plain}
use Rattle.basinmug_laws.proofs.ShownLemmas.PrintedTables.{printed-plain, shown-printed}
use Rattle.basinmug_laws.proofs.ShownLemmas.WholeTexts.{rows-cleaned, whole-nothing}
use Rattle.basinmug_laws.proofs.shown.printed_lines_end_plain.Goals as goal

either : (options : Options) (kept : Kept) (expanded none wider : Bool) (old new : Option (List ℕ)) → HaveClosingColors options → AreWholeTexts kept.rows
    → MatchBool expanded (PrintsRecords options kept wider old new) (MatchBool none (PrintsShown options kept.shown kept.rows None wider old new) (PrintsColumns options kept wider old new)) → (text : List ℕ) × Appends old new text × EndsLinesPlain text
either options kept true none wider old new closing whole prints =
    (kept_text options kept, prints.1.1, shown-plain options kept.shown (own_rows options kept.rows) (own-of IsWholeText whole-nothing ellipsis-whole options kept.rows whole))
either options kept false true wider old new closing whole prints = shown-printed options kept.shown kept.rows None closing whole wider old new prints
either options kept false false wider old new closing whole prints =
    let own = prints.1.0 in
    let columns = table_columns options kept.rows in
    shown-printed own kept.shown (table_rows options kept) (Some (column_counts options kept.rows)) (own-closes options own kept.rows columns closing prints.1.1) (columns-of IsWholeText whole-nothing ellipsis-whole columns kept.rows whole) wider old new prints.1.2

pub returns : goal.returns
returns c = record {
  print = λ options rows wider old new closing whole prints. printed-plain options rows closing whole wider old new prints;
  records = λ options shown rows whole. shown-plain options shown rows whole;
  run = λ delimiter bytes options wider old new closing readable prints.
      let rows = rows_in options.escapes delimiter bytes in
      let kept = kept_of options rows in
      either options kept options.expanded (shows_whole_rows options kept.rows) wider old new closing (shown-all IsWholeText options rows (rows-cleaned options.escapes delimiter bytes readable)) prints;
}
