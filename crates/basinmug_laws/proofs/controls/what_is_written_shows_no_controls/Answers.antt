use Rattle.std.proofs.Common.{◌≡◌, ◌≢◌, ℕ, Bool, true, false, List, Option, None, Some, Result, Ok, Err, length, subst}
use Rattle.std.specs.Prelude.{IfOk, MatchBool}
use Rattle.std.specs.Io.KnownBytes.{Appends}
use Rattle.papergrid_picture.specs.Colors.ClosingColors.{IsClosing}
use Rattle.papergrid_picture.specs.Shown.{AreWholeTexts, IsWholeText}
use Rattle.tables_laws.specs.Grids.TextsOf.{AreTextsOf}
use Rattle.tables_laws.specs.Shown.PlainEnds.{EndsLinesPlain}
use Rattle.tables_laws.proofs.GridsLemmas.Texts.{nothing-of}
use Rattle.tables_laws.proofs.ShownLemmas.LineEnds.{ends-plain}
use Rattle.program_options.specs.declared.basinmug.Escapes.TheVariants.{All}
use Rattle.basinmug_run.specs.declared.options.Options.{Options}
use Rattle.basinmug_columns.specs.declared.rows.RowsShown.{RowsShown}
use Rattle.basinmug_run.specs.Kept.{Kept, kept_of}
use Rattle.basinmug_run.specs.Picture.Pictures.{cells_in}
use Rattle.basinmug_run.specs.Picture.Printed.{PrintsShown, text_of}
use Rattle.basinmug_run.specs.Columns.{column_counts, shows_whole_rows, table_columns}
use Rattle.basinmug_run.specs.Runs.{PrintsAsTable, PrintsColumns, PrintsRecords, table_rows}
use Rattle.basinmug_run.specs.declared.picture.printing.Printed.{Printed}
use Rattle.basinmug_run.specs.declared.fault.RunFault.{RunFault}
use Rattle.basinmug_laws.specs.Controls.ControlTexts.{ShowsNoControls, is_no_control}
use Rattle.basinmug_laws.specs.Shown.ClosingOptions.{HaveClosingColors}
use Rattle.basinmug_laws.specs.Shown.Records.{Rows, records_cleaned}
use Rattle.basinmug_laws.specs.Shown.RunsShown.{IsRunOf}
use Rattle.basinmug_laws.proofs.AdditiveLemmas.EvenTables.{table-even}
use Rattle.basinmug_laws.proofs.AdditiveLemmas.RowsOf.{ellipsis-of, kept-of}
use Rattle.basinmug_laws.proofs.ControlsLemmas.CleanedTexts.{ascii-inside, dots-inside, field-of, mark-inside, rows-of}
use Rattle.basinmug_laws.proofs.ControlsLemmas.PrintedControls.{printed-of}
use Rattle.basinmug_laws.proofs.ShownLemmas.ChosenColumns.{columns-of, own-closes}
use Rattle.basinmug_laws.proofs.ShownLemmas.FittedTexts.{ellipsis-whole}
use Rattle.basinmug_laws.proofs.ShownLemmas.KeptRows.{shown-all}
use Rattle.basinmug_laws.proofs.ShownLemmas.PrintedTables.{picture-plain}
use Rattle.basinmug_laws.proofs.ShownLemmas.Tables.{table-shown}
use Rattle.basinmug_laws.proofs.ShownLemmas.WholeTexts.{rows-cleaned, whole-nothing}
use Rattle.basinmug_laws.proofs.controls.what_is_written_shows_no_controls.Goals as goal

module _ (delimiter : ℕ) (bytes : List ℕ) (options : Options) (before after : Option (List ℕ)) (not_all : options.escapes ≢ All) (closing : HaveClosingColors options) where
  abbrev kept : Kept
  kept = kept_of options (records_cleaned options.escapes delimiter bytes)

  abbrev Written : Type 0
  Written = (output : List ℕ) × Appends before after output × EndsLinesPlain output × ShowsNoControls output

  -- of a table of any rows
  of-table : (own : Options) (which : RowsShown) (texts : Rows) (columns : Option (ℕ × ℕ)) (wider : Bool) → HaveClosingColors own → AreWholeTexts texts → AreTextsOf is_no_control texts → PrintsShown own which texts columns wider before after → Written
  of-table own which texts columns wider closes whole no_controls prints =
      let s = prints.1.0 in
      let shown = table-shown own which texts closes whole s prints.1.1 in
      let even = table-even ShowsNoControls (kept-of is_no_control ascii-inside mark-inside dots-inside) IsClosing own which texts closes no_controls s prints.1.1 in
      let output = text_of own which texts columns s in
      let plain = ends-plain output (picture-plain s shown own.line_style own.rules own.header (length (cells_in own which texts)) columns which) in
      (output, prints.1.4, plain, printed-of s shown even.texts own which texts columns)

  -- of all columns, or of those that the table has
  of-columns : (wider none : Bool) → AreWholeTexts kept.rows → AreTextsOf is_no_control kept.rows → MatchBool none (PrintsShown options kept.shown kept.rows None wider before after) (PrintsColumns options kept wider before after) → Written
  of-columns wider true whole no_controls prints = of-table options kept.shown kept.rows None wider closing whole no_controls prints
  of-columns wider false whole no_controls prints =
      let own = prints.1.0 in
      let columns = table_columns options kept.rows in
      of-table own kept.shown (table_rows options kept) (Some (column_counts options kept.rows)) wider (own-closes options own kept.rows columns closing prints.1.1) (columns-of IsWholeText whole-nothing ellipsis-whole columns kept.rows whole)
      (columns-of ShowsNoControls (nothing-of is_no_control) (ellipsis-of is_no_control ascii-inside mark-inside dots-inside) columns kept.rows no_controls) prints.1.2

  written : (result : Result Printed RunFault) → IsRunOf delimiter bytes options result before after → options.expanded ≡ false → IfOk result (λ printed. Written)
  written (Ok printed) run as_table =
      let all = records_cleaned options.escapes delimiter bytes in
      let prints : PrintsAsTable options kept printed.wider before after =
      subst (λ (expanded : Bool). MatchBool expanded (PrintsRecords options kept printed.wider before after) (PrintsAsTable options kept printed.wider before after)) as_table run.printed in
      of-columns printed.wider (shows_whole_rows options kept.rows) (shown-all IsWholeText options all (rows-cleaned options.escapes delimiter bytes run.readable))
      (shown-all ShowsNoControls options all (rows-of options.escapes delimiter bytes not_all run.readable)) prints
  written (Err fault) run as_table = tt

pub returns : goal.returns
returns c = record {
  fields = λ escapes field not_all sound. field-of escapes not_all field sound;
  runs = λ delimiter bytes options result before after run as_table not_all closing. written delimiter bytes options before after not_all closing result run as_table;
}
