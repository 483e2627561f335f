use Rattle.std.proofs.Common.{◌≡◌, ◌∷◌, ◌∙◌, ℕ, Bool, true, false, List, [], Option, None, Some, Result, Ok, Err, refl, subst, sym}
use Rattle.std.specs.Prelude.{IfOk, MatchBool, string_bytes}
use Rattle.std.specs.Io.KnownBytes.{Appends}
use Rattle.papergrid_picture.specs.Shown.{AreWholeTexts, IsWholeText}
use Rattle.tabled_output.specs.declared.building.BuildFault.{BuildFault}
use Rattle.tables_laws.specs.Shown.PlainEnds.{EndsLinesPlain}
use Rattle.basinmug_input.specs.Faults.{IsReadable}
use Rattle.basinmug_input.specs.Reading.{settings}
use Rattle.basinmug_input.specs.Rows.{text_of_bytes}
use Rattle.basinmug_run.specs.declared.options.Options.{Options}
use Rattle.basinmug_run.specs.Columns.{column_counts, missing_in, own_rows, shows_whole_rows, table_columns}
use Rattle.basinmug_run.specs.Kept.{Kept, kept_of}
use Rattle.basinmug_run.specs.Picture.Printed.{IsShownFault, PrintsShown}
use Rattle.basinmug_run.specs.declared.picture.fault.PrintFault.TheVariants.{NoColumn, Table, Memory as NoMemory}
use Rattle.basinmug_run.specs.declared.picture.printing.Printed.{Printed}
use Rattle.basinmug_run.specs.Runs.{IsColumnsFault, IsOwn, IsRecordsFault, PrintsAsTable, PrintsColumns, PrintsRecords, kept_text, missing_kept, table_rows}
use Rattle.basinmug_run.proofs.OfKept.{missing-kept}
use Rattle.basinmug_run.specs.declared.fault.RunFault.{RunFault}
use Rattle.basinmug_run.specs.declared.fault.RunFault.TheVariants.{Input, Print, Memory}
use Rattle.basinmug_laws.specs.Shown.ClosingOptions.{HaveClosingColors}
use Rattle.basinmug_laws.specs.Shown.Records.{Rows, records_cleaned}
use Rattle.basinmug_laws.specs.Shown.RunsShown.{IsOfText, IsOfTextOrName, IsRefusedBy, IsRunOf, ShowsColumns, ShowsRecords}
use Rattle.basinmug_laws.proofs.ShownLemmas.ChosenColumns.{columns-of, missing-same, own-closes, own-of, whole-none}
use Rattle.basinmug_laws.proofs.ShownLemmas.FittedTexts.{ellipsis-whole}
use Rattle.basinmug_laws.proofs.ShownLemmas.KeptRows.{shown-all}
use Rattle.basinmug_laws.proofs.ShownLemmas.PlainRecords.{shown-plain}
use Rattle.basinmug_laws.proofs.ShownLemmas.RunTables.{table-cells}
use Rattle.basinmug_laws.proofs.ShownLemmas.RunsShown.{prints-shows}
use Rattle.basinmug_laws.proofs.ShownLemmas.WholeTexts.{rows-cleaned, whole-nothing}
use Rattle.basinmug_laws.proofs.shown.runs_show_their_records.Goals as goal

module _ (delimiter : ℕ) (bytes : List ℕ) (options : Options) (before after : Option (List ℕ)) where
  abbrev rows : Rows
  rows = records_cleaned options.escapes delimiter bytes

  abbrev kept : Kept
  kept = kept_of options rows

  all-kept : missing_kept options kept ≡ missing_in options rows
  all-kept = missing-kept options rows

  unreadable : (result : Result Printed RunFault) → IsRunOf delimiter bytes options result before after → ¬ (IsReadable options.escapes (settings delimiter) (text_of_bytes bytes)) → IsRefusedBy IsOfText result
  unreadable (Ok printed) run broken = absurd (broken run.readable)
  unreadable (Err (Input fault)) run broken = tt
  unreadable (Err (Print fault)) run broken = absurd (broken run.refused.0)
  unreadable (Err Memory) run broken = tt

  as-table : (one other : Type 0) → options.expanded ≡ false → MatchBool options.expanded one other → other
  as-table one other is found = subst (λ (expanded : Bool). MatchBool expanded one other) is found

  as-records : (one other : Type 0) → options.expanded ≡ true → MatchBool options.expanded one other → one
  as-records one other is found = subst (λ (expanded : Bool). MatchBool expanded one other) is found

  -- what is printed has each named column
  all-named : (wider expanded none : Bool) → none ≡ shows_whole_rows options kept.rows
      → MatchBool expanded (PrintsRecords options kept wider before after) (MatchBool none (PrintsShown options kept.shown kept.rows None wider before after) (PrintsColumns options kept wider before after)) → missing_in options rows ≡ []
  all-named wider true none same prints = sym all-kept ∙ prints.0
  all-named wider false true same prints = sym (missing-same options rows (whole-none options kept.rows (sym same))) ∙ prints.0
  all-named wider false false same prints = sym all-kept ∙ prints.0

  module _ (name : List ℕ) (others : List (List ℕ)) (missing : missing_in options rows ≡ name ∷ others) where
    named : missing_in options rows ≡ [] → ⊥
    named none = let clash : [] ≡ name ∷ others = sym none ∙ missing in cc clash

    -- the name that is reported is the first
    name-told : (given : _) (expanded none : Bool) → none ≡ shows_whole_rows options kept.rows
        → MatchBool expanded (IsRecordsFault options kept (NoColumn given)) (MatchBool none (IsShownFault options kept.shown kept.rows (NoColumn given)) (IsColumnsFault options kept (NoColumn given))) → string_bytes given ≡ name
    name-told given true none same fault = let it : string_bytes given ∷ fault.0 ≡ name ∷ others = sym fault.1 ∙ all-kept ∙ missing in cc it
    name-told given false true same fault = let it : string_bytes given ∷ fault.0 ≡ name ∷ others = sym fault.1 ∙ missing-same options rows (whole-none options kept.rows (sym same)) ∙ missing in cc it
    name-told given false false same fault = let it : string_bytes given ∷ fault.0 ≡ name ∷ others = sym fault.1 ∙ all-kept ∙ missing in cc it

    -- and there is no other error of printing
    no-table : (why : BuildFault) (expanded none : Bool) → none ≡ shows_whole_rows options kept.rows
        → MatchBool expanded (IsRecordsFault options kept (Table why)) (MatchBool none (IsShownFault options kept.shown kept.rows (Table why)) (IsColumnsFault options kept (Table why))) → ⊥
    no-table why true none same fault = named (sym all-kept ∙ fault.0)
    no-table why false true same fault = named (sym (missing-same options rows (whole-none options kept.rows (sym same))) ∙ fault.0)
    no-table why false false same fault = named (sym all-kept ∙ fault.0)

    unnamed : (result : Result Printed RunFault) → IsRunOf delimiter bytes options result before after → IsRefusedBy (IsOfTextOrName name) result
    unnamed (Ok printed) run = absurd (named (all-named printed.wider options.expanded (shows_whole_rows options kept.rows) refl run.printed))
    unnamed (Err (Input fault)) run = tt
    unnamed (Err (Print (NoColumn given))) run = name-told given options.expanded (shows_whole_rows options kept.rows) refl run.refused.1
    unnamed (Err (Print (Table why))) run = absurd (no-table why options.expanded (shows_whole_rows options kept.rows) refl run.refused.1)
    unnamed (Err (Print NoMemory)) run = absurd (run.refused.2 refl)
    unnamed (Err Memory) run = tt

  module _ (readable : IsReadable options.escapes (settings delimiter) (text_of_bytes bytes)) where
    whole : AreWholeTexts kept.rows
    whole = shown-all IsWholeText options rows (rows-cleaned options.escapes delimiter bytes readable)

    -- all columns, or those that the table has
    shows-columns : (wider none : Bool) → HaveClosingColors options → MatchBool none (PrintsShown options kept.shown kept.rows None wider before after) (PrintsColumns options kept wider before after)
        → (output : List ℕ) × Appends before after output
        × MatchBool none (ShowsRecords options kept.shown kept.rows None output) ((own : Options) × IsOwn options kept own × ShowsRecords own kept.shown (table_rows options kept) (Some (column_counts options kept.rows)) output)
    shows-columns wider true closing prints = prints-shows options kept.shown kept.rows None closing whole wider before after prints
    shows-columns wider false closing prints =
        let own = prints.1.0 in
        let are = prints.1.1 in
        let columns = table_columns options kept.rows in
        let found =
        prints-shows own kept.shown (table_rows options kept) (Some (column_counts options kept.rows)) (own-closes options own kept.rows columns closing are) (columns-of IsWholeText whole-nothing ellipsis-whole columns kept.rows whole) wider before after prints.1.2 in
        (found.0, found.1, (own, are, found.2))

  shows : (result : Result Printed RunFault) → IsRunOf delimiter bytes options result before after → options.expanded ≡ false → HaveClosingColors options
      → IfOk result (λ printed. (output : List ℕ) × Appends before after output × ShowsColumns options rows output)
  shows (Ok printed) run table closing = shows-columns run.readable printed.wider (shows_whole_rows options kept.rows) closing
      (as-table (PrintsRecords options kept printed.wider before after) (PrintsAsTable options kept printed.wider before after) table run.printed)
  shows (Err fault) run table closing = tt

  records : (result : Result Printed RunFault) → IsRunOf delimiter bytes options result before after → options.expanded ≡ true
      → IfOk result (λ printed. (output : List ℕ) × Appends before after output × (output ≡ kept_text options kept) × EndsLinesPlain output)
  records (Ok printed) run listed =
      let found = as-records (PrintsRecords options kept printed.wider before after) (PrintsAsTable options kept printed.wider before after) listed run.printed in
      (kept_text options kept, found.1.1, refl, shown-plain options kept.shown (own_rows options kept.rows) (own-of IsWholeText whole-nothing ellipsis-whole options kept.rows (whole run.readable)))
  records (Err fault) run listed = tt

pub returns : goal.returns
returns c = record {
  unreadable = λ delimiter bytes options result before after run broken. unreadable delimiter bytes options before after result run broken;
  unnamed = λ delimiter bytes options result before after run name others missing. unnamed delimiter bytes options before after name others missing result run;
  shows = λ delimiter bytes options result before after run table closing. shows delimiter bytes options before after result run table closing;
  records = λ delimiter bytes options result before after run listed. records delimiter bytes options before after result run listed;
  cells = λ options shown rows rooms closing. table-cells options shown rows closing rooms;
}
