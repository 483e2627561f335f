-- What a run of a text leaves in a writer, and why it fails.
use Rattle.std.specs.Prelude.{◌≡◌, ◌≢◌, ⊤, ℕ, Bool, false, List, [], MatchBool, Option, None, Some}
use Rattle.std.specs.Io.KnownBytes.{Appends}
use Rattle.tabled_output.specs.declared.building.BuildFault.TheVariants.{Table as OfTable, Write, WriteZero}
use Rattle.tabled_output.specs.Streams.{AppendsFront}
use Rattle.basinmug_columns.specs.declared.rows.RowsShown.{RowsShown}
use Rattle.basinmug_expanded.specs.Records.{records_text}
use Rattle.basinmug_expanded.specs.declared.form.Form.{Form}
use Rattle.basinmug_input.specs.Faults.{IsFaultOf, IsReadable}
use Rattle.basinmug_input.specs.Reading.{settings}
use Rattle.basinmug_input.specs.Rows.{rows_in, text_of_bytes}
use Rattle.basinmug_input.specs.declared.fault.InputFault.TheVariants.{Memory as NoMemoryToRead}
use Rattle.basinmug_run.specs.declared.options.Options.{Options}
use Rattle.basinmug_run.specs.Kept.{Kept, kept_of}
use Rattle.basinmug_run.specs.Picture.Printed.{IsShownFault, IsWithoutText, PrintsShown, PrintsShownFront}
use Rattle.basinmug_run.specs.Columns.{AreOfColumns, column_counts, missing_of_columns, own_rows, shows_whole_rows, table_columns, with_columns}
use Rattle.basinmug_run.specs.Picture.Names.{IsFirstMissing}
use Rattle.basinmug_run.specs.Picture.Rows.{header_of, records_of}
use Rattle.basinmug_run.specs.declared.picture.fault.PrintFault.{PrintFault}
use Rattle.basinmug_run.specs.declared.picture.fault.PrintFault.TheVariants.{NoColumn, Table, Memory as NoMemoryToPrint}
use Rattle.basinmug_run.specs.declared.fault.RunFault.{RunFault}
use Rattle.basinmug_run.specs.declared.fault.RunFault.TheVariants.{Input, Print, Memory}

-- ---- rows

module _ (options : Options) (shown : RowsShown) (rows : List (List (List ℕ))) where
  -- how records are written one below the other, where these are shown of all
  abbrev pub form_of : Form
  form_of = record { header = options.header; width = options.width; truncate = options.truncate; rows_shown = shown }

  -- their text
  abbrev pub shown_text : List ℕ
  shown_text = records_text form_of (header_of options.header rows) (records_of options.header rows)

  -- they are written one below the other, and never reported to be wider than requested
  abbrev pub WritesRecords : Bool → Option (List ℕ) → Option (List ℕ) → Type 0
  WritesRecords wider old new = (wider ≡ false) × Appends old new shown_text

  -- a prefix of them is written
  abbrev pub WritesRecordsFront : Option (List ℕ) → Option (List ℕ) → Type 0
  WritesRecordsFront old new = AppendsFront old new shown_text

-- a lack of memory, or an error of the writer
abbrev pub IsWritingFault : PrintFault → Type 0
IsWritingFault (NoColumn name) = ⊥
IsWritingFault (Table (OfTable fault)) = ⊥
IsWritingFault (Table Write) = ⊤
IsWritingFault (Table WriteZero) = ⊤
IsWritingFault NoMemoryToPrint = ⊤

-- of rows that are shown, as they are kept of all
module _ (options : Options) (kept : Kept) where
  -- the names of columns in the options that are missing, in turn
  abbrev pub missing_kept : List (List ℕ)
  missing_kept = missing_of_columns options kept.columns kept.rows

  -- the text of these rows as records one below the other, of the columns that are chosen
  abbrev pub kept_text : List ℕ
  kept_text = shown_text options kept.shown (own_rows options kept.rows)

  -- rows are printed as records one below the other, of the columns that are chosen, where each named column is
  abbrev pub PrintsRecords : Bool → Option (List ℕ) → Option (List ℕ) → Type 0
  PrintsRecords wider old new = (missing_kept ≡ []) × WritesRecords options kept.shown (own_rows options kept.rows) wider old new

  -- a prefix of them is written
  abbrev pub PrintsRecordsFront : Option (List ℕ) → Option (List ℕ) → Type 0
  PrintsRecordsFront old new = (missing_kept ≡ []) × WritesRecordsFront options kept.shown (own_rows options kept.rows) old new

  -- why they are not: a name is missing, of which the first is reported; or else a lack of memory, or an error of the
  -- writer
  abbrev pub IsRecordsFault : PrintFault → Type 0
  IsRecordsFault (NoColumn name) = IsFirstMissing missing_kept (NoColumn name)
  IsRecordsFault (Table fault) = (missing_kept ≡ []) × IsWritingFault (Table fault)
  IsRecordsFault NoMemoryToPrint = ⊤

  -- the rows of the columns that their table has
  abbrev pub table_rows : List (List (List ℕ))
  table_rows = with_columns (table_columns options kept.rows) kept.rows

  -- what is requested of that table
  abbrev pub IsOwn : Options → Type 0
  IsOwn = AreOfColumns options kept.rows (table_columns options kept.rows)

  -- rows are printed as a table of the columns that it has, where each named column is
  abbrev pub PrintsColumns : Bool → Option (List ℕ) → Option (List ℕ) → Type 0
  PrintsColumns wider old new =
      (missing_kept ≡ []) × ((own : Options) × IsOwn own × PrintsShown own kept.shown table_rows (Some (column_counts options kept.rows)) wider old new)

  abbrev pub PrintsColumnsFront : Option (List ℕ) → Option (List ℕ) → Type 0
  PrintsColumnsFront old new =
      (missing_kept ≡ []) × ((own : Options) × IsOwn own × PrintsShownFront own kept.shown table_rows (Some (column_counts options kept.rows)) old new)

  -- why they are not: a name is missing, of which the first is reported; and else the error of their table
  abbrev pub IsColumnsFault : PrintFault → Type 0
  IsColumnsFault (NoColumn name) = IsFirstMissing missing_kept (NoColumn name)
  IsColumnsFault (Table fault) = (missing_kept ≡ []) × ((own : Options) × IsOwn own × IsShownFault own kept.shown table_rows (Table fault))
  IsColumnsFault NoMemoryToPrint = ⊤

  -- rows are printed as a table: of all their columns, where none are chosen and all fit, or of those that it has
  abbrev pub PrintsAsTable : Bool → Option (List ℕ) → Option (List ℕ) → Type 0
  PrintsAsTable wider old new = MatchBool (shows_whole_rows options kept.rows) (PrintsShown options kept.shown kept.rows None wider old new) (PrintsColumns wider old new)

  abbrev pub PrintsAsTableFront : Option (List ℕ) → Option (List ℕ) → Type 0
  PrintsAsTableFront old new = MatchBool (shows_whole_rows options kept.rows) (PrintsShownFront options kept.shown kept.rows None old new) (PrintsColumnsFront old new)

  abbrev pub IsAsTableFault : PrintFault → Type 0
  IsAsTableFault fault = MatchBool (shows_whole_rows options kept.rows) (IsShownFault options kept.shown kept.rows fault) (IsColumnsFault fault)

  -- rows are printed as is requested: as records one below the other, or as a table
  abbrev pub PrintsKept : Bool → Option (List ℕ) → Option (List ℕ) → Type 0
  PrintsKept wider old new = MatchBool options.expanded (PrintsRecords wider old new) (PrintsAsTable wider old new)

  abbrev pub PrintsKeptFront : Option (List ℕ) → Option (List ℕ) → Type 0
  PrintsKeptFront old new = MatchBool options.expanded (PrintsRecordsFront old new) (PrintsAsTableFront old new)

  abbrev pub IsKeptFault : PrintFault → Type 0
  IsKeptFault fault = MatchBool options.expanded (IsRecordsFault fault) (IsAsTableFault fault)

-- of rows those that are shown are printed so
module _ (options : Options) (rows : List (List (List ℕ))) where
  abbrev pub PrintsRows : Bool → Option (List ℕ) → Option (List ℕ) → Type 0
  PrintsRows = PrintsKept options (kept_of options rows)

  abbrev pub PrintsRowsFront : Option (List ℕ) → Option (List ℕ) → Type 0
  PrintsRowsFront = PrintsKeptFront options (kept_of options rows)

  abbrev pub IsRowsFault : PrintFault → Type 0
  IsRowsFault = IsKeptFault options (kept_of options rows)

-- ---- a text

-- nothing is written before such an error
abbrev pub IsRunWithoutText : RunFault → Type 0
IsRunWithoutText (Input fault) = ⊤
IsRunWithoutText (Print fault) = IsWithoutText fault
IsRunWithoutText Memory = ⊥

-- why a text in which this byte separates fields is not printed: it is not readable, and this is the error of it; or it
-- is, and its rows are not printed; a lack of memory may always be, by its own name
abbrev pub IsRunFault : ℕ → List ℕ → Options → RunFault → Type 0
IsRunFault delimiter bytes options (Input fault) = IsFaultOf options.escapes (settings delimiter) (text_of_bytes bytes) fault × (fault ≢ NoMemoryToRead)
IsRunFault delimiter bytes options (Print fault) = IsReadable options.escapes (settings delimiter) (text_of_bytes bytes) × IsRowsFault options (rows_in options.escapes delimiter bytes) fault × (fault ≢ NoMemoryToPrint)
IsRunFault delimiter bytes options Memory = ⊤

-- a prefix of what is printed of the rows of a readable text is written
abbrev pub PrintsTextFront : ℕ → List ℕ → Options → Option (List ℕ) → Option (List ℕ) → Type 0
PrintsTextFront delimiter bytes options old new = IsReadable options.escapes (settings delimiter) (text_of_bytes bytes) × PrintsRowsFront options (rows_in options.escapes delimiter bytes) old new
