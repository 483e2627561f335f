-- What a run prints of records, by what it shows.
use Rattle.std.specs.Prelude.{◌≡◌, ◌⊎◌, ◌<◌, ℕ, ⊤, List, ◌++◌, Err, IfErr, IfOk, MatchBool, None, Ok, OnErr, OnOk, Option, Result, Some, chars, if◌then◌else◌, length, map, string_bytes}
use Rattle.ansi_scan.specs.Sequences.{ForPieces}
use Rattle.ansi_str.specs.StyledText.{strip}
use Rattle.papergrid_picture.specs.Shown.{Shows, Styled, in_plain}
use Rattle.tabled.specs.Narrowed.{line_columns}
use Rattle.tabled.specs.Totals.{drawn_height, drawn_width}
use Rattle.tables_laws.specs.Shown.CountedTables.{TextsAddUp}
use Rattle.tables_laws.specs.Shown.PlainEnds.{EndsLinesPlain}
use Rattle.tables_laws.specs.Shown.ShownTables.{chosen_picture}
use Rattle.tabled_steps.specs.States.{State}
use Rattle.tabled_list.specs.Stripping.Stripping.{stripped_state, uncolored_state}
use Rattle.basinmug_input.specs.Faults.{IsReadable}
use Rattle.basinmug_input.specs.Reading.{settings}
use Rattle.basinmug_input.specs.Rows.{text_of_bytes}
use Rattle.basinmug_run.specs.declared.options.Options.{Options}
use Rattle.basinmug_columns.specs.declared.rows.RowsShown.{RowsShown}
use Rattle.basinmug_run.specs.Columns.{column_counts, shows_whole_rows}
use Rattle.basinmug_run.specs.Kept.{kept_of}
use Rattle.basinmug_run.specs.Picture.Documents.{header_delimiters, is_header_line, is_record_line}
use Rattle.basinmug_run.specs.Picture.Lines.{below, is_chosen}
use Rattle.basinmug_run.specs.Picture.Pictures.{cells_in}
use Rattle.basinmug_run.specs.Picture.Printed.{text_of}
use Rattle.basinmug_run.specs.Picture.Rows.{is_markdown}
use Rattle.basinmug_run.specs.declared.picture.fault.PrintFault.TheVariants.{NoColumn, Table, Memory as NoMemory}
use Rattle.basinmug_run.specs.declared.picture.printing.Printed.{Printed}
use Rattle.basinmug_run.specs.Runs.{IsOwn, IsRunFault, PrintsRows, PrintsTextFront, table_rows}
use Rattle.basinmug_run.specs.declared.fault.RunFault.{RunFault}
use Rattle.basinmug_run.specs.declared.fault.RunFault.TheVariants.{Input, Print, Memory}
use Rattle.basinmug_laws.specs.Shown.Records.{AreRooms, Rows, records_cleaned, table_in}

-- ---- the picture

-- the characters of a text in the plain style
abbrev pub plainly_shown : List ℕ → List Styled
plainly_shown text = map in_plain (chars text)

-- of a table of these rows, which are shown of all, and of so many columns of so many
module _ (options : Options) (shown : RowsShown) (rows : Rows) (columns : Option (ℕ × ℕ)) where
  -- what says how many columns and records are left out
  abbrev pub left_out_line : List ℕ
  left_out_line = below options.line_style columns shown

  -- in a box: of the lines of a table those that are requested, and below them how many columns and records are left out
  abbrev pub box_picture : State → List Styled
  box_picture table = chosen_picture table (is_chosen options.rules options.header (length (cells_in options shown rows))) ++ plainly_shown left_out_line

  -- in a document: the header, the delimiter row, the records, and below them how many are left out
  abbrev pub document_picture : State → List Styled
  document_picture table =
      chosen_picture table is_header_line ++ (plainly_shown (header_delimiters table) ++ (chosen_picture table is_record_line ++ plainly_shown left_out_line))

  -- with these widths of their columns, in a document or a box by the style of lines
  abbrev pub records_picture : Option (List ℕ) → List Styled
  records_picture rooms = if is_markdown options.line_style then document_picture (table_in options shown rows rooms) else box_picture (table_in options shown rows rooms)

  -- the output shows the records: in widths that their columns may have, its characters and their styles are those of their picture; no style
  -- is open where a line ends; without its styles it is what is printed of the table of the stripped texts without colours; and where
  -- the texts of that table add up, each of its lines takes the columns of the table
  pub record ShowsRecords (output : List ℕ) : Type 0 where
    pub rooms : Option (List ℕ)
    pub are_rooms : AreRooms options shown rows rooms
    pub picture : Shows output (records_picture rooms)
    pub lines : EndsLinesPlain output
    pub stripped : ForPieces output (λ pieces. strip pieces ≡ text_of options shown rows columns (uncolored_state (stripped_state (table_in options shown rows rooms))))
    pub even : let table = table_in options shown rows rooms in TextsAddUp table.look table.rows → (y : ℕ) → y < drawn_height table → line_columns table y ≡ drawn_width table

-- the output shows those of the records that are to be shown: of all their columns, or of those that their table has, as a table of their own
abbrev pub ShowsColumns : Options → Rows → List ℕ → Type 0
ShowsColumns options rows output =
    let kept = kept_of options rows in
    MatchBool (shows_whole_rows options kept.rows) (ShowsRecords options kept.shown kept.rows None output)
    ((own : Options) × IsOwn options kept own × ShowsRecords own kept.shown (table_rows options kept) (Some (column_counts options kept.rows)) output)

-- ---- a run

-- an error of the text; or of memory, which may come in its place
abbrev pub IsOfText : RunFault → Type 0
IsOfText (Input fault) = ⊤
IsOfText (Print fault) = ⊥
IsOfText Memory = ⊤

-- such a one, or that no column has this name
abbrev pub IsOfTextOrName : List ℕ → RunFault → Type 0
IsOfTextOrName name (Input fault) = ⊤
IsOfTextOrName name (Print (NoColumn given)) = string_bytes given ≡ name
IsOfTextOrName name (Print (Table fault)) = ⊥
IsOfTextOrName name (Print NoMemory) = ⊥
IsOfTextOrName name Memory = ⊤

-- a run that is refused, by such an error
abbrev pub IsRefusedBy : (RunFault → Type 0) → Result Printed RunFault → Type 0
IsRefusedBy IsFault (Ok printed) = ⊥
IsRefusedBy IsFault (Err fault) = IsFault fault

-- what is promised of a run of a text whose fields this byte separates: its result, and what a writer has before and after it
pub record IsRunOf (delimiter : ℕ) (bytes : List ℕ) (options : Options) (result : Result Printed RunFault) (before after : Option (List ℕ)) : Type 0 where
  pub readable : OnOk result (IsReadable options.escapes (settings delimiter) (text_of_bytes bytes))
  pub printed : IfOk result (λ printed. PrintsRows options (records_cleaned options.escapes delimiter bytes) printed.wider before after)
  pub refused : IfErr result (IsRunFault delimiter bytes options)
  pub begun : OnErr result ((after ≡ before) ⊎ PrintsTextFront delimiter bytes options before after)
