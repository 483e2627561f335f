-- What a call that prints rows leaves in a writer, and why it fails.
use Rattle.std.specs.Prelude.{◌≡◌, ◌≢◌, ◌⊎◌, ⊤, ℕ, Bool, List, [], Option, None, Ok, length}
use Rattle.std.specs.Io.KnownBytes.{Appends}
use Rattle.grid_config_values.specs.declared.fault.Fault.{Fault}
use Rattle.grid_config_values.specs.declared.fault.Fault.TheVariants.{Memory as NoMemory}
use Rattle.tabled.specs.Printing.{IsFitsAnswer}
use Rattle.tabled_output.specs.Building.{BuildRefusal}
use Rattle.tabled_output.specs.declared.building.BuildFault.{BuildFault}
use Rattle.tabled_output.specs.declared.building.BuildFault.TheVariants.{Table as OfTable, Write, WriteZero}
use Rattle.tabled_output.specs.Streams.{AppendsFront}
use Rattle.tabled_steps.specs.States.{State}
use Rattle.basinmug_columns.specs.declared.rows.RowsShown.{RowsShown}
use Rattle.basinmug_run.specs.declared.options.Options.{Options}
use Rattle.basinmug_run.specs.Kept.{rows_shown, shown_rows}
use Rattle.basinmug_run.specs.Picture.Lines.{below, picture_text}
use Rattle.basinmug_run.specs.Picture.Names.{IsFirstMissing}
use Rattle.basinmug_run.specs.Picture.Pictures.{HasNoTable, IsTable, cells_in, is_wider, missing_of}
use Rattle.basinmug_run.specs.declared.picture.fault.PrintFault.{PrintFault}
use Rattle.basinmug_run.specs.declared.picture.fault.PrintFault.TheVariants.{NoColumn, Table, Memory}

-- the table has no text, which is known before its first line is written; memory may run out after it
abbrev pub HasNoText : BuildFault → Type 0
HasNoText (OfTable fault) = fault ≢ NoMemory
HasNoText Write = ⊥
HasNoText WriteZero = ⊥

-- nothing of a picture is written before such an error
abbrev pub IsWithoutText : PrintFault → Type 0
IsWithoutText (NoColumn name) = ⊤
IsWithoutText (Table fault) = HasNoText fault
IsWithoutText Memory = ⊥

-- an error that may come when a part of a table that fits is written
abbrev pub IsLate : BuildFault → Type 0
IsLate (OfTable fault) = fault ≡ NoMemory
IsLate Write = ⊤
IsLate WriteZero = ⊤

-- a table that is made so is printed, by this text of it
abbrev pub PrintsTable : (State → Type 0) → (State → List ℕ) → Option ℕ → Bool → Option (List ℕ) → Option (List ℕ) → Type 0
PrintsTable Makes text width wider old new = (s : State) × Makes s × IsFitsAnswer s (Ok tt) × (wider ≡ is_wider width s) × Appends old new (text s)

-- a prefix of this text of a table is written that is made so and fits
abbrev pub PrintsTableFront : (State → Type 0) → (State → List ℕ) → Option (List ℕ) → Option (List ℕ) → Type 0
PrintsTableFront Makes text old new = (s : State) × Makes s × IsFitsAnswer s (Ok tt) × AppendsFront old new (text s)

-- why it is not printed: it is not made, or it has no text, or the writer failed; a lack of memory may always be, by
-- its own name
abbrev pub IsTableFault : (State → Type 0) → (Fault → Type 0) → PrintFault → Type 0
IsTableFault Makes NotMade (NoColumn name) = ⊥
IsTableFault Makes NotMade (Table fault) =
    (((why : Fault) × (fault ≡ OfTable why) × NotMade why) ⊎ ((s : State) × Makes s × BuildRefusal (IsFitsAnswer s (Ok tt)) (IsFitsAnswer s) fault))
    × (fault ≢ OfTable NoMemory)
IsTableFault Makes NotMade Memory = ⊤

module _ (options : Options) (shown : RowsShown) (rows : List (List (List ℕ))) where
  -- what is printed of the table of these rows, which are shown of all, and of so many columns of so many: its lines in this style, and how
  -- many columns are shown and rows are left out
  abbrev pub text_of : Option (ℕ × ℕ) → State → List ℕ
  text_of columns = picture_text options.line_style options.rules options.header (length (cells_in options shown rows)) (below options.line_style columns shown)

  -- the rows are printed as a table, in which each named column is
  abbrev pub PrintsShown : Option (ℕ × ℕ) → Bool → Option (List ℕ) → Option (List ℕ) → Type 0
  PrintsShown columns wider old new = (missing_of options rows ≡ []) × PrintsTable (IsTable options shown rows) (text_of columns) options.width wider old new

  -- a prefix of their table is written, in which each named column is
  abbrev pub PrintsShownFront : Option (ℕ × ℕ) → Option (List ℕ) → Option (List ℕ) → Type 0
  PrintsShownFront columns old new = (missing_of options rows ≡ []) × PrintsTableFront (IsTable options shown rows) (text_of columns) old new

  -- why it is not printed: a name is missing, of which the first is reported; and else the error of the table
  abbrev pub IsShownFault : PrintFault → Type 0
  IsShownFault (NoColumn name) = IsFirstMissing (missing_of options rows) (NoColumn name)
  IsShownFault (Table fault) = (missing_of options rows ≡ []) × IsTableFault (IsTable options shown rows) (HasNoTable options shown rows) (Table fault)
  IsShownFault Memory = ⊤

-- of rows those that are shown are printed so, with all their columns
module _ (options : Options) (rows : List (List (List ℕ))) where
  abbrev pub Prints : Bool → Option (List ℕ) → Option (List ℕ) → Type 0
  Prints = PrintsShown options (rows_shown options rows) (shown_rows options rows) None

  abbrev pub PrintsFront : Option (List ℕ) → Option (List ℕ) → Type 0
  PrintsFront = PrintsShownFront options (rows_shown options rows) (shown_rows options rows) None

  abbrev pub IsPictureFault : PrintFault → Type 0
  IsPictureFault = IsShownFault options (rows_shown options rows) (shown_rows options rows)
