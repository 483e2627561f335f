-- Records as cells, one after another.
use Rattle.std.specs.List.{AllByRecursion}
use Rattle.std.specs.Prelude.{◌≡◌, ◌<◌, ◌*◌, ◌/◌, ◌%◌, ℕ, List, [], ◌∷◌, ◌++◌, Option, None, Some, drop, flat_map, length, map, sum, take}
use Rattle.basinmug_bounded.specs.declared.cells.Cells.{Cells}
use Rattle.basinmug_bounded.specs.declared.refusal.CellFault.{CellFault}
use Rattle.basinmug_bounded.specs.declared.refusal.CellFault.TheVariants as cell
use Rattle.basinmug_bounded.specs.declared.refusal.Refusal.{Refusal}
use Rattle.basinmug_bounded.specs.declared.refusal.Refusal.TheVariants.{Request, List as OfList, Cell, Run, OverMaxSize}
use Rattle.basinmug_input.specs.Cleaning.{cleaned}
use Rattle.basinmug_input.specs.Flaws.{HasFlaw, IsReadableField}
use Rattle.basinmug_input.specs.declared.cells.Flaw.{Flaw}
use Rattle.basinmug_input.specs.declared.cells.Flaw.TheVariants as flaw
use Rattle.basinmug_run.specs.declared.fault.RunFault.TheVariants.{Memory}
use Rattle.program_options.specs.declared.basinmug.Escapes.{Escapes}

-- ---- what is given

-- the bytes of all cells, how many each has, and how many cells a record has
pub record Given : Type 0 where
  pub bytes : List ℕ
  pub lengths : List ℕ
  pub per_record : ℕ

abbrev pub given : (bytes lengths : List ℕ) → ℕ → Given
given bytes lengths per_record = record { bytes = bytes; lengths = lengths; per_record = per_record }

abbrev pub given_by : Cells → Given
given_by cells = given cells.bytes.now cells.lengths.now cells.per_record

-- cells of these lengths: each begins where the one before it ends
abbrev pub cells_in : List ℕ → List ℕ → List (List ℕ)
cells_in [] bytes = []
cells_in (count ∷ lengths) bytes = take count bytes ∷ cells_in lengths (drop count bytes)

-- the lengths of the cells that are read: those of the first so many records, or all
abbrev pub lengths_read : Option ℕ → Given → List ℕ
lengths_read None given = given.lengths
lengths_read (Some records) given = take (records * given.per_record) given.lengths

-- and these cells
abbrev pub cells_read : Option ℕ → Given → List (List ℕ)
cells_read records given = cells_in (lengths_read records given) given.bytes

-- ---- whether they are records

-- so many cells are some records of so many each
abbrev pub AreWhole : ℕ → ℕ → Type 0
AreWhole count per_record = (records : ℕ) × (count ≡ records * per_record)

-- the cells are whole records, and have all bytes, and no more
pub record AreRecords (given : Given) : Type 0 where
  pub whole : AreWhole (length given.lengths) given.per_record
  pub all : sum given.lengths ≡ length given.bytes

-- these rows have so many cells each, which are those one after another
pub record AreWholeRows (per_record : ℕ) (cells : List (List ℕ)) (rows : List (List (List ℕ))) : Type 0 where
  pub joined : flat_map (λ row. row) rows ≡ cells
  pub whole : AllByRecursion (λ row. (length row ≡ per_record) × (0 < per_record)) rows

-- ---- how they are shown

-- each of these cells can be shown, and the rows have so many each, as a table shows them
pub record AreShownCells (escapes : Escapes) (per_record : ℕ) (cells : List (List ℕ)) (rows : List (List (List ℕ))) : Type 0 where
  pub readable : AllByRecursion (IsReadableField escapes) cells
  pub rows_are : AreWholeRows per_record (map (cleaned escapes) cells) rows

-- each cell that is read can be shown, and these are the records as a table shows them
pub record IsReadCells (escapes : Escapes) (records : Option ℕ) (given : Given) (rows : List (List (List ℕ))) : Type 0 where
  pub are : AreRecords given
  pub readable : AllByRecursion (IsReadableField escapes) (cells_read records given)
  pub rows_are : AreWholeRows given.per_record (map (cleaned escapes) (cells_read records given)) rows

-- the first cell that can't be shown is this one, for this flaw
pub record HasFlawed (escapes : Escapes) (cells : List (List ℕ)) (place : ℕ) (which : Flaw) : Type 0 where
  pub before : List (List ℕ)
  pub here : List ℕ
  pub after : List (List ℕ)
  pub of_cells : cells ≡ before ++ here ∷ after
  pub readable : AllByRecursion (IsReadableField escapes) before
  pub is_place : place ≡ length before
  pub is_flawed : HasFlaw escapes here which

-- how it is reported: by its row and its column
abbrev pub fault_at : ℕ → Flaw → ℕ → CellFault
fault_at place (flaw.NotText byte) per_record = cell.NotText (place / per_record) (place % per_record)
fault_at place (flaw.Escape byte) per_record = cell.Escape (place / per_record) (place % per_record)

-- why cells are not shown
pub record IsFlawedAt (escapes : Escapes) (records : Option ℕ) (given : Given) (fault : CellFault) : Type 0 where
  pub are : AreRecords given
  pub place : ℕ
  pub which : Flaw
  pub flawed : HasFlawed escapes (cells_read records given) place which
  pub is_fault : fault ≡ fault_at place which given.per_record

abbrev pub IsCellFault : Escapes → Option ℕ → Given → Refusal → Type 0
IsCellFault escapes records given (Cell cell.Lengths) = ¬ AreRecords given
IsCellFault escapes records given (Cell fault) = IsFlawedAt escapes records given fault
IsCellFault escapes records given (Run fault) = fault ≡ Memory
IsCellFault escapes records given (Request fault) = ⊥
IsCellFault escapes records given (OfList fault) = ⊥
IsCellFault escapes records given OverMaxSize = ⊥
