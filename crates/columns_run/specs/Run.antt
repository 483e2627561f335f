-- What one run promises for an input: which result it may have, and what is written.
use Rattle.std.specs.Prelude.{◌≡◌, ◌≢◌, ◌↔◌, ◌⊎◌, ℕ, ◌^◌, ◌≤◌, List, length, ⊤, Option, None, Some, Result, Ok, Err, IfErr, IfSome, IsErrOf, IsUtf8}
use Rattle.std.specs.Str.Lossy.{utf8_valid_len}
use Rattle.std.specs.Io.KnownBytes.{Appends, IsAtEnd, Keeps}
use Rattle.program_options.specs.declared.columns.fault.RunFault.{RunFault}
use Rattle.program_options.specs.declared.columns.fault.RunFault.TheVariants.{Read, ReadTooLong, NotUtf8, Escape, Range, LineTooWide, Write, WriteZero, Memory}
use Rattle.ansi_scan.specs.Sequences.{IsWhole, IsFirstBroken}
use Rattle.columns_run.specs.DrawnTables.{output_of, TableInRange, wide_cell}
use Rattle.columns_run.specs.TableShown.{ShowsTableOf}
use Rattle.columns_run.specs.Wanted.{Wanted}
use Rattle.columns_run.specs.Fault.{MayFollowWrites}
use Rattle.tabled_output.specs.declared.counted.Counted.{Counted}
use Rattle.tabled_output.specs.Counts.{FailsIff, HasGivenPieces, OnlyReads, OnlyWrites, TakesNothingIff, TellsEnd, TellsNoEnd, inner_of}
use Rattle.tabled_output.specs.Streams.{AppendsFront, ConsumesSome}

-- how many reads without an end are too many
abbrev pub read_limit : ℕ
read_limit = 2 ^ 40

-- the input has a table: it is text, each ESC of it begins a whole sequence, width and height of the table are in
-- range, and no line of a cell takes more columns than its column has
abbrev pub HasTable : Wanted → List ℕ → Type 0
HasTable wanted input = IsUtf8 input × IsWhole input × TableInRange wanted input × (wide_cell wanted input ≡ None)

-- a run of an input may fail with this. The cases exclude one another, except for two kinds: the errors of reading and
-- writing, which the counts of the reader and the writer decide, and that of memory, which may come at any step
abbrev pub MayEndBy : Wanted → List ℕ → RunFault → Type 0
MayEndBy wanted input Read = ⊤
MayEndBy wanted input ReadTooLong = read_limit ≤ length input
MayEndBy wanted input (NotUtf8 at) = ¬ (IsUtf8 input) × (at ≡ utf8_valid_len input)
MayEndBy wanted input (Escape at) = IsUtf8 input × IsFirstBroken input at
MayEndBy wanted input Range = IsUtf8 input × IsWhole input × ¬ (TableInRange wanted input)
MayEndBy wanted input (LineTooWide row column) =
    IsUtf8 input × IsWhole input × TableInRange wanted input × (wide_cell wanted input ≡ Some (record { row = row; col = column }))
MayEndBy wanted input Write = HasTable wanted input
MayEndBy wanted input WriteZero = HasTable wanted input
MayEndBy wanted input Memory = ⊤

-- a run of an input may return this
abbrev pub MayAnswer : {T : Type 0} → Wanted → List ℕ → Result T RunFault → Type 0
MayAnswer wanted input (Ok _) = HasTable wanted input
MayAnswer wanted input (Err fault) = MayEndBy wanted input fault

-- what is written of the text with a result: all of it, or a prefix of it where writing was cut short, or nothing
abbrev pub Writes : {T : Type 0} → List ℕ → Result T RunFault → Option (List ℕ) → Option (List ℕ) → Type 0
Writes text (Ok _) old new = Appends old new text
Writes text (Err Write) old new = AppendsFront old new text
Writes text (Err WriteZero) old new = AppendsFront old new text
Writes text (Err Memory) old new = AppendsFront old new text
Writes text (Err _) old new = Keeps old new

-- a result that comes only once the reader reported its end
abbrev pub HasReadAll : {T : Type 0} → Result T RunFault → Type 0
HasReadAll (Err Read) = ⊥
HasReadAll (Err ReadTooLong) = ⊥
HasReadAll (Err Memory) = ⊥
HasReadAll _ = ⊤

-- the result is one that the input may have, of its table that much was written, and the table is its picture
pub record Serves {T : Type 0} (wanted : Wanted) (input : List ℕ) (result : Result T RunFault) (old new : Option (List ℕ)) : Type 0 where
  pub answers : MayAnswer wanted input result
  pub writes : Writes (output_of wanted input) result old new
  pub shows : HasTable wanted input → ShowsTableOf wanted input (output_of wanted input)

-- where the input has no table, and where its table is empty, the writer is not even called
pub record LeavesAlone {T : Type 0} (wanted : Wanted) (input : List ℕ) (old new : T) : Type 0 where
  pub no_table : ¬ (HasTable wanted input) → new ≡ old
  pub empty : length (output_of wanted input) ≡ 0 → new ≡ old

-- for an input: what is returned and written, and when the writer is left alone
abbrev pub AnswersInput : {T W : Type 0} → (W → Option (List ℕ)) → Wanted → Result T RunFault → Counted W → Counted W → List ℕ → Type 0
AnswersInput contents wanted result before after input =
    Serves wanted input result (contents (inner_of before)) (contents (inner_of after)) × LeavesAlone wanted input before after

-- one run: from a reader, of which `remaining` gives the bytes that are left, to a writer, of which `contents` gives
-- the bytes that it accepted
pub record IsRun {R W T : Type 0} (remaining : R → Option (List ℕ)) (contents : W → Option (List ℕ)) (wanted : Wanted) (result : Result T RunFault)
    (reader reader_then : Counted R) (writer writer_then : Counted W) : Type 0 where
  -- where the reader's bytes are known, they decide the result and what is written
  pub known_input : IfSome (remaining (inner_of reader)) (AnswersInput contents wanted result writer writer_then)
  -- where they are not, the same holds of some bytes; nothing but the counts below ties these to what the reader gave
  pub some_input : ConsumesSome (remaining (inner_of reader)) (remaining (inner_of reader_then)) (AnswersInput contents wanted result writer writer_then)
  pub at_end : HasReadAll result → IsAtEnd (remaining (inner_of reader_then))
  -- the reader reports its end once, in its last read, and else not
  pub told_end : HasReadAll result → TellsEnd reader reader_then
  pub no_end : (IsErrOf result Read ⊎ IsErrOf result ReadTooLong) → TellsNoEnd reader reader_then
  pub one_end : TellsEnd reader reader_then ⊎ TellsNoEnd reader reader_then
  -- the counts say exactly when an error of the reader or the writer comes
  pub read : FailsIff (IsErrOf result Read) reader reader_then
  pub read_too_long : result ≢ Err Memory → (IsErrOf result ReadTooLong ↔ HasGivenPieces reader reader_then read_limit)
  pub write : FailsIff (IsErrOf result Write) writer writer_then
  pub write_zero : TakesNothingIff (IsErrOf result WriteZero) writer writer_then
  -- a reader is only read, and a writer only written, by pieces that have bytes: nothing is flushed
  pub only_reads : OnlyReads reader reader_then
  pub only_writes : OnlyWrites writer writer_then
  -- an error of the reader or the input comes before the writer is called
  pub untouched : IfErr result (λ fault. ¬ (MayFollowWrites fault) → writer_then ≡ writer)
