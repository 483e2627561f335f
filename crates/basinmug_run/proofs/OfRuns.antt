-- Errors of a text and of its rows as errors of a run.
use Rattle.std.proofs.Common.{◌≡◌, ◌⊎◌, ◌∙◌, ap, inl, inr, sym, ℕ, List, Option, Result, Ok, Err}
use Rattle.std.specs.Prelude.{IsErrAnd, IsErrOf}
use Rattle.tabled_output.specs.declared.building.BuildFault.TheVariants.{Write, WriteZero}
use Rattle.tabled_output.specs.Counts.{WritesUntil}
use Rattle.tabled_output.specs.declared.counted.Counted.{Counted}
use Rattle.basinmug_input.specs.Faults.{IsFaultOf, IsReadable}
use Rattle.basinmug_input.specs.Reading.{settings}
use Rattle.basinmug_input.specs.Rows.{rows_in, text_of_bytes}
use Rattle.basinmug_input.specs.declared.fault.InputFault.{InputFault}
use Rattle.basinmug_input.specs.declared.fault.InputFault.TheVariants.{NotText, Quote, Escape, Memory as NoMemoryToRead}
use Rattle.basinmug_run.specs.declared.options.Options.{Options}
use Rattle.basinmug_run.specs.Picture.Printed.{IsWithoutText}
use Rattle.basinmug_run.specs.declared.picture.fault.PrintFault.{PrintFault}
use Rattle.basinmug_run.specs.declared.picture.fault.PrintFault.TheVariants.{NoColumn, Table, Memory as NoMemoryToPrint}
use Rattle.basinmug_run.proofs.PictureLemmas.Written.{in-other-words, left-alone}
use Rattle.basinmug_run.specs.Faults.{of_input, of_print}
use Rattle.basinmug_run.specs.Runs.{PrintsRowsFront, PrintsTextFront, IsRunWithoutText, IsRunFault, IsRowsFault}
use Rattle.basinmug_run.specs.declared.fault.RunFault.{RunFault}
use Rattle.basinmug_run.specs.declared.fault.RunFault.TheVariants.{Input, Print, Memory}

module _ (delimiter : ℕ) (bytes : List ℕ) (options : Options) where
  -- a text without records
  pub not-read : (fault : InputFault) → IsFaultOf options.escapes (settings delimiter) (text_of_bytes bytes) fault → IsRunFault delimiter bytes options (of_input fault)
  not-read (NotText line field) is = (is, λ same. let it : NotText line field ≡ NoMemoryToRead = same in cc it)
  not-read (Quote line) is = (is, λ same. let it : Quote line ≡ NoMemoryToRead = same in cc it)
  not-read (Escape line field) is = (is, λ same. let it : Escape line field ≡ NoMemoryToRead = same in cc it)
  not-read NoMemoryToRead is = tt

  -- rows that are not printed
  pub not-printed : (fault : PrintFault) → IsReadable options.escapes (settings delimiter) (text_of_bytes bytes) → IsRowsFault options (rows_in options.escapes delimiter bytes) fault → IsRunFault delimiter bytes options (of_print fault)
  not-printed (NoColumn name) read is = (read, is, λ same. let it : NoColumn name ≡ NoMemoryToPrint = same in cc it)
  not-printed (Table fault) read is = (read, is, λ same. let it : Table fault ≡ NoMemoryToPrint = same in cc it)
  not-printed NoMemoryToPrint read is = tt

  -- a prefix of what is printed of the rows
  pub begins-text : (Same : Type 0) (old new : Option (List ℕ)) → IsReadable options.escapes (settings delimiter) (text_of_bytes bytes) → Same ⊎ PrintsRowsFront options (rows_in options.escapes delimiter bytes) old new
      → Same ⊎ PrintsTextFront delimiter bytes options old new
  begins-text Same old new read (inl same) = inl same
  begins-text Same old new read (inr front) = inr (read, front)

-- before which errors nothing is written
pub nothing-printed : (fault : PrintFault) → IsRunWithoutText (of_print fault) → IsWithoutText fault
nothing-printed (NoColumn name) none = none
nothing-printed (Table fault) none = none
nothing-printed NoMemoryToPrint none = none

-- ---- the writer

input-no-print : (fault : InputFault) (why : PrintFault) → ¬ (of_input fault ≡ Print why)
input-no-print (NotText line field) why is = let it : Input (NotText line field) ≡ Print why = is in cc it
input-no-print (Quote line) why is = let it : Input (Quote line) ≡ Print why = is in cc it
input-no-print (Escape line field) why is = let it : Input (Escape line field) ≡ Print why = is in cc it
input-no-print NoMemoryToRead why is = let it : Memory ≡ Print why = is in cc it

print-named : (fault why : PrintFault) → of_print fault ≡ Print why → fault ≡ why
print-named (NoColumn name) why is = let it : Print (NoColumn name) ≡ Print why = is in cc it
print-named (Table fault) why is = let it : Print (Table fault) ≡ Print why = is in cc it
print-named NoMemoryToPrint why is = absurd (let it : Memory ≡ Print why = is in cc it)

module _ {Y : Type 0} (fault : PrintFault) where
  of-print : (e : RunFault) → e ≡ of_print fault → (done : Result Y PrintFault) → done ≡ Err fault → IsErrOf done (Table Write) → e ≡ Print (Table Write)
  of-print e told done is of = let same : fault ≡ Table Write = let it : Err fault ≡ Err (Table Write) = sym is ∙ of in cc it in told ∙ ap of_print same

  of-print_zero : (e : RunFault) → e ≡ of_print fault → (done : Result Y PrintFault) → done ≡ Err fault → IsErrOf done (Table WriteZero) → e ≡ Print (Table WriteZero)
  of-print_zero e told done is of = let same : fault ≡ Table WriteZero = let it : Err fault ≡ Err (Table WriteZero) = sym is ∙ of in cc it in told ∙ ap of_print same

module _ {T X : Type 0} (a b : Counted T) where
  abbrev refused-by : RunFault → Result X RunFault
  refused-by e = Err e

  inner : (e f : RunFault) → refused-by e ≡ refused-by f → e ≡ f
  inner e f is = cc is

  -- a text without records has nothing written
  pub input-refused : (fault : InputFault) (r : Result X RunFault) → IsErrAnd r (λ e. e ≡ of_input fault) → WritesUntil (IsErrOf r (Print (Table Write))) (IsErrOf r (Print (Table WriteZero))) a a
  input-refused fault (Ok x) told = absurd told
  input-refused fault (Err e) told =
      left-alone _ _ a (λ is. input-no-print fault (Table Write) (sym told ∙ inner e (Print (Table Write)) is)) (λ is. input-no-print fault (Table WriteZero) (sym told ∙ inner e (Print (Table WriteZero)) is))

  module _ {Y : Type 0} (fault : PrintFault) where
    pub writer-told : (r : Result X RunFault) (done : Result Y PrintFault) → IsErrAnd r (λ e. e ≡ of_print fault) → done ≡ Err fault → WritesUntil (IsErrOf done (Table Write)) (IsErrOf done (Table WriteZero)) a b
        → WritesUntil (IsErrOf r (Print (Table Write))) (IsErrOf r (Print (Table WriteZero))) a b
    writer-told (Ok x) done told is until = absurd told
    writer-told (Err e) done told is until =
        in-other-words (IsErrOf done (Table Write)) (IsErrOf done (Table WriteZero)) _ _ a b
        (λ of. ap (λ f. Err f) (of-print fault e told done is of)) (λ of. is ∙ ap (λ f. Err f) (print-named fault (Table Write) (sym told ∙ inner e (Print (Table Write)) of)))
        (λ of. ap (λ f. Err f) (of-print_zero fault e told done is of)) (λ of. is ∙ ap (λ f. Err f) (print-named fault (Table WriteZero) (sym told ∙ inner e (Print (Table WriteZero)) of))) until
