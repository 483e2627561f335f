-- When an error of the writer is reported.
use Rattle.std.proofs.Common.{◌≡◌, ◌∙◌, ap, sym, refl, List, ℕ, Result, Ok, Err}
use Rattle.std.specs.Prelude.{IsErrAnd, IsErrOf}
use Rattle.grid_config_values.specs.declared.fault.Fault.{Fault}
use Rattle.grid_config_values.specs.declared.fault.Fault.TheVariants.{Memory as OutOfMemory, Range, Spans, Room}
use Rattle.tabled_output.specs.declared.building.BuildFault.{BuildFault}
use Rattle.tabled_output.specs.declared.building.BuildFault.TheVariants.{Table as OfTable, Write, WriteZero}
use Rattle.tabled_output.specs.Counts.{WritesUntil}
use Rattle.tabled_output.specs.declared.counted.Counted.{Counted}
use Rattle.basinmug_run.specs.Picture.Faults.{of_build, of_table}
use Rattle.basinmug_run.specs.Picture.Names.{IsFirstMissing}
use Rattle.basinmug_run.specs.declared.picture.fault.PrintFault.{PrintFault}
use Rattle.basinmug_run.specs.declared.picture.fault.PrintFault.TheVariants.{NoColumn, Table, Memory}
use Rattle.basinmug_run.proofs.PictureLemmas.Faults.{write-named, write_zero-named}

module _ {T : Type 0} (P Q : Type 0) where
  -- of a writer that is left alone neither is reported
  pub left-alone : (a : Counted T) → ¬ P → ¬ Q → WritesUntil P Q a a
  left-alone a no-failure no-zero = record {
    write = record { once = λ is. absurd (no-failure is); last = λ is. absurd (no-failure is); others = λ _. refl };
    write_zero = record { once = λ is. absurd (no-zero is); last = λ is. absurd (no-zero is); others = λ _. refl };
    only_writes = record { writes_of_nothing = refl; pieces_read = refl; ends = refl; flushes = refl };
  }

  -- both may be reported by other names
  pub in-other-words : (R S : Type 0) (a b : Counted T) → (P → R) → (R → P) → (Q → S) → (S → Q) → WritesUntil P Q a b → WritesUntil R S a b
  in-other-words R S a b p-to p-from q-to q-from is = record {
    write = record { once = λ r. is.write.once (p-from r); last = λ r. is.write.last (p-from r); others = λ out. is.write.others (λ p. out (p-to p)) };
    write_zero = record { once = λ s. is.write_zero.once (q-from s); last = λ s. is.write_zero.last (q-from s); others = λ out. is.write_zero.others (λ q. out (q-to q)) };
    only_writes = is.only_writes;
  }

-- ---- the errors of the writer

module _ (fault : BuildFault) where
  of-write : (e : PrintFault) → e ≡ of_build fault → (done : Result (Unit {0}) BuildFault) → done ≡ Err fault → IsErrOf done Write → e ≡ Table Write
  of-write e told done is of = let same : fault ≡ Write = let it : Err fault ≡ Err Write = sym is ∙ of in cc it in told ∙ ap of_build same

  of-write_zero : (e : PrintFault) → e ≡ of_build fault → (done : Result (Unit {0}) BuildFault) → done ≡ Err fault → IsErrOf done WriteZero → e ≡ Table WriteZero
  of-write_zero e told done is of = let same : fault ≡ WriteZero = let it : Err fault ≡ Err WriteZero = sym is ∙ of in cc it in told ∙ ap of_build same

module _ {T X : Type 0} (a b : Counted T) (fault : BuildFault) where
  abbrev refused-by : PrintFault → Result X PrintFault
  refused-by e = Err e

  inner : (e f : PrintFault) → refused-by e ≡ refused-by f → e ≡ f
  inner e f is = cc is

  pub writer-told : (r : Result X PrintFault) (done : Result (Unit {0}) BuildFault) → IsErrAnd r (λ e. e ≡ of_build fault) → done ≡ Err fault → WritesUntil (IsErrOf done Write) (IsErrOf done WriteZero) a b
      → WritesUntil (IsErrOf r (Table Write)) (IsErrOf r (Table WriteZero)) a b
  writer-told (Ok x) done told is until = absurd told
  writer-told (Err e) done told is until =
      in-other-words (IsErrOf done Write) (IsErrOf done WriteZero) _ _ a b
      (λ of. ap (λ f. Err f) (of-write fault e told done is of)) (λ of. is ∙ ap (λ f. Err f) (write-named fault (sym told ∙ inner e (Table Write) of)))
      (λ of. ap (λ f. Err f) (of-write_zero fault e told done is of)) (λ of. is ∙ ap (λ f. Err f) (write_zero-named fault (sym told ∙ inner e (Table WriteZero) of))) until

-- ---- errors in which the writer has no part

table-no-write : (fault : Fault) → ¬ (of_table fault ≡ Table Write)
table-no-write OutOfMemory is = let it : Memory ≡ Table Write = is in cc it
table-no-write Range is = let it : Table (OfTable Range) ≡ Table Write = is in cc it
table-no-write Spans is = let it : Table (OfTable Spans) ≡ Table Write = is in cc it
table-no-write (Room row column) is = let it : Table (OfTable (Room row column)) ≡ Table Write = is in cc it

table-no-write_zero : (fault : Fault) → ¬ (of_table fault ≡ Table WriteZero)
table-no-write_zero OutOfMemory is = let it : Memory ≡ Table WriteZero = is in cc it
table-no-write_zero Range is = let it : Table (OfTable Range) ≡ Table WriteZero = is in cc it
table-no-write_zero Spans is = let it : Table (OfTable Spans) ≡ Table WriteZero = is in cc it
table-no-write_zero (Room row column) is = let it : Table (OfTable (Room row column)) ≡ Table WriteZero = is in cc it

named-no-table : (names : List (List ℕ)) (fault : PrintFault) (why : BuildFault) → IsFirstMissing names fault → ¬ (fault ≡ Table why)
named-no-table names (NoColumn name) why is same = let it : NoColumn name ≡ Table why = same in cc it
named-no-table names (Table fault) why is same = is
named-no-table names Memory why is same = let it : Memory ≡ Table why = same in cc it

module _ {T X : Type 0} (a : Counted T) where
  abbrev failed : PrintFault → Result X PrintFault
  failed e = Err e

  -- none is reported in this place
  other : (e : PrintFault) (why : BuildFault) → ¬ (e ≡ Table why) → ¬ (failed e ≡ failed (Table why))
  other e why out is = out (let it : e ≡ Table why = cc is in it)

  -- a table that is not made
  pub table-refused : (fault : Fault) (r : Result X PrintFault) → IsErrAnd r (λ e. e ≡ of_table fault) → WritesUntil (IsErrOf r (Table Write)) (IsErrOf r (Table WriteZero)) a a
  table-refused fault (Ok x) told = absurd told
  table-refused fault (Err e) told = left-alone _ _ a (other e Write (λ is. table-no-write fault (sym told ∙ is))) (other e WriteZero (λ is. table-no-write_zero fault (sym told ∙ is)))

  -- a name that is missing
  pub name-missing : (names : List (List ℕ)) (fault : PrintFault) (r : Result X PrintFault) → IsErrAnd r (λ e. e ≡ fault) → IsFirstMissing names fault → WritesUntil (IsErrOf r (Table Write)) (IsErrOf r (Table WriteZero)) a a
  name-missing names fault (Ok x) told is = absurd told
  name-missing names fault (Err e) told is =
      left-alone _ _ a (other e Write (λ same. named-no-table names fault Write is (sym told ∙ same))) (other e WriteZero (λ same. named-no-table names fault WriteZero is (sym told ∙ same)))
