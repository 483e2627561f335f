-- Errors of tables as errors of pictures.
use Rattle.std.proofs.Common.{◌≡◌, ◌⊎◌, inl, inr, refl}
use Rattle.grid_config_values.specs.declared.fault.Fault.{Fault}
use Rattle.grid_config_values.specs.declared.fault.Fault.TheVariants.{Memory as OutOfMemory, Range, Spans, Room}
use Rattle.tabled.specs.Printing.{IsFitsAnswer}
use Rattle.std.specs.Prelude.{Ok}
use Rattle.tabled_output.specs.Building.{BuildRefusal}
use Rattle.tabled_output.specs.declared.building.BuildFault.{BuildFault}
use Rattle.tabled_output.specs.declared.building.BuildFault.TheVariants.{Table as OfTable, Write, WriteZero}
use Rattle.tabled_steps.specs.States.{State}
use Rattle.basinmug_run.specs.Picture.Faults.{of_build, of_table}
use Rattle.basinmug_run.specs.Picture.Printed.{HasNoText, IsWithoutText, IsTableFault}
use Rattle.basinmug_run.specs.declared.picture.fault.PrintFault.TheVariants.{Table, Memory}

module _ (Makes : State → Type 0) (NotMade : Fault → Type 0) where
  -- a table is not made
  pub no-table : (fault : Fault) → (fault ≡ OutOfMemory) ⊎ NotMade fault → IsTableFault Makes NotMade (of_table fault)
  no-table OutOfMemory out = tt
  no-table Range (inl is) = absurd (let it : Range ≡ OutOfMemory = is in cc it)
  no-table Range (inr out) = (inl (Range, refl, out), λ is. let it : OfTable Range ≡ OfTable OutOfMemory = is in cc it)
  no-table Spans (inl is) = absurd (let it : Spans ≡ OutOfMemory = is in cc it)
  no-table Spans (inr out) = (inl (Spans, refl, out), λ is. let it : OfTable Spans ≡ OfTable OutOfMemory = is in cc it)
  no-table (Room row column) (inl is) = absurd (let it : Room row column ≡ OutOfMemory = is in cc it)
  no-table (Room row column) (inr out) = (inl (Room row column, refl, out), λ is. let it : OfTable (Room row column) ≡ OfTable OutOfMemory = is in cc it)

  -- a table that is made is not written
  pub refusal-by : (s : State) (fault : BuildFault) → Makes s → BuildRefusal (IsFitsAnswer s (Ok tt)) (IsFitsAnswer s) fault → IsTableFault Makes NotMade (of_build fault)
  refusal-by s (OfTable OutOfMemory) made out = tt
  refusal-by s (OfTable Range) made out = (inr (s, made, out), λ is. let it : OfTable Range ≡ OfTable OutOfMemory = is in cc it)
  refusal-by s (OfTable Spans) made out = (inr (s, made, out), λ is. let it : OfTable Spans ≡ OfTable OutOfMemory = is in cc it)
  refusal-by s (OfTable (Room row column)) made out = (inr (s, made, out), λ is. let it : OfTable (Room row column) ≡ OfTable OutOfMemory = is in cc it)
  refusal-by s Write made out = (inr (s, made, out), λ is. let it : Write ≡ OfTable OutOfMemory = is in cc it)
  refusal-by s WriteZero made out = (inr (s, made, out), λ is. let it : WriteZero ≡ OfTable OutOfMemory = is in cc it)

pub write-named : (fault : BuildFault) → of_build fault ≡ Table Write → fault ≡ Write
write-named (OfTable OutOfMemory) is = absurd (let it : Memory ≡ Table Write = is in cc it)
write-named (OfTable Range) is = absurd (let it : Table (OfTable Range) ≡ Table Write = is in cc it)
write-named (OfTable Spans) is = absurd (let it : Table (OfTable Spans) ≡ Table Write = is in cc it)
write-named (OfTable (Room row column)) is = absurd (let it : Table (OfTable (Room row column)) ≡ Table Write = is in cc it)
write-named Write is = refl
write-named WriteZero is = absurd (let it : Table WriteZero ≡ Table Write = is in cc it)

pub write_zero-named : (fault : BuildFault) → of_build fault ≡ Table WriteZero → fault ≡ WriteZero
write_zero-named (OfTable OutOfMemory) is = absurd (let it : Memory ≡ Table WriteZero = is in cc it)
write_zero-named (OfTable Range) is = absurd (let it : Table (OfTable Range) ≡ Table WriteZero = is in cc it)
write_zero-named (OfTable Spans) is = absurd (let it : Table (OfTable Spans) ≡ Table WriteZero = is in cc it)
write_zero-named (OfTable (Room row column)) is = absurd (let it : Table (OfTable (Room row column)) ≡ Table WriteZero = is in cc it)
write_zero-named Write is = absurd (let it : Table Write ≡ Table WriteZero = is in cc it)
write_zero-named WriteZero is = refl

-- before which errors nothing is written
pub nothing-written : (fault : BuildFault) → IsWithoutText (of_build fault) → HasNoText fault
nothing-written (OfTable OutOfMemory) out = absurd out
nothing-written (OfTable Range) out = out
nothing-written (OfTable Spans) out = out
nothing-written (OfTable (Room row column)) out = out
nothing-written Write out = out
nothing-written WriteZero out = out
