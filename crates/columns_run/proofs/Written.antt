-- What a run returns for a table that is written, or not.
use Rattle.std.proofs.Common.{◌≡◌, ℕ, List, [], Option, Result, Ok, Err, append-nil, refl, sym, subst, ◌∙◌}
use Rattle.std.specs.Prelude.{IfErr, IsErrOf}
use Rattle.std.specs.Io.KnownBytes.{Appends}
use Rattle.grid_config_values.specs.declared.fault.Fault.{Fault}
use Rattle.grid_config_values.specs.declared.fault.Fault.TheVariants.{Memory as NoMemory, Range as PassesMax, Room, Spans}
use Rattle.tabled_output.specs.Counts.{inner_of, FailsIff, OnlyWrites, TakesNothingIff}
use Rattle.tabled_output.specs.Pieces.{HasPassed, HasStopped, Passes}
use Rattle.tabled_output.specs.declared.counted.Counted.{Counted}
use Rattle.tabled_output.specs.declared.writing.WriteFault.{WriteFault}
use Rattle.tabled_output.specs.declared.writing.WriteFault.TheVariants.{Write as Failed, WriteZero as TookNothing}
use Rattle.tabled_output.proofs.WrittenPieces.{front-taken}
use Rattle.columns_asked.specs.declared.asked.WidthLimit.{WidthLimit}
use Rattle.columns_table.specs.Answers.{HasTable as TextsHaveTable, MayBeRefused as MayRefuseTexts}
use Rattle.grid_config.specs.Compact.{Compact}
use Rattle.columns_run.specs.Fault.{IsOfInput, MayFollowReading, run_answer}
use Rattle.columns_run.specs.Written.{IsWritten}
use Rattle.program_options.specs.declared.columns.fault.RunFault.{RunFault}
use Rattle.program_options.specs.declared.columns.fault.RunFault.TheVariants.{Escape, LineTooWide, Memory, NotUtf8, Range, Read, ReadTooLong, Write, WriteZero}
use Rattle.columns_run.proofs.Serves.{writes-none}

abbrev RunAnswer : Type 0
RunAnswer = Result (Unit {0}) RunFault

same-writes : {T : Type 0} (a : Counted T) → OnlyWrites a a
same-writes a = record { writes_of_nothing = refl; pieces_read = refl; ends = refl; flushes = refl }

none-fails : {T : Type 0} (P : Type 0) (a : Counted T) → ¬ P → FailsIff P a a
none-fails P a never = record { once = λ p. absurd (never p); last = λ p. absurd (never p); others = λ _. refl }

none-empty : {T : Type 0} (P : Type 0) (a : Counted T) → ¬ P → TakesNothingIff P a a
none-empty P a never = record { once = λ p. absurd (never p); last = λ p. absurd (never p); others = λ _. refl }

no-failure : (fault : RunFault) → IsOfInput fault → ¬ (IsErrOf {T = Unit {0}} (Err fault) Write)
no-failure (NotUtf8 at) is told = cc told
no-failure (Escape at) is told = cc told
no-failure Range is told = cc told
no-failure (LineTooWide row column) is told = cc told
no-failure Memory is told = cc told
no-failure Read is told = absurd is
no-failure ReadTooLong is told = absurd is
no-failure Write is told = absurd is
no-failure WriteZero is told = absurd is

no-empty : (fault : RunFault) → IsOfInput fault → ¬ (IsErrOf {T = Unit {0}} (Err fault) WriteZero)
no-empty (NotUtf8 at) is told = cc told
no-empty (Escape at) is told = cc told
no-empty Range is told = cc told
no-empty (LineTooWide row column) is told = cc told
no-empty Memory is told = cc told
no-empty Read is told = absurd is
no-empty ReadTooLong is told = absurd is
no-empty Write is told = absurd is
no-empty WriteZero is told = absurd is

module _ {T : Type 0} (contents : T → Option (List ℕ)) (text : List ℕ) where
  -- an error of the input comes before the first byte
  written-none : (fault : RunFault) (a : Counted T) → IsOfInput fault → IsWritten {A = Unit {0}} contents text (Err fault) a a
  written-none fault a of_input = record {
    writes = writes-none (Unit {0}) text (contents (inner_of a)) fault (Err fault) refl of_input;
    writer = record {
      write = none-fails _ a (no-failure fault of_input);
      write_zero = none-empty _ a (no-empty fault of_input);
      only_writes = same-writes a;
    };
    untouched = λ _. refl;
  }

  pub is-written-none : (fault : RunFault) (result : RunAnswer) (a : Counted T) → result ≡ Err fault → IsOfInput fault → IsWritten contents text result a a
  is-written-none fault result a is of_input = subst (λ r. IsWritten contents text r a a) (sym is) (written-none fault a of_input)

  module _ (a b : Counted T) where
    whole : (done : Unit {0}) → HasPassed contents text [] a b → IsWritten {A = Unit {0}} contents text (Ok done) a b
    whole done p = record {
      writes = subst (Appends (contents (inner_of a)) (contents (inner_of b))) (sym (append-nil p.bytes.0) ∙ p.bytes.2) p.bytes.1;
      writer = record {
        write = record { once = λ is. cc is; last = λ is. cc is; others = λ _. p.failures };
        write_zero = record { once = λ is. cc is; last = λ is. cc is; others = λ _. p.empty_writes };
        only_writes = p.only_writes;
      };
      untouched = tt;
    }

    failed : HasStopped contents text Failed a b → IsWritten {A = Unit {0}} contents text (Err Write) a b
    failed q = record {
      writes = front-taken contents text q.bytes.0 q.bytes.1 a b q.bytes.2 q.bytes.3;
      writer = record {
        write = record { once = λ _. q.writer.write.once refl; last = λ _. q.writer.write.last refl; others = λ other. absurd (other refl) };
        write_zero = record { once = λ is. cc is; last = λ is. cc is; others = λ _. q.writer.write_zero.others (λ is. cc is) };
        only_writes = q.writer.only_writes;
      };
      untouched = λ other. absurd (other tt);
    }

    took-nothing : HasStopped contents text TookNothing a b → IsWritten {A = Unit {0}} contents text (Err WriteZero) a b
    took-nothing q = record {
      writes = front-taken contents text q.bytes.0 q.bytes.1 a b q.bytes.2 q.bytes.3;
      writer = record {
        write = record { once = λ is. cc is; last = λ is. cc is; others = λ _. q.writer.write.others (λ is. cc is) };
        write_zero = record { once = λ _. q.writer.write_zero.once refl; last = λ _. q.writer.write_zero.last refl; others = λ other. absurd (other refl) };
        only_writes = q.writer.only_writes;
      };
      untouched = λ other. absurd (other tt);
    }

    begun : (rest : List ℕ) → HasPassed contents text rest a b → IsWritten {A = Unit {0}} contents text (Err Memory) a b
    begun rest p = record {
      writes = front-taken contents text p.bytes.0 rest a b p.bytes.1 p.bytes.2;
      writer = record {
        write = record { once = λ is. cc is; last = λ is. cc is; others = λ _. p.failures };
        write_zero = record { once = λ is. cc is; last = λ is. cc is; others = λ _. p.empty_writes };
        only_writes = p.only_writes;
      };
      untouched = λ other. absurd (other tt);
    }

    untouched : (fault : RunFault) → IsOfInput fault → b ≡ a → IsWritten {A = Unit {0}} contents text (Err fault) a b
    untouched fault of_input same = subst (λ c. IsWritten {A = Unit {0}} contents text (Err fault) a c) (sym same) (written-none fault a of_input)

    module _ (style : Compact) (asked : WidthLimit) (texts : List (List (List ℕ))) where
      answered : (given : Result (Result (Unit {0}) WriteFault) Fault) → Passes contents text given [] a b → (¬ (TextsHaveTable style asked texts) → b ≡ a) → IfErr given (MayRefuseTexts style asked texts)
          → IsWritten contents text (run_answer given) a b
      answered (Ok (Ok done)) passes alone refused = whole done passes
      answered (Ok (Err Failed)) passes alone refused = failed passes
      answered (Ok (Err TookNothing)) passes alone refused = took-nothing passes
      answered (Err NoMemory) passes alone refused = begun passes.0 passes.1
      answered (Err PassesMax) passes alone refused = untouched Range tt (alone (λ has. refused has.fits))
      answered (Err Spans) passes alone refused = absurd refused
      answered (Err (Room row column)) passes alone refused =
          untouched (LineTooWide row column) tt (alone (λ has. let found = sym has.room ∙ refused.1 in cc found))

      pub is-written : (given : Result (Result (Unit {0}) WriteFault) Fault) (result : RunAnswer) → result ≡ run_answer given → Passes contents text given [] a b → (¬ (TextsHaveTable style asked texts) → b ≡ a)
          → IfErr given (MayRefuseTexts style asked texts) → IsWritten contents text result a b
      is-written given result is passes alone refused = subst (λ r. IsWritten contents text r a b) (sym is) (answered given passes alone refused)

-- each result of a table is an error of a table, or none
of-table : (given : Result (Result (Unit {0}) WriteFault) Fault) → IfErr (run_answer given) MayFollowReading
of-table (Ok (Ok done)) = tt
of-table (Ok (Err Failed)) = tt
of-table (Ok (Err TookNothing)) = tt
of-table (Err NoMemory) = tt
of-table (Err PassesMax) = tt
of-table (Err Spans) = tt
of-table (Err (Room row column)) = tt

pub is-of-table : (given : Result (Result (Unit {0}) WriteFault) Fault) (result : RunAnswer) → result ≡ run_answer given → IfErr result MayFollowReading
is-of-table given result is = subst (λ r. IfErr r MayFollowReading) (sym is) (of-table given)

-- and it is none of reading
pub no-read : (result : RunAnswer) → IfErr result MayFollowReading → ¬ (IsErrOf result Read)
no-read result of_table is = subst (λ r. IfErr r MayFollowReading) is of_table

pub no-long-read : (result : RunAnswer) → IfErr result MayFollowReading → ¬ (IsErrOf result ReadTooLong)
no-long-read result of_table is = subst (λ r. IfErr r MayFollowReading) is of_table
