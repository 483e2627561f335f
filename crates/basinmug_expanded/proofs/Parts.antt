-- A text that is written part by part.
use Rattle.std.proofs.Common.{◌≡◌, ◌∙◌, refl, ap, sym, subst, ℕ, List, [], ◌++◌, Option, Result, Ok, Err, append-nil}
use Rattle.std.specs.Io.KnownBytes.{Appends}
use Rattle.std.specs.Prelude.{IfErr, IsErrAnd, IsErrOf, OnErr, OnOk}
use Rattle.std.proofs.lemmas.Result.{err_from_is_err_and}
use Rattle.grid_config_values.specs.declared.fault.Fault.TheVariants.{Memory}
use Rattle.tabled_output.specs.Building.{writing_fault}
use Rattle.tabled_output.specs.Counts.{WritesUntil, inner_of}
use Rattle.tabled_output.specs.Pieces.{HasPassed, HasStopped}
use Rattle.tabled_output.specs.Streams.{AppendsFront}
use Rattle.tabled_output.specs.declared.building.BuildFault.{BuildFault}
use Rattle.tabled_output.specs.declared.building.BuildFault.TheVariants.{Table, Write, WriteZero}
use Rattle.tabled_output.specs.declared.counted.Counted.{Counted}
use Rattle.tabled_output.specs.declared.writing.WriteFault.{WriteFault}
use Rattle.tabled_output.specs.declared.writing.WriteFault.TheVariants.{Write as WriteFailed, WriteZero as WriterTookNothing}
use Rattle.tabled_output.proofs.WrittenPieces.{begun-front, front-taken, passed-front, passed-none, passed-on, stopped-front, stopped-on}
use Rattle.basinmug_expanded.specs.Writing.{Writes}

module _ {T : Type 0} (contents : T → Option (List ℕ)) where
  -- a part that is written, and what comes after it
  fronted : (first more : List ℕ) (a b : Counted T) → HasPassed contents first [] a b → HasPassed contents (first ++ more) more a b
  fronted first more a b passed = passed-front contents first [] more (first ++ more) a b refl passed

  pub passed-behind : (first more : List ℕ) (a b c : Counted T) → HasPassed contents first [] a b → HasPassed contents more [] b c → HasPassed contents (first ++ more) [] a c
  passed-behind first more a b c passed step = passed-on contents (first ++ more) more [] a b c (fronted first more a b passed) step

  pub writes-behind : {A : Type 0} (first more : List ℕ) (r : Result A BuildFault) (a b c : Counted T) → HasPassed contents first [] a b → Writes contents more r b c → Writes contents (first ++ more) r a c
  writes-behind first more (Ok done) a b c passed step = passed-behind first more a b c passed step
  writes-behind first more (Err (Table fault)) a b c passed step = (step.0, (step.1.0, passed-on contents (first ++ more) more step.1.0 a b c (fronted first more a b passed) step.1.1))
  writes-behind first more (Err Write) a b c passed step = stopped-on contents (first ++ more) more WriteFailed a b c (fronted first more a b passed) step
  writes-behind first more (Err WriteZero) a b c passed step = stopped-on contents (first ++ more) more WriterTookNothing a b c (fronted first more a b passed) step

  -- where it ends early, more of the text changes nothing
  early : (A B : Type 0) (text more : List ℕ) (fault : BuildFault) (a b : Counted T) → Writes {A = A} contents text (Err fault) a b → Writes {A = B} contents (text ++ more) (Err fault) a b
  early A B text more (Table fault) a b step = (step.0, begun-front contents text more (text ++ more) a b refl step.1)
  early A B text more Write a b step = stopped-front contents text more (text ++ more) WriteFailed a b refl step
  early A B text more WriteZero a b step = stopped-front contents text more (text ++ more) WriterTookNothing a b refl step

  pub nothing-passed : (a : Counted T) → HasPassed contents [] [] a a
  nothing-passed a = passed-none contents [] a

  -- a refusal that is passed on, of a part after another
  pub handed-on : {A : Type 0} (B : Type 0) (first part more whole : List ℕ) (r : Result A BuildFault) (fault : BuildFault) (a b c : Counted T) → whole ≡ (first ++ part) ++ more → IsErrAnd r (λ given. given ≡ fault)
      → HasPassed contents first [] a b → Writes {A = B} contents part (Err fault) b c → Writes contents whole r a c
  handed-on {A} B first part more whole r fault a b c is refused passed step =
      let told = err_from_is_err_and r refused in
      let same : r ≡ Err fault = told.1 ∙ ap (λ given. Err given) told.2 in
      subst (λ r. Writes contents whole r a c) (sym same)
      (subst (λ text. Writes {A = A} contents text (Err fault) a c) (sym is) (early B A (first ++ part) more fault a c (writes-behind {A = B} first part (Err fault) a b c passed step)))

  -- want of memory, after a part that is written
  pub no-memory : {A : Type 0} (first more whole : List ℕ) (r : Result A BuildFault) (a b : Counted T) → whole ≡ first ++ more → IsErrAnd r (λ given. given ≡ Table Memory) → HasPassed contents first [] a b → Writes contents whole r a b
  no-memory {A} first more whole r a b is refused passed =
      let told = err_from_is_err_and r refused in
      let same : r ≡ Err (Table Memory) = told.1 ∙ ap (λ given. Err given) told.2 in
      subst (λ r. Writes contents whole r a b) (sym same)
      (subst (λ text. Writes {A = A} contents text (Err (Table Memory)) a b) (sym is) (refl, (more, fronted first more a b passed)))

  -- want of memory before anything is written
  pub no-memory_first : {A : Type 0} (whole : List ℕ) (r : Result A BuildFault) (a : Counted T) → IsErrAnd r (λ given. given ≡ Table Memory) → Writes contents whole r a a
  no-memory_first whole r a refused = no-memory [] whole whole r a a refl refused (nothing-passed a)

  stopped : (A : Type 0) (text : List ℕ) (fault : WriteFault) (a b : Counted T) → HasStopped contents text fault a b → Writes {A = A} contents text (Err (writing_fault fault)) a b
  stopped A text WriteFailed a b step = step
  stopped A text WriterTookNothing a b step = step

  -- an error of the writer
  pub by-writer : {A : Type 0} (text : List ℕ) (r : Result A BuildFault) (fault : WriteFault) (a b : Counted T) → IsErrAnd r (λ given. given ≡ writing_fault fault) → HasStopped contents text fault a b → Writes contents text r a b
  by-writer {A} text r fault a b refused step =
      let told = err_from_is_err_and r refused in
      let same : r ≡ Err (writing_fault fault) = told.1 ∙ ap (λ given. Err given) told.2 in
      subst (λ r. Writes contents text r a b) (sym same) (stopped A text fault a b step)

-- ---- what is reported of a text that was written

-- want of memory, or an error of the writer
abbrev pub IsLate : BuildFault → Type 0
IsLate (Table fault) = fault ≡ Memory
IsLate Write = Unit {0}
IsLate WriteZero = Unit {0}

in-other-words : {T : Type 0} (P Q R S : Type 0) (a b : Counted T) → (P → R) → (R → P) → (Q → S) → (S → Q) → WritesUntil P Q a b → WritesUntil R S a b
in-other-words P Q R S a b p-to p-from q-to q-from is = record {
  write = record { once = λ r. is.write.once (p-from r); last = λ r. is.write.last (p-from r); others = λ out. is.write.others (λ p. out (p-to p)) };
  write_zero = record { once = λ s. is.write_zero.once (q-from s); last = λ s. is.write_zero.last (q-from s); others = λ out. is.write_zero.others (λ q. out (q-to q)) };
  only_writes = is.only_writes;
}

module _ {T : Type 0} (contents : T → Option (List ℕ)) (text : List ℕ) (a b : Counted T) where
  passed-until : (P Q : Type 0) (rest : List ℕ) → ¬ P → ¬ Q → HasPassed contents text rest a b → WritesUntil P Q a b
  passed-until P Q rest no-failure no-zero passed = record {
    write = record { once = λ is. absurd (no-failure is); last = λ is. absurd (no-failure is); others = λ out. passed.failures };
    write_zero = record { once = λ is. absurd (no-zero is); last = λ is. absurd (no-zero is); others = λ out. passed.empty_writes };
    only_writes = passed.only_writes;
  }

module _ {T A : Type 0} (contents : T → Option (List ℕ)) (text : List ℕ) (a b : Counted T) where
  abbrev given : BuildFault → Result A BuildFault
  given fault = Err fault

  named : (fault other : BuildFault) → given fault ≡ given other → fault ≡ other
  named fault other is = cc is

  pub written-whole : (r : Result A BuildFault) → Writes contents text r a b → OnOk r (Appends (contents (inner_of a)) (contents (inner_of b)) text)
  written-whole (Ok done) passed = subst (Appends (contents (inner_of a)) (contents (inner_of b))) (sym (append-nil passed.bytes.0) ∙ passed.bytes.2) passed.bytes.1
  written-whole (Err fault) step = tt

  pub written-front : (r : Result A BuildFault) → Writes contents text r a b → OnErr r (AppendsFront (contents (inner_of a)) (contents (inner_of b)) text)
  written-front (Ok done) step = tt
  written-front (Err (Table fault)) step = front-taken contents text step.1.1.bytes.0 step.1.0 a b step.1.1.bytes.1 step.1.1.bytes.2
  written-front (Err Write) step = front-taken contents text step.bytes.0 step.bytes.1 a b step.bytes.2 step.bytes.3
  written-front (Err WriteZero) step = front-taken contents text step.bytes.0 step.bytes.1 a b step.bytes.2 step.bytes.3

  pub written-late : (r : Result A BuildFault) → Writes contents text r a b → IfErr r IsLate
  written-late (Ok done) step = tt
  written-late (Err (Table fault)) step = step.0
  written-late (Err Write) step = tt
  written-late (Err WriteZero) step = tt

  pub written-until : (r : Result A BuildFault) → Writes contents text r a b → WritesUntil (IsErrOf r Write) (IsErrOf r WriteZero) a b
  written-until (Ok done) step = passed-until contents text a b _ _ [] (λ is. cc is) (λ is. cc is) step
  written-until (Err (Table fault)) step =
      passed-until contents text a b _ _ step.1.0 (λ is. let it : Table fault ≡ Write = named (Table fault) Write is in cc it) (λ is. let it : Table fault ≡ WriteZero = named (Table fault) WriteZero is in cc it) step.1.1
  written-until (Err Write) step =
      in-other-words (WriteFailed ≡ WriteFailed) (WriteFailed ≡ WriterTookNothing) _ _ a b (λ is. refl) (λ is. refl)
      (λ is. absurd (let it : WriteFailed ≡ WriterTookNothing = is in cc it)) (λ is. absurd (let it : Write ≡ WriteZero = named Write WriteZero is in cc it)) step.writer
  written-until (Err WriteZero) step =
      in-other-words (WriterTookNothing ≡ WriteFailed) (WriterTookNothing ≡ WriterTookNothing) _ _ a b (λ is. absurd (let it : WriterTookNothing ≡ WriteFailed = is in cc it))
      (λ is. absurd (let it : WriteZero ≡ Write = named WriteZero Write is in cc it)) (λ is. refl) (λ is. refl) step.writer
