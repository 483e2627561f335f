-- What is built of a text, with more after it.
use Rattle.std.proofs.Common.{◌≡◌, ◌⊎◌, inl, inr, ◌∙◌, ◌++◌, ℕ, List, [], Option, Result, Ok, Err, ap, append-nil, refl, subst, sym}
use Rattle.std.specs.Prelude.{IsErrAnd, IsErrOf}
use Rattle.std.specs.Io.KnownBytes.{Appends}
use Rattle.std.proofs.KnownBytes.{Appends-trans}
use Rattle.tabled.specs.Printing.{IsFitsAnswer}
use Rattle.tabled.specs.Writing.{FitsOrIsRefused, IsBuilt}
use Rattle.tabled_output.specs.Building.{writing_fault}
use Rattle.tabled_output.specs.declared.building.BuildFault.{BuildFault}
use Rattle.tabled_output.specs.declared.building.BuildFault.TheVariants.{Write, WriteZero}
use Rattle.tabled_output.specs.Counts.{inner_of, failures_of, empty_writes_of, next_count, OnlyWrites, WritesUntil}
use Rattle.tabled_output.specs.Pieces.{HasPassed, HasStopped}
use Rattle.tabled_output.specs.Streams.{AppendsFront}
use Rattle.tabled_output.specs.declared.counted.Counted.{Counted}
use Rattle.tabled_output.specs.declared.writing.WriteFault.{WriteFault}
use Rattle.tabled_output.specs.declared.writing.WriteFault.TheVariants.{Write as Failed, WriteZero as TookNothing}
use Rattle.tabled_output.proofs.WrittenPieces.{then-writes}
use Rattle.tabled_steps.specs.States.{State}
use Rattle.basinmug_run.proofs.PictureLemmas.Behind.{front-behind, front-of-more}

abbrev Built : Type 0
Built = Result (Unit {0}) BuildFault

abbrev built : Unit {0} → Built
built done = Ok done

abbrev refused : BuildFault → Built
refused fault = Err fault

-- ---- how the writer is used

module _ {T : Type 0} (a b c : Counted T) where
  -- calls that were not refused, and then further calls
  further : (P Q : Type 0) → failures_of b ≡ failures_of a → empty_writes_of b ≡ empty_writes_of a → OnlyWrites a b → WritesUntil P Q b c → WritesUntil P Q a c
  further P Q failures empty only it = record {
    write = record { once = λ is. it.write.once is ∙ ap next_count failures; last = it.write.last; others = λ out. it.write.others out ∙ failures };
    write_zero = record { once = λ is. it.write_zero.once is ∙ ap next_count empty; last = it.write_zero.last; others = λ out. it.write_zero.others out ∙ empty };
    only_writes = then-writes a b c only it.only_writes;
  }

  pub built-then : (P Q : Type 0) (done : Unit {0}) → WritesUntil (IsErrOf (built done) Write) (IsErrOf (built done) WriteZero) a b → WritesUntil P Q b c → WritesUntil P Q a c
  built-then P Q done first it = further P Q (first.write.others (λ is. cc is)) (first.write_zero.others (λ is. cc is)) first.only_writes it

  pub passed-then : (contents : T → Option (List ℕ)) (text rest : List ℕ) (P Q : Type 0) → HasPassed contents text rest a b → WritesUntil P Q b c → WritesUntil P Q a c
  passed-then contents text rest P Q first it = further P Q first.failures first.empty_writes first.only_writes it

module _ {T : Type 0} (contents : T → Option (List ℕ)) (text : List ℕ) (a b : Counted T) where
  writer-passed : (done : Unit {0}) (rest : List ℕ) → HasPassed contents text rest a b → WritesUntil (IsErrOf (built done) Write) (IsErrOf (built done) WriteZero) a b
  writer-passed done rest p = record {
    write = record { once = λ is. cc is; last = λ is. cc is; others = λ _. p.failures };
    write_zero = record { once = λ is. cc is; last = λ is. cc is; others = λ _. p.empty_writes };
    only_writes = p.only_writes;
  }

  writer-stopped : (fault : WriteFault) → HasStopped contents text fault a b → WritesUntil (IsErrOf (refused (writing_fault fault)) Write) (IsErrOf (refused (writing_fault fault)) WriteZero) a b
  writer-stopped Failed q = record {
    write = record { once = λ _. q.writer.write.once refl; last = λ _. q.writer.write.last refl; others = λ no. absurd (no refl) };
    write_zero = record { once = λ is. cc is; last = λ is. cc is; others = λ _. q.writer.write_zero.others (λ is. cc is) };
    only_writes = q.writer.only_writes;
  }
  writer-stopped TookNothing q = record {
    write = record { once = λ is. cc is; last = λ is. cc is; others = λ _. q.writer.write.others (λ is. cc is) };
    write_zero = record { once = λ _. q.writer.write_zero.once refl; last = λ _. q.writer.write_zero.last refl; others = λ no. absurd (no refl) };
    only_writes = q.writer.only_writes;
  }

  -- what a piece that is not taken whole makes of the writer
  pub piece-refused : (fault : WriteFault) (r : Built) → IsErrAnd r (λ e. e ≡ writing_fault fault) → HasStopped contents text fault a b → WritesUntil (IsErrOf r Write) (IsErrOf r WriteZero) a b
  piece-refused fault (Ok done) told q = absurd told
  piece-refused fault (Err e) told q = subst (λ f. WritesUntil (IsErrOf (refused f) Write) (IsErrOf (refused f) WriteZero) a b) (sym told) (writer-stopped fault q)

-- ---- a text and more after it

module _ {T : Type 0} (contents : T → Option (List ℕ)) (s : State) (text more : List ℕ) where
  -- what stops a text stops it with more after it
  longer : (a b : Counted T) → (b ≡ a) ⊎ (IsFitsAnswer s (Ok tt) × AppendsFront (contents (inner_of a)) (contents (inner_of b)) text)
      → (b ≡ a) ⊎ (IsFitsAnswer s (Ok tt) × AppendsFront (contents (inner_of a)) (contents (inner_of b)) (text ++ more))
  longer a b (inl same) = inl same
  longer a b (inr front) = inr (front.0, front-of-more _ _ text more front.1)

  pub built-so-far : (fault : BuildFault) (r : Built) (a b : Counted T) → IsErrAnd r (λ e. e ≡ fault) → IsBuilt contents s text (Err fault) a b → IsBuilt contents s (text ++ more) r a b
  built-so-far fault (Ok done) a b told it = absurd told
  built-so-far fault (Err e) a b told it =
      subst (λ f. IsBuilt contents s (text ++ more) (Err f) a b) (sym told) (record { whole = tt; front = longer a b it.front; writer = it.writer })

  -- more is written after a text
  pub built-behind : (done last : Unit {0}) (a b c : Counted T) → IsBuilt contents s text (Ok done) a b → HasPassed contents more [] b c → IsBuilt contents s (text ++ more) (Ok last) a c
  built-behind done last a b c first p = record {
    whole = Appends-trans (contents (inner_of a)) (contents (inner_of b)) (contents (inner_of c)) text more first.whole
        (subst (Appends (contents (inner_of b)) (contents (inner_of c))) (sym (append-nil p.bytes.0) ∙ p.bytes.2) p.bytes.1);
    front = tt;
    writer = built-then a b c _ _ done first.writer (writer-passed contents more b c last [] p);
  }

  -- or it is stopped there
  pub built-in-part : (fault : WriteFault) (r : Built) (done : Unit {0}) (a b c : Counted T) → IsErrAnd r (λ e. e ≡ writing_fault fault) → IsFitsAnswer s (Ok tt) → IsBuilt contents s text (Ok done) a b
      → HasStopped contents more fault b c → IsBuilt contents s (text ++ more) r a c
  built-in-part fault (Ok x) done a b c told fit first q = absurd told
  built-in-part fault (Err e) done a b c told fit first q =
      subst (λ f. IsBuilt contents s (text ++ more) (Err f) a c) (sym told)
      (record {
        whole = tt;
        front = inr (fit, front-behind contents text more a b c first.whole q.bytes.0 q.bytes.1 q.bytes.2 q.bytes.3);
        writer = built-then a b c _ _ done first.writer (writer-stopped contents more b c fault q);
      })

-- a refusal that is handed on
pub refused-so : (s : State) (fault : BuildFault) (r : Built) → IsErrAnd r (λ e. e ≡ fault) → FitsOrIsRefused s (Err fault) → FitsOrIsRefused s r
refused-so s fault (Ok done) told it = absurd told
refused-so s fault (Err e) told it = subst (λ f. FitsOrIsRefused s (Err f)) (sym told) it
