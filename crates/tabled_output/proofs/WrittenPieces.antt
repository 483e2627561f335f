-- The progress of a text that is written piece by piece.
use Rattle.std.proofs.Common.{◌≡◌, ◌≢◌, ◌+◌, ℕ, List, [], ◌++◌, Option, Result, Ok, Err, append_assoc, append-nil, arith, length, length-append, take, drop, take-append-drop, refl, ap, sym, ◌∙◌, subst}
use Rattle.std.proofs.Math.Seq.{take-append_seam}
use Rattle.std.proofs.KnownBytes.{Appends-nil, Appends-trans}
use Rattle.std.specs.Prelude.{IfErr, IsErr, IsErrOf, OnOk}
use Rattle.std.specs.Io.KnownBytes.{Appends}
use Rattle.tabled_output.specs.Pieces.{HasBegun, HasPassed, HasStopped, Passes}
use Rattle.tabled_output.specs.Counts.{inner_of, failures_of, empty_writes_of, next_count, FailsIff, OnlyWrites, TakesNothingIff, WritesUntil}
use Rattle.tabled_output.specs.Streams.{AppendsFront}
use Rattle.tabled_output.specs.declared.counted.Counted.{Counted}
use Rattle.tabled_output.specs.declared.writing.WriteFault.{WriteFault}
use Rattle.tabled_output.specs.declared.writing.WriteFault.TheVariants.{Write, WriteZero}

-- a count that goes up is another one
next-moves : (n : ℕ) → n ≢ next_count n
next-moves n same = omega (arith, same)

abbrev given : WriteFault → Result (Unit {0}) WriteFault
given fault = Err fault

same-writes : {T : Type 0} (a : Counted T) → OnlyWrites a a
same-writes a = record { writes_of_nothing = refl; pieces_read = refl; ends = refl; flushes = refl }

pub then-writes : {T : Type 0} (a b c : Counted T) → OnlyWrites a b → OnlyWrites b c → OnlyWrites a c
then-writes a b c p q = record {
  writes_of_nothing = q.writes_of_nothing ∙ p.writes_of_nothing;
  pieces_read = q.pieces_read ∙ p.pieces_read;
  ends = q.ends ∙ p.ends;
  flushes = q.flushes ∙ p.flushes;
}

module _ {T : Type 0} (contents : T → Option (List ℕ)) where
  -- nothing was written yet
  pub passed-none : (text : List ℕ) (a : Counted T) → HasPassed contents text text a a
  passed-none text a = record {
    bytes = ([], Appends-nil (contents (inner_of a)), refl);
    untouched = λ none. refl;
    failures = refl;
    empty_writes = refl;
    only_writes = same-writes a;
  }

  -- more text, and as much more of it left
  pub passed-by : (text old more new : List ℕ) (a b : Counted T) → ((front : List ℕ) → front ++ old ≡ text → front ++ new ≡ more)
      → HasPassed contents text old a b → HasPassed contents more new a b
  passed-by text old more new a b step p = record {
    bytes = (p.bytes.0, p.bytes.1, step p.bytes.0 p.bytes.2);
    untouched = p.untouched;
    failures = p.failures;
    empty_writes = p.empty_writes;
    only_writes = p.only_writes;
  }

  -- a prefix of a prefix
  pub passed-front : (text rest more whole : List ℕ) (a b : Counted T) → whole ≡ text ++ more → HasPassed contents text rest a b → HasPassed contents whole (rest ++ more) a b
  passed-front text rest more whole a b is p =
      passed-by text rest whole (rest ++ more) a b (λ front joined. sym (append_assoc front rest more) ∙ ap (λ l. l ++ more) joined ∙ sym is) p

  -- what was left was written in part
  pub passed-on : (text old new : List ℕ) (a b c : Counted T) → HasPassed contents text old a b → HasPassed contents old new b c → HasPassed contents text new a c
  passed-on text old new a b c p q = record {
    bytes = (
      p.bytes.0 ++ q.bytes.0,
      Appends-trans (contents (inner_of a)) (contents (inner_of b)) (contents (inner_of c)) p.bytes.0 q.bytes.0 p.bytes.1 q.bytes.1,
      append_assoc p.bytes.0 q.bytes.0 new ∙ ap (λ l. p.bytes.0 ++ l) q.bytes.2 ∙ p.bytes.2,
    );
    untouched = λ none.
        let parts = length-append p.bytes.0 q.bytes.0 in
        q.untouched (omega (arith, none, parts)) ∙ p.untouched (omega (arith, none, parts));
    failures = q.failures ∙ p.failures;
    empty_writes = q.empty_writes ∙ p.empty_writes;
    only_writes = then-writes a b c p.only_writes q.only_writes;
  }

  fails-behind : (P : Type 0) (a b c : Counted T) → failures_of b ≡ failures_of a → FailsIff P b c → FailsIff P a c
  fails-behind P a b c same q = record {
    once = λ p. q.once p ∙ ap next_count same;
    last = q.last;
    others = λ no. q.others no ∙ same;
  }

  takes-behind : (P : Type 0) (a b c : Counted T) → empty_writes_of b ≡ empty_writes_of a → TakesNothingIff P b c → TakesNothingIff P a c
  takes-behind P a b c same q = record {
    once = λ p. q.once p ∙ ap next_count same;
    last = q.last;
    others = λ no. q.others no ∙ same;
  }

  pub stopped-on : (text old : List ℕ) (fault : WriteFault) (a b c : Counted T) → HasPassed contents text old a b → HasStopped contents old fault b c → HasStopped contents text fault a c
  stopped-on text old fault a b c p q = record {
    bytes = (
      p.bytes.0 ++ q.bytes.0,
      q.bytes.1,
      Appends-trans (contents (inner_of a)) (contents (inner_of b)) (contents (inner_of c)) p.bytes.0 q.bytes.0 p.bytes.1 q.bytes.2,
      append_assoc p.bytes.0 q.bytes.0 q.bytes.1 ∙ ap (λ l. p.bytes.0 ++ l) q.bytes.3 ∙ p.bytes.2,
    );
    some =
        let joined : length p.bytes.0 + length old ≡ length text = sym (length-append p.bytes.0 old) ∙ ap length p.bytes.2 in
        omega (arith, joined, q.some);
    writer = record {
      write = fails-behind (fault ≡ Write) a b c p.failures q.writer.write;
      write_zero = takes-behind (fault ≡ WriteZero) a b c p.empty_writes q.writer.write_zero;
      only_writes = then-writes a b c p.only_writes q.writer.only_writes;
    };
  }

  pub stopped-front : (text more whole : List ℕ) (fault : WriteFault) (a b : Counted T) → whole ≡ text ++ more → HasStopped contents text fault a b → HasStopped contents whole fault a b
  stopped-front text more whole fault a b is q = record {
    bytes = (q.bytes.0, q.bytes.1 ++ more, q.bytes.2, sym (append_assoc q.bytes.0 q.bytes.1 more) ∙ ap (λ l. l ++ more) q.bytes.3 ∙ sym is);
    some =
        let joined : length whole ≡ length text + length more = ap length is ∙ length-append text more in
        omega (arith, joined, q.some);
    writer = q.writer;
  }

  pub begun-front : (text more whole : List ℕ) (a b : Counted T) → whole ≡ text ++ more → HasBegun contents text a b → HasBegun contents whole a b
  begun-front text more whole a b is begun = (begun.0 ++ more, passed-front text begun.0 more whole a b is begun.1)

  -- by the number of bytes
  pub front-taken : (text front rest : List ℕ) (a b : Counted T) → Appends (contents (inner_of a)) (contents (inner_of b)) front → front ++ rest ≡ text → AppendsFront (contents (inner_of a)) (contents (inner_of b)) text
  front-taken text front rest a b took is =
      let same : front ≡ take (length front) text = sym (take-append_seam front rest) ∙ ap (take (length front)) is in
      (length front, subst (Appends (contents (inner_of a)) (contents (inner_of b))) same took)

  none-passed : (text rest : List ℕ) (a b : Counted T) → HasPassed contents text rest a b → length text ≡ 0 → b ≡ a
  none-passed text rest a b p none =
      let joined : length p.bytes.0 + length rest ≡ length text = sym (length-append p.bytes.0 rest) ∙ ap length p.bytes.2 in
      p.untouched (omega (arith, joined, none))

  -- of a text without bytes nothing is written
  pub passes-nothing : {A E : Type 0} (text rest : List ℕ) (result : Result (Result A WriteFault) E) (a b : Counted T) → Passes contents text result rest a b → length text ≡ 0 → b ≡ a
  passes-nothing text rest (Ok (Ok done)) a b passed none = none-passed text rest a b passed none
  passes-nothing text rest (Ok (Err fault)) a b stopped none = absurd (omega (arith, none, stopped.some))
  passes-nothing text rest (Err refused) a b begun none = none-passed text begun.0 a b begun.1 none

  -- ---- by what is returned

  pub passes-refused : {A E : Type 0} (text rest : List ℕ) (result : Result (Result A WriteFault) E) (a b : Counted T) → IsErr result → HasBegun contents text a b → Passes contents text result rest a b
  passes-refused text rest (Ok (Ok done)) a b is begun = cc is
  passes-refused text rest (Ok (Err fault)) a b is begun = cc is
  passes-refused text rest (Err refused) a b is begun = begun

  -- where there is no memory before the first byte
  pub passes-none : {A E : Type 0} (text rest : List ℕ) (result : Result (Result A WriteFault) E) (a : Counted T) → IsErr result → Passes contents text result rest a a
  passes-none text rest result a is = passes-refused text rest result a a is (text, passed-none text a)

  pub passes-ok : {A : Type 0} (E : Type 0) (text rest : List ℕ) (written : Result A WriteFault) (done : A) (a b : Counted T) → written ≡ Ok done → Passes {E = E} contents text (Ok written) rest a b → HasPassed contents text rest a b
  passes-ok E text rest written done a b is passes = subst (λ w. Passes {E = E} contents text (Ok w) rest a b) is passes

  pub passes-err : {A : Type 0} (E : Type 0) (text rest : List ℕ) (written : Result A WriteFault) (fault : WriteFault) (a b : Counted T) → written ≡ Err fault → Passes {E = E} contents text (Ok written) rest a b
      → HasStopped contents text fault a b
  passes-err E text rest written fault a b is passes = subst (λ w. Passes {E = E} contents text (Ok w) rest a b) is passes

  -- whatever other refusals there are
  pub passes-answered : {A : Type 0} (E F : Type 0) (text rest : List ℕ) (written : Result A WriteFault) (a b : Counted T) → Passes {E = E} contents text (Ok written) rest a b → Passes {E = F} contents text (Ok written) rest a b
  passes-answered E F text rest (Ok done) a b passes = passes
  passes-answered E F text rest (Err fault) a b passes = passes

  -- the last piece of a text
  pub passes-last : (E : Type 0) (text rest new : List ℕ) (written : Result (Unit {0}) WriteFault) (a b c : Counted T) → HasPassed contents text rest a b
      → OnOk written (HasPassed contents rest new b c) → OnOk written (new ≡ []) → IfErr written (λ fault. HasStopped contents rest fault b c) → Passes {E = E} contents text (Ok written) [] a c
  passes-last E text rest new (Ok done) a b c before passed empty stopped = subst (λ left. HasPassed contents text left a c) empty (passed-on text rest new a b c before passed)
  passes-last E text rest new (Err fault) a b c before passed empty stopped = stopped-on text rest fault a b c before stopped

  -- ---- a piece that is written whole

  pub piece-passed : (result : Result (Unit {0}) WriteFault) (text : List ℕ) (a b : Counted T) → OnOk result (Appends (contents (inner_of a)) (contents (inner_of b)) text)
      → (length text ≡ 0 → b ≡ a) → WritesUntil (IsErrOf result Write) (IsErrOf result WriteZero) a b → OnOk result (HasPassed contents text [] a b)
  piece-passed (Ok done) text a b took nothing until = record {
    bytes = (text, took, append-nil text);
    untouched = nothing;
    failures = until.write.others (λ is. cc is);
    empty_writes = until.write_zero.others (λ is. cc is);
    only_writes = until.only_writes;
  }
  piece-passed (Err fault) text a b took nothing until = tt

  -- a call that was refused was counted
  counted : (fault : WriteFault) (a b : Counted T) → WritesUntil (IsErrOf (given fault) Write) (IsErrOf (given fault) WriteZero) a b → b ≢ a
  counted Write a b until same = next-moves (failures_of a) (sym (ap failures_of same) ∙ until.write.once refl)
  counted WriteZero a b until same = next-moves (empty_writes_of a) (sym (ap empty_writes_of same) ∙ until.write_zero.once refl)

  pub piece-stopped : (result : Result (Unit {0}) WriteFault) (text : List ℕ) (a b : Counted T) → AppendsFront (contents (inner_of a)) (contents (inner_of b)) text
      → (length text ≡ 0 → b ≡ a) → WritesUntil (IsErrOf result Write) (IsErrOf result WriteZero) a b → IfErr result (λ fault. HasStopped contents text fault a b)
  piece-stopped (Ok done) text a b took nothing until = tt
  piece-stopped (Err fault) text a b took nothing until = record {
    bytes = (take took.0 text, drop took.0 text, took.1, take-append-drop took.0 text);
    some =
        let some : length text ≢ 0 = λ none. counted fault a b until (nothing none) in
        omega (arith, some);
    writer = record {
      write = record { once = λ is. until.write.once (ap (λ f. Err f) is); last = λ is. until.write.last (ap (λ f. Err f) is); others = λ no. until.write.others (λ is. no (cc is)) };
      write_zero = record { once = λ is. until.write_zero.once (ap (λ f. Err f) is); last = λ is. until.write_zero.last (ap (λ f. Err f) is); others = λ no. until.write_zero.others (λ is. no (cc is)) };
      only_writes = until.only_writes;
    };
  }
