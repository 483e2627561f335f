-- A text that is written piece by piece: how far it has come.
use Rattle.std.specs.Prelude.{◌≡◌, ◌<◌, ℕ, List, ◌++◌, length, Option, Result, Ok, Err}
use Rattle.std.specs.Io.KnownBytes.{Appends}
use Rattle.tabled_output.specs.Counts.{inner_of, failures_of, empty_writes_of, OnlyWrites, WritesUntil}
use Rattle.tabled_output.specs.declared.counted.Counted.{Counted}
use Rattle.tabled_output.specs.declared.writing.WriteFault.{WriteFault}
use Rattle.tabled_output.specs.declared.writing.WriteFault.TheVariants.{Write, WriteZero}

-- from `before` to `after` the writer took a prefix of the text, and `rest` is what is left of it; no call was refused,
-- and there was no call before there was a byte to write
pub record HasPassed {T : Type 0} (contents : T → Option (List ℕ)) (text rest : List ℕ) (before after : Counted T) : Type 0 where
  pub bytes : (front : List ℕ) × Appends (contents (inner_of before)) (contents (inner_of after)) front × (front ++ rest ≡ text)
  pub untouched : length bytes.0 ≡ 0 → after ≡ before
  pub failures : failures_of after ≡ failures_of before
  pub empty_writes : empty_writes_of after ≡ empty_writes_of before
  pub only_writes : OnlyWrites before after

-- the writer took a prefix of the text, which has bytes, and then no more for this reason
pub record HasStopped {T : Type 0} (contents : T → Option (List ℕ)) (text : List ℕ) (fault : WriteFault) (before after : Counted T) : Type 0 where
  pub bytes : (front : List ℕ) × (rest : List ℕ) × Appends (contents (inner_of before)) (contents (inner_of after)) front × (front ++ rest ≡ text)
  pub some : 0 < length text
  pub writer : WritesUntil (fault ≡ Write) (fault ≡ WriteZero) before after

-- some prefix of the text was taken, and no call was refused
abbrev pub HasBegun : {T : Type 0} → (T → Option (List ℕ)) → List ℕ → Counted T → Counted T → Type 0
HasBegun contents text before after = (rest : List ℕ) × HasPassed contents text rest before after

-- a step of a text that is written: where `old` was left of `text`, `new` is left of `more` then, or a prefix of `more`
-- was taken
abbrev pub Continues : {T A E : Type 0} → (T → Option (List ℕ)) → List ℕ → List ℕ → Result (Result A WriteFault) E → List ℕ → List ℕ → Counted T → Counted T → Type 0
Continues {T} contents text more (Ok (Ok _)) old new before after = (start : Counted T) → HasPassed contents text old start before → HasPassed contents more new start after
Continues {T} contents text more (Ok (Err fault)) old new before after = (start : Counted T) → HasPassed contents text old start before → HasStopped contents more fault start after
Continues {T} contents text more (Err _) old new before after = (start : Counted T) → HasPassed contents text old start before → HasBegun contents more start after

-- a text is written, except for what is left of it where that is returned; else a prefix of it was taken
abbrev pub Passes : {T A E : Type 0} → (T → Option (List ℕ)) → List ℕ → Result (Result A WriteFault) E → List ℕ → Counted T → Counted T → Type 0
Passes contents text (Ok (Ok _)) rest before after = HasPassed contents text rest before after
Passes contents text (Ok (Err fault)) rest before after = HasStopped contents text fault before after
Passes contents text (Err _) rest before after = HasBegun contents text before after
