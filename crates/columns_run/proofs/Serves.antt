-- A result that the input may have serves it.
use Rattle.std.proofs.Common.{◌≡◌, ℕ, List, [], ◌++◌, Option, Some, None, Result, Err, IfSome, ap, append-nil, refl, sym, subst, ◌∙◌}
use Rattle.std.specs.Io.KnownBytes.{Appends, Consumes, IsAtEnd, Keeps}
use Rattle.std.proofs.lemmas.Option.{IfSome_then}
use Rattle.program_options.specs.Columns.ColumnColors.{AllClose}
use Rattle.program_options.specs.declared.columns.fault.RunFault.{RunFault}
use Rattle.columns_run.specs.Fault.{IsOfInput}
use Rattle.program_options.specs.declared.columns.fault.RunFault.TheVariants.{Escape, LineTooWide, Memory, NotUtf8, Range, Read, ReadTooLong, Write, WriteZero}
use Rattle.columns_run.specs.DrawnTables.{output_of}
use Rattle.columns_run.specs.Narrow.{HasNarrowGlyphs}
use Rattle.tabled_output.specs.Streams.{ConsumesSome}
use Rattle.columns_run.specs.Run.{MayAnswer, Writes, Serves, LeavesAlone}
use Rattle.columns_run.specs.Wanted.{Wanted}
use Rattle.columns_run.proofs.Pictures.{output-shows_table}

module _ (wanted : Wanted) (narrow : HasNarrowGlyphs wanted.style) (close : AllClose wanted.colors) {T : Type 0} (result : Result T RunFault) (old new : Option (List ℕ)) {W : Type 0} (writer left : W) where
  abbrev Answers : List ℕ → Type 0
  Answers input = MayAnswer wanted input result × Writes (output_of wanted input) result old new × LeavesAlone wanted input writer left

  abbrev Serving : List ℕ → Type 0
  Serving input = Serves wanted input result old new × LeavesAlone wanted input writer left

  serves : (input : List ℕ) → Answers input → Serving input
  serves input answers = (record { answers = answers.0; writes = answers.1; shows = λ has. output-shows_table wanted input narrow close has.0 has.1 }, answers.2)

  pub known : (input : Option (List ℕ)) → IfSome input Answers → IfSome input Serving
  known input answers = IfSome_then input answers serves

  pub some : (before after : Option (List ℕ)) → ConsumesSome before after Answers → ConsumesSome before after Serving
  some before after (bytes, consumes, answers) = (bytes, consumes, serves bytes answers)

-- ---- what was read

-- known bytes that were read to their end are those that were read
pub all-read : (before after : Option (List ℕ)) (bytes : List ℕ) (P : List ℕ → Type 0) → Consumes before after bytes → IsAtEnd after → P bytes → IfSome before P
all-read None after bytes P consumes ends is = tt
all-read (Some xs) None bytes P consumes ends is = absurd consumes
all-read (Some xs) (Some ys) bytes P consumes ends is = subst P (sym (consumes ∙ ap (λ rest. bytes ++ rest) ends ∙ append-nil bytes)) is

-- ---- an error of the input

kept : (old : Option (List ℕ)) → Keeps old old
kept None = tt
kept (Some xs) = refl

nothing_more : (old : Option (List ℕ)) → Appends old old []
nothing_more None = tt
nothing_more (Some xs) = sym (append-nil xs)

-- nothing is written before it
module _ (T : Type 0) (text : List ℕ) (old : Option (List ℕ)) where
  abbrev given : RunFault → Result T RunFault
  given fault = Err fault

  writes-nothing : (fault : RunFault) → IsOfInput fault → Writes text (given fault) old old
  writes-nothing (NotUtf8 at) is = kept old
  writes-nothing (Escape at) is = kept old
  writes-nothing Range is = kept old
  writes-nothing (LineTooWide row column) is = kept old
  writes-nothing Memory is = (0, nothing_more old)
  writes-nothing Read is = absurd is
  writes-nothing ReadTooLong is = absurd is
  writes-nothing Write is = absurd is
  writes-nothing WriteZero is = absurd is

  pub writes-none : (fault : RunFault) (result : Result T RunFault) → result ≡ Err fault → IsOfInput fault → Writes text result old old
  writes-none fault result is of_input = subst (λ r. Writes text r old old) (sym is) (writes-nothing fault of_input)

pub left_alone : {W : Type 0} (wanted : Wanted) (input : List ℕ) (writer : W) → LeavesAlone wanted input writer writer
left_alone wanted input writer = record { no_table = λ _. refl; empty = λ _. refl }
