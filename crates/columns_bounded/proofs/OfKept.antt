-- From what a run wrote into a writer that keeps bytes up to a limit, to the table.
use Rattle.std.proofs.Common.{◌≡◌, ◌∙◌, ◌<◌, ◌++◌, ℕ, List, [], ◌∷◌, Result, Ok, Err, Some, ap, arith, length, take}
use Rattle.std.proofs.lemmas.List.{length-take}
use Rattle.std.specs.Io.KnownBytes.{Appends}
use Rattle.columns_bounded.specs.Kept.{IsNotKept, fault_over, held_of, taken_of}
use Rattle.columns_bounded.specs.declared.kept.Kept.{Kept}
use Rattle.columns_run.specs.DrawnTables.{output_of}
use Rattle.columns_run.specs.Run.{Serves}
use Rattle.columns_run.specs.Wanted.{Wanted}
use Rattle.program_options.specs.declared.columns.fault.RunFault.{RunFault}
use Rattle.program_options.specs.declared.columns.fault.RunFault.TheVariants.{Read, ReadTooLong, NotUtf8, Escape, Range, LineTooWide, Write, WriteZero, Memory}

-- the first of a list, and what is after it
abbrev head_of : List ℕ → ℕ
head_of [] = 0
head_of (x ∷ xs) = x

abbrev rest_of : List ℕ → List ℕ
rest_of [] = []
rest_of (x ∷ xs) = xs

module _ (most : ℕ) (before after : Kept) (begun : held_of before ≡ most ∷ []) where
  -- a writer that took some bytes has the limit that it had, and if they are more than that, so is a text that they begin
  over : (bytes : List ℕ) → Appends (Some (held_of before)) (Some (held_of after)) bytes → after.most < length (taken_of after) → most < length bytes
  over bytes grown more =
      let held : held_of after ≡ most ∷ bytes = grown ∙ ap (λ first. first ++ bytes) begun in
      let same : after.most ≡ most = ap head_of held in
      let long : length (taken_of after) ≡ length bytes = ap (λ known. length (rest_of known)) held in omega (arith, more, same, long)

  module _ (wanted : Wanted) (text : List ℕ) where
    abbrev output : List ℕ
    output = output_of wanted text

    over-some : (count : ℕ) → Appends (Some (held_of before)) (Some (held_of after)) (take count output) → after.most < length (taken_of after) → most < length output
    over-some count grown more =
        let passed = over (take count output) grown more in let long : length (take count output) ≡ _ = length-take count output in omega (arith, passed, long)

    -- a run that wrote into it is reported so: it is of a table that has more bytes, or of none
    pub is-over : (result : Result (Unit {0}) RunFault) → Serves wanted text result (Some (held_of before)) (Some (held_of after)) →
        after.most < length (taken_of after) → IsNotKept wanted most text (fault_over result)
    is-over (Ok done) served more = (served.answers, over output served.writes more)
    is-over (Err Write) served more = (served.answers, over-some served.writes.0 served.writes.1 more)
    is-over (Err WriteZero) served more = (served.answers, over-some served.writes.0 served.writes.1 more)
    is-over (Err Read) served more = (served.answers, λ no. no)
    is-over (Err ReadTooLong) served more = (served.answers, λ no. no)
    is-over (Err (NotUtf8 place)) served more = (served.answers, λ no. no)
    is-over (Err (Escape place)) served more = (served.answers, λ no. no)
    is-over (Err Range) served more = (served.answers, λ no. no)
    is-over (Err (LineTooWide row column)) served more = (served.answers, λ no. no)
    is-over (Err Memory) served more = (served.answers, λ no. no)
