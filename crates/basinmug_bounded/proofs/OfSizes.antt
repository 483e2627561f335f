-- From what was taken of a run to what is printed in memory.
use Rattle.std.proofs.Common.{◌≡◌, ◌∙◌, ◌⊎◌, ◌+◌, ◌≤◌, ◌<◌, ℕ, Bool, true, false, List, [], ◌∷◌, Result, Ok, Err, ap, arith, inl, inr, length, refl, sym, take, if◌then◌else◌, nat_lt}
use Rattle.std.proofs.lemmas.Bool.Decides.{nat_tests}
use Rattle.std.proofs.lemmas.List.{length-take, take_all, take_min}
use Rattle.basinmug_bounded.specs.Outputs.{HasRun, IsBegun, IsNotOfWriter, IsOver, IsPrinted, IsRefused, MayHavePrinted, most_of, size_of, sized, without_writer}
use Rattle.basinmug_bounded.specs.declared.refusal.Refusal.TheVariants.{OverMaxSize}
use Rattle.basinmug_run.specs.declared.fault.RunFault.{RunFault}
use Rattle.basinmug_run.specs.declared.fault.RunFault.TheVariants.{Input, Print, Memory}
use Rattle.basinmug_run.specs.declared.picture.fault.PrintFault.TheVariants.{NoColumn, Table, Memory as NoMemoryToPrint}
use Rattle.basinmug_run.specs.declared.picture.printing.Printed.{Printed}
use Rattle.bounded_output.specs.Filled.{filled}
use Rattle.tabled_output.specs.declared.building.BuildFault.TheVariants.{Table as OfTable, Write, WriteZero}

-- no bytes change nothing
filled-with_none : (memory : List ℕ) → filled memory [] ≡ memory
filled-with_none [] = refl
filled-with_none (byte ∷ memory) = refl

-- a prefix is no longer than the whole
prefix-short : (taken output : List ℕ) (count : ℕ) → taken ≡ take count output → length taken ≤ length output
prefix-short taken output count is = let l : length taken ≡ _ = ap length is ∙ length-take count output in omega (arith, l)

-- and is as many of its first bytes as it has
prefix-counted : (taken output : List ℕ) (count number : ℕ) → taken ≡ take count output → length taken ≡ number → taken ≡ take number output
prefix-counted taken output count number is long =
    is ∙ sym (take_min count output) ∙ ap (λ (n : ℕ). take n output) (sym (length-take count output) ∙ ap length (sym is) ∙ long)

module _ (Prints : Bool → List ℕ → Type 0) (IsFault : RunFault → Type 0) (memory : IsFault Memory) (max_size : ℕ) (old new : List ℕ) (limit count : ℕ) (is-limit : limit ≡ most_of max_size + 1) where
  abbrev Ran : Result Printed RunFault → Type 0
  Ran outcome = HasRun Prints IsFault limit old new outcome count

  -- more bytes are taken than the output may have
  is-over : (outcome : Result Printed RunFault) → Ran outcome → most_of max_size < count → IsOver Prints IsFault max_size old new
  is-over (Ok printed) ran over = record {
    wider = printed.wider;
    output = ran.taken;
    printed = ran.wrote.printed;
    over = let l : count ≡ length ran.taken = ran.counted in omega (arith, over, l);
    written =
        let l : count ≡ length ran.taken = ran.counted in
        let w : count ≤ limit = ran.within in
        ran.written ∙ ap (filled old) (sym (take_all (most_of max_size + 1) ran.taken (omega (arith, l, w, is-limit))));
  }
  is-over (Err fault) ran over = of ran.wrote.begun
    where
      of : (ran.taken ≡ []) ⊎ MayHavePrinted Prints ran.taken → IsOver Prints IsFault max_size old new
      of (inl none) = let l : length ran.taken ≡ 0 = ap length none in let m : count ≡ length ran.taken = ran.counted in absurd (omega (arith, over, l, m))
      of (inr begun) = record {
        wider = begun.wider;
        output = begun.output;
        printed = begun.printed;
        over =
            let short = prefix-short ran.taken begun.output begun.count begun.prefix in
            let l : count ≡ length ran.taken = ran.counted in omega (arith, over, short, l);
        written =
            let l : count ≡ length ran.taken = ran.counted in
            let w : count ≤ limit = ran.within in
            ran.written ∙ ap (filled old) (prefix-counted ran.taken begun.output begun.count (most_of max_size + 1) begun.prefix (omega (arith, over, l, w, is-limit)));
      }

  -- the run failed, and not by its writer, or is said to have failed for memory
  module _ (fault : RunFault) (ran : Ran (Err fault)) where
    unchanged : ran.taken ≡ [] → new ≡ old
    unchanged none = ran.written ∙ ap (filled old) none ∙ filled-with_none old

    begun : IsBegun Prints IsFault max_size old new
    begun = of ran.wrote.begun
      where
        of : (ran.taken ≡ []) ⊎ MayHavePrinted Prints ran.taken → IsBegun Prints IsFault max_size old new
        of (inl none) = inl (unchanged none)
        of (inr begun) = inr (ran.taken, begun, ran.written)

    same : IsNotOfWriter fault → IsRefused Prints IsFault max_size old new fault
    same other = (ran.wrote.refused, other, λ without. unchanged (ran.wrote.untouched without), begun)

    for-memory : IsRefused Prints IsFault max_size old new Memory
    for-memory = (memory, tt, λ no. absurd no, begun)

  is-refused : (fault : RunFault) → Ran (Err fault) → IsRefused Prints IsFault max_size old new (without_writer fault)
  is-refused (Input fault) ran = same (Input fault) ran tt
  is-refused (Print (NoColumn name)) ran = same (Print (NoColumn name)) ran tt
  is-refused (Print (Table (OfTable fault))) ran = same (Print (Table (OfTable fault))) ran tt
  is-refused (Print (Table Write)) ran = for-memory (Print (Table Write)) ran
  is-refused (Print (Table WriteZero)) ran = for-memory (Print (Table WriteZero)) ran
  is-refused (Print NoMemoryToPrint) ran = same (Print NoMemoryToPrint) ran tt
  is-refused Memory ran = same Memory ran tt

  -- the run ended within the greatest size
  within : (outcome : Result Printed RunFault) → Ran outcome → count ≤ most_of max_size → IsPrinted Prints IsFault max_size old new (size_of outcome count)
  within (Ok printed) ran fits = record { output = ran.taken; printed = ran.wrote.printed; size_is = ran.counted; within = fits; written = ran.written }
  within (Err fault) ran fits = is-refused fault ran

  -- what is reported of a run is what is printed
  pub is-printed : (outcome : Result Printed RunFault) → Ran outcome → IsPrinted Prints IsFault max_size old new (sized outcome count (most_of max_size))
  is-printed outcome ran = by (nat_lt (most_of max_size) count) refl
    where
      by : (over : Bool) → nat_lt (most_of max_size) count ≡ over → IsPrinted Prints IsFault max_size old new (if over then Err OverMaxSize else size_of outcome count)
      by true is = is-over outcome ran (grind (arith, nat_tests, is))
      by false is = within outcome ran (grind (arith, nat_tests, is))
