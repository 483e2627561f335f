-- What a run leaves in memory through a bounded writer.
use Rattle.std.proofs.Common.{◌≡◌, ◌∙◌, ◌≤◌, ◌++◌, ℕ, Bool, List, [], Option, None, Some, Result, ap, ap₂, length, subst}
use Rattle.bounded_output.proofs.Helds.{more-taken, same-limit, same-memory, same-name}
use Rattle.bounded_output.specs.Filled.{filled}
use Rattle.bounded_output.specs.Held.{held_of, limit_of, memory_of, name_of, taken_of}
use Rattle.bounded_output.specs.declared.bounded.Bounded.{Bounded}
use Rattle.basinmug_bounded.specs.Outputs.{HasRun, WroteAfter}
use Rattle.basinmug_run.specs.declared.fault.RunFault.{RunFault}
use Rattle.basinmug_run.specs.declared.picture.printing.Printed.{Printed}

-- the bytes that are known
abbrev bytes_of : Option (List ℕ) → List ℕ
bytes_of None = []
bytes_of (Some bytes) = bytes

module _ (Prints : Bool → List ℕ → Type 0) (IsFault : RunFault → Type 0) (before after : Bounded) (result : Result Printed RunFault)
    (ran : WroteAfter Prints IsFault (Some (held_of after)) result (held_of before)) where
  abbrev grown : held_of after ≡ held_of before ++ ran.taken
  grown = ap bytes_of ran.after

  pub name-stays : name_of after ≡ name_of before
  name-stays = same-name before after ran.taken grown

  module _ (limit : ℕ) (old new : List ℕ) (count : ℕ) (is-limit : limit_of before ≡ limit) (is-memory : memory_of before ≡ old) (took-none : taken_of before ≡ []) where
    abbrev all-taken : taken_of after ≡ ran.taken
    all-taken = more-taken before after ran.taken grown ∙ ap (λ taken. taken ++ ran.taken) took-none

    pub has-run : count ≡ length (taken_of after) → count ≤ limit_of after → new ≡ filled (memory_of after) (taken_of after) → HasRun Prints IsFault limit old new result count
    has-run counted within written = record {
      taken = ran.taken;
      counted = counted ∙ ap length all-taken;
      within = subst (λ (most : ℕ). count ≤ most) (same-limit before after ran.taken grown ∙ is-limit) within;
      written = written ∙ ap₂ filled (same-memory before after ran.taken grown ∙ is-memory) all-taken;
      wrote = ran.wrote;
    }
