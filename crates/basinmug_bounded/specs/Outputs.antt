-- What a run writes, and how much of it is written into memory.
use Rattle.std.specs.Prelude.{◌≡◌, ◌⊎◌, ◌≤◌, ◌<◌, ◌+◌, ◌-◌, ◌^◌, ⊤, ℕ, Bool, List, [], ◌++◌, Option, Some, Result, Ok, Err, IfErr, IfOk, OnErr, if◌then◌else◌, length, min, nat_lt, take}
use Rattle.basinmug_bounded.specs.declared.printing.Size.{Size}
use Rattle.basinmug_bounded.specs.declared.refusal.Refusal.{Refusal}
use Rattle.basinmug_bounded.specs.declared.refusal.Refusal.TheVariants.{Request, List as OfList, Cell, Run, OverMaxSize}
use Rattle.basinmug_run.specs.Runs.{IsRunWithoutText}
use Rattle.basinmug_run.specs.declared.fault.RunFault.{RunFault}
use Rattle.basinmug_run.specs.declared.fault.RunFault.TheVariants.{Print, Memory}
use Rattle.basinmug_run.specs.declared.picture.fault.PrintFault.TheVariants.{Table}
use Rattle.basinmug_run.specs.declared.picture.printing.Printed.{Printed}
use Rattle.bounded_output.specs.Filled.{filled}
use Rattle.tabled_output.specs.declared.building.BuildFault.TheVariants.{Write, WriteZero}

-- ---- what is written

-- `Prints` says what a run writes, whether its table is wider than requested or not
module _ (Prints : Bool → List ℕ → Type 0) where
  -- this is a prefix of what it may write
  pub record MayHavePrinted (taken : List ℕ) : Type 0 where
    pub wider : Bool
    pub output : List ℕ
    pub printed : Prints wider output
    pub count : ℕ
    pub prefix : taken ≡ take count output

-- and `IsFault` why it fails
module _ (Prints : Bool → List ℕ → Type 0) (IsFault : RunFault → Type 0) where
  -- a run returned this, and wrote that: all of it; if it failed a prefix, or nothing if it failed before
  pub record Wrote (result : Result Printed RunFault) (taken : List ℕ) : Type 0 where
    pub printed : IfOk result (λ printed. Prints printed.wider taken)
    pub begun : OnErr result ((taken ≡ []) ⊎ MayHavePrinted Prints taken)
    pub untouched : IfErr result (λ fault. IsRunWithoutText fault → taken ≡ [])
    pub refused : IfErr result IsFault

  -- it is after what the writer held before
  pub record WroteAfter (new : Option (List ℕ)) (result : Result Printed RunFault) (old : List ℕ) : Type 0 where
    pub taken : List ℕ
    pub after : new ≡ Some (old ++ taken)
    pub wrote : Wrote result taken

  -- it is counted, has at most so many bytes, and is written as far as there is memory
  pub record HasRun (limit : ℕ) (old new : List ℕ) (result : Result Printed RunFault) (count : ℕ) : Type 0 where
    pub taken : List ℕ
    pub counted : count ≡ length taken
    pub within : count ≤ limit
    pub written : new ≡ filled old taken
    pub wrote : Wrote result taken

-- ---- how it is reported

-- how many bytes an output may have: at most so many, and fewer than 2 ^ 64 - 1
abbrev pub most_of : ℕ → ℕ
most_of max_size = min max_size (2 ^ 64 - 2)

-- an error of the writer, which fails only if the output has too many bytes
abbrev pub without_writer : RunFault → RunFault
without_writer (Print (Table Write)) = Memory
without_writer (Print (Table WriteZero)) = Memory
without_writer fault = fault

-- what is reported of a run that wrote so many bytes within the greatest size
abbrev pub size_of : Result Printed RunFault → ℕ → Result Size Refusal
size_of (Ok printed) bytes = Ok (record { bytes = bytes; wider = printed.wider })
size_of (Err fault) bytes = Err (Run (without_writer fault))

-- and of one that wrote so many bytes of at most `most`
abbrev pub sized : Result Printed RunFault → ℕ → ℕ → Result Size Refusal
sized outcome bytes most = if nat_lt most bytes then Err OverMaxSize else size_of outcome bytes

-- no error of the writer
abbrev pub IsNotOfWriter : RunFault → Type 0
IsNotOfWriter (Print (Table Write)) = ⊥
IsNotOfWriter (Print (Table WriteZero)) = ⊥
IsNotOfWriter fault = ⊤

module _ (Prints : Bool → List ℕ → Type 0) (IsFault : RunFault → Type 0) (max_size : ℕ) (old new : List ℕ) where
  -- the whole output fits the greatest size, and is written as far as there is memory
  pub record IsWhole (size : Size) : Type 0 where
    pub output : List ℕ
    pub printed : Prints size.wider output
    pub size_is : size.bytes ≡ length output
    pub within : size.bytes ≤ most_of max_size
    pub written : new ≡ filled old output

  -- the output is over the greatest size, and is written up to one byte past it, as far as there is memory
  pub record IsOver : Type 0 where
    pub wider : Bool
    pub output : List ℕ
    pub printed : Prints wider output
    pub over : most_of max_size < length output
    pub written : new ≡ filled old (take (most_of max_size + 1) output)

  -- nothing is written, or a prefix of an output
  abbrev pub IsBegun : Type 0
  IsBegun = (new ≡ old) ⊎ ((taken : List ℕ) × MayHavePrinted Prints taken × (new ≡ filled old taken))

  -- there is no output, for this reason; before an error of the text or a name nothing is written
  abbrev pub IsRefused : RunFault → Type 0
  IsRefused fault = IsFault fault × IsNotOfWriter fault × (IsRunWithoutText fault → new ≡ old) × IsBegun

  abbrev pub IsPrinted : Result Size Refusal → Type 0
  IsPrinted (Ok size) = IsWhole size
  IsPrinted (Err OverMaxSize) = IsOver
  IsPrinted (Err (Run fault)) = IsRefused fault
  IsPrinted (Err (Request fault)) = ⊥
  IsPrinted (Err (OfList fault)) = ⊥
  IsPrinted (Err (Cell fault)) = ⊥
