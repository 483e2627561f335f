-- What a clause reads of a `Counted`, and what a call does to its counts.
use Rattle.std.specs.Prelude.{ℕ, ◌+◌, ◌%◌, ◌^◌, ◌≡◌, ◌==◌, ◌&&◌, not, if◌then◌else◌, Bool, true, false, List, length, Result, Ok, Err}
use Rattle.tabled_output.specs.declared.counted.Counted.{Counted}

-- `c.into_inner()`
abbrev pub inner_of : {T : Type 0} → Counted T → T
inner_of c = c.inner

-- `c.failures()`: how many calls returned an error
abbrev pub failures_of : {T : Type 0} → Counted T → ℕ
failures_of c = c.failures

-- `c.empty_writes()`: how many writes took no byte of a piece that had some
abbrev pub empty_writes_of : {T : Type 0} → Counted T → ℕ
empty_writes_of c = c.empty_writes

-- how many writes were of an empty piece, whatever they returned
abbrev pub writes_of_nothing_of : {T : Type 0} → Counted T → ℕ
writes_of_nothing_of c = c.writes_of_nothing

-- how many reads gave at least one byte
abbrev pub pieces_read_of : {T : Type 0} → Counted T → ℕ
pieces_read_of c = c.pieces_read

-- how many reads gave no byte: they reported the end
abbrev pub ends_of : {T : Type 0} → Counted T → ℕ
ends_of c = c.ends

-- how many calls were flushes, whatever they returned
abbrev pub flushes_of : {T : Type 0} → Counted T → ℕ
flushes_of c = c.flushes

-- whether the last call was refused: it returned an error, or was a write that took no byte of a piece that had some
abbrev pub last_refused : {T : Type 0} → Counted T → Bool
last_refused c = c.last_refused

-- whether the last call was a read that gave no byte
abbrev pub last_told_end : {T : Type 0} → Counted T → Bool
last_told_end c = c.last_told_end

-- ---- one call

-- a count of 64 bits, plus one: after the greatest comes 0
abbrev pub next_count : ℕ → ℕ
next_count n = (n + 1) % 2 ^ 64

-- a read or a flush that returned this was refused
abbrev pub is_refused : {T E : Type 0} → Result T E → Bool
is_refused (Ok _) = false
is_refused (Err _) = true

-- a write of `piece` that returned this was refused
abbrev pub is_write_refused : {E : Type 0} → Result ℕ E → List ℕ → Bool
is_write_refused (Ok n) piece = n == 0 && not (length piece == 0)
is_write_refused (Err _) piece = true

-- the count of failures after a call that returned this
abbrev pub failures_after : {T E : Type 0} → Result T E → ℕ → ℕ
failures_after (Ok _) count = count
failures_after (Err _) count = next_count count

-- the count of reads that gave bytes, after a read that returned this
abbrev pub pieces_after : {E : Type 0} → Result ℕ E → ℕ → ℕ
pieces_after (Ok n) count = if n == 0 then count else next_count count
pieces_after (Err _) count = count

-- a read that returned this gave no byte
abbrev pub tells_end : {E : Type 0} → Result ℕ E → Bool
tells_end (Ok n) = n == 0
tells_end (Err _) = false

-- the count of such reads, after a read that returned this
abbrev pub ends_after : {E : Type 0} → Result ℕ E → ℕ → ℕ
ends_after (Ok n) count = if n == 0 then next_count count else count
ends_after (Err _) count = count

-- the count of writes of an empty piece, after a write of `piece`
abbrev pub writes_of_nothing_after : List ℕ → ℕ → ℕ
writes_of_nothing_after piece count = if length piece == 0 then next_count count else count

-- the count of writes that took nothing, after a write of `piece` that returned this
abbrev pub empty_writes_after : {E : Type 0} → Result ℕ E → List ℕ → ℕ → ℕ
empty_writes_after (Ok n) piece count = if n == 0 then (if length piece == 0 then count else next_count count) else count
empty_writes_after (Err _) piece count = count

-- ---- several calls, from `before` to `after`

-- the count of reads that gave bytes has grown by n, and wraps as a count of 64 bits does
abbrev pub HasGivenPieces : {T : Type 0} → Counted T → Counted T → ℕ → Type 0
HasGivenPieces before after n = pieces_read_of after ≡ (pieces_read_of before + n) % 2 ^ 64

-- a call returned an error exactly where P holds; then it was one call, and no call came after it
pub record FailsIff {T : Type 0} (P : Type 0) (before after : Counted T) : Type 0 where
  pub once : P → failures_of after ≡ next_count (failures_of before)
  pub last : P → last_refused after ≡ true
  pub others : ¬ P → failures_of after ≡ failures_of before

-- a write took no byte of a piece that had some exactly where P holds; then it was one write, and no call came after it
pub record TakesNothingIff {T : Type 0} (P : Type 0) (before after : Counted T) : Type 0 where
  pub once : P → empty_writes_of after ≡ next_count (empty_writes_of before)
  pub last : P → last_refused after ≡ true
  pub others : ¬ P → empty_writes_of after ≡ empty_writes_of before

-- one read gave no byte, which reports the end, and no call came after it
pub record TellsEnd {T : Type 0} (before after : Counted T) : Type 0 where
  pub once : ends_of after ≡ next_count (ends_of before)
  pub last : last_told_end after ≡ true

-- the count of reads that gave no byte is the same
abbrev pub TellsNoEnd : {T : Type 0} → Counted T → Counted T → Type 0
TellsNoEnd before after = ends_of after ≡ ends_of before

-- a reader that is only read: nothing is written to it, and it is not flushed
pub record OnlyReads {T : Type 0} (before after : Counted T) : Type 0 where
  pub empty_writes : empty_writes_of after ≡ empty_writes_of before
  pub writes_of_nothing : writes_of_nothing_of after ≡ writes_of_nothing_of before
  pub flushes : flushes_of after ≡ flushes_of before

-- a writer that is only written to, and by pieces that have bytes: nothing is read of it, and it is not flushed
pub record OnlyWrites {T : Type 0} (before after : Counted T) : Type 0 where
  pub writes_of_nothing : writes_of_nothing_of after ≡ writes_of_nothing_of before
  pub pieces_read : pieces_read_of after ≡ pieces_read_of before
  pub ends : ends_of after ≡ ends_of before
  pub flushes : flushes_of after ≡ flushes_of before

-- a writer that is only written to, and that failed, or took nothing, exactly where these hold
pub record WritesUntil {T : Type 0} (Failed TookNothing : Type 0) (before after : Counted T) : Type 0 where
  pub write : FailsIff Failed before after
  pub write_zero : TakesNothingIff TookNothing before after
  pub only_writes : OnlyWrites before after
