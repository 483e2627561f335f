-- What a clause reads of a reader or a writer that keeps why it failed.
use Rattle.std.specs.Prelude.{Option, Some, Result, Ok, Err}
use Rattle.std.specs.declared.io.Error.{Error}
use Rattle.basinmug.specs.declared.kept.Kept.{Kept}

-- the reader or the writer within
abbrev pub stream_of : {S : Type 0} → Kept S → S
stream_of kept = kept.stream

-- the last error, if there was one
abbrev pub error_of : {S : Type 0} → Kept S → Option Error
error_of kept = kept.error

-- the last error after a call that returned this
abbrev pub error_after : {T : Type 0} → Result T Error → Option Error → Option Error
error_after (Ok _) before = before
error_after (Err error) before = Some error
