-- How a program ends.
use Rattle.std.specs.Prelude.{ℕ, ◌++◌, List, [], ◌∷◌, Option, Some, Result, Ok, Err, codes, string_bytes}
use Rattle.std.specs.IoError.{error_kind}
use Rattle.std.specs.Option.{option_map}
use Rattle.std.specs.declared.io.Error.{Error}
use Rattle.std.specs.declared.io.ErrorKind.{ErrorKind}
use Rattle.std.specs.declared.io.ErrorKind.TheVariants.{OutOfMemory}
use Rattle.command_line.specs.Basinmug.Asking.{line_feed, with_line_feed}
use Rattle.command_line.specs.declared.ending.Ending.{Ending}
use Rattle.command_line.specs.declared.ending.Ending.TheVariants.{Done, Failed, Memory, Faulty, NotUtf8}

-- the status of the program: 0 where all is done, 1 where that failed, 2 where the arguments are wrong
abbrev pub status_of : {F : Type 0} → Ending F → ℕ
status_of Done = 0
status_of (Failed fault) = 1
status_of Memory = 1
status_of (Faulty text) = 2
status_of NotUtf8 = 2

-- one line: the name of the program, a colon and a space, and the reason
abbrev pub line_of : List ℕ → List ℕ → List ℕ
line_of program reason = program ++ codes ": " ++ reason ++ line_feed ∷ []

-- the message for the user, where an error prints this
abbrev pub said_of : {F : Type 0} → List ℕ → (F → Option (List ℕ)) → Ending F → Option (List ℕ)
said_of program printed Done = Some []
said_of program printed (Failed fault) = option_map (line_of program) (printed fault)
said_of program printed Memory = Some (line_of program (codes "out of memory"))
said_of program printed (Faulty text) = Some (with_line_feed (string_bytes text))
said_of program printed NotUtf8 = Some (line_of program (codes "an argument is not UTF-8"))

-- what was requested came to this
abbrev pub ended_by : {F T : Type 0} → Result T F → Ending F
ended_by (Ok value) = Done
ended_by (Err fault) = Failed fault

-- the arguments could not be read, for want of memory or since one is no text
abbrev pub unread_for : {F : Type 0} → ErrorKind → Ending F
unread_for OutOfMemory = Memory
unread_for _ = NotUtf8

abbrev pub unread_by : {F : Type 0} → Error → Ending F
unread_by error = unread_for (error_kind error)
