-- How the bytes of the first line are read. The first line is the first that has a byte other than CR and LF. A quote
-- opens a field at the line's start and right after a byte that is looked for; in quotes, which may hold line ends, two
-- quotes mean one.
use Rattle.std.specs.Prelude.{◌==◌, ◌&&◌, ℕ, Bool, true, false, List, fold, if◌then◌else◌}
use Rattle.basinmug_delimiter.specs.Bytes.{is_candidate, is_line_end, quote}
use Rattle.basinmug_delimiter.specs.declared.state.State.{State}
use Rattle.basinmug_delimiter.specs.declared.state.State.TheVariants.{Before, FieldStart, Field, Quoted, AfterQuote, Ended}

-- the state after a byte outside of quotes; a quote opens a field where one `opens`
abbrev pub next_unquoted : Bool → ℕ → State
next_unquoted opens byte =
    if is_line_end byte then Ended
    else if opens && (byte == quote) then Quoted
    else if is_candidate byte then FieldStart
    else Field

-- the state after one more byte; quotes may not count
abbrev pub next_state : Bool → State → ℕ → State
next_state quotes Before byte = if is_line_end byte then Before else next_unquoted quotes byte
next_state quotes FieldStart byte = next_unquoted quotes byte
next_state quotes Field byte = next_unquoted false byte
next_state quotes Quoted byte = if byte == quote then AfterQuote else Quoted
next_state quotes AfterQuote byte = if byte == quote then Quoted else next_unquoted false byte
next_state quotes Ended byte = Ended

-- a byte that is looked for is outside of quotes and in the first line, in this state
abbrev pub is_outside : State → Bool
is_outside Before = true
is_outside FieldStart = true
is_outside Field = true
is_outside Quoted = false
is_outside AfterQuote = true
is_outside Ended = false

abbrev pub is_quoted : State → Bool
is_quoted Before = false
is_quoted FieldStart = false
is_quoted Field = false
is_quoted Quoted = true
is_quoted AfterQuote = false
is_quoted Ended = false

abbrev pub is_ended : State → Bool
is_ended Before = false
is_ended FieldStart = false
is_ended Field = false
is_ended Quoted = false
is_ended AfterQuote = false
is_ended Ended = true

-- the state after these bytes
abbrev pub state_after : Bool → State → List ℕ → State
state_after quotes state bytes = fold (next_state quotes) state bytes

-- a quote opens a field and is never closed
abbrev pub ends_in_quotes : List ℕ → Bool
ends_in_quotes text = is_quoted (state_after true Before text)
