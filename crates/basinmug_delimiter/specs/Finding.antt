-- What separates the fields of a text, and where its records begin.
use Rattle.std.specs.Prelude.{◌+◌, ◌-◌, ℕ, List, Option, None, Some, if◌then◌else◌, length}
use Rattle.basinmug_delimiter.specs.Bytes.{tab}
use Rattle.basinmug_delimiter.specs.Choosing.{delimiter_in}
use Rattle.basinmug_delimiter.specs.Preamble.{text_after_mark, named_delimiter}
use Rattle.basinmug_delimiter.specs.Names.{means_tab}
use Rattle.basinmug_delimiter.specs.declared.Found.{Found}

-- by the file's name, else by the first line
abbrev pub unnamed_delimiter : List ℕ → Option (List ℕ) → ℕ
unnamed_delimiter text file = if means_tab file then tab else delimiter_in text

-- a line that names the delimiter has five bytes, after which the records begin: `at` is the place of the line. Without
-- one they begin at the start
abbrev pub found_by : Option ℕ → ℕ → List ℕ → Option (List ℕ) → Found
found_by (Some delimiter) at text file = record { delimiter = delimiter; start = at + 5 }
found_by None at text file = record { delimiter = unnamed_delimiter text file; start = 0 }

-- of bytes and the name of their file, if there is one
abbrev pub found_in : List ℕ → Option (List ℕ) → Found
found_in bytes file = let text = text_after_mark bytes in found_by (named_delimiter text) (length bytes - length text) text file
