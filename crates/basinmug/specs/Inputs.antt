-- What is kept of an input, and what is found in it.
use Rattle.std.specs.Prelude.{◌≡◌, ℕ, List, Option, None, Some}
use Rattle.basinmug_head.specs.Heads.{IsHeadOf, asked_or_found}
use Rattle.basinmug_head.specs.declared.heads.Head.{Head}

-- the first so many records of a text are kept, or all of it where no number is given. What is between the fields is as
-- requested, or found by the text and by the name of its file
abbrev pub IsInputOf : Option ℕ → Option (List ℕ) → Option ℕ → Head → List ℕ → Type 0
IsInputOf asked file None input text = (input.bytes.items ≡ text) × (input.found ≡ asked_or_found asked text file)
IsInputOf asked file (Some records) input text = IsHeadOf asked file records input.bytes.items input.found text
