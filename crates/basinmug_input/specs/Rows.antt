-- The rows of bytes, as they are meant and as the code holds them, and what is wrong with the first field that has a
-- flaw.
use Rattle.std.specs.Prelude.{◌≡◌, ℕ, List, ◌∷◌, ◌++◌, length, map}
use Rattle.std.specs.List.{AllByRecursion}
use Rattle.csv.specs.Reading.{records, strip_bom}
use Rattle.csv.specs.declared.parser.Config.{Config}
use Rattle.program_options.specs.declared.basinmug.Escapes.{Escapes}
use Rattle.basinmug_cells.specs.Held.{Held, with_cell}
use Rattle.basinmug_input.specs.Cleaning.{cleaned}
use Rattle.basinmug_input.specs.Faults.{IsTextWithClosedQuotes}
use Rattle.basinmug_input.specs.Flaws.{HasFlaw, IsReadableField}
use Rattle.basinmug_input.specs.Reading.{settings}
use Rattle.basinmug_input.specs.declared.records.Flawed.{Flawed}

-- the text of bytes: what follows a byte order mark, if they begin with one
abbrev pub text_of_bytes : List ℕ → List ℕ
text_of_bytes bytes = strip_bom bytes

-- the rows of bytes, in which this byte separates fields: the records of their text, each field cleaned
abbrev pub rows_in : Escapes → ℕ → List ℕ → List (List (List ℕ))
rows_in escapes delimiter bytes = map (map (cleaned escapes)) (records (settings delimiter) (text_of_bytes bytes))

-- the field is sound, and the row that isn't ended has it too, as a table shows it
pub record HasShown (escapes : Escapes) (field : List ℕ) (old new : Held) : Type 0 where
  pub sound : IsReadableField escapes field
  pub more : new ≡ with_cell old (cleaned escapes field)

-- rows with these cells more in the row that isn't ended
abbrev pub with_cells : Held → List (List ℕ) → Held
with_cells rows cells = record rows { begun = rows.begun ++ cells }

-- the fields are sound, and the row that isn't ended has them too, as a table shows them
pub record HaveShown (escapes : Escapes) (fields : List (List ℕ)) (old new : Held) : Type 0 where
  pub sound : AllByRecursion (IsReadableField escapes) fields
  pub more : new ≡ with_cells old (map (cleaned escapes) fields)

-- the first of these fields that isn't sound has this flaw
pub record HasFlawed (escapes : Escapes) (fields : List (List ℕ)) (flawed : Flawed) : Type 0 where
  pub before : List (List ℕ)
  pub here : List ℕ
  pub behind : List (List ℕ)
  pub of_fields : fields ≡ before ++ here ∷ behind
  pub sound : AllByRecursion (IsReadableField escapes) before
  pub place : flawed.field ≡ length before
  pub flaw : HasFlaw escapes here flawed.flaw

-- the first record of a text with a field that isn't sound is this one, and its first such field has this flaw
pub record IsFirstFlawed (escapes : Escapes) (cfg : Config) (text : List ℕ) (row : ℕ) (flawed : Flawed) : Type 0 where
  pub is_text : IsTextWithClosedQuotes cfg text
  pub before : List (List (List ℕ))
  pub here : List (List ℕ)
  pub after : List (List (List ℕ))
  pub of_text : records cfg text ≡ before ++ here ∷ after
  pub sound : AllByRecursion (AllByRecursion (IsReadableField escapes)) before
  pub place : row ≡ length before
  pub flaw : HasFlawed escapes here flawed
