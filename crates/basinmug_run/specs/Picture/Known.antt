-- What is known of the columns of rows.
use Rattle.std.specs.Prelude.{◌≡◌, ⊤, ℕ, Bool, List, MatchOption, Option}
use Rattle.basinmug_columns.specs.declared.rooms.Need.{Need}
use Rattle.basinmug_run.specs.declared.options.Options.{Options}
use Rattle.basinmug_run.specs.declared.picture.facts.ColumnFacts.{ColumnFacts}
use Rattle.basinmug_run.specs.Picture.Pictures.{narrowed_to, needs_in, numeric_of}

-- it is so of the columns of these rows, of which the first is the header where `header` says so
pub record AreFacts (header : Bool) (rows : List (List (List ℕ))) (facts : ColumnFacts) : Type 0 where
  pub numeric : facts.numeric.items ≡ numeric_of header rows
  pub needs : facts.needs.items ≡ needs_in header rows

-- what is known already, if anything is
abbrev pub AreKnown : Bool → List (List (List ℕ)) → Option ColumnFacts → Type 0
AreKnown header rows known = MatchOption known ⊤ (AreFacts header rows)

-- these are the needs of the columns, where their table may be made narrower; else none of them counts
abbrev pub AreNeedsFor : Options → List (List (List ℕ)) → List Need → Type 0
AreNeedsFor options rows needs = MatchOption (narrowed_to options) ⊤ (λ width. needs ≡ needs_in options.header rows)
