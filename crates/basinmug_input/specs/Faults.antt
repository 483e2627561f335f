-- Which texts are readable, why another is not, and what an error prints.
use Rattle.std.specs.Prelude.{◌≡◌, ◌+◌, ◌⊎◌, ℕ, List, ◌∷◌, ◌++◌, ⊤, IsUtf8, codes, decimal, length}
use Rattle.std.specs.List.{AllByRecursion}
use Rattle.std.specs.Str.{IsValidUpTo}
use Rattle.csv.specs.Reading.{records}
use Rattle.csv.specs.declared.parser.Config.{Config}
use Rattle.program_options.specs.declared.basinmug.Escapes.{Escapes}
use Rattle.basinmug_input.specs.Flaws.{HasBrokenEscape, IsNoUtf8, IsReadableField}
use Rattle.basinmug_input.specs.Places.{EndsInQuotes, IsOpenQuote, IsReadAs, field_at, line_number_at}
use Rattle.basinmug_input.specs.declared.fault.InputFault.{InputFault}
use Rattle.basinmug_input.specs.declared.fault.InputFault.TheVariants.{NotText, Quote, Escape, Memory}

-- the bytes that an error prints
abbrev pub fault_text : InputFault → List ℕ
fault_text (NotText line field) = codes "line " ++ (decimal line ++ (codes ", field " ++ (decimal field ++ codes ": not UTF-8")))
fault_text (Quote line) = codes "line " ++ (decimal line ++ codes ": a quote that is not closed")
fault_text (Escape line field) = codes "line " ++ (decimal line ++ (codes ", field " ++ (decimal field ++ codes ": an escape that begins no sequence")))
fault_text Memory = codes "out of memory"

-- the bytes are text, and each quote that opens a field is closed
abbrev pub IsTextWithClosedQuotes : Config → List ℕ → Type 0
IsTextWithClosedQuotes cfg text = IsUtf8 text × ¬ (EndsInQuotes cfg text)

-- the text is readable: nothing is wrong with any of its fields. It may have no records
pub record IsReadable (escapes : Escapes) (cfg : Config) (text : List ℕ) : Type 0 where
  pub is_text : IsTextWithClosedQuotes cfg text
  pub sound : AllByRecursion (AllByRecursion (IsReadableField escapes)) (records cfg text)

-- the bytes are no text: `at` bytes, and no more, are the longest text at their start. What follows is at this place
pub record IsNotUtf8 (cfg : Config) (text : List ℕ) (line field : ℕ) : Type 0 where
  pub no_text : ¬ (IsUtf8 text)
  pub at : ℕ
  pub valid : IsValidUpTo text at
  pub in_line : line ≡ line_number_at text at
  pub in_field : field ≡ field_at cfg text at

-- the quote on this line opens a field and isn't closed
pub record HasOpenQuote (cfg : Config) (text : List ℕ) (line : ℕ) : Type 0 where
  pub is_text : IsUtf8 text
  pub at : ℕ
  pub quote : IsOpenQuote cfg text at
  pub in_line : line ≡ line_number_at text at

-- what is wrong with the text as a whole, whatever its fields are
abbrev pub IsFaultOfWhole : Config → List ℕ → InputFault → Type 0
IsFaultOfWhole cfg text (NotText line field) = IsNotUtf8 cfg text line field
IsFaultOfWhole cfg text (Quote line) = HasOpenQuote cfg text line
IsFaultOfWhole cfg text (Escape line field) = ⊥
IsFaultOfWhole cfg text Memory = ⊥

-- the first field with a flaw has this one: fields are read record by record. Its place is that of the flaw's byte
pub record HasFirstFlaw (escapes : Escapes) (Flaw : List ℕ → ℕ → Type 0) (cfg : Config) (text : List ℕ) (line field : ℕ) : Type 0 where
  pub is_text : IsTextWithClosedQuotes cfg text
  pub before : List (List (List ℕ))
  pub fields : List (List ℕ)
  pub here : List ℕ
  pub behind : List (List ℕ)
  pub after : List (List (List ℕ))
  pub of_text : records cfg text ≡ before ++ (fields ++ here ∷ behind) ∷ after
  pub sound_records : AllByRecursion (AllByRecursion (IsReadableField escapes)) before
  pub sound_fields : AllByRecursion (IsReadableField escapes) fields
  pub byte : ℕ
  pub flaw : Flaw here byte
  pub at : ℕ
  pub read : IsReadAs cfg text at (length before) (length fields) byte
  pub in_line : line ≡ line_number_at text at
  pub in_field : field ≡ length fields + 1

-- why a text is not readable where these escapes take effect. A delimiter past ASCII may split a character, so that a
-- field of a text is none
abbrev pub IsFaultOf : Escapes → Config → List ℕ → InputFault → Type 0
IsFaultOf escapes cfg text (NotText line field) = IsNotUtf8 cfg text line field ⊎ HasFirstFlaw escapes IsNoUtf8 cfg text line field
IsFaultOf escapes cfg text (Quote line) = HasOpenQuote cfg text line
IsFaultOf escapes cfg text (Escape line field) = HasFirstFlaw escapes (HasBrokenEscape escapes) cfg text line field
IsFaultOf escapes cfg text Memory = ⊤
