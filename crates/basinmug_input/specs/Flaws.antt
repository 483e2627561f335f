-- What is wrong with a field.
use Rattle.std.specs.Prelude.{⊤, ℕ, List, IsUtf8}
use Rattle.std.specs.Str.{IsValidUpTo}
use Rattle.ansi_scan.specs.Sequences.{IsFirstBroken, IsWhole}
use Rattle.program_options.specs.declared.basinmug.Escapes.{Escapes}
use Rattle.program_options.specs.declared.basinmug.Escapes.TheVariants.{Colors, All, None as NoEscapes}
use Rattle.basinmug_input.specs.declared.cells.Flaw.{Flaw}
use Rattle.basinmug_input.specs.declared.cells.Flaw.TheVariants.{NotText, Escape}

-- each escape begins a whole sequence, where all take effect; else any may be there
abbrev pub HasGoodEscapes : Escapes → List ℕ → Type 0
HasGoodEscapes All field = IsWhole field
HasGoodEscapes Colors field = ⊤
HasGoodEscapes NoEscapes field = ⊤

-- nothing: it is text, and has no escape that is refused
abbrev pub IsReadableField : Escapes → List ℕ → Type 0
IsReadableField escapes field = IsUtf8 field × HasGoodEscapes escapes field

-- it is no text: `byte` bytes, and no more, are the longest text at its start
abbrev pub IsNoUtf8 : List ℕ → ℕ → Type 0
IsNoUtf8 field byte = ¬ (IsUtf8 field) × IsValidUpTo field byte

-- all escapes take effect; it is text, and the escape at `byte` is the first that begins no whole sequence
abbrev pub HasBrokenEscape : Escapes → List ℕ → ℕ → Type 0
HasBrokenEscape All field byte = IsUtf8 field × IsFirstBroken field byte
HasBrokenEscape Colors field byte = ⊥
HasBrokenEscape NoEscapes field byte = ⊥

abbrev pub HasFlaw : Escapes → List ℕ → Flaw → Type 0
HasFlaw escapes field (NotText byte) = IsNoUtf8 field byte
HasFlaw escapes field (Escape byte) = HasBrokenEscape escapes field byte
