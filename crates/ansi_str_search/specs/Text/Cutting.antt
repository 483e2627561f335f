-- Where a text can be cut before an ESC so that its pieces stay what they are.
use Rattle.std.specs.Prelude.{◌≡◌, ◌≢◌, ◌==◌, ◌⊎◌, ℕ, List, ◌∷◌, ◌++◌, IsTrue, cond}
use Rattle.std.specs.List.{list_all}
use Rattle.ansi_scan.specs.declared.items.Kind.{Kind}
use Rattle.ansi_scan.specs.declared.items.Kind.TheVariants.{Osc, Str}
use Rattle.ansi_scan.specs.Sequences.{escape, opens_string, is_string_byte, is_command_byte}

-- after ESC, the byte that opens a string, and bytes of the string, none of which ends it
abbrev pub IsOpenString : ℕ → List ℕ → Type 0
IsOpenString opener string =
    ((opener ≡ 0x5d) × IsTrue (list_all is_command_byte string)) ⊎ (IsTrue (opens_string opener) × IsTrue (list_all is_string_byte string))

-- the kind of the string that this byte opens
abbrev pub string_kind : ℕ → Kind
string_kind opener = cond (opener == 0x5d) Osc Str

-- the text ends in a string that is open
pub record EndsOpen (text : List ℕ) : Type 0 where
  pub before : List ℕ
  pub opener : ℕ
  pub string : List ℕ
  pub spelled : text ≡ before ++ escape ∷ opener ∷ string
  pub opened : IsOpenString opener string

-- no string is open at the end of the text, or the ESC that these bytes follow doesn't end it
abbrev pub EndsNoString : List ℕ → List ℕ → Type 0
EndsNoString text behind = EndsOpen text → (after : List ℕ) → behind ≢ 0x5c ∷ after
