-- What a file's name says of its text.
use Rattle.std.specs.Prelude.{◌-◌, ◌||◌, ℕ, Bool, false, List, Option, None, Some, codes, drop, length, map}
use Rattle.std.specs.Char.{to_ascii_lowercase}
use Rattle.std.specs.Str.{bytes_eq}

-- the last four bytes of a name, with small letters for capitals
abbrev pub ending : List ℕ → List ℕ
ending name = map to_ascii_lowercase (drop (length name - 4) name)

-- the name is that of a file of tab-separated values (text/tab-separated-values of IANA)
abbrev pub is_name_of_tabs : List ℕ → Bool
is_name_of_tabs name = bytes_eq (ending name) (codes ".tsv") || bytes_eq (ending name) (codes ".tab")

-- there is a name, and it is such a one
abbrev pub means_tab : Option (List ℕ) → Bool
means_tab None = false
means_tab (Some name) = is_name_of_tabs name
