-- What it is, attribute by attribute, that sequences clear a style.
use Rattle.std.specs.Prelude.{ℕ, ◌==◌, Bool, ◌||◌, Option, None, Some, List, [], ◌∷◌, map, flat_map, IsTrue}
use Rattle.std.specs.List.{AllByRecursion, list_any, slice_split}
use Rattle.ansi_scan.specs.declared.items.Kind.{Kind}
use Rattle.ansi_scan.specs.declared.items.Kind.TheVariants.{Text, Sgr, Csi, Osc, Esc, Str, Broken}
use Rattle.ansi_scan.specs.Sequences.{Piece}
use Rattle.ansi_scan.specs.Attributes.{Attributes}
use Rattle.ansi_scan.specs.StartsAndEnds.{code_rows}
use Rattle.ansi_scan.specs.Rendition.{number, Effect, OfCode, OfColor, effects, sgr_parameters}

-- the code that an effect is, if any: a colour that is given by numbers is none
abbrev pub code_of_effect : Effect → List ℕ
code_of_effect (OfCode code) = code ∷ []
code_of_effect (OfColor layer color) = []

-- the codes among parameters that are separated by `;`
abbrev pub codes_in : Option (List ℕ) → List ℕ
codes_in None = []
codes_in (Some parameters) =
    flat_map code_of_effect (effects (map number (slice_split (λ byte. byte == 59) parameters)))

-- the codes of a piece: those of SELECT GRAPHIC RENDITION
abbrev pub codes_by : Kind → List ℕ → List ℕ
codes_by Text bytes = []
codes_by Sgr bytes = codes_in (sgr_parameters bytes)
codes_by Csi bytes = []
codes_by Osc bytes = []
codes_by Esc bytes = []
codes_by Str bytes = []
codes_by Broken bytes = []

abbrev pub codes_of : List Piece → List ℕ
codes_of pieces = flat_map (λ piece. codes_by piece.kind piece.bytes) pieces

-- an attribute: whether it is set, and the code that clears it
abbrev pub Attribute : Type 0
Attribute = (Attributes → Bool) × ℕ

-- those of the table of codes
abbrev pub all_attributes : List Attribute
all_attributes = map (λ row. (row.is_set, row.clears)) code_rows

-- a code clears what this code clears: it is that code, or 0, which clears all
abbrev pub is_clearing : ℕ → ℕ → Bool
is_clearing clearing code = code == clearing || code == 0

-- each attribute that the style sets is cleared by one of the codes
abbrev pub ClearsEach : Attributes → List ℕ → Type 0
ClearsEach style codes =
    AllByRecursion (λ attribute. IsTrue (attribute.0 style) → IsTrue (list_any (is_clearing attribute.1) codes)) all_attributes
