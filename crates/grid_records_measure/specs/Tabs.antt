-- Tabs of a text, replaced by spaces.
use Rattle.std.specs.Prelude.{◌==◌, ℕ, Bool, List, [], ◌∷◌, flat_map, replicate, if◌then◌else◌}
use Rattle.std.specs.List.{list_any}
use Rattle.ansi_scan.specs.Sequences.{Piece}
use Rattle.ansi_scan.specs.Joining.{is_text_kind}

-- U+0009 CHARACTER TABULATION
abbrev pub tab : ℕ
tab = 0x09

-- U+0020 SPACE
abbrev pub space : ℕ
space = 0x20

abbrev pub has_tab : List ℕ → Bool
has_tab text = list_any (λ byte. byte == tab) text

-- the bytes with this in the place of each tab
abbrev pub put_for_tabs : List ℕ → List ℕ → List ℕ
put_for_tabs put text = flat_map (λ byte. if byte == tab then put else byte ∷ []) text

-- a piece with this in the place of each tab of a text; a sequence stays as it is
abbrev pub piece_with : List ℕ → Piece → List ℕ
piece_with put piece = if is_text_kind piece.kind then put_for_tabs put piece.bytes else piece.bytes

-- the text with n spaces in the place of each tab that it shows
abbrev pub tabs_replaced : ℕ → List Piece → List ℕ
tabs_replaced n pieces = flat_map (piece_with (replicate n space)) pieces
