-- The parts of a text, by places. The place of a sequence is the number of bytes of the stripped
-- text before it.
use Rattle.std.specs.Prelude.{ℕ, ◌+◌, ◌-◌, ◌<◌, Bool, ◌&&◌, nat_lt, nat_le, List, [], ◌∷◌, ◌++◌, length, take, drop, slice_range, ◌==◌, if◌then◌else◌}
use Rattle.std.specs.Str.{IsCharBoundary}
use Rattle.ansi_scan.specs.Sequences.{Piece, joined}
use Rattle.ansi_scan.specs.Joining.{is_text_kind}
use Rattle.ansi_scan.specs.Attributes.{Attributes, plain_attributes}
use Rattle.ansi_scan.specs.StartsAndEnds.{start_bytes, end_bytes}
use Rattle.ansi_str_search.specs.Text.StyledText.{text_of, style_after, style_after_all}

-- a character begins or ends at the place, or the text ends at or before it
abbrev pub IsGoodBound : List ℕ → ℕ → Type 0
IsGoodBound text at = at < length text → IsCharBoundary text at

-- which sequences count, by their places
abbrev pub Places : Type 0
Places = ℕ → Bool

-- of a piece at this place: its text from place a to place b, or a sequence that counts
abbrev pub taken_piece : Places → ℕ → ℕ → ℕ → Piece → List ℕ
taken_piece counts a b place piece =
    if is_text_kind piece.kind then slice_range piece.bytes (a - place) (b - place)
    else if counts place then piece.bytes else []

-- the text from place a to place b with the sequences that count, in their order, where the first
-- piece is at this place
abbrev pub taken : Places → ℕ → ℕ → ℕ → List Piece → List ℕ
taken counts a b place [] = []
taken counts a b place (piece ∷ pieces) =
    taken_piece counts a b place piece ++ taken counts a b (place + length (text_of piece)) pieces

-- the style after the sequences that count, where the first piece is at this place
abbrev pub style_where : Places → Attributes → ℕ → List Piece → Attributes
style_where counts style place [] = style
style_where counts style place (piece ∷ pieces) =
    style_where counts (if counts place then style_after style piece else style)
    (place + length (text_of piece)) pieces

-- a part from place a to place b. It is the start of the style after the sequences before it, the text
-- from a to b with the sequences in it, and the end of the style then open
abbrev pub part : Places → Places → ℕ → ℕ → List Piece → List ℕ
part before within a b pieces =
    let start = style_where before plain_attributes 0 pieces in
    let open_style = style_where within start 0 pieces in
    start_bytes start ++ (taken within a b 0 pieces ++ end_bytes open_style)

-- a part of a split: it begins with the style after the sequences placed before a, and holds those
-- placed from a to b
abbrev pub split_part : ℕ → ℕ → List Piece → List ℕ
split_part a b pieces =
    part (λ place. nat_lt place a) (λ place. nat_le a place && nat_le place b) a b pieces

-- ---- the pieces themselves, cut at a place

-- the piece that is left after the first n bytes of a text
abbrev pub piece_from : ℕ → Piece → Piece
piece_from n piece = record { kind = piece.kind; bytes = drop n piece.bytes }

-- what is left after n bytes of text and the sequences among and before them: the sequences at
-- that place come first
abbrev pub from_place : ℕ → List Piece → List Piece
from_place n [] = []
from_place n (piece ∷ pieces) =
    if n == 0 then piece ∷ pieces
    else if nat_lt n (length (text_of piece)) then piece_from n piece ∷ pieces
    else from_place (n - length (text_of piece)) pieces

-- the first n bytes of a text, where there are some
abbrev pub front_of : ℕ → Piece → List Piece
front_of n piece = if n == 0 then [] else record { kind = piece.kind; bytes = take n piece.bytes } ∷ []

-- n bytes of text, with the sequences among and before them
abbrev pub before_place : ℕ → List Piece → List Piece
before_place n [] = []
before_place n (piece ∷ pieces) =
    if n == 0 then []
    else if nat_lt n (length (text_of piece)) then front_of n piece
    else piece ∷ before_place (n - length (text_of piece)) pieces

-- n bytes of text, with the sequences among, before and after them
abbrev pub through_place : ℕ → List Piece → List Piece
through_place n [] = []
through_place n (piece ∷ pieces) =
    if nat_lt n (length (text_of piece)) then front_of n piece
    else piece ∷ through_place (n - length (text_of piece)) pieces

-- pieces, where the first has this style before it: its start, the pieces, and the end of the
-- style then open
abbrev pub dressed : Attributes → List Piece → List ℕ
dressed style pieces =
    start_bytes style ++ (joined pieces ++ end_bytes (style_after_all style pieces))
