-- A text as a cell of a table of Markdown (GitHub Flavored Markdown, "Tables"): a bar would end the cell and a line
-- feed the row, and a backslash before a bar takes the bar's meaning. A carriage return alone, which ends a line too, is
-- in no text here but in a sequence under `--escapes all`. A text is the list of its bytes.
use Rattle.std.specs.Prelude.{ℕ, ◌==◌, List, chars, codes, encode_utf8, flat_map, if◌then◌else◌}
use Rattle.ansi_scan.specs.Joining.{is_text_kind}
use Rattle.ansi_scan.specs.Pieces.{pieces}
use Rattle.ansi_scan.specs.Sequences.{Piece}

-- a character, or what is for it
abbrev pub markdown_char : ℕ → List ℕ
markdown_char c =
    if c == 0x7c then codes "\\|"
    else if c == 0x5c then codes "\\\\"
    else if c == 0x0a then codes "<br>"
    else encode_utf8 c

-- the bytes of characters outside sequences
abbrev pub markdown_text : List ℕ → List ℕ
markdown_text characters = flat_map markdown_char characters

-- a piece of a text: a sequence stays as it is
abbrev pub markdown_piece : Piece → List ℕ
markdown_piece piece = if is_text_kind piece.kind then markdown_text (chars piece.bytes) else piece.bytes

-- a text
abbrev pub in_markdown : List ℕ → List ℕ
in_markdown text = flat_map markdown_piece (pieces text)
