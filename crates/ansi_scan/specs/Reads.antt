-- How often the scan of a text reads a byte, which `Scan::looks` counts. It reads each byte of a piece once.
-- After a Text piece it reads the ESC there too. After a Broken ESC it reads the bytes up to the one that shows
-- that no sequence begins. The bytes that decide are those of `Sequences` (ECMA-48, 5.4 and 5.6).
use Rattle.std.specs.Prelude.{◌+◌, ◌==◌, ℕ, Bool, true, false, List, [], ◌∷◌, length, drop, min, cond}
use Rattle.std.specs.List.{prefix_len}
use Rattle.ansi_scan.specs.declared.items.Kind.{Kind}
use Rattle.ansi_scan.specs.declared.items.Kind.TheVariants.{Text, Sgr, Csi, Osc, Esc, Str, Broken}
use Rattle.ansi_scan.specs.Sequences.{Piece, joined, escape, is_parameter, is_intermediate, opens_string}
use Rattle.ansi_scan.specs.Pieces.{is_in_string}

-- as many bytes and the byte after them, where there is one
abbrev pub and_next : ℕ → List ℕ → ℕ
and_next n bytes = min (length bytes) (n + 1)

-- after ESC and `[`: the parameter bytes, then the intermediate bytes, and the byte after them
abbrev pub control_reads : List ℕ → ℕ
control_reads bytes =
    prefix_len is_parameter bytes
    + and_next (prefix_len is_intermediate (drop (prefix_len is_parameter bytes) bytes)) (drop (prefix_len is_parameter bytes) bytes)

-- after the bytes of a string: the byte that is none of it, and the one after that where it is ESC
abbrev pub string_end_reads : List ℕ → ℕ
string_end_reads [] = 0
string_end_reads (b ∷ bs) = 1 + cond (b == escape) (min 1 (length bs)) 0

-- after the opener of a string, which BELL may end: the bytes of the string, and what shows that it does not end
abbrev pub string_reads : Bool → List ℕ → ℕ
string_reads bell_ends bytes =
    prefix_len (is_in_string bell_ends) bytes + string_end_reads (drop (prefix_len (is_in_string bell_ends) bytes) bytes)

-- after ESC and an intermediate byte: the other intermediate bytes, and the byte after them
abbrev pub escape_reads : List ℕ → ℕ
escape_reads bytes = and_next (prefix_len is_intermediate bytes) bytes

-- after ESC and this byte
abbrev pub opened_reads : ℕ → List ℕ → ℕ
opened_reads opener rest =
    cond (opener == 0x5b) (control_reads rest)
    (cond (opener == 0x5d) (string_reads true rest)
    (cond (opens_string opener) (string_reads false rest)
    (cond (is_intermediate opener) (escape_reads rest) 0)))

-- after a Broken ESC
abbrev pub tried_reads : List ℕ → ℕ
tried_reads [] = 0
tried_reads (opener ∷ rest) = 1 + opened_reads opener rest

-- by a piece of this kind and of so many bytes, where these bytes follow it
abbrev pub piece_reads : Kind → ℕ → List ℕ → ℕ
piece_reads Text n behind = n + min 1 (length behind)
piece_reads Sgr n behind = n
piece_reads Csi n behind = n
piece_reads Osc n behind = n
piece_reads Esc n behind = n
piece_reads Str n behind = n
piece_reads Broken n behind = n + tried_reads behind

-- by all pieces
abbrev pub reads_over : List Piece → ℕ
reads_over [] = 0
reads_over (p ∷ ps) = piece_reads p.kind (length p.bytes) (joined ps) + reads_over ps
