-- The pieces of a text as a function, the tool by which the relation of `Sequences` is proved.
use Rattle.std.specs.Prelude.{◌+◌, ◌==◌, ℕ, zero, suc, Bool, true, false, ◌&&◌, ◌||◌, not, List, [], ◌∷◌, Option, Some, None, length, take, drop, nat_lt, cond, slice_index, unwrap_or}
use Rattle.std.specs.List.{prefix_len}
use Rattle.std.specs.Option.{option_map}
use Rattle.ansi_scan.specs.declared.items.Kind.{Kind}
use Rattle.ansi_scan.specs.declared.items.Kind.TheVariants.{Text, Sgr, Csi, Osc, Esc, Str, Broken}
use Rattle.ansi_scan.specs.Sequences.{Piece, escape, bell, is_not_escape, is_parameter, is_intermediate, is_final, is_escape_final, is_string_byte, opens_string}
use Rattle.ansi_scan.specs.Styles.Rendition.{is_numeric}

-- how many bytes come before the first ESC
abbrev pub text_len : List ℕ → ℕ
text_len bytes = prefix_len is_not_escape bytes

-- after `len` bytes of a control sequence: what it is, and its length; `numeric` says that all these bytes are
-- numeric, and `parameters` that all are parameter bytes
unfoldable pub control_from : ℕ → Bool → Bool → List ℕ → Option (Kind × ℕ)
control_from len numeric parameters [] = None
control_from len numeric parameters (b ∷ bs) =
    cond (parameters && is_parameter b || is_intermediate b)
    (control_from (len + 1) (numeric && is_numeric b) (parameters && is_parameter b) bs)
    (cond (is_final b) (Some (cond (numeric && b == 0x6d) Sgr Csi, len + 1)) None)

-- a byte of the string, where BELL may end it
abbrev pub is_in_string : Bool → ℕ → Bool
is_in_string bell_ends b = not (bell_ends && b == bell) && is_string_byte b

-- after `len` bytes of a string: its length with the end, where this byte ends it
abbrev pub string_end : ℕ → Bool → ℕ → List ℕ → Option ℕ
string_end len bell_ends b bs =
    cond (bell_ends && b == bell) (Some (len + 1))
    (cond (b == escape && slice_index bs 0 == 0x5c) (Some (len + 2)) None)

-- after `len` bytes of a string: its length with the end
unfoldable pub string_from : ℕ → Bool → List ℕ → Option ℕ
string_from len bell_ends [] = None
string_from len bell_ends (b ∷ bs) =
    cond (is_in_string bell_ends b) (string_from (len + 1) bell_ends bs) (string_end len bell_ends b bs)

-- after `len` intermediate bytes of an escape sequence: their length with the final byte
unfoldable pub escape_from : ℕ → List ℕ → Option ℕ
escape_from len [] = None
escape_from len (b ∷ bs) =
    cond (is_intermediate b) (escape_from (len + 1) bs) (cond (is_escape_final b) (Some (len + 1)) None)

-- the sequence of this kind, of which two bytes are known
abbrev pub behind_opener : Kind → Option ℕ → Option (Kind × ℕ)
behind_opener kind len = option_map (λ n. (kind, n + 2)) len

-- the sequence that ESC and this byte begin
unfoldable pub opened : ℕ → List ℕ → Option (Kind × ℕ)
opened opener rest =
    cond (opener == 0x5b) (option_map (λ found. (found.0, found.1 + 2)) (control_from 0 true true rest))
    (cond (opener == 0x5d) (behind_opener Osc (string_from 0 true rest))
    (cond (opens_string opener) (behind_opener Str (string_from 0 false rest))
    (cond (is_intermediate opener) (behind_opener Esc (escape_from 0 rest))
    (cond (is_escape_final opener) (Some (Esc, 2)) None))))

-- the kind and the length of the sequence at the start of bytes that begin with an ESC
unfoldable pub sequence_front : List ℕ → Option (Kind × ℕ)
sequence_front [] = None
sequence_front (b ∷ []) = None
sequence_front (b ∷ opener ∷ rest) = opened opener rest

-- the kind and the length of the piece that begins with an ESC
unfoldable pub at_escape : List ℕ → Kind × ℕ
at_escape bytes = unwrap_or (sequence_front bytes) (Broken, 1)

-- the kind and the length of the first piece
unfoldable pub leading_piece : List ℕ → Kind × ℕ
leading_piece bytes = cond (nat_lt 0 (text_len bytes)) (Text, text_len bytes) (at_escape bytes)

-- the first pieces, at most this many
unfoldable pub first_pieces : ℕ → List ℕ → List Piece
first_pieces zero bytes = []
first_pieces (suc n) [] = []
first_pieces (suc n) (b ∷ bs) =
    record { kind = (leading_piece (b ∷ bs)).0; bytes = take (leading_piece (b ∷ bs)).1 (b ∷ bs) }
    ∷ first_pieces n (drop (leading_piece (b ∷ bs)).1 (b ∷ bs))

-- all pieces; there are no more than bytes
unfoldable pub pieces : List ℕ → List Piece
pieces bytes = first_pieces (length bytes) bytes
