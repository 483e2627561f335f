-- The items of a text that may hold control sequences, as a relation on the bytes of the text.
--
-- The sequences are those of ECMA-48, "Control Functions for Coded Character Sets" (fifth edition,
-- 1991), where a code has seven bits: each begins with ESC. Each byte that decides is ASCII, and no
-- byte of a character past ASCII is. So the bytes of a text in UTF-8 can be read one by one. The C1
-- controls of eight bits are text here.
use Rattle.std.specs.Prelude.{◌≡◌, ◌≢◌, ◌==◌, ◌<◌, ◌⊎◌, ℕ, Bool, not, ◌&&◌, ◌||◌, List, [], ◌∷◌, ◌++◌, length, IsTrue}
use Rattle.std.specs.List.{list_all, AllByRecursion}
use Rattle.std.specs.Int.{is_in_range}
use Rattle.ansi_scan.specs.Styles.Rendition.{is_numeric}
use Rattle.ansi_scan.specs.declared.items.Kind.{Kind}
use Rattle.ansi_scan.specs.declared.items.Kind.TheVariants.{Text, Sgr, Csi, Osc, Esc, Str, Broken}

-- ---- the bytes that decide

-- ESCAPE, ECMA-48, 8.3.48
abbrev pub escape : ℕ
escape = 0x1b

-- BELL, 8.3.3
abbrev pub bell : ℕ
bell = 0x07

-- STRING TERMINATOR, 8.3.143: ESC and `\`
abbrev pub string_terminator : List ℕ
string_terminator = escape ∷ 0x5c ∷ []

-- a parameter byte, an intermediate byte and a final byte of a control sequence, 5.4
abbrev pub is_parameter : ℕ → Bool
is_parameter b = is_in_range 0x30 0x3f b

abbrev pub is_intermediate : ℕ → Bool
is_intermediate b = is_in_range 0x20 0x2f b

abbrev pub is_final : ℕ → Bool
is_final b = is_in_range 0x40 0x7e b

-- a final byte of an escape sequence, ECMA-35
abbrev pub is_escape_final : ℕ → Bool
is_escape_final b = is_in_range 0x30 0x7e b

-- `P`, `X`, `^` or `_`: after ESC they open DEVICE CONTROL STRING, 8.3.27, START OF STRING, 8.3.128,
-- PRIVACY MESSAGE, 8.3.94, and APPLICATION PROGRAM COMMAND, 8.3.2
abbrev pub opens_string : ℕ → Bool
opens_string b = b == 0x50 || (b == 0x58 || (b == 0x5e || b == 0x5f))

-- `[`, `]` or one of these: what ESC and this byte open is no escape sequence by itself
abbrev pub opens_longer : ℕ → Bool
opens_longer b = b == 0x5b || (b == 0x5d || opens_string b)

-- a byte of a string: any but ESC, CANCEL, 8.3.6, and SUBSTITUTE, 8.3.148, at which terminals break
-- a sequence off. A command string of 5.6 takes less: nothing past ASCII, and of the control characters
-- those from BACKSPACE to CARRIAGE RETURN alone
abbrev pub is_string_byte : ℕ → Bool
is_string_byte b = not (b == escape) && (not (b == 0x18) && not (b == 0x1a))

-- a byte of a string that BELL ends
abbrev pub is_command_byte : ℕ → Bool
is_command_byte b = not (b == bell) && is_string_byte b

-- ---- the forms of the sequences

-- a control sequence, 5.4: CONTROL SEQUENCE INTRODUCER, which is ESC and `[`, then parameter bytes,
-- intermediate bytes and one final byte
pub record IsControlSequence (bytes : List ℕ) : Type 0 where
  pub parameters : List ℕ
  pub intermediates : List ℕ
  pub final : ℕ
  pub spelled : bytes ≡ escape ∷ 0x5b ∷ (parameters ++ (intermediates ++ final ∷ []))
  pub each_parameter : IsTrue (list_all is_parameter parameters)
  pub each_intermediate : IsTrue (list_all is_intermediate intermediates)
  pub ends : IsTrue (is_final final)

-- SELECT GRAPHIC RENDITION, 8.3.117: a control sequence whose parameter bytes are numeric, with no
-- intermediate byte and the final byte `m`
pub record IsSgr (bytes : List ℕ) : Type 0 where
  pub parameters : List ℕ
  pub spelled : bytes ≡ escape ∷ 0x5b ∷ (parameters ++ 0x6d ∷ [])
  pub each_numeric : IsTrue (list_all is_numeric parameters)

-- any other control sequence
pub record IsCsi (bytes : List ℕ) : Type 0 where
  pub control : IsControlSequence bytes
  pub other : ¬ IsSgr bytes

-- OPERATING SYSTEM COMMAND, 8.3.89: ESC and `]`, a string without BELL, then BELL, as terminals take
-- it, or STRING TERMINATOR
pub record IsOsc (bytes : List ℕ) : Type 0 where
  pub string : List ℕ
  pub ending : List ℕ
  pub spelled : bytes ≡ escape ∷ 0x5d ∷ (string ++ ending)
  pub each_byte : IsTrue (list_all is_command_byte string)
  pub ends : (ending ≡ bell ∷ []) ⊎ (ending ≡ string_terminator)

-- any other control string, 5.6: ESC and the byte that opens it, a string, STRING TERMINATOR
pub record IsStr (bytes : List ℕ) : Type 0 where
  pub opener : ℕ
  pub string : List ℕ
  pub spelled : bytes ≡ escape ∷ opener ∷ (string ++ string_terminator)
  pub opens : IsTrue (opens_string opener)
  pub each_byte : IsTrue (list_all is_string_byte string)

-- an escape sequence, as in ECMA-35: ESC, intermediate bytes and one final byte, which without
-- intermediate bytes opens nothing longer
pub record IsEsc (bytes : List ℕ) : Type 0 where
  pub intermediates : List ℕ
  pub final : ℕ
  pub spelled : bytes ≡ escape ∷ (intermediates ++ final ∷ [])
  pub each_intermediate : IsTrue (list_all is_intermediate intermediates)
  pub ends : IsTrue (is_escape_final final)
  pub alone : intermediates ≡ [] → IsTrue (not (opens_longer final))

-- the bytes are a sequence of this kind
abbrev pub HasForm : Kind → List ℕ → Type 0
HasForm Text bytes = ⊥
HasForm Sgr bytes = IsSgr bytes
HasForm Csi bytes = IsCsi bytes
HasForm Osc bytes = IsOsc bytes
HasForm Esc bytes = IsEsc bytes
HasForm Str bytes = IsStr bytes
HasForm Broken bytes = ⊥

-- the bytes begin with no sequence
abbrev pub NoFormBegins : List ℕ → Type 0
NoFormBegins bytes = (kind : Kind) (form after : List ℕ) → HasForm kind form → bytes ≡ form ++ after → ⊥

-- ---- the pieces of a text

-- a piece of a text: its kind and its bytes
pub record Piece : Type 0 where
  pub kind : Kind
  pub bytes : List ℕ

-- the bytes of the pieces, one after the other
abbrev pub joined : List Piece → List ℕ
joined [] = []
joined (p ∷ ps) = p.bytes ++ joined ps

-- the byte is not ESC
abbrev pub is_not_escape : ℕ → Bool
is_not_escape b = not (b == escape)

-- no Text piece comes first
abbrev pub NoTextFirst : List Piece → Type 0
NoTextFirst [] = Unit {0}
NoTextFirst (p ∷ ps) = p.kind ≢ Text

-- some bytes, none of which is ESC, up to the next ESC or the end of the text
pub record IsText (bytes : List ℕ) (after : List Piece) : Type 0 where
  pub some : 0 < length bytes
  pub plain : IsTrue (list_all is_not_escape bytes)
  pub ends : NoTextFirst after

-- one ESC from which no sequence begins
pub record IsBroken (bytes : List ℕ) (after : List Piece) : Type 0 where
  pub spelled : bytes ≡ escape ∷ []
  pub no_form : NoFormBegins (escape ∷ joined after)

-- the bytes of a piece of this kind, where these pieces follow it
abbrev pub Stands : Kind → List ℕ → List Piece → Type 0
Stands Text bytes after = IsText bytes after
Stands Sgr bytes after = HasForm Sgr bytes
Stands Csi bytes after = HasForm Csi bytes
Stands Osc bytes after = HasForm Osc bytes
Stands Esc bytes after = HasForm Esc bytes
Stands Str bytes after = HasForm Str bytes
Stands Broken bytes after = IsBroken bytes after

-- each piece is of its form, where those after it follow it
abbrev pub EachStands : List Piece → Type 0
EachStands [] = Unit {0}
EachStands (p ∷ ps) = Stands p.kind p.bytes ps × EachStands ps

-- the pieces of a text: joined they are the text, and each is of its form. A text has one such list
pub record ArePiecesOf (text : List ℕ) (ps : List Piece) : Type 0 where
  pub joins : joined ps ≡ text
  pub stand : EachStands ps

-- it holds of the pieces of the text
abbrev pub ForPieces : List ℕ → (List Piece → Type 0) → Type 0
ForPieces text holds = (pieces : List Piece) → ArePiecesOf text pieces → holds pieces

-- no piece is Broken
abbrev pub NoneBroken : List Piece → Type 0
NoneBroken ps = AllByRecursion (λ p. p.kind ≢ Broken) ps

-- the pieces of a whole text: they are its pieces, and none is Broken
pub record AreWholePiecesOf (text : List ℕ) (ps : List Piece) : Type 0 where
  pub of_text : ArePiecesOf text ps
  pub none_broken : NoneBroken ps

-- the text is whole: no piece of it is Broken
pub record IsWhole (text : List ℕ) : Type 0 where
  pub pieces : List Piece
  pub of_text : ArePiecesOf text pieces
  pub none_broken : NoneBroken pieces

-- the first Broken piece of the text begins at this byte
pub record IsFirstBroken (text : List ℕ) (at : ℕ) : Type 0 where
  pub before : List Piece
  pub broken : Piece
  pub after : List Piece
  pub of_text : ArePiecesOf text (before ++ broken ∷ after)
  pub none_before : NoneBroken before
  pub is_broken : broken.kind ≡ Broken
  pub place : at ≡ length (joined before)
