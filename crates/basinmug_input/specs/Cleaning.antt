-- A field as a table shows it: its control characters outside the sequences that stay are made visible, since they
-- would move what is beside them. The control characters are C0, DELETE and C1 (ISO/IEC 6429); their pictures are those
-- of Unicode, Control Pictures.
use Rattle.std.specs.Prelude.{◌≡◌, ◌+◌, ◌==◌, ◌&&◌, ◌||◌, ◌⊎◌, not, ℕ, Bool, true, false, IsTrue, List, [], ◌∷◌, ◌++◌, bytes_eq, chars, codes, encode_utf8, encode_utf8_all, flat_map, if◌then◌else◌, nat_lt, replicate}
use Rattle.std.specs.Int.{is_in_range}
use Rattle.std.specs.List.{AllByRecursion, concat, list_all}
use Rattle.ansi_scan.specs.Joining.{is_text_kind}
use Rattle.ansi_scan.specs.Pieces.{pieces}
use Rattle.ansi_scan.specs.Sequences.{Piece}
use Rattle.csv.specs.Machine.{carriage_return, line_feed}
use Rattle.grid_records_measure.specs.Tabs.{space, tab}
use Rattle.program_options.specs.declared.basinmug.Escapes.{Escapes}
use Rattle.program_options.specs.declared.basinmug.Escapes.TheVariants.{Colors, All, None as NoEscapes}
use Rattle.basinmug_input.specs.Renditions.{is_kept_rendition}

-- U+007F DELETE
abbrev pub delete : ℕ
delete = 0x7f

-- C1, which have no pictures
abbrev pub is_c1 : ℕ → Bool
is_c1 c = nat_lt 0x7f c && nat_lt c 0xa0

-- C0, DELETE or C1
abbrev pub is_control : ℕ → Bool
is_control c = nat_lt c 0x20 || (nat_lt 0x7e c && nat_lt c 0xa0)

-- what a character becomes so that it moves nothing: one of C0 its picture (Unicode, Control Pictures), DELETE U+2421
-- SYMBOL FOR DELETE, one of C1 U+FFFD REPLACEMENT CHARACTER; others stay
abbrev pub visible_char : ℕ → List ℕ
visible_char c =
    if nat_lt c 0x20 then encode_utf8 (0x2400 + c)
    else if c == delete then encode_utf8 0x2421
    else if is_c1 c then encode_utf8 0xfffd
    else encode_utf8 c

-- ---- characters that turn the order of others

-- U+FFFD REPLACEMENT CHARACTER
abbrev pub replacement : ℕ
replacement = 0xfffd

-- U+202A to U+202E, which embed and override, and what ends these; U+2066 to U+2069, which isolate, and what ends these
-- (Unicode, Standard Annex #9, 2.1 to 2.5)
abbrev pub is_turning : ℕ → Bool
is_turning c = is_in_range 0x202a 0x202e c || is_in_range 0x2066 0x2069 c

-- where such a one is not taken as it is
abbrev pub is_turned : Escapes → ℕ → Bool
is_turned All c = false
is_turned Colors c = is_turning c
is_turned NoEscapes c = is_turning c

-- it becomes U+FFFD; all else is made visible
abbrev pub ordered_char : Escapes → ℕ → List ℕ
ordered_char escapes c = if is_turned escapes c then encode_utf8 replacement else visible_char c

-- ---- texts

-- what a character of a field becomes: a tab four spaces; a line feed stays
abbrev pub cleaned_char : Escapes → ℕ → List ℕ
cleaned_char escapes c =
    if c == line_feed then line_feed ∷ []
    else if c == tab then replicate 4 space
    else ordered_char escapes c

abbrev pub begins_with_line_feed : List ℕ → Bool
begins_with_line_feed [] = false
begins_with_line_feed (c ∷ cs) = c == line_feed

-- the characters without each carriage return that is before a line feed
abbrev pub without_returns : List ℕ → List ℕ
without_returns [] = []
without_returns (c ∷ cs) = (if (c == carriage_return) && begins_with_line_feed cs then [] else c ∷ []) ++ without_returns cs

-- the bytes of characters that are shown, an ESC too
abbrev pub cleaned_text : Escapes → List ℕ → List ℕ
cleaned_text escapes characters = flat_map (cleaned_char escapes) (without_returns characters)

-- ---- the pieces of a text: characters, sequences, and each ESC that begins none

-- ERASE IN LINE (ECMA-48, 8.3.41), `ESC [ K` and `ESC [ 0 K`, and `ESC ( B`, by which letters are those of ASCII
-- (ECMA-35, 14.3.2): programs write them beside colours
abbrev pub stands_by_colors : List ℕ → Bool
stands_by_colors bytes =
    bytes_eq bytes (codes "\u{1b}[K") || (bytes_eq bytes (codes "\u{1b}[0K") || bytes_eq bytes (codes "\u{1b}(B"))

-- the pieces that stay as they are: under `All` each sequence, under `Colors` those that set and clear what the table
-- knows
abbrev pub is_kept : Escapes → Piece → Bool
is_kept All piece = not (is_text_kind piece.kind)
is_kept Colors piece = is_kept_rendition piece.bytes
is_kept NoEscapes piece = false

-- those that go
abbrev pub is_dropped : Escapes → List ℕ → Bool
is_dropped All bytes = false
is_dropped Colors bytes = stands_by_colors bytes
is_dropped NoEscapes bytes = false

-- what becomes of a piece: what neither stays nor goes is text like any other, each ESC in it shown by its picture
abbrev pub cleaned_piece : Escapes → Piece → List ℕ
cleaned_piece escapes piece =
    if is_kept escapes piece then piece.bytes
    else if is_dropped escapes piece.bytes then []
    else cleaned_text escapes (chars piece.bytes)

-- U+241B SYMBOL FOR ESCAPE
abbrev pub picture_of_escape : List ℕ
picture_of_escape = 0xe2 ∷ 0x90 ∷ 0x9b ∷ []

-- a field
abbrev pub cleaned : Escapes → List ℕ → List ℕ
cleaned escapes field = flat_map (cleaned_piece escapes) (pieces field)

-- a character that is no control character but a line feed
abbrev pub always_stays : ℕ → Bool
always_stays c = not (is_control c) || (c == line_feed)

-- one that stays as it is
abbrev pub stays : Escapes → ℕ → Bool
stays escapes c = always_stays c && not (is_turned escapes c)

-- one that is shown as it is, on the line that it is on
abbrev pub is_shown : Escapes → ℕ → Bool
is_shown escapes c = not (is_control c) && not (is_turned escapes c)

-- no character of a text is a control character
abbrev pub has_no_controls : List ℕ → Bool
has_no_controls text = list_all (λ c. not (is_control c)) (chars text)

-- ---- what may be in a text that is cleaned

-- the bytes of characters, none of which is a control character but a line feed
pub record HasNoControls (bytes : List ℕ) : Type 0 where
  pub characters : List ℕ
  pub spelled : encode_utf8_all characters ≡ bytes
  pub each : IsTrue (list_all always_stays characters)

-- the text is parts one after the other: sequences that pass this test, and texts without a control character but line
-- feeds. So an ESC is nowhere but where such a sequence begins
pub record HasOnly (is_sequence : List ℕ → Bool) (text : List ℕ) : Type 0 where
  pub parts : List (List ℕ)
  pub joins : concat parts ≡ text
  pub each : AllByRecursion (λ part. IsTrue (is_sequence part) ⊎ HasNoControls part) parts

-- the sequences that may be in a field that is cleaned, where not all may
abbrev pub may_stand : Escapes → List ℕ → Bool
may_stand All bytes = true
may_stand Colors bytes = is_kept_rendition bytes
may_stand NoEscapes bytes = false
