-- A text without ESC is one piece. Printable ASCII is so, and is shown as it is.
use Rattle.std.proofs.Common.{◌≡◌, ◌∙◌, ◌<◌, ℕ, zero, suc, Bool, true, List, [], ◌∷◌, refl, ap, arith, append-nil, chars, flat_map}
use Rattle.std.proofs.lemmas.Bool.{not-true}
use Rattle.std.proofs.lemmas.Bool.Decides.{nat_tests}
use Rattle.std.proofs.lemmas.Str.{IsUtf8-from_ascii, chars-IsAscii, encodes-chars}
use Rattle.std.specs.Int.{is_in_range}
use Rattle.std.specs.List.{list_all}
use Rattle.std.specs.Prelude.{◌==◌, ◌&&◌, ◌||◌, not, false, bytes_eq, codes, if◌then◌else◌, slice_index}
use Rattle.std.specs.Str.{IsAscii}
use Rattle.ansi_scan.specs.Sequences.{ArePiecesOf, EachStands, IsWhole, NoneBroken, Piece, is_not_escape, joined}
use Rattle.ansi_scan.specs.declared.items.Kind.TheVariants as kind
use Rattle.ansi_scan.proofs.Uniqueness.{pieces-ArePiecesOf}
use Rattle.grid_records_measure.specs.Measures.{are_printable}
use Rattle.program_options.specs.declared.basinmug.Escapes.{Escapes}
use Rattle.program_options.specs.declared.basinmug.Escapes.TheVariants.{Colors, All, None as NoEscapes}
use Rattle.basinmug_input.specs.Cleaning.{always_stays, cleaned, cleaned_piece, cleaned_text, is_dropped, is_kept, is_turned, stands_by_colors, stays}
use Rattle.basinmug_input.specs.Flaws.{HasGoodEscapes}
use Rattle.basinmug_input.proofs.Cleans.{both, stay-cleaned}

plain : (b : ℕ) → is_in_range 0x20 0x7E b ≡ true → is_not_escape b ≡ true
plain b h = grind (arith, nat_tests)

pub all-plain : (text : List ℕ) → are_printable text ≡ true → list_all is_not_escape text ≡ true
all-plain [] h = refl
all-plain (b ∷ text) h =
    let each = both (is_in_range 0x20 0x7E b) (are_printable text) h in
    ap (λ (t : Bool). t && list_all is_not_escape text) (plain b each.0) ∙ all-plain text each.1

-- its pieces: it is one, where it has any bytes
abbrev only : List ℕ → List Piece
only [] = []
only (b ∷ text) = record { kind = kind.Text; bytes = b ∷ text } ∷ []

only-joins : (text : List ℕ) → joined (only text) ≡ text
only-joins [] = refl
only-joins (b ∷ text) = append-nil (b ∷ text)

only-stands : (text : List ℕ) → list_all is_not_escape text ≡ true → EachStands (only text)
only-stands [] h = tt
only-stands (b ∷ text) h = (record { some = omega arith; plain = h; ends = tt }, tt)

only-of : (text : List ℕ) → list_all is_not_escape text ≡ true → ArePiecesOf text (only text)
only-of text h = record { joins = only-joins text; stand = only-stands text h }

no-broken : (text : List ℕ) → NoneBroken (only text)
no-broken [] = tt
no-broken (b ∷ text) = (λ e. cc e, tt)

plain-whole : (text : List ℕ) → list_all is_not_escape text ≡ true → IsWhole text
plain-whole text h = record { pieces = only text; of_text = only-of text h; none_broken = no-broken text }

-- it has no escape at all
pub plain-good : (escapes : Escapes) (text : List ℕ) → list_all is_not_escape text ≡ true → HasGoodEscapes escapes text
plain-good All text h = plain-whole text h
plain-good Colors text h = tt
plain-good NoEscapes text h = tt

-- what begins with no ESC doesn't go
not-by_colors : (b : ℕ) (text : List ℕ) → (b == 27) ≡ false → stands_by_colors (b ∷ text) ≡ false
not-by_colors b text h =
    ap (λ (t : Bool). (t && bytes_eq text (codes "[K")) || ((t && bytes_eq text (codes "[0K")) || (t && bytes_eq text (codes "(B")))) h

not-dropped : (escapes : Escapes) (b : ℕ) (text : List ℕ) → is_not_escape b ≡ true → is_dropped escapes (b ∷ text) ≡ false
not-dropped All b text h = refl
not-dropped Colors b text h = not-by_colors b text (not-true (b == 27) h)
not-dropped NoEscapes b text h = refl

-- so it is shown as it is where its characters are, whether it stays or is text
shown-itself : (kept dropped : Bool) (bytes shown : List ℕ) → dropped ≡ false → shown ≡ bytes → (if kept then bytes else if dropped then [] else shown) ≡ bytes
shown-itself true dropped bytes shown none same = refl
shown-itself false true bytes shown none same = cc none
shown-itself false false bytes shown none same = same

only-cleaned : (escapes : Escapes) (text : List ℕ) → list_all is_not_escape text ≡ true → cleaned_text escapes (chars text) ≡ text → flat_map (cleaned_piece escapes) (only text) ≡ text
only-cleaned escapes [] h same = refl
only-cleaned escapes (b ∷ text) h same =
    let piece : Piece = record { kind = kind.Text; bytes = b ∷ text } in
    append-nil (cleaned_piece escapes piece)
    ∙ shown-itself (is_kept escapes piece) (is_dropped escapes (b ∷ text)) (b ∷ text) (cleaned_text escapes (chars (b ∷ text)))
    (not-dropped escapes b text (both (is_not_escape b) (list_all is_not_escape text) h).0) same

pub plain-cleaned : (escapes : Escapes) (text : List ℕ) → list_all is_not_escape text ≡ true → cleaned_text escapes (chars text) ≡ text → cleaned escapes text ≡ text
plain-cleaned escapes text h same = ap (flat_map (cleaned_piece escapes)) (pieces-ArePiecesOf text (only text) (only-of text h)) ∙ only-cleaned escapes text h same

-- ---- its characters are its bytes, and each stays

low : (b : ℕ) → is_in_range 0x20 0x7E b ≡ true → b < 128
low b h = grind (arith, nat_tests)

each-low : (text : List ℕ) (i : ℕ) → are_printable text ≡ true → slice_index text i < 128
each-low [] i h = omega arith
each-low (b ∷ text) zero h = low b (both (is_in_range 0x20 0x7E b) (are_printable text) h).0
each-low (b ∷ text) (suc i) h = each-low text i (both (is_in_range 0x20 0x7E b) (are_printable text) h).1

never-turned : (escapes : Escapes) (b : ℕ) → is_in_range 0x20 0x7E b ≡ true → is_turned escapes b ≡ false
never-turned All b h = refl
never-turned Colors b h = grind (arith, nat_tests)
never-turned NoEscapes b h = grind (arith, nat_tests)

always-here : (b : ℕ) → is_in_range 0x20 0x7E b ≡ true → always_stays b ≡ true
always-here b h = grind (arith, nat_tests)

stays-here : (escapes : Escapes) (b : ℕ) → is_in_range 0x20 0x7E b ≡ true → stays escapes b ≡ true
stays-here escapes b h = ap (λ (t : Bool). t && not (is_turned escapes b)) (always-here b h) ∙ ap (λ (t : Bool). not t) (never-turned escapes b h)

all-stay : (escapes : Escapes) (text : List ℕ) → are_printable text ≡ true → list_all (stays escapes) text ≡ true
all-stay escapes [] h = refl
all-stay escapes (b ∷ text) h =
    let each = both (is_in_range 0x20 0x7E b) (are_printable text) h in
    ap (λ (t : Bool). t && list_all (stays escapes) text) (stays-here escapes b each.0) ∙ all-stay escapes text each.1

cleaned-itself : (escapes : Escapes) (text : List ℕ) → are_printable text ≡ true → cleaned_text escapes (chars text) ≡ text
cleaned-itself escapes text h =
    let ascii : IsAscii text = λ i. each-low text i h in
    stay-cleaned escapes (chars text) (ap (list_all (stays escapes)) (chars-IsAscii text ascii) ∙ all-stay escapes text h) ∙ encodes-chars text (IsUtf8-from_ascii text ascii)

pub printable-cleaned : (escapes : Escapes) (text : List ℕ) → are_printable text ≡ true → cleaned escapes text ≡ text
printable-cleaned escapes text h = plain-cleaned escapes text (all-plain text h) (cleaned-itself escapes text h)

pub printable-good : (escapes : Escapes) (text : List ℕ) → are_printable text ≡ true → HasGoodEscapes escapes text
printable-good escapes text h = plain-good escapes text (all-plain text h)
