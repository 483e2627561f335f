-- A field that is cleaned shows no control character but line feeds.
use Rattle.std.proofs.Common.{◌≡◌, ◌≢◌, ◌∙◌, ◌+◌, ◌<◌, ◌==◌, ◌||◌, nat_lt, ℕ, Bool, true, false, List, [], ◌∷◌, Option, None, Some, map, refl, ap, sym, arith, if◌then◌else◌}
use Rattle.std.specs.Prelude.{IsUtf8, chars, encode_utf8, flat_map, replicate}
use Rattle.std.specs.Char.{IsScalar}
use Rattle.std.specs.Int.{is_in_range}
use Rattle.std.specs.List.{AllByRecursion, list_all}
use Rattle.std.proofs.lemmas.Bool.Decides.{nat_tests}
use Rattle.std.proofs.lemmas.Str.{scalars-chars}
use Rattle.ansi_scan.specs.Joining.{is_text_kind}
use Rattle.ansi_scan.specs.Pieces.{pieces}
use Rattle.ansi_scan.specs.Rendition.{sgr_parameters}
use Rattle.ansi_scan.specs.Sequences.{EachStands, Piece, Stands, escape, is_not_escape}
use Rattle.ansi_scan.specs.declared.items.Kind.{Kind}
use Rattle.ansi_scan.specs.declared.items.Kind.TheVariants.{Text, Sgr, Csi, Osc, Esc, Str, Broken}
use Rattle.ansi_scan.proofs.Existence.{ArePiecesOf-pieces}
use Rattle.ansi_scan.proofs.StyleLemmas.Forms.{sequence_from-sgr_parameters}
use Rattle.ansi_str_search.proofs.TextLemmas.Utf8Pieces.{EachUtf8, EachUtf8-of}
use Rattle.csv.specs.Machine.{line_feed}
use Rattle.csv.specs.Reading.{records}
use Rattle.grid_records_measure.specs.Cutting.{replacement}
use Rattle.grid_records_measure.specs.Tabs.{space, tab}
use Rattle.grid_records_measure.specs.TextLines.{is_line_feed}
use Rattle.papergrid_picture.proofs.Related.{All-map_of}
use Rattle.program_options.specs.declared.basinmug.Escapes.{Escapes}
use Rattle.program_options.specs.declared.basinmug.Escapes.TheVariants.{Colors, All, None as NoEscapes}
use Rattle.basinmug_input.specs.Cleaning.{cleaned, cleaned_char, cleaned_piece, cleaned_text, delete, is_c1, is_dropped, is_kept, is_turned, visible_char, without_returns}
use Rattle.basinmug_input.specs.Faults.{IsReadable}
use Rattle.basinmug_input.specs.Flaws.{IsReadableField}
use Rattle.basinmug_input.specs.Reading.{settings}
use Rattle.basinmug_input.specs.Renditions.{are_kept, is_kept_rendition}
use Rattle.basinmug_input.specs.Rows.{rows_in, text_of_bytes}
use Rattle.tables_laws.specs.Grids.TextsOf.{AreTextsOf}
use Rattle.tables_laws.proofs.GridsLemmas.Texts.{append-of, character-of, nothing-of}
use Rattle.basinmug_laws.specs.Controls.ControlTexts.{ShowsNoControls, is_no_control}
use Rattle.basinmug_laws.proofs.AdditiveLemmas.RowsOf.{ascii-of, feed-of, flat_map-of, sequence-of}
use Rattle.basinmug_laws.proofs.ShownLemmas.WholeTexts.{all-scalars, kept-stands, no-escape-above, picture-scalar, without_returns-all}

-- ---- the class: it has printable ASCII, U+FFFD and the ellipsis

pub ascii-inside : (c : ℕ) → is_in_range 0x20 0x7E c ≡ true → is_no_control c ≡ true
ascii-inside c printable = grind (arith, nat_tests, printable)

pub mark-inside : is_no_control replacement ≡ true
mark-inside = refl

pub dots-inside : is_no_control 0x2026 ≡ true
dots-inside = refl

-- ---- characters

one : (c : ℕ) → IsScalar c → c ≢ escape → is_no_control c ≡ true → ShowsNoControls (encode_utf8 c)
one c scalar other inside = character-of is_no_control c (record { scalar = scalar; no_escape = other }) (ap (λ t. t || is_line_feed c) inside)

either : (b : Bool) (x y : List ℕ) → (b ≡ true → ShowsNoControls x) → (b ≡ false → ShowsNoControls y) → ShowsNoControls (if b then x else y)
either true x y first second = first refl
either false x y first second = second refl

picture-inside : (c : ℕ) → nat_lt c 0x20 ≡ true → is_no_control (0x2400 + c) ≡ true
picture-inside c low = grind (arith, nat_tests, low)

other-inside : (c : ℕ) → nat_lt c 0x20 ≡ false → (c == delete) ≡ false → is_c1 c ≡ false → is_no_control c ≡ true
other-inside c low no_delete no_c1 = grind (arith, nat_tests, low, no_delete, no_c1)

picture-of : (c : ℕ) → nat_lt c 0x20 ≡ true → ShowsNoControls (encode_utf8 (0x2400 + c))
picture-of c low =
    let less : c < 0x20 = grind (arith, nat_tests, low) in
    one (0x2400 + c) (picture-scalar c less) (λ same. absurd (omega (arith, same))) (picture-inside c low)

visible-of : (c : ℕ) → IsScalar c → ShowsNoControls (visible_char c)
visible-of c scalar =
    let high = if is_c1 c then encode_utf8 0xfffd else encode_utf8 c in
    let rest = if c == delete then encode_utf8 0x2421 else high in
    either (nat_lt c 0x20) (encode_utf8 (0x2400 + c)) rest (picture-of c)
    (λ low. either (c == delete) (encode_utf8 0x2421) high (λ is. one 0x2421 refl (λ same. cc same) refl)
    (λ no_delete. either (is_c1 c) (encode_utf8 0xfffd) (encode_utf8 c) (λ is. one 0xfffd refl (λ same. cc same) refl)
    (λ no_c1. one c scalar (no-escape-above c low) (other-inside c low no_delete no_c1))))

feed-text : ShowsNoControls (line_feed ∷ [])
feed-text = feed-of is_no_control ascii-inside mark-inside dots-inside

spaces-text : ShowsNoControls (replicate 4 space)
spaces-text = ascii-of is_no_control ascii-inside mark-inside dots-inside (replicate 4 space) refl

mark-text : ShowsNoControls (encode_utf8 0xfffd)
mark-text = one 0xfffd refl (λ same. cc same) refl

shown-of : (feed tabbed turned : Bool) (other : List ℕ) → ShowsNoControls other
    → ShowsNoControls (if feed then line_feed ∷ [] else if tabbed then replicate 4 space else if turned then encode_utf8 0xfffd else other)
shown-of true tabbed turned other is = feed-text
shown-of false true turned other is = spaces-text
shown-of false false true other is = mark-text
shown-of false false false other is = is

cleaned-of : (escapes : Escapes) (c : ℕ) → IsScalar c → ShowsNoControls (cleaned_char escapes c)
cleaned-of escapes c scalar = shown-of (c == line_feed) (c == tab) (is_turned escapes c) (visible_char c) (visible-of c scalar)

pub text-of_characters : (escapes : Escapes) (bytes : List ℕ) → IsUtf8 bytes → ShowsNoControls (cleaned_text escapes (chars bytes))
text-of_characters escapes bytes utf8 =
    flat_map-of is_no_control ascii-inside mark-inside dots-inside IsScalar (cleaned_char escapes) (cleaned-of escapes) (without_returns (chars bytes))
    (without_returns-all (chars bytes) (all-scalars (chars bytes) (scalars-chars bytes utf8)))

-- ---- pieces

-- what stays begins with an ESC, and is no text
begins : (bytes : List ℕ) (o : Option (List ℕ)) → sgr_parameters bytes ≡ o → are_kept o ≡ true → list_all is_not_escape bytes ≡ true → ⊥
begins bytes None e kept plain = cc kept
begins bytes (Some parameters) e kept plain =
    let form = (sequence_from-sgr_parameters bytes parameters e).0 in
    let clash : false ≡ true = sym (ap (list_all is_not_escape) form) ∙ plain in
    cc clash

no-text : (kind : Kind) (bytes : List ℕ) (after : List Piece) → is_kept_rendition bytes ≡ true → Stands kind bytes after → is_text_kind kind ≡ false
no-text Text bytes after kept stands = absurd (begins bytes (sgr_parameters bytes) refl kept stands.plain)
no-text Sgr bytes after kept stands = refl
no-text Csi bytes after kept stands = refl
no-text Osc bytes after kept stands = refl
no-text Esc bytes after kept stands = refl
no-text Str bytes after kept stands = refl
no-text Broken bytes after kept stands = refl

kept-no_text : (escapes : Escapes) (piece : Piece) (after : List Piece) → escapes ≢ All → is_kept escapes piece ≡ true → Stands piece.kind piece.bytes after → is_text_kind piece.kind ≡ false
kept-no_text All piece after not_all kept stands = absurd (not_all refl)
kept-no_text Colors piece after not_all kept stands = no-text piece.kind piece.bytes after kept stands
kept-no_text NoEscapes piece after not_all kept stands = cc kept

piece-of : (escapes : Escapes) (piece : Piece) (after : List Piece) → escapes ≢ All → Stands piece.kind piece.bytes after → IsUtf8 piece.bytes → ShowsNoControls (cleaned_piece escapes piece)
piece-of escapes piece after not_all stands utf8 = by (is_kept escapes piece) (is_dropped escapes piece.bytes) refl
  where
    by : (kept dropped : Bool) → is_kept escapes piece ≡ kept → ShowsNoControls (if kept then piece.bytes else if dropped then [] else cleaned_text escapes (chars piece.bytes))
    by true dropped e =
        sequence-of is_no_control ascii-inside mark-inside dots-inside piece after stands
        (kept-stands escapes piece after (λ all. absurd (not_all all)) stands e) utf8 (kept-no_text escapes piece after not_all e stands)
    by false true e = nothing-of is_no_control
    by false false e = text-of_characters escapes piece.bytes utf8

pieces-of : (escapes : Escapes) (ps : List Piece) → escapes ≢ All → EachStands ps → EachUtf8 ps → ShowsNoControls (flat_map (cleaned_piece escapes) ps)
pieces-of escapes [] not_all stand utf8 = nothing-of is_no_control
pieces-of escapes (piece ∷ ps) not_all stand utf8 =
    append-of is_no_control (cleaned_piece escapes piece) (flat_map (cleaned_piece escapes) ps)
    (piece-of escapes piece ps not_all stand.0 utf8.0) (pieces-of escapes ps not_all stand.1 utf8.1)

pub field-of : (escapes : Escapes) → escapes ≢ All → (field : List ℕ) → IsReadableField escapes field → ShowsNoControls (cleaned escapes field)
field-of escapes not_all field sound = let are = ArePiecesOf-pieces field in pieces-of escapes (pieces field) not_all are.stand (EachUtf8-of field (pieces field) sound.0 are)

pub rows-of : (escapes : Escapes) (delimiter : ℕ) (bytes : List ℕ) → escapes ≢ All → IsReadable escapes (settings delimiter) (text_of_bytes bytes) → AreTextsOf is_no_control (rows_in escapes delimiter bytes)
rows-of escapes delimiter bytes not_all readable =
    All-map_of (AllByRecursion (IsReadableField escapes)) (AllByRecursion ShowsNoControls) (map (cleaned escapes))
    (λ row all. All-map_of (IsReadableField escapes) ShowsNoControls (cleaned escapes) (field-of escapes not_all) row all)
    (records (settings delimiter) (text_of_bytes bytes)) readable.sound
