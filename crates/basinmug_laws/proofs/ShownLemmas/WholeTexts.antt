-- Texts whose characters outside sequences are changed: a whole text stays whole.
use Rattle.std.proofs.Common.{◌≡◌, ◌≢◌, ◌==◌, ◌&&◌, ◌+◌, ◌<◌, nat_lt, ℕ, Bool, true, false, List, [], ◌∷◌, ◌++◌, map, refl, ap, sym, subst, ◌∙◌, arith, append-nil, lit<}
use Rattle.std.specs.Prelude.{IsUtf8, chars, codes, encode_utf8, encode_utf8_all, flat_map, replicate, if◌then◌else◌}
use Rattle.std.specs.Char.{IsScalar}
use Rattle.std.specs.List.{AllByRecursion, list_all}
use Rattle.std.proofs.Math.Utf8.{scalar, scalars}
use Rattle.std.proofs.lemmas.Bool.{and_parts}
use Rattle.std.proofs.lemmas.Bool.Decides.{nat_tests}
use Rattle.std.proofs.lemmas.Str.{IsUtf8-nil, encode_ascii, encodes-chars, scalars-chars}
use Rattle.ansi_scan.specs.Joining.{is_text_kind}
use Rattle.ansi_scan.specs.Pieces.{pieces}
use Rattle.ansi_scan.specs.Sequences.{ArePiecesOf, EachStands, NoneBroken, Piece, Stands, escape, is_not_escape}
use Rattle.ansi_scan.specs.declared.items.Kind.{Kind}
use Rattle.ansi_scan.specs.declared.items.Kind.TheVariants.{Text, Sgr, Csi, Osc, Esc, Str, Broken}
use Rattle.ansi_scan.proofs.Existence.{ArePiecesOf-pieces}
use Rattle.ansi_scan.proofs.Uniqueness.{pieces-ArePiecesOf}
use Rattle.ansi_str_search.proofs.Dressed.{Stands-before}
use Rattle.ansi_str_search.proofs.TextLemmas.Utf8Pieces.{EachUtf8, EachUtf8-of}
use Rattle.csv.specs.Machine.{line_feed}
use Rattle.csv.specs.Reading.{records}
use Rattle.grid_records_measure.specs.Tabs.{space, tab}
use Rattle.papergrid_picture.specs.Shown.{AreWholeTexts, BeginsNoSequence, IsTextWithoutEscape, IsWholeText}
use Rattle.papergrid_picture.proofs.Related.{All-map_of}
use Rattle.papergrid_picture.proofs.Shown.{ShowsHere-character, pieces-nothing}
use Rattle.tabled_size_wrap.proofs.CellsLemmas.TextsWithoutEscape.{plain-whole}
use Rattle.tabled_list.proofs.StrippingLemmas.StrippedTexts.{Alike-append, Alike-stripped}
use Rattle.papergrid_picture.proofs.Stripped.{stripped}
use Rattle.basinmug_input.specs.Cleaning.{begins_with_line_feed, cleaned, cleaned_char, cleaned_piece, cleaned_text, delete, is_c1, is_dropped, is_kept, is_turned, replacement, visible_char, without_returns}
use Rattle.basinmug_input.specs.Faults.{IsReadable}
use Rattle.basinmug_input.specs.Flaws.{HasGoodEscapes, IsReadableField}
use Rattle.basinmug_input.specs.Reading.{settings}
use Rattle.basinmug_input.specs.Renditions.{is_kept_rendition}
use Rattle.basinmug_input.specs.Rows.{rows_in, text_of_bytes}
use Rattle.program_options.specs.declared.basinmug.Escapes.{Escapes}
use Rattle.program_options.specs.declared.basinmug.Escapes.TheVariants.{Colors, All, None as NoEscapes}
use Rattle.basinmug_columns.specs.Markdown.Escapes.{in_markdown, markdown_char, markdown_text}
use Rattle.basinmug_laws.proofs.ShownLemmas.PlainTexts.{ascii-text}

-- ---- whole texts one after the other

pub whole-nothing : IsWholeText []
whole-nothing = record { utf8 = IsUtf8-nil; whole = subst NoneBroken (sym pieces-nothing) tt }

pub whole-append : (a b : List ℕ) → IsWholeText a → IsWholeText b → IsWholeText (a ++ b)
whole-append a b first second = (Alike-append a b (stripped a) (stripped b) (Alike-stripped a first) (Alike-stripped b second)).whole

pub whole-flat_map : {A : Type 0} (P : A → Type 0) (f : A → List ℕ) → ((x : A) → P x → IsWholeText (f x)) → (xs : List A) → AllByRecursion P xs → IsWholeText (flat_map f xs)
whole-flat_map P f each [] all = whole-nothing
whole-flat_map P f each (x ∷ xs) all = whole-append (f x) (flat_map f xs) (each x all.0) (whole-flat_map P f each xs all.1)

pub whole-character : (c : ℕ) → BeginsNoSequence c → IsWholeText (encode_utf8 c)
whole-character c is = let shows = ShowsHere-character c is in record { utf8 = shows.utf8; whole = shows.closed.none_broken }

pub whole-ascii : (bytes : List ℕ) → IsTextWithoutEscape bytes → IsWholeText bytes
whole-ascii bytes is = plain-whole bytes is

-- ---- a text by its pieces

-- a piece of a whole text is one by itself
pub piece-whole : (p : Piece) (ps : List Piece) → Stands p.kind p.bytes ps → p.kind ≢ Broken → IsUtf8 p.bytes → IsWholeText p.bytes
piece-whole p ps stands whole utf8 =
    let are : ArePiecesOf p.bytes (p ∷ []) = record { joins = append-nil p.bytes; stand = (Stands-before p.kind p.bytes ps [] stands whole (λ first. tt), tt) } in
    record { utf8 = utf8; whole = subst NoneBroken (sym (pieces-ArePiecesOf p.bytes (p ∷ []) are)) (whole, tt) }

-- the bytes of a text have no ESC
pub plain-bytes : (kind : Kind) (bytes : List ℕ) (after : List Piece) → is_text_kind kind ≡ true → Stands kind bytes after → list_all is_not_escape bytes ≡ true
plain-bytes Text bytes after e stands = stands.plain
plain-bytes Sgr bytes after e stands = absurd (cc e)
plain-bytes Csi bytes after e stands = absurd (cc e)
plain-bytes Osc bytes after e stands = absurd (cc e)
plain-bytes Esc bytes after e stands = absurd (cc e)
plain-bytes Str bytes after e stands = absurd (cc e)
plain-bytes Broken bytes after e stands = absurd (cc e)

module _ (change : List ℕ → List ℕ) (leaves : (bytes : List ℕ) → IsUtf8 bytes → list_all is_not_escape bytes ≡ true → IsWholeText (change bytes)) where
  abbrev changed : Piece → List ℕ
  changed p = if is_text_kind p.kind then change p.bytes else p.bytes

  changed-whole : (ps : List Piece) → EachStands ps → NoneBroken ps → EachUtf8 ps → IsWholeText (flat_map changed ps)
  changed-whole [] stand whole utf8 = whole-nothing
  changed-whole (p ∷ ps) stand whole utf8 = whole-append (changed p) (flat_map changed ps) (here (is_text_kind p.kind) refl) (changed-whole ps stand.1 whole.1 utf8.1)
    where
      here : (text : Bool) → is_text_kind p.kind ≡ text → IsWholeText (if text then change p.bytes else p.bytes)
      here true e = leaves p.bytes utf8.0 (plain-bytes p.kind p.bytes ps e stand.0)
      here false e = piece-whole p ps stand.0 whole.0 utf8.0

  text-changed : (text : List ℕ) → IsWholeText text → IsWholeText (flat_map changed (pieces text))
  text-changed text is = let are = ArePiecesOf-pieces text in changed-whole (pieces text) are.stand is.whole (EachUtf8-of text (pieces text) is.utf8 are)

-- ---- characters of a text

abbrev pub IsSign : ℕ → Type 0
IsSign c = IsScalar c × (c ≢ escape)

pub all-scalars : (cs : List ℕ) → scalars cs ≡ true → AllByRecursion IsScalar cs
all-scalars [] all = tt
all-scalars (c ∷ cs) all = let parts = and_parts (scalar c) (scalars cs) all in (parts.0, all-scalars cs parts.1)

both-parts : (p : ℕ → Bool) (xs ys : List ℕ) → list_all p (xs ++ ys) ≡ true → (list_all p xs ≡ true) × (list_all p ys ≡ true)
both-parts p [] ys all = (refl, all)
both-parts p (x ∷ xs) ys all =
    let parts = and_parts (p x) (list_all p (xs ++ ys)) all in
    let others = both-parts p xs ys parts.1 in
    (ap (λ t. t && list_all p xs) parts.0 ∙ others.0, others.1)

no-escapes : (cs : List ℕ) → list_all is_not_escape (encode_utf8_all cs) ≡ true → AllByRecursion (λ c. c ≢ escape) cs
no-escapes [] all = tt
no-escapes (c ∷ cs) all =
    let parts = both-parts is_not_escape (encode_utf8 c) (encode_utf8_all cs) all in (
      (λ same.
          let clash : false ≡ true = sym (ap (λ x. list_all is_not_escape (encode_utf8 x)) same ∙ ap (list_all is_not_escape) (encode_ascii escape (lit< tt))) ∙ parts.0 in
          absurd (cc clash)),
      no-escapes cs parts.1,
    )

both-all : {A : Type 0} (P Q : A → Type 0) (xs : List A) → AllByRecursion P xs → AllByRecursion Q xs → AllByRecursion (λ x. P x × Q x) xs
both-all P Q [] p q = tt
both-all P Q (x ∷ xs) p q = ((p.0, q.0), both-all P Q xs p.1 q.1)

pub signs-of : (bytes : List ℕ) → IsUtf8 bytes → list_all is_not_escape bytes ≡ true → AllByRecursion IsSign (chars bytes)
signs-of bytes utf8 plain =
    both-all IsScalar (λ c. c ≢ escape) (chars bytes) (all-scalars (chars bytes) (scalars-chars bytes utf8))
    (no-escapes (chars bytes) (ap (list_all is_not_escape) (encodes-chars bytes utf8) ∙ plain))

-- ---- cleaned

begins : (c : ℕ) → IsScalar c → c ≢ escape → IsWholeText (encode_utf8 c)
begins c is other = whole-character c (record { scalar = is; no_escape = other })

pub picture-scalar : (c : ℕ) → c < 0x20 → IsScalar (0x2400 + c)
picture-scalar c less = grind (arith, nat_tests, less)

either-whole : (b : Bool) (x y : List ℕ) → (b ≡ true → IsWholeText x) → (b ≡ false → IsWholeText y) → IsWholeText (if b then x else y)
either-whole true x y first second = first refl
either-whole false x y first second = second refl

picture-whole : (c : ℕ) → nat_lt c 0x20 ≡ true → IsWholeText (encode_utf8 (0x2400 + c))
picture-whole c e =
    let less : c < 0x20 = grind (arith, nat_tests, e) in
    begins (0x2400 + c) (picture-scalar c less) (λ same. absurd (omega (arith, same)))

pub no-escape-above : (c : ℕ) → nat_lt c 0x20 ≡ false → c ≢ escape
no-escape-above c low = λ same. let clash : true ≡ false = ap (λ x. nat_lt x 0x20) (sym same) ∙ low in cc clash

symbol-whole : IsWholeText (encode_utf8 0x2421)
symbol-whole = begins 0x2421 refl (λ same. cc same)

replacement-whole : IsWholeText (encode_utf8 0xfffd)
replacement-whole = begins 0xfffd refl (λ same. cc same)

visible-whole : (c : ℕ) → IsScalar c → IsWholeText (visible_char c)
visible-whole c is =
    let high = if is_c1 c then encode_utf8 0xfffd else encode_utf8 c in
    let other = if c == delete then encode_utf8 0x2421 else high in
    either-whole (nat_lt c 0x20) (encode_utf8 (0x2400 + c)) other (picture-whole c)
    (λ low. either-whole (c == delete) (encode_utf8 0x2421) high (λ e. symbol-whole)
    (λ e. either-whole (is_c1 c) (encode_utf8 0xfffd) (encode_utf8 c) (λ e. replacement-whole) (λ e. begins c is (no-escape-above c low))))

cleaned-whole : (escapes : Escapes) (c : ℕ) → IsScalar c → IsWholeText (cleaned_char escapes c)
cleaned-whole escapes c is = by (c == line_feed) (c == tab) (is_turned escapes c)
  where
    by : (feed tabbed turned : Bool) → IsWholeText (if feed then line_feed ∷ [] else if tabbed then replicate 4 space else if turned then encode_utf8 replacement else visible_char c)
    by true tabbed turned = whole-ascii (line_feed ∷ []) (ascii-text (line_feed ∷ []) refl)
    by false true turned = whole-ascii (replicate 4 space) (ascii-text (replicate 4 space) refl)
    by false false true = replacement-whole
    by false false false = visible-whole c is

pub without_returns-all : (cs : List ℕ) → AllByRecursion IsScalar cs → AllByRecursion IsScalar (without_returns cs)
without_returns-all [] all = tt
without_returns-all (c ∷ cs) all = by ((c == 0x0d) && begins_with_line_feed cs) (without_returns-all cs all.1)
  where
    by : (b : Bool) → AllByRecursion IsScalar (without_returns cs) → AllByRecursion IsScalar ((if b then [] else c ∷ []) ++ without_returns cs)
    by true others = others
    by false others = (all.0, others)

text-cleaned : (escapes : Escapes) (bytes : List ℕ) → IsUtf8 bytes → IsWholeText (cleaned_text escapes (chars bytes))
text-cleaned escapes bytes utf8 =
    whole-flat_map IsScalar (cleaned_char escapes) (cleaned-whole escapes) (without_returns (chars bytes)) (without_returns-all (chars bytes) (all-scalars (chars bytes) (scalars-chars bytes utf8)))

-- a piece that stays is no broken ESC
alone : (kind : Kind) (bytes : List ℕ) (after : List Piece) → kind ≡ Broken → Stands kind bytes after → bytes ≡ escape ∷ []
alone Broken bytes after is stands = stands.spelled
alone Text bytes after is stands = absurd (cc is)
alone Sgr bytes after is stands = absurd (cc is)
alone Csi bytes after is stands = absurd (cc is)
alone Osc bytes after is stands = absurd (cc is)
alone Esc bytes after is stands = absurd (cc is)
alone Str bytes after is stands = absurd (cc is)

pub kept-stands : (escapes : Escapes) (p : Piece) (ps : List Piece) → (escapes ≡ All → p.kind ≢ Broken) → Stands p.kind p.bytes ps → is_kept escapes p ≡ true → p.kind ≢ Broken
kept-stands All p ps whole stands kept = whole refl
kept-stands Colors p ps whole stands kept =
    λ is. let clash : false ≡ true = ap is_kept_rendition (sym (alone p.kind p.bytes ps is stands)) ∙ kept in cc clash
kept-stands NoEscapes p ps whole stands kept = cc kept

piece-cleaned : (escapes : Escapes) (p : Piece) (ps : List Piece) → (escapes ≡ All → p.kind ≢ Broken) → Stands p.kind p.bytes ps → IsUtf8 p.bytes → IsWholeText (cleaned_piece escapes p)
piece-cleaned escapes p ps whole stands utf8 = by (is_kept escapes p) (is_dropped escapes p.bytes) (kept-stands escapes p ps whole stands)
  where
    by : (kept dropped : Bool) → (kept ≡ true → p.kind ≢ Broken) → IsWholeText (if kept then p.bytes else if dropped then [] else cleaned_text escapes (chars p.bytes))
    by true dropped some = piece-whole p ps stands (some refl) utf8
    by false true some = whole-nothing
    by false false some = text-cleaned escapes p.bytes utf8

pieces-cleaned : (escapes : Escapes) (ps : List Piece) → EachStands ps → (escapes ≡ All → NoneBroken ps) → EachUtf8 ps → IsWholeText (flat_map (cleaned_piece escapes) ps)
pieces-cleaned escapes [] stand whole utf8 = whole-nothing
pieces-cleaned escapes (p ∷ ps) stand whole utf8 =
    whole-append (cleaned_piece escapes p) (flat_map (cleaned_piece escapes) ps)
    (piece-cleaned escapes p ps (λ all. (whole all).0) stand.0 utf8.0) (pieces-cleaned escapes ps stand.1 (λ all. (whole all).1) utf8.1)

-- where all take effect, no piece of a sound field is broken
none-broken : (escapes : Escapes) (field : List ℕ) → HasGoodEscapes escapes field → escapes ≡ All → NoneBroken (pieces field)
none-broken All field good all = subst NoneBroken (sym (pieces-ArePiecesOf field good.pieces good.of_text)) good.none_broken
none-broken Colors field good all = cc all
none-broken NoEscapes field good all = cc all

pub field-cleaned : (escapes : Escapes) (field : List ℕ) → IsReadableField escapes field → IsWholeText (cleaned escapes field)
field-cleaned escapes field sound =
    let are = ArePiecesOf-pieces field in
    pieces-cleaned escapes (pieces field) are.stand (none-broken escapes field sound.1) (EachUtf8-of field (pieces field) sound.0 are)

pub rows-cleaned : (escapes : Escapes) (delimiter : ℕ) (bytes : List ℕ) → IsReadable escapes (settings delimiter) (text_of_bytes bytes) → AreWholeTexts (rows_in escapes delimiter bytes)
rows-cleaned escapes delimiter bytes readable =
    All-map_of (AllByRecursion (IsReadableField escapes)) (AllByRecursion IsWholeText) (map (cleaned escapes))
    (λ row all. All-map_of (IsReadableField escapes) IsWholeText (cleaned escapes) (field-cleaned escapes) row all)
    (records (settings delimiter) (text_of_bytes bytes)) readable.sound

-- ---- in Markdown

markdown-whole : (c : ℕ) → IsSign c → IsWholeText (markdown_char c)
markdown-whole c is = by (c == 0x7c) (c == 0x5c) (c == 0x0a)
  where
    by : (bar backslash feed : Bool) → IsWholeText (if bar then codes "\\|" else if backslash then codes "\\\\" else if feed then codes "<br>" else encode_utf8 c)
    by true backslash feed = whole-ascii (codes "\\|") (ascii-text (codes "\\|") refl)
    by false true feed = whole-ascii (codes "\\\\") (ascii-text (codes "\\\\") refl)
    by false false true = whole-ascii (codes "<br>") (ascii-text (codes "<br>") refl)
    by false false false = begins c is.0 is.1

pub text-in_markdown : (text : List ℕ) → IsWholeText text → IsWholeText (in_markdown text)
text-in_markdown text is =
    text-changed (λ bytes. markdown_text (chars bytes)) (λ bytes utf8 plain. whole-flat_map IsSign markdown_char markdown-whole (chars bytes) (signs-of bytes utf8 plain)) text is
