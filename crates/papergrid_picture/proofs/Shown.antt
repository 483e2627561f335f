-- What the text of a table shows.
use Rattle.std.proofs.Common.{◌≡◌, ◌≢◌, ℕ, zero, suc, ◌<◌, ◌&&◌, ◌==◌, Bool, true, false, not, cond, All, List, [], ◌∷◌, ◌++◌, Option, None, Some, map, length, take, drop, get_or, refl, ap, sym, subst, ◌∙◌, arith, append-nil, lit<, ne_eqb}
use Rattle.std.specs.Prelude.{chars, encode_utf8, encode_utf8_all, IsUtf8}
use Rattle.std.specs.Char.{IsScalar}
use Rattle.std.specs.List.{AllByRecursion, list_all, slice_split}
use Rattle.std.specs.Str.{trim}
use Rattle.std.proofs.lemmas.List.Elements.{All-head, All-tail}
use Rattle.std.proofs.lemmas.Simd.{map-map}
use Rattle.std.proofs.lemmas.Str.{chars-encodes, chars-nil, encodes-chars, inside_one, IsUtf8-append, IsUtf8-encode, IsUtf8-nil}
use Rattle.ansi_scan.specs.declared.items.Kind.TheVariants.{Text}
use Rattle.ansi_scan.specs.Sequences.{NoneBroken, escape, is_not_escape}
use Rattle.ansi_scan.specs.Joining.{put_all_before}
use Rattle.ansi_scan.specs.Pieces.{pieces}
use Rattle.ansi_scan.specs.Attributes.{plain_attributes}
use Rattle.ansi_scan.proofs.Existence.{ArePiecesOf-pieces}
use Rattle.ansi_scan.proofs.Uniqueness.{ArePiecesOf-unique, pieces-ArePiecesOf}
use Rattle.ansi_scan.proofs.Joins.{ArePiecesOf-append, NoneBroken-put_all_before}
use Rattle.ansi_str_search.specs.Text.StyledText.{IsClosed, strip, style_after_all, styled, styled_from}
use Rattle.ansi_str_search.proofs.TextLemmas.Utf8Pieces.{EachUtf8, EachUtf8-of, IsUtf8-shown_text, styled-characters}
use Rattle.ansi_str_search.specs.Lines.{IsClosedText}
use Rattle.ansi_str_search.proofs.Finds.{IsUtf8-byte}
use Rattle.ansi_str_search.proofs.Cuts.{shown-parts}
use Rattle.ansi_str_search.proofs.Utf8.{All-closed, All-utf8}
use Rattle.grid_config_values.specs.declared.position.Position.{Position}
use Rattle.grid_config.specs.Colors.{Color}
use Rattle.grid_config.specs.Looks.{Look}
use Rattle.grid_records_measure.specs.Measures.{measure}
use Rattle.grid_records_measure.specs.TextLines.{line_feed, line_feed_places, line_measure, shown_lines, text_lines}
use Rattle.grid_records_measure.specs.Trimming.{trimmed}
use Rattle.grid_records_measure.proofs.ShownCuts.{styled-put_all_before, style-put_all_before}
use Rattle.grid_records_measure.proofs.TextLines.{line_feeds_match, text_lines-shown}
use Rattle.grid_records_traits.specs.Rows.{text_at}
use Rattle.papergrid_picture.specs.Frame.{frame_of}
use Rattle.papergrid_picture.specs.Blocks.{Grid}
use Rattle.papergrid_picture.specs.CellLines.{cell_lines, cell_measures, kept_lines, those}
use Rattle.papergrid_picture.specs.Reading.{grid_items, painted}
use Rattle.papergrid_picture.specs.Tables.{in_bytes, table_grid, table_text}
use Rattle.papergrid_picture.specs.Shown.{AreWholeTexts, IsBare, BeginsNoSequence, IsWholeText, KeepsLineEnds, Shows, Styled, WritesNothing, cell_item_lines, character_of, in_items, in_plain, item_lines, styled_picture, styled_texts}
use Rattle.papergrid_picture.proofs.Related.{All-get_or, related-items}

-- ---- lists

pub All-take : {A : Type 0} (P : A → Type 0) (n : ℕ) (xs : List A) → AllByRecursion P xs → AllByRecursion P (take n xs)
All-take P zero xs all = tt
All-take P (suc n) [] all = tt
All-take P (suc n) (x ∷ xs) all = (all.0, All-take P n xs all.1)

pub All-drop : {A : Type 0} (P : A → Type 0) (n : ℕ) (xs : List A) → AllByRecursion P xs → AllByRecursion P (drop n xs)
All-drop P zero xs all = all
All-drop P (suc n) [] all = tt
All-drop P (suc n) (x ∷ xs) all = All-drop P n xs all.1

pub take-map : {A B : Type 0} (f : A → B) (n : ℕ) (xs : List A) → take n (map f xs) ≡ map f (take n xs)
take-map f zero xs = refl
take-map f (suc n) [] = refl
take-map f (suc n) (x ∷ xs) = ap (λ ys. f x ∷ ys) (take-map f n xs)

pub drop-map : {A B : Type 0} (f : A → B) (n : ℕ) (xs : List A) → drop n (map f xs) ≡ map f (drop n xs)
drop-map f zero xs = refl
drop-map f (suc n) [] = refl
drop-map f (suc n) (x ∷ xs) = drop-map f n xs

pub those-map : {A B : Type 0} (f : A → B) (kept : ℕ × ℕ) (xs : List A) → those kept (map f xs) ≡ map f (those kept xs)
those-map f kept xs = ap (take kept.1) (drop-map f kept.0 xs) ∙ take-map f kept.1 (drop kept.0 xs)

pub get_or-map : {A B : Type 0} (f : A → B) (xs : List A) (i : ℕ) (d : A) → get_or (map f xs) i (f d) ≡ f (get_or xs i d)
get_or-map f [] i d = refl
get_or-map f (x ∷ xs) zero d = refl
get_or-map f (x ∷ xs) (suc i) d = get_or-map f xs i d

pub map-same : {A B : Type 0} (P : A → Type 0) (f g : A → B) → ((x : A) → P x → f x ≡ g x) → (xs : List A) → AllByRecursion P xs → map f xs ≡ map g xs
map-same P f g same [] all = refl
map-same P f g same (x ∷ xs) all = ap (λ y. y ∷ map f xs) (same x all.0) ∙ ap (λ ys. g x ∷ ys) (map-same P f g same xs all.1)

-- ---- what bytes show

abbrev pub styled_of : List ℕ → List Styled
styled_of text = styled (pieces text)

pub record ShowsHere (bytes : List ℕ) (characters : List Styled) : Type 0 where
  pub utf8 : IsUtf8 bytes
  pub closed : IsClosed (pieces bytes)
  pub shown : styled_of bytes ≡ characters

pub pieces-nothing : pieces [] ≡ []
pieces-nothing = pieces-ArePiecesOf [] [] (record { joins = refl; stand = tt })

pub ShowsHere-nothing : ShowsHere [] []
ShowsHere-nothing = record {
  utf8 = IsUtf8-nil;
  closed = subst IsClosed (sym pieces-nothing) (record { none_broken = tt; plain = refl });
  shown = ap styled pieces-nothing;
}

each_utf8 : (bytes : List ℕ) → IsUtf8 bytes → EachUtf8 (pieces bytes)
each_utf8 bytes utf8 = EachUtf8-of bytes (pieces bytes) utf8 (ArePiecesOf-pieces bytes)

pub ShowsHere-append : (a c : List ℕ) (b d : List Styled) → ShowsHere a b → ShowsHere c d → ShowsHere (a ++ c) (b ++ d)
ShowsHere-append a c b d first second =
    let ps = pieces a in
    let qs = pieces c in
    let both : pieces (a ++ c) ≡ put_all_before ps qs =
    pieces-ArePiecesOf (a ++ c) (put_all_before ps qs) (ArePiecesOf-append a c ps qs (ArePiecesOf-pieces a) first.closed.none_broken (ArePiecesOf-pieces c)) in
    record {
      utf8 = IsUtf8-append a c first.utf8 second.utf8;
      closed = subst IsClosed (sym both) (record {
        none_broken = NoneBroken-put_all_before ps qs first.closed.none_broken second.closed.none_broken;
        plain = style-put_all_before plain_attributes ps qs ∙ ap (λ style. style_after_all style qs) first.closed.plain ∙ second.closed.plain;
      });
      shown =
          ap styled both ∙ styled-put_all_before plain_attributes ps qs (each_utf8 a first.utf8)
          ∙ ap (λ style. styled ps ++ styled_from style qs) first.closed.plain
          ∙ ap (λ cs. cs ++ styled qs) first.shown ∙ ap (λ cs. b ++ cs) second.shown;
    }

-- ---- one character

-- no byte of a character that isn't ESC is ESC
plain-bytes : (bytes : List ℕ) → ((k : ℕ) → k < length bytes → get_or bytes k 0 ≢ escape) → list_all is_not_escape bytes ≡ true
plain-bytes [] none = refl
plain-bytes (b ∷ bs) none =
    ap (λ t. not t && list_all is_not_escape bs) (ne_eqb b escape (none 0 (omega arith)))
    ∙ plain-bytes bs (λ k inside. none (suc k) (omega (arith, inside)))

plain-encode : (c : ℕ) → c ≢ escape → list_all is_not_escape (encode_utf8 c) ≡ true
plain-encode c other = plain-bytes (encode_utf8 c) (λ k inside same.
    let low : get_or (encode_utf8 c) k 0 < 128 = omega (arith, same) in
    other (inside_one c [] (encode_utf8 c) k (sym (append-nil (encode_utf8 c))) inside low ∙ same))

some-encode : (c : ℕ) → IsScalar c → 0 < length (encode_utf8 c)
some-encode c scalar = some (encode_utf8 c) refl
  where
    some : (bytes : List ℕ) → encode_utf8 c ≡ bytes → 0 < length (encode_utf8 c)
    some [] e =
        let none : c ∷ [] ≡ [] = sym (chars-encodes (c ∷ []) (ap (λ b. b && true) scalar)) ∙ ap chars (append-nil (encode_utf8 c) ∙ e) ∙ chars-nil in
        absurd (cc (none))
    some (b ∷ bs) e = omega (arith, ap length e)

pub chars-one : (c : ℕ) → IsScalar c → chars (encode_utf8 c) ≡ c ∷ []
chars-one c scalar = ap chars (sym (append-nil (encode_utf8 c))) ∙ chars-encodes (c ∷ []) (ap (λ b. b && true) scalar)

pub pieces-character : (c : ℕ) → BeginsNoSequence c → pieces (encode_utf8 c) ≡ record { kind = Text; bytes = encode_utf8 c } ∷ []
pieces-character c is = pieces-ArePiecesOf (encode_utf8 c) (record { kind = Text; bytes = encode_utf8 c } ∷ []) (record {
  joins = append-nil (encode_utf8 c);
  stand = (record { some = some-encode c is.scalar; plain = plain-encode c is.no_escape; ends = tt }, tt);
})

pub ShowsHere-character : (c : ℕ) → BeginsNoSequence c → ShowsHere (encode_utf8 c) (in_plain c ∷ [])
ShowsHere-character c is =
    let one = pieces-character c is in
    record {
      utf8 = IsUtf8-encode c is.scalar;
      closed = subst IsClosed (sym one) (record { none_broken = ((λ same. cc same), tt); plain = refl });
      shown = ap styled one ∙ ap (λ cs. map (λ x. (x, plain_attributes)) cs ++ []) (chars-one c is.scalar);
    }

pub BeginsNoSequence-space : BeginsNoSequence 0x20
BeginsNoSequence-space = record { scalar = refl; no_escape = λ same. cc same }

pub BeginsNoSequence-feed : BeginsNoSequence 0x0a
BeginsNoSequence-feed = record { scalar = refl; no_escape = λ same. cc same }

-- ---- the lines of a text

-- text that is closed
pub record IsClosedPart (part : List ℕ) : Type 0 where
  pub utf8 : IsUtf8 part
  pub closed : IsClosed (pieces part)

both_hold : (parts : List (List ℕ)) → All IsUtf8 parts → All IsClosedText parts → AllByRecursion IsClosedPart parts
both_hold [] utf8 closed = tt
both_hold (part ∷ parts) utf8 closed =
    let here = All-head IsClosedText part parts closed in (
      record {
        utf8 = All-head IsUtf8 part parts utf8;
        closed = subst IsClosed (ArePiecesOf-unique part here.pieces (pieces part) here.of_text (ArePiecesOf-pieces part)) here.closed;
      },
      both_hold parts (All-tail IsUtf8 part parts utf8) (All-tail IsClosedText part parts closed),
    )

pub characters-styled : (text : List ℕ) → IsUtf8 text → map character_of (styled_of text) ≡ chars (strip (pieces text))
characters-styled text utf8 = styled-characters text (pieces text) utf8 (ArePiecesOf-pieces text)

module _ (text : List ℕ) (whole : IsWholeText text) where
  pub lines-closed_parts : AllByRecursion IsClosedPart (text_lines text)
  unfolding text_lines
  lines-closed_parts =
      let shown = strip (pieces text) in
      let are = line_feeds_match shown in
      both_hold (text_lines text)
      (All-utf8 (line_feed ∷ []) text (pieces text) (line_feed_places shown) (ArePiecesOf-pieces text) are whole.utf8 (IsUtf8-byte line_feed (lit< tt)))
      (All-closed (line_feed ∷ []) text (pieces text) (line_feed_places shown) (ArePiecesOf-pieces text) are whole.whole)

  pub lines-styled : map styled_of (text_lines text) ≡ slice_split (λ x. x.0 == line_feed) (styled_of text)
  unfolding text_lines
  lines-styled =
      let shown = strip (pieces text) in
      shown-parts line_feed text (pieces text) (lit< tt) whole.utf8 (ArePiecesOf-pieces text) whole.whole (line_feed_places shown) (line_feeds_match shown)

  -- the bytes of what the lines show
  pub lines-shown : map (λ line. encode_utf8_all (map character_of line)) (slice_split (λ x. x.0 == line_feed) (styled_of text)) ≡ shown_lines (pieces text)
  lines-shown =
      ap (map (λ (line : List Styled). encode_utf8_all (map character_of line))) (sym lines-styled)
      ∙ map-map (λ (line : List Styled). encode_utf8_all (map character_of line)) styled_of (text_lines text)
      ∙ map-same IsClosedPart (λ part. encode_utf8_all (map character_of (styled_of part))) (λ part. strip (pieces part))
      (λ part closed. ap encode_utf8_all (characters-styled part closed.utf8) ∙ encodes-chars (strip (pieces part)) (IsUtf8-shown_text part closed.utf8))
      (text_lines text) lines-closed_parts
      ∙ text_lines-shown text whole.whole

  module _ (trim_vertical : Bool) where
    abbrev pub kept : ℕ × ℕ
    kept = kept_lines trim_vertical (shown_lines (pieces text))

    pub kept-parts : AllByRecursion IsClosedPart (those kept (text_lines text))
    kept-parts = All-take IsClosedPart kept.1 (drop kept.0 (text_lines text)) (All-drop IsClosedPart kept.0 (text_lines text) lines-closed_parts)

    pub item_lines-are : item_lines character_of trim_vertical (styled_of text) ≡ map styled_of (those kept (text_lines text))
    item_lines-are =
        let lines = slice_split (λ (x : Styled). x.0 == line_feed) (styled_of text) in
        ap (λ shown. those (kept_lines trim_vertical shown) lines) lines-shown
        ∙ ap (those kept) (sym lines-styled)
        ∙ those-map styled_of kept (text_lines text)

    ShowsHere-line : (parts : List (List ℕ)) → AllByRecursion IsClosedPart parts → (k : ℕ) → ShowsHere (get_or parts k []) (get_or (map styled_of parts) k [])
    ShowsHere-line [] all k = ShowsHere-nothing
    ShowsHere-line (part ∷ parts) all zero = record { utf8 = all.0.utf8; closed = all.0.closed; shown = refl }
    ShowsHere-line (part ∷ parts) all (suc k) = ShowsHere-line parts all.1 k

    -- a line of a cell shows its styled characters
    cell_line-shown : (k : ℕ) → ShowsHere (get_or (cell_lines false trim_vertical text) k []) (get_or (item_lines character_of trim_vertical (styled_of text)) k [])
    cell_line-shown k =
        subst (λ (lines : List (List Styled)). ShowsHere (get_or (cell_lines false trim_vertical text) k []) (get_or lines k [])) (sym item_lines-are)
        (subst (λ (lines : List (List ℕ)). ShowsHere (get_or lines k []) (get_or (map styled_of (those kept (text_lines text))) k [])) (sym (map-id (those kept (text_lines text))))
        (ShowsHere-line (those kept (text_lines text)) kept-parts k))
      where
        map-id : (xs : List (List ℕ)) → map (λ line. cond false (trimmed line) line) xs ≡ xs
        map-id [] = refl
        map-id (x ∷ xs) = ap (λ ys. x ∷ ys) (map-id xs)

    -- and measures what they measure
    cell_measures-are : cell_measures false trim_vertical text ≡ map (λ line. measure (map character_of line)) (item_lines character_of trim_vertical (styled_of text))
    cell_measures-are =
        ap (λ shown. map (λ line. line_measure (cond false (trim line) line)) (those kept shown)) (sym (text_lines-shown text whole.whole))
        ∙ ap (map line_measure) (those-map (λ part. strip (pieces part)) kept (text_lines text))
        ∙ map-map line_measure (λ part. strip (pieces part)) (those kept (text_lines text))
        ∙ map-same IsClosedPart (λ part. measure (chars (strip (pieces part)))) (λ part. measure (map character_of (styled_of part)))
        (λ part closed. ap measure (sym (characters-styled part closed.utf8))) (those kept (text_lines text)) kept-parts
        ∙ sym (map-map (λ (line : List Styled). measure (map character_of line)) styled_of (those kept (text_lines text)))
        ∙ ap (map (λ (line : List Styled). measure (map character_of line))) (sym item_lines-are)

-- ---- the text of a table

-- a colour that writes nothing leaves what it colours
pub painted-nothing : (look : Look) (rows : List (List (List ℕ))) (color : Option Color) (bytes : List ℕ) → WritesNothing color → painted (in_bytes look rows) color bytes ≡ bytes
painted-nothing look rows None bytes nothing = refl
painted-nothing look rows (Some color) [] nothing = refl
painted-nothing look rows (Some color) (b ∷ bs) nothing = ap (λ c. c.prefix ++ (b ∷ bs ++ c.suffix)) nothing ∙ append-nil (b ∷ bs)

-- each cell is a whole text, where there is one and where there is none
pub whole-at : (rows : List (List (List ℕ))) → AreWholeTexts rows → (cell : Position) → IsWholeText (text_at rows cell)
whole-at rows texts cell =
    All-get_or IsWholeText (get_or rows cell.row []) cell.col [] (All-get_or (AllByRecursion IsWholeText) rows cell.row [] texts tt)
    (record { utf8 = IsUtf8-nil; whole = subst NoneBroken (sym pieces-nothing) tt })

-- the styled characters of a cell are those of its text, where there is one and where there is none
pub cell-styled : (rows : List (List (List ℕ))) (cell : Position) → get_or (get_or (styled_texts rows) cell.row []) cell.col [] ≡ styled_of (text_at rows cell)
cell-styled rows cell =
    ap (λ row. get_or row cell.col []) (get_or-map (map styled_of) rows cell.row [])
    ∙ ap (get_or (map styled_of (get_or rows cell.row [])) cell.col) (sym (ap styled pieces-nothing))
    ∙ get_or-map styled_of (get_or rows cell.row []) cell.col []

module _ (look : Look) (rows : List (List (List ℕ))) (widths heights : List ℕ) (bare : IsBare look) (texts : AreWholeTexts rows) (keeps : KeepsLineEnds look) where
  abbrev shown_rows : List (List (List Styled))
  shown_rows = styled_texts rows

  lines-are : (cell : Position) → cell_item_lines character_of in_plain look shown_rows cell ≡ item_lines character_of (look.trim_vertical cell) (styled_of (text_at rows cell))
  lines-are cell = ap (item_lines character_of (look.trim_vertical cell)) (cell-styled rows cell)

  line-shown : (cell : Position) (k : ℕ) → ShowsHere ((in_bytes look rows).line cell k) ((in_items character_of in_plain look shown_rows).line cell k)
  line-shown cell k =
      subst (λ (lines : List (List Styled)). ShowsHere ((in_bytes look rows).line cell k) (get_or lines k [])) (sym (lines-are cell))
      (subst (λ (trims : Bool). ShowsHere (get_or (cell_lines trims (look.trim_vertical cell) (text_at rows cell)) k []) (get_or (item_lines character_of (look.trim_vertical cell) (styled_of (text_at rows cell))) k [])) (sym (keeps cell))
      (cell_line-shown (text_at rows cell) (whole-at rows texts cell) (look.trim_vertical cell) k))

  measures-are : (cell : Position) → cell_measures (look.trim_horizontal cell) (look.trim_vertical cell) (text_at rows cell)
      ≡ map (λ line. measure (map character_of line)) (cell_item_lines character_of in_plain look shown_rows cell)
  measures-are cell =
      ap (λ trims. cell_measures trims (look.trim_vertical cell) (text_at rows cell)) (keeps cell)
      ∙ cell_measures-are (text_at rows cell) (whole-at rows texts cell) (look.trim_vertical cell)
      ∙ ap (map (λ (line : List Styled). measure (map character_of line))) (sym (lines-are cell))

  abbrev with_measures : (Position → List ℕ) → Grid
  with_measures measures = record { frame = frame_of look widths heights; measures = measures; text_color = λ _. None }

  paint-shown : (color : Option Color) (a : List ℕ) (b : List Styled) → WritesNothing color → ShowsHere a b
      → ShowsHere (painted (in_bytes look rows) color a) (painted (in_items character_of in_plain look shown_rows) color b)
  paint-shown color a b nothing here =
      subst (ShowsHere (painted (in_bytes look rows) color a)) (sym (same color b))
      (subst (λ (bytes : List ℕ). ShowsHere bytes b) (sym (painted-nothing look rows color a nothing)) here)
    where
      same : (color : Option Color) (b : List Styled) → painted (in_items character_of in_plain look shown_rows) color b ≡ b
      same None b = refl
      same (Some color) [] = refl
      same (Some color) (x ∷ xs) = refl

  pub text-shown : ShowsHere (table_text look rows (λ _. None) widths heights) (styled_picture look shown_rows widths heights)
  text-shown =
      subst (λ (measures : Position → List ℕ). ShowsHere (table_text look rows (λ _. None) widths heights) (grid_items (in_items character_of in_plain look shown_rows) (with_measures measures)))
      (λ n cell. measures-are cell n)
      (related-items ShowsHere ShowsHere-nothing ShowsHere-append (in_bytes look rows) (in_items character_of in_plain look shown_rows) WritesNothing paint-shown
      BeginsNoSequence ShowsHere-character BeginsNoSequence-space (table_grid look rows (λ _. None) widths heights)
      line-shown (λ _. tt) bare.shown bare.no_colors BeginsNoSequence-feed)

  pub table-shows : Shows (table_text look rows (λ _. None) widths heights) (styled_picture look (styled_texts rows) widths heights)
  table-shows =
      let bytes = table_text look rows (λ _. None) widths heights in
      record {
        text = text-shown.utf8;
        shown = λ ps of_bytes. ap styled (sym (pieces-ArePiecesOf bytes ps of_bytes)) ∙ text-shown.shown;
        closed = λ ps of_bytes. subst IsClosed (pieces-ArePiecesOf bytes ps of_bytes) text-shown.closed;
      }
