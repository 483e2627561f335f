-- One picture in different items.
use Rattle.std.proofs.Common.{◌≡◌, ℕ, Bool, true, false, cond, All, List, [], ◌∷◌, ◌++◌, Option, None, Some, map, drop, get_or, IfSome, refl, ap, sym, subst, ◌∙◌, eq-eqb}
use Rattle.std.specs.Prelude.{chars, encode_utf8_all, flat_map}
use Rattle.std.specs.List.{AllByRecursion, onto_first, slice_split}
use Rattle.std.proofs.lemmas.List.{map-append}
use Rattle.std.proofs.lemmas.List.Concat.{flat_map-append}
use Rattle.std.proofs.lemmas.List.Elements.{All-from_recursion}
use Rattle.std.proofs.lemmas.Simd.{map-map}
use Rattle.std.proofs.lemmas.Str.{encodes-chars}
use Rattle.ansi_scan.specs.Attributes.{plain_attributes}
use Rattle.ansi_scan.specs.Pieces.{pieces}
use Rattle.ansi_scan.proofs.Existence.{ArePiecesOf-pieces}
use Rattle.ansi_str_search.specs.Text.StyledText.{has_escape}
use Rattle.ansi_str_search.proofs.TextLemmas.Stripping.{strip-without_escape}
use Rattle.ansi_str_search.proofs.TextLemmas.Utf8Pieces.{IsUtf8-shown_text}
use Rattle.grid_config_values.specs.declared.position.Position.{Position}
use Rattle.grid_config_values.specs.Glyphs.{along_column, crossing, in_row}
use Rattle.grid_config.specs.Colors.{Color}
use Rattle.grid_config.specs.Looks.{Look}
use Rattle.grid_records_measure.specs.Measures.{measure}
use Rattle.grid_records_measure.specs.TextLines.{is_line_feed, line_feed}
use Rattle.papergrid_picture.specs.Frame.{frame_of}
use Rattle.papergrid_picture.specs.Blocks.{Grid}
use Rattle.papergrid_picture.specs.CellLines.{kept_lines, those}
use Rattle.papergrid_picture.specs.Reading.{Reading, grid_items, painted}
use Rattle.papergrid_picture.specs.Tables.{table_text}
use Rattle.papergrid_picture.specs.Shown.{AreTextsWithoutEscape, AreWholeTexts, IsBare, IsColoredBy, IsReadBy, IsTextWithoutEscape, IsWholeText, KeepsLineEnds, ShowsOnly, Styled, cell_item_lines, character_of, character_picture, cell_characters, in_items, in_plain, item_grid, item_lines, styled_picture, styled_texts}
use Rattle.papergrid_picture.proofs.Related.{All-append, All-get_or, related-items}
use Rattle.papergrid_picture.proofs.Shown.{All-drop, All-take, characters-styled, get_or-map, map-same, styled_of, text-shown, those-map}
use Rattle.papergrid_picture.proofs.Stripped.{none-broken, stripped, table-leaves}

-- ---- all looks show something

abbrev pub Anything : {A : Type 0} → A → Type 0
Anything x = Unit {0}

pub shows-anything : (look : Look) → ShowsOnly Anything look
shows-anything look = record {
  crossings = λ row column. some (crossing look.borders row column);
  along_columns = λ kind. some (along_column look.borders kind);
  in_rows = λ kind. some (in_row look.borders kind);
  margins = (tt, tt, tt, tt);
  paddings = λ cell. (tt, tt, tt, tt);
  justification = λ cell. tt;
}
  where
    some : (glyph : Option ℕ) → IfSome glyph Anything
    some None = tt
    some (Some c) = tt

pub colored-anyhow : (look : Look) → IsColoredBy Anything look
colored-anyhow look = record {
  crossings = λ row column. tt;
  along_columns = λ kind. tt;
  in_rows = λ kind. tt;
  margins = (tt, tt, tt, tt);
  paddings = λ cell. (tt, tt, tt, tt);
  justification = λ cell. tt;
}

-- ---- a function of items

module _ {X Y : Type 0} (f : X → List Y) (first : Reading X) (second : Reading Y) (read : IsReadBy f first second) (grid : Grid) where
  pub read-picture : flat_map f (grid_items first grid) ≡ grid_items second grid
  read-picture =
      related-items (λ a b. flat_map f a ≡ b) refl
      (λ a c b d is others. flat_map-append f a c ∙ ap (λ items. items ++ flat_map f c) is ∙ ap (λ items. b ++ items) others)
      first second Anything
      (λ color a b any is. read.colors color a ∙ ap (painted second color) is)
      Anything (λ c any. read.items c) tt grid read.lines (λ cell. tt)
      (shows-anything grid.frame.look) (colored-anyhow grid.frame.look) tt

-- ---- characters without their styles

onto_first-map : {X Y : Type 0} (f : X → Y) (x : X) (parts : List (List X)) → onto_first (f x) (map (map f) parts) ≡ map (map f) (onto_first x parts)
onto_first-map f x [] = refl
onto_first-map f x (part ∷ parts) = refl

pub slice_split-map : {X Y : Type 0} (f : X → Y) (p : Y → Bool) (xs : List X) → slice_split p (map f xs) ≡ map (map f) (slice_split (λ x. p (f x)) xs)
slice_split-map f p [] = refl
slice_split-map {X} {Y} f p (x ∷ xs) =
    let rest = slice_split-map f p xs in
    let others = slice_split (λ (y : X). p (f y)) xs in
    elim (p (f x)) as (λ test. cond test ([] ∷ slice_split p (map f xs)) (onto_first (f x) (slice_split p (map f xs))) ≡ map (map f) (cond test ([] ∷ others) (onto_first x others))) [
      | true ↦ ap (λ parts. [] ∷ parts) rest
      | false ↦ ap (onto_first (f x)) rest ∙ onto_first-map f x others
    ]

map-id : (xs : List ℕ) → map (λ c. c) xs ≡ xs
map-id [] = refl
map-id (x ∷ xs) = ap (λ ys. x ∷ ys) (map-id xs)

abbrev same : ℕ → ℕ
same c = c

item_lines-characters : (trim_vertical : Bool) (cell : List Styled) → item_lines same trim_vertical (map character_of cell) ≡ map (map character_of) (item_lines character_of trim_vertical cell)
item_lines-characters trim_vertical cell =
    let lines = slice_split (λ (x : Styled). is_line_feed x.0) cell in
    ap (λ parts. those (kept_lines trim_vertical (map (λ line. encode_utf8_all (map same line)) parts)) parts) (slice_split-map character_of is_line_feed cell)
    ∙ ap (λ shown. those (kept_lines trim_vertical shown) (map (map character_of) lines))
    (map-map (λ (line : List ℕ). encode_utf8_all (map same line)) (map character_of) lines
    ∙ (λ n. map (λ line. encode_utf8_all (map-id (map character_of line) n)) lines))
    ∙ those-map (map character_of) (kept_lines trim_vertical (map (λ line. encode_utf8_all (map character_of line)) lines)) lines

module _ (look : Look) (rows : List (List (List Styled))) (widths heights : List ℕ) where
  abbrev plain_rows : List (List (List ℕ))
  plain_rows = cell_characters rows

  cell-characters : (cell : Position) → get_or (get_or plain_rows cell.row []) cell.col [] ≡ map character_of (get_or (get_or rows cell.row []) cell.col [])
  cell-characters cell =
      ap (λ row. get_or row cell.col []) (get_or-map (map (map character_of)) rows cell.row [])
      ∙ get_or-map (map character_of) (get_or rows cell.row []) cell.col []

  lines-characters : (cell : Position) → cell_item_lines same same look plain_rows cell ≡ map (map character_of) (cell_item_lines character_of in_plain look rows cell)
  lines-characters cell =
      ap (item_lines same (look.trim_vertical cell)) (cell-characters cell)
      ∙ item_lines-characters (look.trim_vertical cell) (get_or (get_or rows cell.row []) cell.col [])

  line-characters : (cell : Position) (k : ℕ) → map character_of ((in_items character_of in_plain look rows).line cell k) ≡ (in_items same same look plain_rows).line cell k
  line-characters cell k =
      sym (get_or-map (map character_of) (cell_item_lines character_of in_plain look rows cell) k [])
      ∙ ap (λ lines. get_or lines k []) (sym (lines-characters cell))

  measures-characters : (cell : Position) → map (λ line. measure (map character_of line)) (cell_item_lines character_of in_plain look rows cell)
      ≡ map (λ line. measure (map same line)) (cell_item_lines same same look plain_rows cell)
  measures-characters cell =
      (λ n. map (λ line. measure (sym (map-id (map character_of line)) n)) (cell_item_lines character_of in_plain look rows cell))
      ∙ sym (map-map (λ (line : List ℕ). measure (map same line)) (map character_of) (cell_item_lines character_of in_plain look rows cell))
      ∙ ap (map (λ (line : List ℕ). measure (map same line))) (sym (lines-characters cell))

  abbrev with_measures : (Position → List ℕ) → Grid
  with_measures measures = record { frame = frame_of look widths heights; measures = measures; text_color = λ _. None }

  paint-none : {X : Type 0} (character : X → ℕ) (bare : ℕ → X) (cells : List (List (List X))) (color : Option Color) (items : List X) → painted (in_items character bare look cells) color items ≡ items
  paint-none character bare cells None items = refl
  paint-none character bare cells (Some color) [] = refl
  paint-none character bare cells (Some color) (x ∷ xs) = refl

  -- the characters of the picture of styled characters are the picture of the characters
  pub picture-characters : map character_of (styled_picture look rows widths heights) ≡ character_picture look plain_rows widths heights
  picture-characters =
      subst (λ (measures : Position → List ℕ). map character_of (styled_picture look rows widths heights) ≡ grid_items (in_items same same look plain_rows) (with_measures measures))
      (λ n cell. measures-characters cell n)
      (related-items (λ a b. map character_of a ≡ b) refl
      (λ a c b d is others. map-append character_of a c ∙ ap (λ items. items ++ map character_of c) is ∙ ap (λ items. b ++ items) others)
      (in_items character_of in_plain look rows) (in_items same same look plain_rows) Anything
      (λ color a b any is. ap (map character_of) (paint-none character_of in_plain rows color a) ∙ is ∙ sym (paint-none same same plain_rows color b))
      Anything (λ c any. refl) tt (item_grid character_of in_plain look rows widths heights) line-characters (λ cell. tt)
      (shows-anything look) (colored-anyhow look) tt)

  -- ---- line feeds

  abbrev FeedIsPlain : Styled → Type 0
  FeedIsPlain x = x.0 ≡ line_feed → x.1 ≡ plain_attributes

  no_feed : (x : Styled) → is_line_feed x.0 ≡ false → FeedIsPlain x
  no_feed x fails is = let clash : false ≡ true = sym fails ∙ eq-eqb x.0 line_feed is in absurd (cc clash)

  onto-first : (x : Styled) (parts : List (List Styled)) → FeedIsPlain x → AllByRecursion (AllByRecursion FeedIsPlain) parts → AllByRecursion (AllByRecursion FeedIsPlain) (onto_first x parts)
  onto-first x [] here all = ((here, tt), tt)
  onto-first x (part ∷ parts) here all = ((here, all.0), all.1)

  split-plain : (xs : List Styled) → AllByRecursion (AllByRecursion FeedIsPlain) (slice_split (λ x. is_line_feed x.0) xs)
  split-plain [] = (tt, tt)
  split-plain (x ∷ xs) =
      let rest = split-plain xs in
      let others = slice_split (λ (y : Styled). is_line_feed y.0) xs in
      let step : (test : Bool) → is_line_feed x.0 ≡ test → AllByRecursion (AllByRecursion FeedIsPlain) (cond test ([] ∷ others) (onto_first x others)) =
      λ test. elim test as (λ test. is_line_feed x.0 ≡ test → AllByRecursion (AllByRecursion FeedIsPlain) (cond test ([] ∷ others) (onto_first x others))) [
        | true ↦ λ h. (tt, rest)
        | false ↦ λ h. onto-first x others (no_feed x h) rest
      ] in
      step (is_line_feed x.0) refl

  line-plain : (cell : Position) (k : ℕ) → AllByRecursion FeedIsPlain ((in_items character_of in_plain look rows).line cell k)
  line-plain cell k =
      let text = get_or (get_or rows cell.row []) cell.col [] in
      let lines = slice_split (λ (x : Styled). is_line_feed x.0) text in
      let kept = kept_lines (look.trim_vertical cell) (map (λ line. encode_utf8_all (map character_of line)) lines) in
      All-get_or (AllByRecursion FeedIsPlain) (those kept lines) k []
      (All-take (AllByRecursion FeedIsPlain) kept.1 (drop kept.0 lines) (All-drop (AllByRecursion FeedIsPlain) kept.0 lines (split-plain text))) tt

  pub feeds-plain : All FeedIsPlain (styled_picture look rows widths heights)
  feeds-plain =
      let reading = in_items character_of in_plain look rows in
      All-from_recursion FeedIsPlain (styled_picture look rows widths heights)
      (related-items (λ a b. AllByRecursion FeedIsPlain a) tt
      (λ a c b d first others. All-append FeedIsPlain a c first others)
      reading reading Anything
      (λ color a b any all. subst (AllByRecursion FeedIsPlain) (sym (paint-none character_of in_plain rows color a)) all)
      Anything (λ c any. ((λ is. refl), tt)) tt (item_grid character_of in_plain look rows widths heights) line-plain (λ cell. tt)
      (shows-anything look) (colored-anyhow look) tt)

-- ---- texts without sequences

plain-whole : (text : List ℕ) → IsTextWithoutEscape text → IsWholeText text
plain-whole text plain =
    let are = ArePiecesOf-pieces text in
    record { utf8 = plain.utf8; whole = none-broken (pieces text) are.stand (ap has_escape are.joins ∙ plain.no_escape) }

stripped-same : (text : List ℕ) → IsTextWithoutEscape text → stripped text ≡ text
stripped-same text plain = strip-without_escape text (pieces text) (ArePiecesOf-pieces text) plain.no_escape

pub All-keeps : {A : Type 0} (P Q : A → Type 0) → ((x : A) → P x → Q x) → (xs : List A) → AllByRecursion P xs → AllByRecursion Q xs
All-keeps P Q each [] all = tt
All-keeps P Q each (x ∷ xs) all = (each x all.0, All-keeps P Q each xs all.1)

plain-texts_whole : (rows : List (List (List ℕ))) → AreTextsWithoutEscape rows → AreWholeTexts rows
plain-texts_whole rows plain = All-keeps (AllByRecursion IsTextWithoutEscape) (AllByRecursion IsWholeText) (λ row all. All-keeps IsTextWithoutEscape IsWholeText plain-whole row all) rows plain

-- rows of texts, and what each is turned into
each-text : {B : Type 0} (f g : List ℕ → B) → ((text : List ℕ) → IsTextWithoutEscape text → f text ≡ g text) → (rows : List (List (List ℕ))) → AreTextsWithoutEscape rows
    → map (map f) rows ≡ map (map g) rows
each-text f g is rows plain = map-same (AllByRecursion IsTextWithoutEscape) (map f) (map g) (λ row all. map-same IsTextWithoutEscape f g is row all) rows plain

map-nothing : (rows : List (List (List ℕ))) → map (map (λ text. text)) rows ≡ rows
map-nothing [] = refl
map-nothing (row ∷ rows) = ap (λ texts. texts ∷ map (map (λ text. text)) rows) (one row) ∙ ap (λ others. row ∷ others) (map-nothing rows)
  where
    one : (row : List (List ℕ)) → map (λ text. text) row ≡ row
    one [] = refl
    one (text ∷ texts) = ap (λ others. text ∷ others) (one texts)

-- the text of a table of plain texts is its picture of characters
pub table-plain : (look : Look) (rows : List (List (List ℕ))) (widths heights : List ℕ) → IsBare look → AreTextsWithoutEscape rows → KeepsLineEnds look
    → table_text look rows (λ _. None) widths heights ≡ encode_utf8_all (character_picture look (map (map chars) rows) widths heights)
table-plain look rows widths heights bare plain keeps =
    let whole = plain-texts_whole rows plain in
    let out = table_text look rows (λ _. None) widths heights in
    let shows = text-shown look rows widths heights bare whole keeps in
    let left : stripped out ≡ out =
    (table-leaves look rows widths heights bare whole).left
    ∙ ap (λ texts. table_text look texts (λ _. None) widths heights) (each-text stripped (λ text. text) stripped-same rows plain ∙ map-nothing rows) in
    let characters : cell_characters (styled_texts rows) ≡ map (map chars) rows =
    map-map (map (map character_of)) (map styled_of) rows
    ∙ (λ n. map (λ row. map-map (map character_of) styled_of row n) rows)
    ∙ each-text (λ text. map character_of (styled_of text)) chars (λ text is. characters-styled text is.utf8 ∙ ap chars (stripped-same text is)) rows plain in
    let is : chars (stripped out) ≡ character_picture look (map (map chars) rows) widths heights =
    sym (characters-styled out shows.utf8) ∙ ap (map character_of) shows.shown
    ∙ picture-characters look (styled_texts rows) widths heights
    ∙ ap (λ cells. character_picture look cells widths heights) characters in
    sym left ∙ sym (encodes-chars (stripped out) (IsUtf8-shown_text out shows.utf8)) ∙ ap encode_utf8_all is
