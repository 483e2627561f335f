-- Texts without their sequences, and what resized texts show without theirs.
use Rattle.std.proofs.Common.{◌≡◌, ◌==◌, ℕ, List, [], ◌∷◌, map, length, get_or, ap, sym, ◌∙◌}
use Rattle.std.specs.List.{AllByRecursion, slice_split}
use Rattle.ansi_scan.specs.Pieces.{pieces}
use Rattle.ansi_scan.proofs.Existence.{ArePiecesOf-pieces}
use Rattle.ansi_str.specs.StyledText.{strip, has_escape}
use Rattle.ansi_str_search.proofs.TextLemmas.Stripping.{has_escape-strip, strip-without_escape}
use Rattle.grid_config_values.specs.declared.position.Position.{Position}
use Rattle.grid_records_measure.specs.TextLines.{line_feed, text_height, text_width, widest}
use Rattle.papergrid_picture.proofs.Shown.{get_or-map, pieces-nothing, characters-styled, styled_of}
use Rattle.papergrid_picture.specs.Shown.{AreWholeTexts, IsWholeText, character_of, in_plain, stripped_texts}
use Rattle.std.specs.Prelude.{chars, encode_utf8_all}
use Rattle.std.proofs.lemmas.Simd.{map-map}
use Rattle.std.proofs.lemmas.Str.{encodes-chars}
use Rattle.ansi_str_search.proofs.TextLemmas.Utf8Pieces.{IsUtf8-shown_text}
use Rattle.grid_records_traits.specs.Rows.{text_at}
use Rattle.papergrid_picture.proofs.Stripped.{none-broken, stripped}
use Rattle.tabled_size_wrap.specs.Cells.Resizing.{Resize, resized, resized_text}
use Rattle.tabled_size_wrap.proofs.CellsLemmas.Bridges.{resized-shows}
use Rattle.tabled_size_wrap.proofs.CellsLemmas.Characters.{resized-natural, same}

pub stripped-none : stripped [] ≡ []
stripped-none = ap strip pieces-nothing

pub stripped-twice : (text : List ℕ) → stripped (stripped text) ≡ stripped text
stripped-twice text = strip-without_escape (stripped text) (pieces (stripped text)) (ArePiecesOf-pieces (stripped text)) (has_escape-strip text (pieces text) (ArePiecesOf-pieces text))

pub stripped-width : (text : List ℕ) → text_width (stripped text) ≡ text_width text
unfolding text_width
stripped-width text = ap (λ shown. widest (slice_split (λ c. c == line_feed) shown)) (stripped-twice text)

pub stripped-height : (text : List ℕ) → text_height (stripped text) ≡ text_height text
unfolding text_height
stripped-height text = ap (λ shown. length (slice_split (λ c. c == line_feed) shown)) (stripped-twice text)

pub whole-stripped : (text : List ℕ) → IsWholeText text → IsWholeText (stripped text)
whole-stripped text whole =
    let left = stripped text in
    let are = ArePiecesOf-pieces left in
    record { utf8 = IsUtf8-shown_text text whole.utf8; whole = none-broken (pieces left) are.stand (ap has_escape are.joins ∙ has_escape-strip text (pieces text) (ArePiecesOf-pieces text)) }

-- ---- rows of texts

row-whole : (row : List (List ℕ)) → AllByRecursion IsWholeText row → AllByRecursion IsWholeText (map stripped row)
row-whole [] all = tt
row-whole (text ∷ row) all = (whole-stripped text all.0, row-whole row all.1)

pub texts-whole : (texts : List (List (List ℕ))) → AreWholeTexts texts → AreWholeTexts (stripped_texts texts)
texts-whole [] all = tt
texts-whole (row ∷ texts) all = (row-whole row all.0, texts-whole texts all.1)

pub texts-twice : (texts : List (List (List ℕ))) → stripped_texts (stripped_texts texts) ≡ stripped_texts texts
texts-twice texts =
    map-map (map stripped) (map stripped) texts
    ∙ (λ k. map (λ row. map-map stripped stripped row k) texts)
    ∙ (λ k. map (map (λ text. stripped-twice text k)) texts)

-- ---- a text of a table whose texts are changed

pub text-map : (f : List ℕ → List ℕ) (none : f [] ≡ []) (rows : List (List (List ℕ))) (cell : Position) → text_at (map (map f) rows) cell ≡ f (text_at rows cell)
text-map f none rows cell =
    ap (λ row. get_or row cell.col []) (get_or-map (map f) rows cell.row [])
    ∙ ap (get_or (map f (get_or rows cell.row [])) cell.col) (sym none)
    ∙ get_or-map f (get_or rows cell.row []) cell.col []

-- ---- resized

-- a resized text shows its resized characters
pub resized-characters : (resize : Resize) (text : List ℕ) → IsWholeText text → stripped (resized_text resize text) ≡ encode_utf8_all (resized same same resize (chars (stripped text)))
resized-characters resize text whole =
    let out = resized_text resize text in
    let shows = resized-shows resize text whole in
    sym (encodes-chars (stripped out) (IsUtf8-shown_text out shows.whole.utf8))
    ∙ ap encode_utf8_all
    (sym (characters-styled out shows.whole.utf8) ∙ ap (map character_of) shows.shown ∙ resized-natural character_of same in_plain resize (styled_of text) ∙ ap (resized same same resize) (characters-styled text whole.utf8))
