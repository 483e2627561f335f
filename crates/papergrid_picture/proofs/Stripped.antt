-- The text of a table without its sequences.
use Rattle.std.proofs.Common.{◌≡◌, ◌==◌, ℕ, drop, zero, suc, Bool, true, false, cond, List, [], ◌∷◌, ◌++◌, Option, None, map, get_or, refl, ap, sym, subst, ◌∙◌, append-nil}
use Rattle.std.specs.Prelude.{encode_utf8, IsUtf8}
use Rattle.std.specs.List.{AllByRecursion, slice_split}
use Rattle.std.specs.Str.{trim}
use Rattle.std.proofs.lemmas.Bool.{or_parts}
use Rattle.std.proofs.lemmas.List.Folds.{list_any-append}
use Rattle.std.proofs.lemmas.List.Concat.{flat_map-append}
use Rattle.std.proofs.lemmas.Simd.{map-map}
use Rattle.ansi_scan.specs.Sequences.{Piece, ArePiecesOf, EachStands, NoneBroken, Stands, escape, joined}
use Rattle.ansi_scan.specs.declared.items.Kind.TheVariants.{Broken}
use Rattle.ansi_scan.specs.Joining.{put_all_before}
use Rattle.ansi_scan.specs.Pieces.{pieces}
use Rattle.ansi_scan.proofs.Existence.{ArePiecesOf-pieces}
use Rattle.ansi_scan.proofs.Uniqueness.{pieces-ArePiecesOf}
use Rattle.ansi_scan.proofs.Joins.{ArePiecesOf-append, NoneBroken-put_all_before}
use Rattle.ansi_str_search.specs.Text.StyledText.{has_escape, strip, text_of}
use Rattle.ansi_str_search.proofs.TextLemmas.Stripping.{escaped, has_escape-strip, strip-without_escape}
use Rattle.ansi_str_search.proofs.TextLemmas.Utf8Pieces.{IsUtf8-shown_text}
use Rattle.ansi_str_search.specs.Matches.{split_bounds, styled_parts, text_parts}
use Rattle.ansi_str_search.proofs.AllParts.{strip-styled_parts, styled_parts-without_escape}
use Rattle.ansi_str_search.proofs.Merges.{alike-put_all_before}
use Rattle.ansi_str.specs.Keeping.{kept as kept_text}
use Rattle.ansi_str.proofs.Keeps.{kept-plain}
use Rattle.ansi_str.proofs.KeptPieces.{kept_shown, kept_whole}
use Rattle.grid_config_values.specs.declared.position.Position.{Position}
use Rattle.grid_config.specs.Colors.{Color}
use Rattle.grid_config.specs.Looks.{Look}
use Rattle.grid_records_measure.specs.TextLines.{is_line_feed, line_feed, line_feed_places, line_measure, shown_lines, text_lines}
use Rattle.grid_records_measure.specs.Trimming.{trimmed, trimmed_from, trimmed_to}
use Rattle.grid_records_measure.proofs.TextLines.{line_feeds_match, text_lines-shown}
use Rattle.ansi_str.proofs.Trims.{by_places}
use Rattle.grid_records_measure.proofs.Trimmed.{trimmed-is, trimmed_at}
use Rattle.grid_records_traits.specs.Rows.{text_at}
use Rattle.papergrid_picture.specs.Frame.{frame_of}
use Rattle.papergrid_picture.specs.Blocks.{Grid}
use Rattle.papergrid_picture.specs.CellLines.{cell_lines, cell_measures, kept_lines, those}
use Rattle.papergrid_picture.specs.Reading.{grid_items, painted}
use Rattle.papergrid_picture.specs.Tables.{in_bytes, table_grid, table_text}
use Rattle.papergrid_picture.specs.Shown.{AreWholeTexts, IsBare, BeginsNoSequence, IsWholeText, WritesNothing, stripped_texts}
use Rattle.papergrid_picture.proofs.Related.{related-items}
use Rattle.papergrid_picture.proofs.Shown.{All-drop, All-take, IsClosedPart, BeginsNoSequence-feed, BeginsNoSequence-space, get_or-map, lines-closed_parts, painted-nothing, pieces-character, pieces-nothing, those-map, whole-at}

abbrev pub stripped : List ℕ → List ℕ
stripped text = strip (pieces text)

-- no ESC of the bytes is broken, and without them they are these
pub record Leaves (bytes text : List ℕ) : Type 0 where
  pub whole : NoneBroken (pieces bytes)
  pub left : stripped bytes ≡ text

Leaves-nothing : Leaves [] []
Leaves-nothing = record { whole = subst NoneBroken (sym pieces-nothing) tt; left = ap strip pieces-nothing }

pub Leaves-append : (a c b d : List ℕ) → Leaves a b → Leaves c d → Leaves (a ++ c) (b ++ d)
Leaves-append a c b d first second =
    let ps = pieces a in
    let qs = pieces c in
    let both : pieces (a ++ c) ≡ put_all_before ps qs =
    pieces-ArePiecesOf (a ++ c) (put_all_before ps qs) (ArePiecesOf-append a c ps qs (ArePiecesOf-pieces a) first.whole (ArePiecesOf-pieces c)) in
    record {
      whole = subst NoneBroken (sym both) (NoneBroken-put_all_before ps qs first.whole second.whole);
      left =
          ap strip both ∙ (alike-put_all_before ps qs).strip_same ∙ flat_map-append text_of ps qs
          ∙ ap (λ bytes. bytes ++ strip qs) first.left ∙ ap (λ bytes. b ++ bytes) second.left;
    }

pub Leaves-character : (c : ℕ) → BeginsNoSequence c → Leaves (encode_utf8 c) (encode_utf8 c)
Leaves-character c is =
    let one = pieces-character c is in
    record { whole = subst NoneBroken (sym one) ((λ same. cc same), tt); left = ap strip one ∙ append-nil (encode_utf8 c) }

-- ---- a trimmed line

pub trimmed-plain : (text : List ℕ) → IsUtf8 text → has_escape text ≡ false → trimmed text ≡ trim text
unfolding trimmed
trimmed-plain text utf8 gone =
    let same : stripped text ≡ text = strip-without_escape text (pieces text) (ArePiecesOf-pieces text) gone in
    ap (λ shown. kept_text (trimmed_from shown) (trimmed_to shown) (pieces text)) same
    ∙ sym (kept-plain (trimmed_from text) (trimmed_to text) text gone)
    ∙ (by_places text (trimmed_from text) (trimmed_to text) (trimmed_at text utf8)).left

pub stripped-plain : (text : List ℕ) → has_escape (stripped text) ≡ false
stripped-plain text = has_escape-strip text (pieces text) (ArePiecesOf-pieces text)

pub Leaves-trimmed : (part : List ℕ) → IsClosedPart part → Leaves (trimmed part) (trimmed (stripped part))
Leaves-trimmed part closed =
    let is = trimmed-is part closed.utf8 in
    let of_left = subst (λ bytes. ArePiecesOf bytes (pieces (trimmed part))) is.3 (ArePiecesOf-pieces (trimmed part)) in
    let of_part = ArePiecesOf-pieces part in
    let whole = closed.closed.none_broken in
    record {
      whole = kept_whole is.0 is.1 part (pieces part) (pieces (trimmed part)) of_part whole of_left;
      left =
          kept_shown is.0 is.1 part (pieces part) (pieces (trimmed part)) of_part whole of_left
          ∙ (by_places (stripped part) is.0 is.1 is.2).left ∙ sym (trimmed-plain (stripped part) (IsUtf8-shown_text part closed.utf8) (stripped-plain part));
    }

-- ---- the lines of a cell

pub none-broken : (ps : List Piece) → EachStands ps → has_escape (joined ps) ≡ false → NoneBroken ps
none-broken [] stand gone = tt
none-broken (p ∷ ps) stand gone = (
  (λ is. let broken : Stands Broken p.bytes ps = subst (λ kind. Stands kind p.bytes ps) is stand.0 in escaped p.bytes [] (joined ps) broken.spelled gone),
  none-broken ps stand.1 (or_parts (has_escape p.bytes) (has_escape (joined ps)) (sym (list_any-append (λ b. b == escape) p.bytes (joined ps)) ∙ gone)).1,
)

-- without sequences the lines of a text are those that it shows
lines-plain : (text : List ℕ) → has_escape text ≡ false → text_lines text ≡ shown_lines (pieces text)
unfolding text_lines
lines-plain text gone =
    let ps = pieces text in
    let of_text = ArePiecesOf-pieces text in
    let feed = line_feed ∷ [] in
    let same : strip ps ≡ text = strip-without_escape text ps of_text gone in
    let whole : NoneBroken ps = none-broken ps of_text.stand (ap has_escape of_text.joins ∙ gone) in
    subst (λ (shown : List ℕ). styled_parts ps (split_bounds feed shown (line_feed_places shown)) ≡ text_parts shown (split_bounds feed shown (line_feed_places shown))) (sym same)
    (styled_parts-without_escape feed text ps (line_feed_places text) gone of_text (line_feeds_match text))
    ∙ sym (strip-styled_parts feed text ps (line_feed_places (strip ps)) of_text whole (line_feeds_match (strip ps)))
    ∙ text_lines-shown text whole

module _ (text : List ℕ) (whole : IsWholeText text) where
  same_lines : shown_lines (pieces (stripped text)) ≡ shown_lines (pieces text)
  same_lines =
      let left = stripped text in
      ap (slice_split is_line_feed) (strip-without_escape left (pieces left) (ArePiecesOf-pieces left) (stripped-plain text))

  module _ (trim_horizontal trim_vertical : Bool) where
    abbrev kept : ℕ × ℕ
    kept = kept_lines trim_vertical (shown_lines (pieces text))

    abbrev trim_line : List ℕ → List ℕ
    trim_line line = cond trim_horizontal (trimmed line) line

    Leaves-line : (part : List ℕ) → IsClosedPart part → Leaves (trim_line part) (trim_line (stripped part))
    Leaves-line part closed =
        elim trim_horizontal as (λ b. Leaves (cond b (trimmed part) part) (cond b (trimmed (stripped part)) (stripped part))) [
          | true ↦ Leaves-trimmed part closed
          | false ↦ record { whole = closed.closed.none_broken; left = refl }
        ]

    Leaves-lines : (parts : List (List ℕ)) → AllByRecursion IsClosedPart parts → (k : ℕ)
        → Leaves (get_or (map trim_line parts) k []) (get_or (map (λ part. trim_line (stripped part)) parts) k [])
    Leaves-lines [] all k = Leaves-nothing
    Leaves-lines (part ∷ parts) all zero = Leaves-line part all.0
    Leaves-lines (part ∷ parts) all (suc k) = Leaves-lines parts all.1 k

    kept-parts : AllByRecursion IsClosedPart (those kept (text_lines text))
    kept-parts = All-take IsClosedPart kept.1 (drop kept.0 (text_lines text)) (All-drop IsClosedPart kept.0 (text_lines text) (lines-closed_parts text whole))

    -- the lines of the stripped text are the stripped lines
    stripped_lines : cell_lines trim_horizontal trim_vertical (stripped text) ≡ map (λ part. trim_line (stripped part)) (those kept (text_lines text))
    stripped_lines =
        ap (λ shown. map trim_line (those (kept_lines trim_vertical shown) (text_lines (stripped text)))) same_lines
        ∙ ap (λ lines. map trim_line (those kept lines)) (lines-plain (stripped text) (stripped-plain text) ∙ same_lines ∙ sym (text_lines-shown text whole.whole))
        ∙ ap (map trim_line) (those-map stripped kept (text_lines text))
        ∙ map-map trim_line stripped (those kept (text_lines text))

    cell_line-stripped : (k : ℕ) → Leaves (get_or (cell_lines trim_horizontal trim_vertical text) k []) (get_or (cell_lines trim_horizontal trim_vertical (stripped text)) k [])
    cell_line-stripped k =
        subst (λ (lines : List (List ℕ)). Leaves (get_or (cell_lines trim_horizontal trim_vertical text) k []) (get_or lines k [])) (sym stripped_lines)
        (Leaves-lines (those kept (text_lines text)) kept-parts k)

    cell_measures-stripped : cell_measures trim_horizontal trim_vertical (stripped text) ≡ cell_measures trim_horizontal trim_vertical text
    cell_measures-stripped =
        ap (λ shown. map (λ line. line_measure (cond trim_horizontal (trim line) line)) (those (kept_lines trim_vertical shown) shown)) same_lines

-- ---- the text of a table

module _ (look : Look) (rows : List (List (List ℕ))) (widths heights : List ℕ) (bare : IsBare look) (texts : AreWholeTexts rows) where
  abbrev stripped_rows : List (List (List ℕ))
  stripped_rows = stripped_texts rows

  text-stripped : (cell : Position) → text_at stripped_rows cell ≡ stripped (text_at rows cell)
  text-stripped cell =
      ap (λ row. get_or row cell.col []) (get_or-map (map stripped) rows cell.row [])
      ∙ ap (get_or (map stripped (get_or rows cell.row [])) cell.col) (sym (ap strip pieces-nothing))
      ∙ get_or-map stripped (get_or rows cell.row []) cell.col []

  line-stripped : (cell : Position) (k : ℕ) → Leaves ((in_bytes look rows).line cell k) ((in_bytes look stripped_rows).line cell k)
  line-stripped cell k =
      subst (λ (text : List ℕ). Leaves ((in_bytes look rows).line cell k) (get_or (cell_lines (look.trim_horizontal cell) (look.trim_vertical cell) text) k [])) (sym (text-stripped cell))
      (cell_line-stripped (text_at rows cell) (whole-at rows texts cell) (look.trim_horizontal cell) (look.trim_vertical cell) k)

  measures-stripped : (cell : Position) → cell_measures (look.trim_horizontal cell) (look.trim_vertical cell) (text_at rows cell)
      ≡ cell_measures (look.trim_horizontal cell) (look.trim_vertical cell) (text_at stripped_rows cell)
  measures-stripped cell =
      sym (cell_measures-stripped (text_at rows cell) (whole-at rows texts cell) (look.trim_horizontal cell) (look.trim_vertical cell))
      ∙ ap (cell_measures (look.trim_horizontal cell) (look.trim_vertical cell)) (sym (text-stripped cell))

  abbrev with_measures : (Position → List ℕ) → Grid
  with_measures measures = record { frame = frame_of look widths heights; measures = measures; text_color = λ _. None }

  paint-stripped : (color : Option Color) (a b : List ℕ) → WritesNothing color → Leaves a b
      → Leaves (painted (in_bytes look rows) color a) (painted (in_bytes look stripped_rows) color b)
  paint-stripped color a b nothing here =
      subst (Leaves (painted (in_bytes look rows) color a)) (sym (painted-nothing look stripped_rows color b nothing))
      (subst (λ (bytes : List ℕ). Leaves bytes b) (sym (painted-nothing look rows color a nothing)) here)

  pub table-leaves : Leaves (table_text look rows (λ _. None) widths heights) (table_text look stripped_rows (λ _. None) widths heights)
  table-leaves =
      subst (λ (measures : Position → List ℕ). Leaves (table_text look rows (λ _. None) widths heights) (grid_items (in_bytes look stripped_rows) (with_measures measures)))
      (λ n cell. measures-stripped cell n)
      (related-items Leaves Leaves-nothing Leaves-append (in_bytes look rows) (in_bytes look stripped_rows) WritesNothing paint-stripped
      BeginsNoSequence Leaves-character BeginsNoSequence-space (table_grid look rows (λ _. None) widths heights)
      line-stripped (λ _. tt) bare.shown bare.no_colors BeginsNoSequence-feed)

-- ---- as the laws state it

pub table-stripped : (look : Look) (rows : List (List (List ℕ))) (widths heights : List ℕ) (ps : List Piece) → IsBare look → AreWholeTexts rows
    → ArePiecesOf (table_text look rows (λ _. None) widths heights) ps → strip ps ≡ table_text look (stripped_texts rows) (λ _. None) widths heights
table-stripped look rows widths heights ps bare texts of_text =
    ap strip (sym (pieces-ArePiecesOf (table_text look rows (λ _. None) widths heights) ps of_text)) ∙ (table-leaves look rows widths heights bare texts).left

pub table-whole : (look : Look) (rows : List (List (List ℕ))) (widths heights : List ℕ) (ps : List Piece) → IsBare look → AreWholeTexts rows
    → ArePiecesOf (table_text look rows (λ _. None) widths heights) ps → NoneBroken ps
table-whole look rows widths heights ps bare texts of_text =
    subst NoneBroken (pieces-ArePiecesOf (table_text look rows (λ _. None) widths heights) ps of_text) (table-leaves look rows widths heights bare texts).whole
