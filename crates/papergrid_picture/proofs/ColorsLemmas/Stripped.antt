-- The text of a table whose cells have colours, without its sequences.
use Rattle.std.proofs.Common.{◌≡◌, ◌≢◌, ℕ, Bool, true, false, cond, List, [], ◌∷◌, ◌++◌, Option, None, Some, refl, ap, sym, subst, ◌∙◌, append-nil, drop}
use Rattle.std.specs.Prelude.{IfSome, encode_utf8}
use Rattle.std.specs.List.{AllByRecursion}
use Rattle.ansi_scan.specs.declared.items.Kind.TheVariants.{Text}
use Rattle.ansi_scan.specs.Sequences.{Piece, ArePiecesOf, NoneBroken}
use Rattle.ansi_scan.specs.Pieces.{pieces}
use Rattle.ansi_scan.proofs.Existence.{ArePiecesOf-pieces}
use Rattle.ansi_scan.proofs.Uniqueness.{pieces-ArePiecesOf}
use Rattle.ansi_str_search.specs.Text.StyledText.{strip}
use Rattle.grid_config_values.specs.declared.position.Position.{Position}
use Rattle.grid_config.specs.Colors.{Color}
use Rattle.grid_config.specs.Looks.{Look}
use Rattle.grid_records_measure.specs.TextLines.{shown_lines, text_lines}
use Rattle.grid_records_measure.specs.Trimming.{trimmed}
use Rattle.grid_records_traits.specs.Rows.{text_at}
use Rattle.papergrid_picture.specs.CellLines.{cell_lines, kept_lines, those}
use Rattle.papergrid_picture.specs.Reading.{Reading, painted}
use Rattle.papergrid_picture.specs.Tables.{in_bytes, in_color, table_grid, table_line, table_text}
use Rattle.papergrid_picture.specs.Shown.{AreWholeTexts, IsBare, BeginsNoSequence, WritesNothing, stripped_texts}
use Rattle.papergrid_picture.proofs.Related.{All-get_or, All-map_of, related-items, related-picture_line}
use Rattle.papergrid_picture.proofs.Shown.{All-drop, All-take, IsClosedPart, BeginsNoSequence-feed, BeginsNoSequence-space, lines-closed_parts, painted-nothing, pieces-nothing, whole-at}
use Rattle.papergrid_picture.proofs.Stripped.{Leaves, Leaves-append, Leaves-character, Leaves-trimmed, stripped, table-stripped}
use Rattle.papergrid_picture.specs.Colors.ClosingColors.{AreClosing, IsClosing, ShowNothing, ShowsNothing}
use Rattle.papergrid_picture.specs.Colors.ColoredLines.{with_painted_lines}
use Rattle.papergrid_picture.proofs.ColorsLemmas.Lines.{closing-shows_nothing, none-shown}
use Rattle.papergrid_picture.proofs.ColorsLemmas.PaintedLines.{grid_items-same, grid_line-same}
use Rattle.papergrid_picture.proofs.ColorsLemmas.Pictures.{bytes-left}

-- ---- bytes that are the same without their sequences

pub record AreSame (a b : List ℕ) : Type 0 where
  pub one : Leaves a (stripped b)
  pub other : Leaves b (stripped b)

itself : (a : List ℕ) → NoneBroken (pieces a) → AreSame a a
itself a whole = record { one = record { whole = whole; left = refl }; other = record { whole = whole; left = refl } }

pub AreSame-nothing : AreSame [] []
AreSame-nothing = itself [] (subst NoneBroken (sym pieces-nothing) tt)

pub AreSame-append : (a c b d : List ℕ) → AreSame a b → AreSame c d → AreSame (a ++ c) (b ++ d)
AreSame-append a c b d first second =
    let both = Leaves-append b d (stripped b) (stripped d) first.other second.other in
    record {
      one = subst (Leaves (a ++ c)) (sym both.left) (Leaves-append a c (stripped b) (stripped d) first.one second.one);
      other = record { whole = both.whole; left = refl };
    }

pub AreSame-character : (c : ℕ) → BeginsNoSequence c → AreSame (encode_utf8 c) (encode_utf8 c)
AreSame-character c is = itself (encode_utf8 c) (Leaves-character c is).whole

-- ---- a line in a colour

strip-sequences : (ps : List Piece) → AllByRecursion (λ (piece : Piece). piece.kind ≢ Text) ps → strip ps ≡ []
strip-sequences [] none = refl
strip-sequences (p ∷ ps) none = ap (λ bytes. bytes ++ strip ps) (none-shown p.kind p.bytes none.0) ∙ strip-sequences ps none.1

module _ (color : Color) (is : ShowsNothing color) where
  pub around : (line : List ℕ) → NoneBroken (pieces line) → AreSame (in_color color line) line
  around line whole =
      let prefix : Leaves color.prefix [] = record { whole = is.prefix_form.whole; left = strip-sequences (pieces color.prefix) is.prefix_form.no_text } in
      let suffix : Leaves color.suffix [] = record { whole = is.suffix_form.whole; left = strip-sequences (pieces color.suffix) is.suffix_form.no_text } in
      let here : Leaves line (stripped line) = record { whole = whole; left = refl } in
      record {
        one = subst (Leaves (in_color color line)) (append-nil (stripped line))
            (Leaves-append color.prefix (line ++ color.suffix) [] (stripped line ++ []) prefix (Leaves-append line color.suffix (stripped line) [] here suffix));
        other = here;
      }

  painted-same : (look : Look) (rows : List (List (List ℕ))) (line : List ℕ) → NoneBroken (pieces line) → AreSame (painted (in_bytes look rows) (Some color) line) line
  painted-same look rows [] whole = AreSame-nothing
  painted-same look rows (b ∷ bs) whole = around (b ∷ bs) whole

-- ---- a table

module _ (look : Look) (rows : List (List (List ℕ))) (colors : Position → Option Color) (widths heights : List ℕ) (bare : IsBare look) (texts : AreWholeTexts rows) (silent : ShowNothing colors) where
  abbrev IsWholePart : List ℕ → Type 0
  IsWholePart part = NoneBroken (pieces part)

  -- no sequence of a line is broken, trimmed or not
  line-whole : (cell : Position) (k : ℕ) → NoneBroken (pieces ((in_bytes look rows).line cell k))
  line-whole cell k =
      let text = text_at rows cell in
      let whole = whole-at rows texts cell in
      let kept = kept_lines (look.trim_vertical cell) (shown_lines (pieces text)) in
      let trims = look.trim_horizontal cell in
      All-get_or IsWholePart (cell_lines trims (look.trim_vertical cell) text) k []
      (All-map_of IsClosedPart IsWholePart (λ line. cond trims (trimmed line) line) (trim-whole trims) (those kept (text_lines text))
      (All-take IsClosedPart kept.1 (drop kept.0 (text_lines text)) (All-drop IsClosedPart kept.0 (text_lines text) (lines-closed_parts text whole))))
      (subst NoneBroken (sym pieces-nothing) tt)
    where
      trim-whole : (trims : Bool) (part : List ℕ) → IsClosedPart part → NoneBroken (pieces (cond trims (trimmed part) part))
      trim-whole true part closed = (Leaves-trimmed part closed).whole
      trim-whole false part closed = closed.closed.none_broken

  abbrev first : Reading ℕ
  first = with_painted_lines (in_bytes look rows) colors

  line-same : (cell : Position) (k : ℕ) → AreSame (first.line cell k) ((in_bytes look rows).line cell k)
  line-same cell k = by (colors cell) (silent cell)
    where
      by : (color : Option Color) → IfSome color ShowsNothing → AreSame (painted (in_bytes look rows) color ((in_bytes look rows).line cell k)) ((in_bytes look rows).line cell k)
      by None is = itself ((in_bytes look rows).line cell k) (line-whole cell k)
      by (Some color) is = painted-same color is look rows ((in_bytes look rows).line cell k) (line-whole cell k)

  paint-same : (color : Option Color) (a b : List ℕ) → WritesNothing color → AreSame a b → AreSame (painted first color a) (painted (in_bytes look rows) color b)
  paint-same color a b nothing here =
      subst (AreSame (painted first color a)) (sym (painted-nothing look rows color b nothing))
      (subst (λ (bytes : List ℕ). AreSame bytes b) (sym (bytes-left look rows colors color a nothing)) here)

  pub tables-same : AreSame (table_text look rows colors widths heights) (table_text look rows (λ _. None) widths heights)
  tables-same =
      subst (λ (bytes : List ℕ). AreSame bytes (table_text look rows (λ _. None) widths heights))
      (sym (grid_items-same (in_bytes look rows) (table_grid look rows colors widths heights)))
      (related-items AreSame AreSame-nothing AreSame-append first (in_bytes look rows) WritesNothing paint-same
      BeginsNoSequence AreSame-character BeginsNoSequence-space (table_grid look rows (λ _. None) widths heights)
      line-same (λ _. tt) bare.shown bare.no_colors BeginsNoSequence-feed)

  -- and so is each of its lines
  pub lines-same : (y : ℕ) → AreSame (table_line look rows colors widths heights y) (table_line look rows (λ _. None) widths heights y)
  lines-same y =
      subst (λ (bytes : List ℕ). AreSame bytes (table_line look rows (λ _. None) widths heights y))
      (sym (grid_line-same (in_bytes look rows) (table_grid look rows colors widths heights) y))
      (related-picture_line AreSame AreSame-nothing AreSame-append first (in_bytes look rows) WritesNothing paint-same
      BeginsNoSequence AreSame-character BeginsNoSequence-space (table_grid look rows (λ _. None) widths heights)
      line-same (λ _. tt) bare.shown bare.no_colors y)

  pub colors-stripped : (ps : List Piece) → ArePiecesOf (table_text look rows colors widths heights) ps → strip ps ≡ table_text look (stripped_texts rows) (λ _. None) widths heights
  colors-stripped ps of_text =
      let bare_text = table_text look rows (λ _. None) widths heights in
      ap strip (sym (pieces-ArePiecesOf (table_text look rows colors widths heights) ps of_text)) ∙ tables-same.one.left
      ∙ table-stripped look rows widths heights (pieces bare_text) bare texts (ArePiecesOf-pieces bare_text)

  pub colors-whole : (ps : List Piece) → ArePiecesOf (table_text look rows colors widths heights) ps → NoneBroken ps
  colors-whole ps of_text = subst NoneBroken (pieces-ArePiecesOf (table_text look rows colors widths heights) ps of_text) tables-same.one.whole

pub closing-show_nothing : (colors : Position → Option Color) → AreClosing colors → ShowNothing colors
closing-show_nothing colors closing cell = by (colors cell) (closing cell)
  where
    by : (color : Option Color) → IfSome color IsClosing → IfSome color ShowsNothing
    by None is = tt
    by (Some color) is = closing-shows_nothing color is
