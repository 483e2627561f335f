-- What is printed of texts without control characters shows none.
use Rattle.std.proofs.Common.{◌≡◌, ◌∙◌, ◌||◌, ℕ, zero, suc, Bool, true, false, List, [], ◌∷◌, ◌++◌, Option, None, Some, map, drop, get_or, refl, ap, sym, subst, arith, if◌then◌else◌}
use Rattle.std.specs.Prelude.{IfSome, chars, encode_utf8, flat_map}
use Rattle.std.specs.List.{AllByRecursion, list_all}
use Rattle.std.proofs.lemmas.Bool.Decides.{nat_tests}
use Rattle.std.proofs.lemmas.Str.{chars-nil}
use Rattle.ansi_scan.specs.Pieces.{pieces}
use Rattle.ansi_scan.specs.Sequences.{Piece}
use Rattle.ansi_scan.specs.declared.items.Kind.{Kind}
use Rattle.ansi_scan.specs.declared.items.Kind.TheVariants.{Text, Sgr, Csi, Osc, Esc, Str, Broken}
use Rattle.ansi_str_search.specs.Text.StyledText.{strip, text_of}
use Rattle.grid_config.specs.Colors.{Color}
use Rattle.grid_config_values.specs.declared.position.Position.{Position}
use Rattle.grid_records_measure.specs.TextLines.{is_line_feed, shown_lines, text_lines}
use Rattle.grid_records_measure.specs.Trimming.{trimmed}
use Rattle.grid_records_traits.specs.Rows.{text_at}
use Rattle.papergrid_picture.specs.CellLines.{kept_lines, those}
use Rattle.papergrid_picture.specs.Colors.ClosingColors.{IsClosing}
use Rattle.papergrid_picture.specs.Colors.ColoredLines.{with_painted_lines}
use Rattle.papergrid_picture.specs.Reading.{Reading, painted}
use Rattle.papergrid_picture.specs.Tables.{in_bytes, table_grid}
use Rattle.papergrid_picture.proofs.ColorsLemmas.Lines.{closing-shows_nothing}
use Rattle.papergrid_picture.proofs.ColorsLemmas.PaintedLines.{grid_line-same}
use Rattle.papergrid_picture.proofs.Shown.{All-drop, All-take, IsClosedPart, lines-closed_parts}
use Rattle.tabled.specs.Printing.{drawn_heights, drawn_widths}
use Rattle.tabled.specs.Totals.{drawn_line}
use Rattle.tabled_steps.specs.States.{State}
use Rattle.tables_laws.specs.Grids.TextsOf.{AreTextsOf}
use Rattle.tables_laws.specs.Shown.ClosingLooks.{IsNoControl}
use Rattle.tables_laws.proofs.GridsLemmas.EvenLines.{text-of}
use Rattle.tables_laws.proofs.GridsLemmas.Texts.{IsPartOf, append-of, character-of, line-text, nothing-of, parts-of_text, trimmed-of}
use Rattle.tables_laws.proofs.ShownLemmas.Looks.{shows-also}
use Rattle.tables_laws.proofs.ShownLemmas.Runs.{line-related}
use Rattle.tables_laws.proofs.ShownLemmas.Signs.{IsNoControl-blank, no_control-begins}
use Rattle.tables_laws.proofs.ShownLemmas.Trimmed.{trimmed-shows}
use Rattle.basinmug_columns.specs.declared.rows.RowsShown.{RowsShown}
use Rattle.basinmug_run.specs.declared.options.Options.{Options}
use Rattle.basinmug_run.specs.Picture.Printed.{text_of as printed_text}
use Rattle.basinmug_laws.specs.Controls.ControlTexts.{ShowsNoControls, is_no_control}
use Rattle.basinmug_laws.proofs.AdditiveLemmas.RowsOf.{ascii-of}
use Rattle.basinmug_laws.proofs.ControlsLemmas.CleanedTexts.{ascii-inside, dots-inside, mark-inside}
use Rattle.basinmug_laws.proofs.ShownLemmas.OwnBytes.{AreOwnBytes}
use Rattle.basinmug_laws.proofs.ShownLemmas.PrintedLines.{all-printed}
use Rattle.basinmug_laws.proofs.ShownLemmas.Tables.{IsShown}

behind-of : (a b : List ℕ) → ShowsNoControls a → ShowsNoControls b → ShowsNoControls (a ++ b)
behind-of a b first second = append-of is_no_control a b first second

-- ---- colours

no-text : (kind : Kind) (bytes : List ℕ) (others : List ℕ) → (kind ≡ Text → ⊥) → others ≡ [] → text_of (record { kind = kind; bytes = bytes }) ++ others ≡ []
no-text Text bytes others other none = absurd (other refl)
no-text Sgr bytes others other none = none
no-text Csi bytes others other none = none
no-text Osc bytes others other none = none
no-text Esc bytes others other none = none
no-text Str bytes others other none = none
no-text Broken bytes others other none = none

stripped-none : (ps : List Piece) → AllByRecursion (λ (piece : Piece). piece.kind ≡ Text → ⊥) ps → strip ps ≡ []
stripped-none [] none = refl
stripped-none (p ∷ ps) none = no-text p.kind p.bytes (strip ps) none.0 (stripped-none ps none.1)

module _ (color : Color) (is : IsClosing color) where
  prefix-of : ShowsNoControls color.prefix
  prefix-of =
      let form = (closing-shows_nothing color is).prefix_form in
      record {
        whole = record { utf8 = is.prefix_text; whole = form.whole };
        shown = ap (λ bytes. list_all (λ c. is_no_control c || is_line_feed c) (chars bytes)) (stripped-none (pieces color.prefix) form.no_text) ∙ ap (list_all (λ c. is_no_control c || is_line_feed c)) chars-nil;
      }

  suffix-of : ShowsNoControls color.suffix
  suffix-of =
      let form = (closing-shows_nothing color is).suffix_form in
      record {
        whole = record { utf8 = is.suffix_text; whole = form.whole };
        shown = ap (λ bytes. list_all (λ c. is_no_control c || is_line_feed c) (chars bytes)) (stripped-none (pieces color.suffix) form.no_text) ∙ ap (list_all (λ c. is_no_control c || is_line_feed c)) chars-nil;
      }

-- ---- lines of a table

signs-of : (cs : List ℕ) → AllByRecursion IsNoControl cs → ShowsNoControls (flat_map encode_utf8 cs)
signs-of [] all = nothing-of is_no_control
signs-of (c ∷ cs) all =
    behind-of (encode_utf8 c) (flat_map encode_utf8 cs)
    (character-of is_no_control c (no_control-begins c all.0) (ap (λ t. t || is_line_feed c) (inside c all.0))) (signs-of cs all.1)
  where
    inside : (c : ℕ) → IsNoControl c → is_no_control c ≡ true
    inside c is = grind (arith, nat_tests, is.no_control)

module _ (s : State) (shown : IsShown s) (texts : AreTextsOf is_no_control s.rows) where
  abbrev bytes : Reading ℕ
  bytes = in_bytes s.look s.rows

  abbrev colored : Reading ℕ
  colored = with_painted_lines bytes s.colors

  part-of : (trims : Bool) (part : List ℕ) → IsClosedPart part → IsPartOf is_no_control part → ShowsNoControls (if trims then trimmed part else part)
  part-of true part closed all =
      let here = trimmed-shows part closed in
      line-text is_no_control (trimmed part) (record { utf8 = here.utf8; closed = here.closed }) (trimmed-of is_no_control part closed all)
  part-of false part closed all = line-text is_no_control part closed all

  parts-of : (trims : Bool) (parts : List (List ℕ)) → AllByRecursion IsClosedPart parts → AllByRecursion (IsPartOf is_no_control) parts → (k : ℕ)
      → ShowsNoControls (get_or (map (λ part. if trims then trimmed part else part) parts) k [])
  parts-of trims [] closed all k = nothing-of is_no_control
  parts-of trims (part ∷ parts) closed all zero = part-of trims part closed.0 all.0
  parts-of trims (part ∷ parts) closed all (suc k) = parts-of trims parts closed.1 all.1 k

  those-of : {A : Type 0} (P : A → Type 0) (kept : ℕ × ℕ) (xs : List A) → AllByRecursion P xs → AllByRecursion P (those kept xs)
  those-of P kept xs all = All-take P kept.1 (drop kept.0 xs) (All-drop P kept.0 xs all)

  line-of_cell : (cell : Position) (k : ℕ) → ShowsNoControls (bytes.line cell k)
  line-of_cell cell k =
      let text = text_at s.rows cell in
      let is = text-of is_no_control s.rows texts cell in
      let kept = kept_lines (s.look.trim_vertical cell) (shown_lines (pieces text)) in
      parts-of (s.look.trim_horizontal cell) (those kept (text_lines text))
      (those-of IsClosedPart kept (text_lines text) (lines-closed_parts text is.whole)) (those-of (IsPartOf is_no_control) kept (text_lines text) (parts-of_text is_no_control text is)) k

  painted-of : (color : Color) → IsClosing color → (line : List ℕ) → ShowsNoControls line → ShowsNoControls (painted bytes (Some color) line)
  painted-of color is [] here = here
  painted-of color is (b ∷ bs) here = behind-of color.prefix ((b ∷ bs) ++ color.suffix) (prefix-of color is) (behind-of (b ∷ bs) color.suffix here (suffix-of color is))

  colored-of : (cell : Position) (k : ℕ) → ShowsNoControls (colored.line cell k)
  colored-of cell k = by (s.colors cell) (shown.colors cell)
    where
      by : (color : Option Color) → IfSome color IsClosing → ShowsNoControls (painted bytes color (bytes.line cell k))
      by None is = line-of_cell cell k
      by (Some color) is = painted-of color is (bytes.line cell k) (line-of_cell cell k)

  glyphs-of : (color : Option Color) (cs : List ℕ) → color ≡ None → AllByRecursion IsNoControl cs → ShowsNoControls (painted colored color (flat_map encode_utf8 cs))
  glyphs-of None cs is all = signs-of cs all
  glyphs-of (Some color) cs is all = absurd (cc is)

  pub line-of : (y : ℕ) → ShowsNoControls (drawn_line s y)
  line-of y =
      subst ShowsNoControls (sym (grid_line-same bytes (table_grid s.look s.rows s.colors (drawn_widths s) (drawn_heights s)) y))
      (line-related IsNoControl (λ color. color ≡ None) (λ a b. ShowsNoControls a) (nothing-of is_no_control) (λ a c b d first second. behind-of a c first second)
      colored colored glyphs-of colored-of IsNoControl-blank (table_grid s.look s.rows (λ _. None) (drawn_widths s) (drawn_heights s)) (λ _. refl)
      (shows-also _ IsNoControl (λ c is. is.0) s.look shown.look.shown) shown.look.uncolored y)

  own-of : (bytes : List ℕ) → AreOwnBytes bytes → ShowsNoControls bytes
  own-of bytes all = ascii-of is_no_control ascii-inside mark-inside dots-inside bytes all

  pub printed-of : (options : Options) (which : RowsShown) (rows : List (List (List ℕ))) (columns : Option (ℕ × ℕ)) → ShowsNoControls (printed_text options which rows columns s)
  printed-of options which rows columns = all-printed ShowsNoControls (nothing-of is_no_control) behind-of own-of s line-of options which rows columns
