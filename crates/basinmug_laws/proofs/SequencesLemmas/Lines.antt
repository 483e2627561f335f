-- The lines of a table whose texts have allowed sequences, and whose cells have colours that are made of allowed ones.
use Rattle.std.proofs.Common.{◌≡◌, ℕ, Bool, true, false, List, [], ◌∷◌, ◌++◌, Option, None, Some, get_or, map, drop, refl, sym, subst, if◌then◌else◌}
use Rattle.std.specs.Prelude.{IfSome, encode_utf8, flat_map}
use Rattle.std.specs.List.{AllByRecursion}
use Rattle.ansi_scan.specs.Attributes.{Attributes}
use Rattle.ansi_scan.specs.Pieces.{pieces}
use Rattle.grid_config.specs.Colors.{Color}
use Rattle.grid_config_values.specs.declared.position.Position.{Position}
use Rattle.grid_records_measure.specs.TextLines.{shown_lines, text_lines}
use Rattle.grid_records_measure.specs.Trimming.{trimmed}
use Rattle.grid_records_traits.specs.Rows.{row_at, text_at}
use Rattle.papergrid_picture.specs.CellLines.{kept_lines, those}
use Rattle.papergrid_picture.specs.Colors.ColoredLines.{with_painted_lines}
use Rattle.papergrid_picture.specs.Reading.{Reading, painted}
use Rattle.papergrid_picture.specs.Shown.{BeginsNoSequence}
use Rattle.papergrid_picture.specs.Tables.{in_bytes, table_grid}
use Rattle.papergrid_picture.proofs.ColorsLemmas.PaintedLines.{grid_line-same}
use Rattle.papergrid_picture.proofs.Related.{All-get_or, All-map_of}
use Rattle.papergrid_picture.proofs.Shown.{All-drop, All-take, BeginsNoSequence-space}
use Rattle.tabled.specs.Printing.{drawn_heights, drawn_widths}
use Rattle.tabled.specs.Totals.{drawn_line}
use Rattle.tabled_steps.specs.States.{State}
use Rattle.tables_laws.proofs.ShownLemmas.Looks.{shows-also}
use Rattle.tables_laws.proofs.ShownLemmas.Runs.{line-related}
use Rattle.basinmug_laws.proofs.AdditiveLemmas.EvenTables.{IsEven, IsGlyph}
use Rattle.basinmug_laws.proofs.SequencesLemmas.Allowed.{HasAllowed, allowed-also, allowed-append, allowed-character, allowed-flat_map, allowed-nothing}
use Rattle.basinmug_laws.proofs.SequencesLemmas.Parts.{AreClosed, lines-allowed, trimmed-allowed}
use Rattle.basinmug_laws.proofs.SequencesLemmas.Texts.{IsClean}

-- the sequences of texts, those of what is written, and colours of which both ends are made of these
module _ (InTexts : List ℕ → Type 0) (IsStyle : Attributes → Type 0) (closed : AreClosed InTexts IsStyle)
    (Allows : List ℕ → Type 0) (also : (bytes : List ℕ) → InTexts bytes → Allows bytes)
    (Q : Color → Type 0) (ends : (color : Color) → Q color → HasAllowed Allows color.prefix × HasAllowed Allows color.suffix)
    (s : State) (even : IsEven (IsClean InTexts) Q s) where
  abbrev bytes : Reading ℕ
  bytes = in_bytes s.look s.rows

  abbrev colored : Reading ℕ
  colored = with_painted_lines bytes s.colors

  text-allowed : (cell : Position) → HasAllowed InTexts (text_at s.rows cell)
  text-allowed cell = texts (row_at s.rows cell.row) (All-get_or (AllByRecursion (IsClean InTexts)) s.rows cell.row [] even.texts tt)
    where
      texts : (row : List (List ℕ)) → AllByRecursion (IsClean InTexts) row → HasAllowed InTexts (get_or row cell.col [])
      texts row all = All-get_or (HasAllowed InTexts) row cell.col [] (each row all) (allowed-nothing InTexts)
        where
          each : (row : List (List ℕ)) → AllByRecursion (IsClean InTexts) row → AllByRecursion (HasAllowed InTexts) row
          each [] all = tt
          each (text ∷ others) all = (all.0.allowed, each others all.1)

  line-of_cell : (cell : Position) (k : ℕ) → HasAllowed InTexts (bytes.line cell k)
  line-of_cell cell k =
      let text = text_at s.rows cell in
      let kept = kept_lines (s.look.trim_vertical cell) (shown_lines (pieces text)) in
      let trims = s.look.trim_horizontal cell in
      All-get_or (HasAllowed InTexts) (map (λ part. if trims then trimmed part else part) (those kept (text_lines text))) k []
      (All-map_of (HasAllowed InTexts) (HasAllowed InTexts) (λ part. if trims then trimmed part else part) (trimmed-too trims) (those kept (text_lines text))
      (All-take (HasAllowed InTexts) kept.1 (drop kept.0 (text_lines text)) (All-drop (HasAllowed InTexts) kept.0 (text_lines text) (lines-allowed InTexts IsStyle closed text (text-allowed cell)))))
      (allowed-nothing InTexts)
    where
      trimmed-too : (trims : Bool) (part : List ℕ) → HasAllowed InTexts part → HasAllowed InTexts (if trims then trimmed part else part)
      trimmed-too true part is = trimmed-allowed InTexts IsStyle closed part is
      trimmed-too false part is = is

  painted-allowed : (color : Color) → Q color → (line : List ℕ) → HasAllowed Allows line → HasAllowed Allows (painted bytes (Some color) line)
  painted-allowed color is [] here = here
  painted-allowed color is (b ∷ bs) here =
      allowed-append Allows color.prefix ((b ∷ bs) ++ color.suffix) (ends color is).0 (allowed-append Allows (b ∷ bs) color.suffix here (ends color is).1)

  colored-allowed : (cell : Position) (k : ℕ) → HasAllowed Allows (colored.line cell k)
  colored-allowed cell k = by (s.colors cell) (even.own.colors cell)
    where
      line : HasAllowed Allows (bytes.line cell k)
      line = allowed-also InTexts Allows also (bytes.line cell k) (line-of_cell cell k)

      by : (color : Option Color) → IfSome color Q → HasAllowed Allows (painted bytes color (bytes.line cell k))
      by None is = line
      by (Some color) is = painted-allowed color is (bytes.line cell k) line

  glyphs-allowed : (color : Option Color) (cs : List ℕ) → color ≡ None → AllByRecursion BeginsNoSequence cs → HasAllowed Allows (painted colored color (flat_map encode_utf8 cs))
  glyphs-allowed None cs is all = allowed-flat_map Allows BeginsNoSequence encode_utf8 (allowed-character Allows) cs all
  glyphs-allowed (Some color) cs is all = absurd (cc is)

  pub line-allowed : (y : ℕ) → HasAllowed Allows (drawn_line s y)
  line-allowed y =
      subst (HasAllowed Allows) (sym (grid_line-same bytes (table_grid s.look s.rows s.colors (drawn_widths s) (drawn_heights s)) y))
      (line-related BeginsNoSequence (λ color. color ≡ None) (λ a b. HasAllowed Allows a) (allowed-nothing Allows) (λ a c b d first second. allowed-append Allows a c first second)
      colored colored glyphs-allowed colored-allowed BeginsNoSequence-space (table_grid s.look s.rows (λ _. None) (drawn_widths s) (drawn_heights s)) (λ _. refl)
      (shows-also IsGlyph BeginsNoSequence (λ c is. is.begins) s.look even.own.look.shown) even.own.look.uncolored y)
