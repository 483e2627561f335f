-- Of a bare look that trims no line at its ends the picture is that of coloured texts.
use Rattle.std.proofs.Common.{◌≡◌, ℕ, Bool, false, List, [], ◌∷◌, ◌++◌, Option, None, Some, map, get_or, refl, ap, ◌∙◌}
use Rattle.std.specs.List.{AllByRecursion}
use Rattle.ansi_scan.specs.Attributes.{Attributes, plain_attributes}
use Rattle.ansi_scan.specs.Sequences.{Piece}
use Rattle.ansi_str_search.specs.Text.StyledText.{style_after_all}
use Rattle.grid_config.specs.Colors.{Color, no_color}
use Rattle.grid_config_values.specs.declared.position.Position.{Position}
use Rattle.grid_records_measure.specs.Measures.{measure}
use Rattle.papergrid_picture.specs.Colors.ColoredPicture.{colored_picture, in_colors, line_in, opened_by}
use Rattle.papergrid_picture.specs.Blocks.{Grid}
use Rattle.papergrid_picture.specs.Reading.{Reading, grid_items, painted}
use Rattle.papergrid_picture.specs.Shown.{BeginsNoSequence, IsBare, KeepsLineEnds, Styled, WritesNothing, cell_item_lines, character_of, in_plain, styled_texts}
use Rattle.papergrid_picture.specs.Tables.{in_bytes}
use Rattle.papergrid_picture.proofs.Shown.{BeginsNoSequence-space, pieces-nothing}
use Rattle.tabled_steps.specs.States.{State}
use Rattle.tabled_list.specs.Stripping.Printing.{drawn_frame, drawn_heights, drawn_widths}
use Rattle.tables_laws.specs.Shown.ShownTables.{in_styles, shown_grid, shown_picture, styled_lines, trimmed_if}
use Rattle.tables_laws.proofs.ShownLemmas.Runs.{items-related}
use Rattle.tables_laws.proofs.ShownLemmas.Signs.{plainly}

map-itself : (lines : List (List Styled)) → map (trimmed_if false) lines ≡ lines
map-itself [] = refl
map-itself (line ∷ lines) = ap (λ others. line ∷ others) (map-itself lines)

opened-nothing : opened_by no_color ≡ plain_attributes
opened-nothing = ap (λ (ps : List Piece). style_after_all plain_attributes ps) pieces-nothing

in-plain : (cs : List ℕ) → map (λ (x : Styled). (x.0, plain_attributes)) (plainly cs) ≡ plainly cs
in-plain [] = refl
in-plain (c ∷ cs) = ap (λ xs. in_plain c ∷ xs) (in-plain cs)

module _ (s : State) (bare : IsBare s.look) (keeps : KeepsLineEnds s.look) where
  abbrev cells : List (List (List Styled))
  cells = styled_texts s.rows

  abbrev second : Reading Styled
  second = in_colors s.look cells s.rows s.colors

  lines-same : (cell : Position) → styled_lines s cell ≡ cell_item_lines character_of in_plain s.look cells cell
  lines-same cell =
      let lines = cell_item_lines character_of in_plain s.look cells cell in
      ap (λ (trims : Bool). map (trimmed_if trims) lines) (keeps cell) ∙ map-itself lines

  line-same : (cell : Position) (k : ℕ) → (in_styles s).line cell k ≡ second.line cell k
  line-same cell k = ap (λ (lines : List (List Styled)). line_in (s.colors cell) ((in_bytes s.look s.rows).line cell k) (get_or lines k [])) (lines-same cell)

  glyphs-same : (color : Option Color) (cs : List ℕ) → WritesNothing color → AllByRecursion BeginsNoSequence cs → painted (in_styles s) color (plainly cs) ≡ painted second color (plainly cs)
  glyphs-same None cs nothing all = refl
  glyphs-same (Some color) [] nothing all = refl
  glyphs-same (Some color) (c ∷ cs) nothing all =
      ap (λ (style : Attributes). map (λ (x : Styled). (x.0, style)) (plainly (c ∷ cs))) (ap opened_by nothing ∙ opened-nothing) ∙ in-plain (c ∷ cs)

  abbrev with_measures : (Position → List ℕ) → Grid
  with_measures measures = record { frame = drawn_frame s; measures = measures; text_color = λ _. None }

  pub picture-untrimmed : shown_picture s ≡ colored_picture s.look cells s.rows s.colors (drawn_widths s) (drawn_heights s)
  picture-untrimmed =
      items-related BeginsNoSequence WritesNothing (λ (a b : List Styled). a ≡ b) refl
      (λ a c b d first others. ap (λ xs. xs ++ c) first ∙ ap (λ xs. b ++ xs) others)
      (in_styles s) second glyphs-same line-same BeginsNoSequence-space (shown_grid s) (λ _. refl) bare.shown bare.no_colors refl
      ∙ (λ n. grid_items second (with_measures (λ cell. map (λ line. measure (map character_of line)) (lines-same cell n))))
