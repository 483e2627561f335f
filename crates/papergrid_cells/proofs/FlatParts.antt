-- A column of a row, by what rows have in common.
use Rattle.std.proofs.Common.{◌≡◌, ℕ, ◌-◌, ◌<◌, true, false, cond, List, [], ◌++◌, refl, ap, sym, ◌∙◌, arith, append_assoc, append-nil, string_bytes}
use Rattle.std.specs.Prelude.{◌==◌, slice_index, unwrap_or}
use Rattle.std.specs.Option.{option_map}
use Rattle.std.proofs.lemmas.Bool.Decides.{nat_tests}
use Rattle.grid_config_values.specs.declared.position.Position.{Position}
use Rattle.grid_config_values.specs.Glyphs.{First, Between, Last, boundary_kind, has_column_boundary, in_row}
use Rattle.grid_config.specs.Colors.{color_of}
use Rattle.grid_config.specs.Looks.{Look, look_of}
use Rattle.grid_config.specs.Settings.{Settings}
use Rattle.papergrid_picture.specs.Blocks.{free_left}
use Rattle.papergrid_picture.specs.Picture.{blank}
use Rattle.papergrid_cells.specs.BlockLines.{alone_bytes, text_of}
use Rattle.papergrid_cells.specs.Boundaries.{upright_bytes}
use Rattle.papergrid_cells.specs.Flat.{AreEven, AreFlatRows, Standing, first_cell, head_bytes, left_padding, line_in_column, right_padding, spaced_text, standing, standing_of}
use Rattle.papergrid_cells.specs.Painting.{colored, fill_bytes}
use Rattle.papergrid_cells.specs.Shown.{counted_columns, measures_of}
use Rattle.papergrid_cells.specs.declared.block.BlockLine.TheVariants.{Text}
use Rattle.papergrid_cells.specs.declared.block.OpenCell.{OpenCell}
use Rattle.papergrid_cells.specs.declared.flat.FlatRows.{FlatRows}

-- five texts that follow one another, the three in the middle as one
pub five : (a b c d e : List ℕ) {v w x y z : List ℕ} → v ≡ a → w ≡ b → x ≡ c → y ≡ d → z ≡ e → v ++ (w ++ (x ++ (y ++ (z ++ [])))) ≡ a ++ ((b ++ (c ++ d)) ++ e)
five a b c d e {v} {w} {x} {y} {z} first second third fourth fifth =
    ap (λ l. l ++ (w ++ (x ++ (y ++ (z ++ []))))) first
    ∙ (ap (λ l. a ++ (l ++ (x ++ (y ++ (z ++ []))))) second
    ∙ (ap (λ l. a ++ (b ++ (l ++ (y ++ (z ++ []))))) third
    ∙ (ap (λ l. a ++ (b ++ (c ++ (l ++ (z ++ []))))) fourth
    ∙ (ap (λ l. a ++ (b ++ (c ++ (d ++ (l ++ []))))) fifth
    ∙ (ap (λ l. a ++ (b ++ (c ++ (d ++ l)))) (append-nil e)
    ∙ regroup)))))
  where
    regroup : a ++ (b ++ (c ++ (d ++ e))) ≡ a ++ ((b ++ (c ++ d)) ++ e)
    regroup = simp append_assoc

-- five texts that are appended, the three in the middle as one
pub appended : (out a b c d e : List ℕ) {one two three four : List ℕ} → one ≡ out ++ a → two ≡ one ++ b → three ≡ two ++ c → four ≡ three ++ (d ++ e)
    → four ≡ out ++ (a ++ ((b ++ (c ++ d)) ++ e))
appended out a b c d e first second third fourth =
    fourth ∙ (ap (λ l. l ++ (d ++ e)) (third ∙ ap (λ l. l ++ c) (second ∙ ap (λ l. l ++ b) first)) ∙ regroup)
  where
    regroup : (((out ++ a) ++ b) ++ c) ++ (d ++ e) ≡ out ++ (a ++ ((b ++ (c ++ d)) ++ e))
    regroup = simp append_assoc

-- boundaries between two columns or rows are of one kind
pub between-kind : (i n : ℕ) → 0 < i → i < n → boundary_kind i n ≡ Between
between-kind i n some below =
    let first : (i == 0) ≡ false = grind (arith, nat_tests, some) in
    let last : (i == n) ≡ false = grind (arith, nat_tests, below) in
    ap (λ b. cond b First (cond (i == n) Last Between)) first ∙ ap (λ b. cond b Last Between) last

module _ (settings : Settings) (even : AreEven settings) where
  abbrev own_look : Look
  own_look = look_of settings

  -- how a cell's text is placed, by what rows have in common and the cell's alignment
  pub standing-own : (columns : ℕ) (rows : FlatRows) (pos : Position) → AreFlatRows own_look columns rows
      → standing_of rows (own_look.alignment_horizontal pos) ≡ standing own_look pos
  standing-own columns rows pos are =
      ap (λ (s : Standing). record {
        left = s.left;
        right = s.right;
        fill = s.fill;
        fill_color = s.fill_color;
        alignment = own_look.alignment_horizontal pos;
      }) are.standing
      ∙ (λ t. record {
        left = (even.uniform.padding first_cell pos t).left.size;
        right = (even.uniform.padding first_cell pos t).right.size;
        fill = even.uniform.justification first_cell pos t;
        fill_color = even.uniform.justification_color first_cell pos t;
        alignment = own_look.alignment_horizontal pos;
      })

  pub left-same : (pos : Position) → left_padding own_look pos ≡ left_padding own_look first_cell
  left-same pos = λ t. colored (even.uniform.padding_color pos first_cell t).left (fill_bytes (even.uniform.padding pos first_cell t).left.fill (even.uniform.padding pos first_cell t).left.size)

  pub right-same : (pos : Position) → right_padding own_look pos ≡ right_padding own_look first_cell
  right-same pos = λ t. colored (even.uniform.padding_color pos first_cell t).right (fill_bytes (even.uniform.padding pos first_cell t).right.fill (even.uniform.padding pos first_cell t).right.size)

  -- the boundary before a column, and the padding after it
  head-is : (columns : ℕ) (rows : FlatRows) (j : ℕ) → AreFlatRows own_look columns rows → j < columns
      → head_bytes rows j ≡ upright_bytes own_look j columns ++ left_padding own_look first_cell
  head-is columns rows j are below = elim (j == 0) as (λ b. (j == 0) ≡ b → cond b (string_bytes rows.first_head) (string_bytes rows.head) ≡ upright_bytes own_look j columns ++ left_padding own_look first_cell) [
    | true ↦ λ first.
        let none : 0 ≡ j = grind (arith, nat_tests, first) in
        are.first_head ∙ ap (λ n. upright_bytes own_look n columns ++ left_padding own_look first_cell) none
    | false ↦ λ other.
        let some : 0 < j = grind (arith, nat_tests, other) in
        let kinds : boundary_kind 1 columns ≡ boundary_kind j columns = between-kind 1 columns (omega arith) (omega (arith, some, below)) ∙ sym (between-kind j columns some below) in
        are.head ∙ ap (λ kind. (cond (has_column_boundary own_look.borders kind) (colored (in_row own_look.borders_color kind) (fill_bytes (unwrap_or (in_row own_look.borders kind) blank) 1)) []) ++ left_padding own_look first_cell) kinds
  ] refl

  -- the line of a text between its paddings
  pub text-line-is : (cell : OpenCell) (k : ℕ) → alone_bytes own_look cell (Text k) ≡ left_padding own_look cell.pos
      ++ (line_in_column (standing own_look cell.pos) cell.width (slice_index (measures_of cell.lines) k) (counted_columns (own_look.line_alignment cell.pos) (measures_of cell.lines) k) (option_map color_of cell.color) (text_of cell k) ++ right_padding own_look cell.pos)
  text-line-is cell k =
      let look = own_look in
      let pos = cell.pos in
      let room = cell.width - (look.padding pos).left.size - (look.padding pos).right.size in
      let measure = slice_index (measures_of cell.lines) k in
      let free_before_line = free_left (look.alignment_horizontal pos) (room - counted_columns (look.line_alignment pos) (measures_of cell.lines) k) in
      let free : ℕ → List ℕ = λ n. colored (look.justification_color pos) (fill_bytes (look.justification pos) n) in
      five (left_padding look pos) (free free_before_line) (colored (option_map color_of cell.color) (text_of cell k)) (free (room - free_before_line - measure)) (right_padding look pos) refl refl refl refl refl

  -- both are the boundary before a cell and its line
  pub part-is : (columns : ℕ) (rows : FlatRows) (cell : OpenCell) (k : ℕ) → AreFlatRows own_look columns rows → cell.pos.col < columns
      → head_bytes rows cell.pos.col
      ++ (line_in_column (standing_of rows (own_look.alignment_horizontal cell.pos)) cell.width (slice_index (measures_of cell.lines) k) (counted_columns (own_look.line_alignment cell.pos) (measures_of cell.lines) k) (option_map color_of cell.color) (text_of cell k) ++ spaced_text rows.tail)
      ≡ upright_bytes own_look cell.pos.col columns ++ alone_bytes own_look cell (Text k)
  part-is columns rows cell k are below =
      let U = upright_bytes own_look cell.pos.col columns in
      let L = left_padding own_look first_cell in
      let R = right_padding own_look first_cell in
      let P : Standing → List ℕ = λ s. line_in_column s cell.width (slice_index (measures_of cell.lines) k) (counted_columns (own_look.line_alignment cell.pos) (measures_of cell.lines) k) (option_map color_of cell.color) (text_of cell k) in
      ap (λ l. l ++ (P (standing_of rows (own_look.alignment_horizontal cell.pos)) ++ spaced_text rows.tail)) (head-is columns rows cell.pos.col are below)
      ∙ (ap (λ s. (U ++ L) ++ (P s ++ spaced_text rows.tail)) (standing-own columns rows cell.pos are)
      ∙ (ap (λ l. (U ++ L) ++ (P (standing own_look cell.pos) ++ l)) are.tail
      ∙ (append_assoc U L (P (standing own_look cell.pos) ++ R)
      ∙ (ap (λ l. U ++ (l ++ (P (standing own_look cell.pos) ++ R))) (sym (left-same cell.pos))
      ∙ (ap (λ l. U ++ (left_padding own_look cell.pos ++ (P (standing own_look cell.pos) ++ l))) (sym (right-same cell.pos))
      ∙ ap (λ l. U ++ l) (sym (text-line-is cell k)))))))
