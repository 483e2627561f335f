-- The settings of a table before it is made narrower: its lines, and what is where, in which colours.
use Rattle.std.specs.Prelude.{ℕ, Bool, false, List, [], ◌∷◌, ◌++◌, Option, None, Some, length, slice_index_or, if◌then◌else◌}
use Rattle.std.specs.List.{flat_map, range_with_len}
use Rattle.grid_config.specs.Colors.{Color as CellColor}
use Rattle.grid_config_values.specs.Glyphs.{no_borders}
use Rattle.grid_config_values.specs.declared.alignment.AlignmentHorizontal.{AlignmentHorizontal}
use Rattle.grid_config_values.specs.declared.alignment.AlignmentHorizontal.TheVariants.{Right}
use Rattle.grid_config_values.specs.declared.borders.Borders.{Borders as Glyphs}
use Rattle.grid_config_values.specs.declared.entity.Entity.TheVariants.{Column}
use Rattle.tabled_glyphs.specs.Glyphs.{ascii, extended, modern}
use Rattle.tabled_list.specs.declared.setting.Setting.{Setting}
use Rattle.tabled_list.specs.declared.setting.Setting.TheVariants.{AlignHorizontal, Borders, Color}
use Rattle.basinmug_columns.specs.Names.{column_number}
use Rattle.program_options.specs.declared.basinmug.ColumnName.{ColumnName}
use Rattle.program_options.specs.declared.basinmug.LineStyle.{LineStyle}
use Rattle.program_options.specs.declared.basinmug.LineStyle.TheVariants.{Ascii, Modern, Rounded, Extended, Markdown, Empty}

-- ---- lines

-- light lines with round corners (the Unicode block Box Drawing, U+256D to U+2570)
abbrev pub rounded : Glyphs ℕ
rounded = record modern { top_left = Some 0x256d; top_right = Some 0x256e; bottom_left = Some 0x2570; bottom_right = Some 0x256f }

-- the bars of a table of Markdown, whose delimiter row below the header is none of these lines
abbrev pub markdown : Glyphs ℕ
markdown = record no_borders {
  vertical = Some 0x7c;
  left = Some 0x7c;
  right = Some 0x7c;
}

abbrev pub glyphs_of : LineStyle → Glyphs ℕ
glyphs_of Ascii = ascii
glyphs_of Modern = modern
glyphs_of Rounded = rounded
glyphs_of Extended = extended
glyphs_of Markdown = markdown
glyphs_of Empty = no_borders

-- ---- cells

abbrev pub right_if : Bool → ℕ → List Setting
right_if is_numeric column = if is_numeric then AlignHorizontal (Column column) Right ∷ [] else []

-- the columns of numbers are at the right
abbrev pub numbers_right : List Bool → List Setting
numbers_right numeric = flat_map (λ column. right_if (slice_index_or numeric column false) column) (range_with_len 0 (length numeric))

abbrev pub aligned_at : Option ℕ → AlignmentHorizontal → List Setting
aligned_at None value = []
aligned_at (Some number) value = AlignHorizontal (Column number) value ∷ []

-- where the texts of the named columns are, whose names denote these numbers
abbrev pub aligned_by : (ColumnName → Option ℕ) → List (ColumnName × AlignmentHorizontal) → List Setting
aligned_by number_of pairs = flat_map (λ pair. aligned_at (number_of pair.0) pair.1) pairs

abbrev pub alignments : List (List ℕ) → List (ColumnName × AlignmentHorizontal) → List Setting
alignments header pairs = aligned_by (column_number header) pairs

abbrev pub colored_at : Option ℕ → CellColor → List Setting
colored_at None value = []
colored_at (Some number) value = Color (Column number) value ∷ []

-- the colours of the named columns, whose names denote these numbers
abbrev pub colored_by : (ColumnName → Option ℕ) → List (ColumnName × CellColor) → List Setting
colored_by number_of pairs = flat_map (λ pair. colored_at (number_of pair.0) pair.1) pairs

abbrev pub colors : List (List ℕ) → List (ColumnName × CellColor) → List Setting
colors header pairs = colored_by (column_number header) pairs

-- all of these, one after the other, of which the last decides
abbrev pub settings_of : LineStyle → List (List ℕ) → List Bool → List (ColumnName × AlignmentHorizontal) → List (ColumnName × CellColor) → List Setting
settings_of line_style header numeric aligned colored = (Borders (glyphs_of line_style) ∷ []) ++ numbers_right numeric ++ alignments header aligned ++ colors header colored
