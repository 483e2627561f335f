-- The settings of a picture change no text.
use Rattle.std.proofs.Common.{ℕ, Bool, true, false, List, [], ◌∷◌, ◌++◌, Option, None, Some, length, slice_index_or}
use Rattle.std.specs.List.{flat_map, range_with_len}
use Rattle.std.proofs.lemmas.List.Elements.{All-append, All-cons, All-nil}
use Rattle.grid_config.specs.Colors.{Color as CellColor}
use Rattle.grid_config_values.specs.declared.alignment.AlignmentHorizontal.{AlignmentHorizontal}
use Rattle.grid_config_values.specs.declared.alignment.AlignmentHorizontal.TheVariants.{Right}
use Rattle.grid_config_values.specs.declared.entity.Entity.TheVariants.{Column}
use Rattle.tabled_list.specs.Lists.{AreSetters}
use Rattle.tabled_list.specs.Settings.{IsSetter}
use Rattle.tabled_list.specs.declared.setting.Setting.{Setting}
use Rattle.tabled_list.specs.declared.setting.Setting.TheVariants.{AlignHorizontal, Borders, Color, LineAlignment, TrimHorizontal}
use Rattle.basinmug_columns.specs.Names.{column_number}
use Rattle.program_options.specs.declared.basinmug.ColumnName.{ColumnName}
use Rattle.program_options.specs.declared.basinmug.LineStyle.{LineStyle}
use Rattle.basinmug_run.specs.Picture.Fitting.{is_narrowed, trimmed_if, trims}
use Rattle.basinmug_run.specs.Picture.Settings.{aligned_at, alignments, colored_at, colors, glyphs_of, numbers_right, right_if, settings_of}

none : AreSetters []
none = All-nil IsSetter

each : {X : Type 0} (f : X → List Setting) → ((x : X) → AreSetters (f x)) → (xs : List X) → AreSetters (flat_map f xs)
each f are [] = none
each f are (x ∷ xs) = All-append IsSetter (f x) (flat_map f xs) (are x) (each f are xs)

right : (is_numeric : Bool) (column : ℕ) → AreSetters (right_if is_numeric column)
right true column = All-cons IsSetter (AlignHorizontal (Column column) Right) [] tt none
right false column = none

aligned : (number : Option ℕ) (value : AlignmentHorizontal) → AreSetters (aligned_at number value)
aligned None value = none
aligned (Some number) value = All-cons IsSetter (AlignHorizontal (Column number) value) [] tt none

colored : (number : Option ℕ) (value : CellColor) → AreSetters (colored_at number value)
colored None value = none
colored (Some number) value = All-cons IsSetter (Color (Column number) value) [] tt none

trimmed : (is_wrapped : Bool) (column : ℕ) → AreSetters (trimmed_if is_wrapped column)
trimmed true column = All-cons IsSetter (TrimHorizontal (Column column) true) (LineAlignment (Column column) true ∷ []) tt (All-cons IsSetter (LineAlignment (Column column) true) [] tt none)
trimmed false column = none

pub trims_are_setters : (truncate : Bool) (widths rooms : List ℕ) → AreSetters (trims truncate widths rooms)
trims_are_setters true widths rooms = none
trims_are_setters false widths rooms =
    each (λ (column : ℕ). trimmed_if (is_narrowed widths rooms column) column) (λ column. trimmed (is_narrowed widths rooms column) column) (range_with_len 0 (length widths))

pub settings_are_setters : (line_style : LineStyle) (header : List (List ℕ)) (numeric : List Bool) (first : List (ColumnName × AlignmentHorizontal)) (last : List (ColumnName × CellColor)) → AreSetters (settings_of line_style header numeric first last)
settings_are_setters line_style header numeric first last =
    let number = column_number header in
    let glyphs = Borders (glyphs_of line_style) ∷ [] in
    let numbers = numbers_right numeric in
    All-append IsSetter ((glyphs ++ numbers) ++ alignments header first) (colors header last)
    (All-append IsSetter (glyphs ++ numbers) (alignments header first)
    (All-append IsSetter glyphs numbers (All-cons IsSetter (Borders (glyphs_of line_style)) [] tt none)
    (each (λ (column : ℕ). right_if (slice_index_or numeric column false) column) (λ column. right (slice_index_or numeric column false) column) (range_with_len 0 (length numeric))))
    (each (λ (pair : ColumnName × AlignmentHorizontal). aligned_at (number pair.0) pair.1) (λ pair. aligned (number pair.0) pair.1) first))
    (each (λ (pair : ColumnName × CellColor). colored_at (number pair.0) pair.1) (λ pair. colored (number pair.0) pair.1) last)
