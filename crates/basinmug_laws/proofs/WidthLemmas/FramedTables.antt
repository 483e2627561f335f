-- Tables of records have the paddings, the margin and the single cells of a new table, and the lines of their style; and they keep no sizes.
use Rattle.std.proofs.Common.{◌≡◌, ℕ, Bool, true, false, List, [], ◌∷◌, ◌++◌, Option, None, Some, Ok, refl, subst, length}
use Rattle.std.specs.Prelude.{slice_index_or}
use Rattle.std.specs.List.{AllByRecursion, flat_map, range_with_len}
use Rattle.grid_config.specs.Colors.{Color as CellColor}
use Rattle.grid_config_values.specs.Spans.Spans.{single}
use Rattle.grid_config_values.specs.declared.alignment.AlignmentHorizontal.{AlignmentHorizontal}
use Rattle.grid_config_values.specs.declared.borders.Borders.{Borders as Glyphs}
use Rattle.papergrid_picture.proofs.Related.{All-append}
use Rattle.tabled.specs.Tables.{new_look, new_state}
use Rattle.tabled_list.specs.Lists.{LeadsThrough}
use Rattle.tabled_list.specs.Settings.{setting_step}
use Rattle.tabled_list.specs.declared.setting.Setting.{Setting}
use Rattle.tabled_list.specs.declared.setting.Setting.TheVariants.{AlignHorizontal, Color, LineAlignment, TrimHorizontal}
use Rattle.tabled_size.specs.Dimension.Stored.{none_stored}
use Rattle.tabled_steps.specs.Looks.{covering, with_alignment_horizontal, with_borders, with_line_alignment, with_trim_horizontal}
use Rattle.tabled_steps.specs.States.{State}
use Rattle.basinmug_columns.specs.Names.{column_number}
use Rattle.program_options.specs.declared.basinmug.ColumnName.{ColumnName}
use Rattle.program_options.specs.declared.basinmug.LineStyle.{LineStyle}
use Rattle.basinmug_run.specs.Picture.Fitting.{is_narrowed, trimmed_if, trims}
use Rattle.basinmug_run.specs.Picture.Settings.{aligned_at, alignments, colored_at, colors, glyphs_of, numbers_right, right_if, settings_of}
use Rattle.basinmug_laws.proofs.ShownLemmas.OwnLooks.{settled-state}

-- a table of these rows, in these lines
pub record IsFramed (glyphs : Glyphs ℕ) (rows : List (List (List ℕ))) (s : State) : Type 0 where
  pub borders : s.look.borders ≡ glyphs
  pub margin : s.look.margin ≡ new_look.margin
  pub padding : s.look.padding ≡ new_look.padding
  pub extent : s.look.extent ≡ (λ _. single)
  pub sizes : s.sizes ≡ none_stored
  pub rows_are : s.rows ≡ rows

-- ---- settings that leave this

abbrev KeepsFrame : Setting → Type 0
KeepsFrame (AlignHorizontal at value) = Unit {0}
KeepsFrame (LineAlignment at on) = Unit {0}
KeepsFrame (TrimHorizontal at on) = Unit {0}
KeepsFrame (Color at color) = Unit {0}
KeepsFrame _ = ⊥

abbrev Anything : ℕ → Type 0
Anything c = Unit {0}

module _ (glyphs : Glyphs ℕ) (rows : List (List (List ℕ))) where
  step-framed : (setting : Setting) → KeepsFrame setting → (s m : State) → IsFramed glyphs rows s → setting_step setting s (Ok m) → IsFramed glyphs rows m
  step-framed (AlignHorizontal at value) is s m framed leads =
      let next : State = record s { look = with_alignment_horizontal at value s.look } in
      subst (IsFramed glyphs rows) (settled-state Anything s m next leads.0 leads.1 leads.2)
      (record { borders = framed.borders; margin = framed.margin; padding = framed.padding; extent = framed.extent; sizes = refl; rows_are = framed.rows_are })
  step-framed (LineAlignment at on) is s m framed leads =
      let next : State = record s { look = with_line_alignment at on s.look } in
      subst (IsFramed glyphs rows) (settled-state Anything s m next leads.0 leads.1 leads.2)
      (record { borders = framed.borders; margin = framed.margin; padding = framed.padding; extent = framed.extent; sizes = refl; rows_are = framed.rows_are })
  step-framed (TrimHorizontal at on) is s m framed leads =
      let next : State = record s { look = with_trim_horizontal at on s.look } in
      subst (IsFramed glyphs rows) (settled-state Anything s m next leads.0 leads.1 leads.2)
      (record { borders = framed.borders; margin = framed.margin; padding = framed.padding; extent = framed.extent; sizes = refl; rows_are = framed.rows_are })
  step-framed (Color at color) is s m framed leads =
      let next : State = record s { colors = covering at (Some color) s.colors } in
      subst (IsFramed glyphs rows) (settled-state Anything s m next leads.0 leads.1 leads.2)
      (record { borders = framed.borders; margin = framed.margin; padding = framed.padding; extent = framed.extent; sizes = refl; rows_are = framed.rows_are })
  step-framed setting is s m framed leads = absurd is

  run-framed : (settings : List Setting) → AllByRecursion KeepsFrame settings → (s last : State) → IsFramed glyphs rows s → LeadsThrough settings s last → IsFramed glyphs rows last
  run-framed [] all s last framed leads = subst (IsFramed glyphs rows) leads framed
  run-framed (setting ∷ settings) all s last framed leads = run-framed settings all.1 leads.0 last (step-framed setting all.0 s leads.0 framed leads.1) leads.2

-- ---- the settings of records

each-keeps : {A : Type 0} (f : A → List Setting) → ((x : A) → AllByRecursion KeepsFrame (f x)) → (xs : List A) → AllByRecursion KeepsFrame (flat_map f xs)
each-keeps f each [] = tt
each-keeps f each (x ∷ xs) = All-append KeepsFrame (f x) (flat_map f xs) (each x) (each-keeps f each xs)

right-keeps : (is_numeric : Bool) (column : ℕ) → AllByRecursion KeepsFrame (right_if is_numeric column)
right-keeps true column = (tt, tt)
right-keeps false column = tt

aligned-keeps : (number : Option ℕ) (value : AlignmentHorizontal) → AllByRecursion KeepsFrame (aligned_at number value)
aligned-keeps None value = tt
aligned-keeps (Some number) value = (tt, tt)

colored-keeps : (number : Option ℕ) (color : CellColor) → AllByRecursion KeepsFrame (colored_at number color)
colored-keeps None color = tt
colored-keeps (Some number) color = (tt, tt)

trimmed-keeps : (is_wrapped : Bool) (column : ℕ) → AllByRecursion KeepsFrame (trimmed_if is_wrapped column)
trimmed-keeps true column = (tt, (tt, tt))
trimmed-keeps false column = tt

trims-keep : (truncate : Bool) (widths rooms : List ℕ) → AllByRecursion KeepsFrame (trims truncate widths rooms)
trims-keep true widths rooms = tt
trims-keep false widths rooms =
    each-keeps (λ column. trimmed_if (is_narrowed widths rooms column) column) (λ column. trimmed-keeps (is_narrowed widths rooms column) column) (range_with_len 0 (length widths))

-- after the trims of wrapped texts
pub trimmed-framed : (glyphs : Glyphs ℕ) (rows : List (List (List ℕ))) (truncate : Bool) (widths rooms : List ℕ) (s last : State) → IsFramed glyphs rows s → LeadsThrough (trims truncate widths rooms) s last → IsFramed glyphs rows last
trimmed-framed glyphs rows truncate widths rooms s last framed leads = run-framed glyphs rows (trims truncate widths rooms) (trims-keep truncate widths rooms) s last framed leads

-- a new table after its settings
pub settings-framed : (line_style : LineStyle) (header : List (List ℕ)) (numeric : List Bool) (aligned : List (ColumnName × AlignmentHorizontal)) (colored : List (ColumnName × CellColor)) (rows : List (List (List ℕ))) (last : State)
    → LeadsThrough (settings_of line_style header numeric aligned colored) (new_state rows) last → IsFramed (glyphs_of line_style) rows last
settings-framed line_style header numeric aligned colored rows last leads =
    let glyphs = glyphs_of line_style in
    let lined : State = record (new_state rows) { look = with_borders glyphs new_look } in
    let first : IsFramed glyphs rows leads.0 =
    subst (IsFramed glyphs rows) (settled-state Anything (new_state rows) leads.0 lined leads.1.0 leads.1.1 leads.1.2)
    (record { borders = refl; margin = refl; padding = refl; extent = refl; sizes = refl; rows_are = refl }) in
    let numbers = numbers_right numeric in
    let places = alignments header aligned in
    run-framed glyphs rows ((numbers ++ places) ++ colors header colored)
    (All-append KeepsFrame (numbers ++ places) (colors header colored)
    (All-append KeepsFrame numbers places
    (each-keeps (λ column. right_if (slice_index_or numeric column false) column) (λ column. right-keeps (slice_index_or numeric column false) column) (range_with_len 0 (length numeric)))
    (each-keeps (λ (pair : ColumnName × AlignmentHorizontal). aligned_at (column_number header pair.0) pair.1) (λ pair. aligned-keeps (column_number header pair.0) pair.1) aligned))
    (each-keeps (λ (pair : ColumnName × CellColor). colored_at (column_number header pair.0) pair.1) (λ pair. colored-keeps (column_number header pair.0) pair.1) colored))
    leads.0 last first leads.2
