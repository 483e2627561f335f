-- The table of records is the one that their widths and settings make.
use Rattle.std.proofs.Common.{◌≡◌, ◌<◌, ◌≤◌, nat_le, ℕ, Bool, true, false, List, [], ◌∷◌, Option, None, Some, Ok, refl, ap, sym, subst, ◌∙◌, arith}
use Rattle.std.specs.Prelude.{MatchBool, MatchOption}
use Rattle.std.specs.List.{AllByRecursion}
use Rattle.std.proofs.lemmas.Bool.Decides.{nat_tests}
use Rattle.grid_config.specs.Looks.{Look}
use Rattle.grid_config_values.specs.declared.entity.Entity.TheVariants.{Global as EveryCell}
use Rattle.papergrid_picture.specs.Colors.ClosingColors.{IsClosing}
use Rattle.tabled.specs.Printing.{drawn_widths}
use Rattle.tabled.specs.Tables.{new_state}
use Rattle.tabled.specs.Totals.{drawn_width}
use Rattle.tabled_list.specs.Lists.{LeadsThrough}
use Rattle.tabled_list.specs.Settings.{LookChanges, setting_step}
use Rattle.tabled_list.specs.declared.setting.Setting.{Setting}
use Rattle.tabled_list.specs.declared.setting.Setting.TheVariants.{AlignHorizontal, Borders, Color, LineAlignment, TrimHorizontal}
use Rattle.tabled_size.specs.Dimension.Stored.{Stored, none_stored}
use Rattle.tabled_steps.specs.Changes.{changed_rows}
use Rattle.tabled_steps.specs.Looks.{covering, with_alignment_horizontal, with_borders, with_line_alignment, with_trim_horizontal}
use Rattle.tabled_steps.specs.States.{State, column_count}
use Rattle.basinmug_columns.specs.declared.rows.RowsShown.{RowsShown}
use Rattle.basinmug_run.specs.declared.options.Options.{Options}
use Rattle.basinmug_run.specs.Picture.Fitting.{fitted, trims, with_fitted_texts}
use Rattle.basinmug_run.specs.Picture.Narrowing.{AreAsked, FitsTexts}
use Rattle.basinmug_run.specs.Picture.Pictures.{IsTable, asked_settings, narrowed_to, needs_in, numeric_of}
use Rattle.basinmug_run.specs.Picture.Rows.{header_of}
use Rattle.basinmug_laws.specs.Shown.ClosingOptions.{HaveClosingColors}
use Rattle.basinmug_laws.specs.Shown.Records.{AreRooms, AreRoomsIn, Rows, cells, records_shown, table_in, wide_columns, wide_table, with_setting, with_settings}
use Rattle.basinmug_laws.proofs.ShownLemmas.OwnLooks.{IsOwn, settings-own, settled-state, style-glyphs, trims-own}
use Rattle.basinmug_laws.proofs.ShownLemmas.Tables.{IsGlyph, line-glyphs}

-- ---- settings

module _ (P : ℕ → Type 0) where
  abbrev AreOwn : List Setting → Type 0
  AreOwn settings = AllByRecursion (IsOwn P IsClosing) settings

  -- a table that keeps no sizes
  abbrev KeepsNone : State → Type 0
  KeepsNone s = s.sizes ≡ none_stored

  cleared : (s : State) → KeepsNone s → record s { sizes = none_stored } ≡ s
  cleared s none = ap (λ (sizes : Stored). record s { sizes = sizes }) (sym none)

  look-applied : (s m : State) → KeepsNone s → (change : Look → Look) → LookChanges change s (Ok m) → m ≡ record s { look = change s.look }
  look-applied s m none change leads =
      let next : State = record s { look = change s.look } in
      sym (settled-state P s m next leads.0 leads.1 leads.2) ∙ cleared next none

  step-applied : (setting : Setting) → IsOwn P IsClosing setting → (s m : State) → KeepsNone s → setting_step setting s (Ok m) → m ≡ with_setting s setting
  step-applied (AlignHorizontal at value) is s m none leads = look-applied s m none (with_alignment_horizontal at value) leads
  step-applied (LineAlignment at on) is s m none leads = look-applied s m none (with_line_alignment at on) leads
  step-applied (TrimHorizontal at on) is s m none leads = look-applied s m none (with_trim_horizontal at on) leads
  step-applied (Borders value) is s m none leads = look-applied s m none (with_borders value) leads
  step-applied (Color at color) is s m none leads =
      let next : State = record s { colors = covering at (Some color) s.colors } in
      sym (settled-state P s m next leads.0 leads.1 leads.2) ∙ cleared next none
  step-applied setting is s m none leads = absurd is

  sizes-stay : (setting : Setting) → IsOwn P IsClosing setting → (s : State) → (with_setting s setting).sizes ≡ s.sizes
  sizes-stay (AlignHorizontal at value) is s = refl
  sizes-stay (LineAlignment at on) is s = refl
  sizes-stay (TrimHorizontal at on) is s = refl
  sizes-stay (Borders value) is s = refl
  sizes-stay (Color at color) is s = refl
  sizes-stay setting is s = absurd is

  rows-stay : (setting : Setting) → IsOwn P IsClosing setting → (s : State) → (with_setting s setting).rows ≡ s.rows
  rows-stay (AlignHorizontal at value) is s = refl
  rows-stay (LineAlignment at on) is s = refl
  rows-stay (TrimHorizontal at on) is s = refl
  rows-stay (Borders value) is s = refl
  rows-stay (Color at color) is s = refl
  rows-stay setting is s = absurd is

  all-sizes : (settings : List Setting) → AreOwn settings → (s : State) → (with_settings settings s).sizes ≡ s.sizes
  all-sizes [] all s = refl
  all-sizes (setting ∷ settings) all s = all-sizes settings all.1 (with_setting s setting) ∙ sizes-stay setting all.0 s

  all-rows : (settings : List Setting) → AreOwn settings → (s : State) → (with_settings settings s).rows ≡ s.rows
  all-rows [] all s = refl
  all-rows (setting ∷ settings) all s = all-rows settings all.1 (with_setting s setting) ∙ rows-stay setting all.0 s

  run-applied : (settings : List Setting) → AreOwn settings → (s last : State) → KeepsNone s → LeadsThrough settings s last → last ≡ with_settings settings s
  run-applied [] all s last none leads = sym leads
  run-applied (setting ∷ settings) all s last none leads =
      let next = leads.0 in
      let here : next ≡ with_setting s setting = step-applied setting all.0 s next none leads.1 in
      let kept : KeepsNone next = ap (λ (t : State). t.sizes) here ∙ sizes-stay setting all.0 s ∙ none in
      run-applied settings all.1 next last kept leads.2 ∙ ap (with_settings settings) here

-- ---- the table of records

module _ (options : Options) (shown : RowsShown) (rows : Rows) (closing : HaveClosingColors options) where
  abbrev wide : State
  wide = wide_table options shown rows

  asked-own : AreOwn IsGlyph (asked_settings options rows)
  asked-own =
      settings-own IsGlyph IsClosing options.line_style (header_of options.header rows) (numeric_of options.header rows) options.alignments.items options.colors.items (style-glyphs IsGlyph line-glyphs options.line_style) closing

  pub wide-rows : wide.rows ≡ cells options shown rows
  wide-rows = all-rows IsGlyph (asked_settings options rows) asked-own (new_state (cells options shown rows))

  -- in narrowed widths, made by the texts that are fitted to them
  abbrev middle : List ℕ → State
  middle rooms = with_fitted_texts options.truncate (wide_columns options shown rows) rooms wide

  middle-is : (rooms : List ℕ) → middle rooms ≡ record wide { rows = records_shown options shown rows (Some rooms); sizes = none_stored }
  middle-is rooms =
      ap (λ (found : Rows). record wide { rows = changed_rows (λ place. fitted options.truncate (wide_columns options shown rows) rooms place.col) EveryCell (column_count found) found; sizes = none_stored }) wide-rows

  -- its cells are the records as they are shown
  pub table-cells : (rooms : Option (List ℕ)) → (table_in options shown rows rooms).rows ≡ records_shown options shown rows rooms
  table-cells None = wide-rows
  table-cells (Some rooms) =
      all-rows IsGlyph (trims options.truncate (wide_columns options shown rows) rooms) (trims-own IsGlyph IsClosing options.truncate (wide_columns options shown rows) rooms)
      (record wide { rows = records_shown options shown rows (Some rooms); sizes = none_stored })

  -- a table that is made so has widths that its columns may have
  abbrev Rooms : Option ℕ → State → Type 0
  Rooms asked s = (rooms : Option (List ℕ)) × AreRoomsIn options shown rows asked rooms × (s ≡ table_in options shown rows rooms)

  narrowed : (width : ℕ) (s : State) → FitsTexts options.truncate options.priority (needs_in options.header rows) width wide s → Rooms (Some width) s
  narrowed width s fits = by (nat_le (drawn_width wide) width) refl fits
    where
      by : (b : Bool) → nat_le (drawn_width wide) width ≡ b → MatchBool b (s ≡ wide)
          ((rooms : List ℕ) × AreAsked options.truncate options.priority (needs_in options.header rows) width wide rooms
          × LeadsThrough (trims options.truncate (drawn_widths wide) rooms) (middle rooms) s) → Rooms (Some width) s
      by true e same = let less : drawn_width wide ≤ width = grind (arith, nat_tests, e) in (None, less, same)
      by false e (rooms, asked, leads) =
          let wider : width < drawn_width wide = grind (arith, nat_tests, e) in
          let settings = trims options.truncate (wide_columns options shown rows) rooms in
          let last : s ≡ with_settings settings (middle rooms) = run-applied IsGlyph settings (trims-own IsGlyph IsClosing options.truncate (wide_columns options shown rows) rooms) (middle rooms) s refl leads in
          (Some rooms, (wider, asked), last ∙ ap (with_settings settings) (middle-is rooms))

  pub table-made : (s : State) → IsTable options shown rows s → (rooms : Option (List ℕ)) × AreRooms options shown rows rooms × (s ≡ table_in options shown rows rooms)
  table-made s (after, leads, made) =
      by (narrowed_to options) (subst (λ (t : State). MatchOption (narrowed_to options) (s ≡ t) (λ width. FitsTexts options.truncate options.priority (needs_in options.header rows) width t s)) is_wide made)
    where
      is_wide : after ≡ wide
      is_wide = run-applied IsGlyph (asked_settings options rows) asked-own (new_state (cells options shown rows)) after refl leads

      by : (asked : Option ℕ) → MatchOption asked (s ≡ wide) (λ width. FitsTexts options.truncate options.priority (needs_in options.header rows) width wide s) → Rooms asked s
      by None same = (None, tt, same)
      by (Some width) fits = narrowed width s fits
