-- What settings of a table of records make of a new table's look and of the colours of its cells.
use Rattle.std.proofs.Common.{◌≡◌, ℕ, Bool, true, false, List, [], ◌∷◌, ◌++◌, Option, None, Some, Ok, Err, ap, subst, ◌∙◌, arith, length, ◌≤◌, if◌then◌else◌}
use Rattle.std.specs.Prelude.{IfSome, slice_index_or}
use Rattle.std.specs.List.{AllByRecursion, flat_map, range_with_len}
use Rattle.grid_config.specs.Colors.{Color as CellColor}
use Rattle.grid_config.specs.Looks.{Look}
use Rattle.grid_config_values.specs.Spans.Spans.{single}
use Rattle.grid_config_values.specs.Entities.{covers}
use Rattle.grid_config_values.specs.Glyphs.{Between, BoundaryKind, First, Last, along_column, crossing, in_row, no_borders}
use Rattle.grid_config_values.specs.declared.alignment.AlignmentHorizontal.{AlignmentHorizontal}
use Rattle.grid_config_values.specs.declared.borders.Borders.{Borders as Glyphs}
use Rattle.grid_config_values.specs.declared.entity.Entity.{Entity}
use Rattle.grid_config_values.specs.declared.entity.Entity.TheVariants.{Global as EveryCell}
use Rattle.grid_config_values.specs.declared.position.Position.{Position}
use Rattle.papergrid_picture.specs.Shown.{IsColoredBy, ShowsOnly}
use Rattle.tabled_glyphs.specs.Glyphs.{ascii, extended, modern}
use Rattle.tabled_list.specs.Lists.{LeadsThrough}
use Rattle.tabled_list.specs.Settings.{LookChanges, setting_step}
use Rattle.tabled_list.specs.declared.setting.Setting.{Setting}
use Rattle.tabled_list.specs.declared.setting.Setting.TheVariants.{AlignHorizontal, Borders, Color, LineAlignment, TrimHorizontal}
use Rattle.tabled_size.specs.Dimension.Stored.{kept_after}
use Rattle.tabled_steps.specs.Looks.{covering, with_alignment_horizontal, with_borders, with_line_alignment, with_trim_horizontal}
use Rattle.tabled_steps.specs.States.{Outcome, State, settled}
use Rattle.basinmug_columns.specs.Names.{column_number}
use Rattle.program_options.specs.declared.basinmug.ColumnName.{ColumnName}
use Rattle.program_options.specs.declared.basinmug.LineStyle.{LineStyle}
use Rattle.program_options.specs.declared.basinmug.LineStyle.TheVariants.{Ascii, Modern, Rounded, Extended, Markdown, Empty}
use Rattle.basinmug_run.specs.Picture.Fitting.{is_narrowed, trimmed_if, trims}
use Rattle.basinmug_run.specs.Picture.Settings.{aligned_at, alignments, colored_at, colors, glyphs_of, markdown, numbers_right, right_if, rounded, settings_of}

-- ---- glyphs of a kind

module _ (P : ℕ → Type 0) where
  -- each glyph that is set is of the kind
  pub record GlyphsAre (b : Glyphs ℕ) : Type 0 where
    pub crossings : (row column : BoundaryKind) → IfSome (crossing b row column) P
    pub along : (kind : BoundaryKind) → IfSome (along_column b kind) P
    pub rows : (kind : BoundaryKind) → IfSome (in_row b kind) P

  -- a look of such glyphs and fills, without colours, in which each cell is single
  pub record IsOwnLook (look : Look) : Type 0 where
    pub shown : ShowsOnly P look
    pub uncolored : IsColoredBy (λ color. color ≡ None) look
    pub single_cells : look.extent ≡ (λ _. single)

  -- ---- one setting

  abbrev state_or : State → Outcome → State
  state_or s (Ok m) = m
  state_or s (Err fault) = s

  -- where a step leads to a state, its outcome is this one
  pub settled-state : (s m next : State) (changed : Outcome) → Ok next ≡ changed → settled (Some EveryCell) changed ≡ Ok m → record next { sizes = kept_after (Some EveryCell) next.sizes } ≡ m
  settled-state s m next changed is ends = ap (state_or s) (ap (settled (Some EveryCell)) is ∙ ends)

  abbrev cleared : State → State
  cleared next = record next { sizes = kept_after (Some EveryCell) next.sizes }

  -- colours of a kind
  module _ (Q : CellColor → Type 0) where
    -- a setting that changes alignments, trims and line alignments, or puts in such glyphs, or a colour of the kind
    abbrev pub IsOwn : Setting → Type 0
    IsOwn (AlignHorizontal at value) = Unit {0}
    IsOwn (LineAlignment at on) = Unit {0}
    IsOwn (TrimHorizontal at on) = Unit {0}
    IsOwn (Borders value) = GlyphsAre value
    IsOwn (Color at color) = Q color
    IsOwn _ = ⊥

    -- a table with such a look and colours of the kind of cells, which has these rows
    pub record IsOwnTable (rows : List (List (List ℕ))) (s : State) : Type 0 where
      pub look : IsOwnLook s.look
      pub colors : (cell : Position) → IfSome (s.colors cell) Q
      pub rows_are : s.rows ≡ rows

    module _ (rows : List (List (List ℕ))) (s : State) (own : IsOwnTable rows s) where
      look-own : (change : Look → Look) → IsOwnLook (change s.look) → (m : State) → LookChanges change s (Ok m) → IsOwnTable rows m
      look-own change is m leads =
          let next : State = record s { look = change s.look } in
          subst (IsOwnTable rows) (settled-state s m next leads.0 leads.1 leads.2) (record { look = is; colors = own.colors; rows_are = own.rows_are })

      same-look : (at : Entity) (value : AlignmentHorizontal) → IsOwnLook (with_alignment_horizontal at value s.look)
      same-look at value =
          let a = own.look.shown in
          let b = own.look.uncolored in
          record {
            shown = record { crossings = a.crossings; along_columns = a.along_columns; in_rows = a.in_rows; margins = a.margins; paddings = a.paddings; justification = a.justification };
            uncolored = record { crossings = b.crossings; along_columns = b.along_columns; in_rows = b.in_rows; margins = b.margins; paddings = b.paddings; justification = b.justification };
            single_cells = own.look.single_cells;
          }

      line-look : (at : Entity) (on : Bool) → IsOwnLook (with_line_alignment at on s.look)
      line-look at on =
          let a = own.look.shown in
          let b = own.look.uncolored in
          record {
            shown = record { crossings = a.crossings; along_columns = a.along_columns; in_rows = a.in_rows; margins = a.margins; paddings = a.paddings; justification = a.justification };
            uncolored = record { crossings = b.crossings; along_columns = b.along_columns; in_rows = b.in_rows; margins = b.margins; paddings = b.paddings; justification = b.justification };
            single_cells = own.look.single_cells;
          }

      trim-look : (at : Entity) (on : Bool) → IsOwnLook (with_trim_horizontal at on s.look)
      trim-look at on =
          let a = own.look.shown in
          let b = own.look.uncolored in
          record {
            shown = record { crossings = a.crossings; along_columns = a.along_columns; in_rows = a.in_rows; margins = a.margins; paddings = a.paddings; justification = a.justification };
            uncolored = record { crossings = b.crossings; along_columns = b.along_columns; in_rows = b.in_rows; margins = b.margins; paddings = b.paddings; justification = b.justification };
            single_cells = own.look.single_cells;
          }

      glyph-look : (value : Glyphs ℕ) → GlyphsAre value → IsOwnLook (with_borders value s.look)
      glyph-look value are =
          let a = own.look.shown in
          let b = own.look.uncolored in
          record {
            shown = record { crossings = are.crossings; along_columns = are.along; in_rows = are.rows; margins = a.margins; paddings = a.paddings; justification = a.justification };
            uncolored = record { crossings = b.crossings; along_columns = b.along_columns; in_rows = b.in_rows; margins = b.margins; paddings = b.paddings; justification = b.justification };
            single_cells = own.look.single_cells;
          }

      color-own : (at : Entity) (color : CellColor) → Q color → (m : State) → setting_step (Color at color) s (Ok m) → IsOwnTable rows m
      color-own at color closing m leads =
          let next : State = record s { colors = covering at (Some color) s.colors } in
          subst (IsOwnTable rows) (settled-state s m next leads.0 leads.1 leads.2) (record { look = own.look; colors = λ cell. by cell (covers at cell); rows_are = own.rows_are })
        where
          by : (cell : Position) (b : Bool) → IfSome (if b then Some color else s.colors cell) Q
          by cell true = closing
          by cell false = own.colors cell

    step-own : (rows : List (List (List ℕ))) (setting : Setting) → IsOwn setting → (s m : State) → IsOwnTable rows s → setting_step setting s (Ok m) → IsOwnTable rows m
    step-own rows (AlignHorizontal at value) is s m own leads = look-own rows s own (with_alignment_horizontal at value) (same-look rows s own at value) m leads
    step-own rows (LineAlignment at on) is s m own leads = look-own rows s own (with_line_alignment at on) (line-look rows s own at on) m leads
    step-own rows (TrimHorizontal at on) is s m own leads = look-own rows s own (with_trim_horizontal at on) (trim-look rows s own at on) m leads
    step-own rows (Borders value) is s m own leads = look-own rows s own (with_borders value) (glyph-look rows s own value is) m leads
    step-own rows (Color at color) is s m own leads = color-own rows s own at color is m leads
    step-own rows setting is s m own leads = absurd is

    pub run-own : (rows : List (List (List ℕ))) (settings : List Setting) → AllByRecursion IsOwn settings → (s last : State) → IsOwnTable rows s → LeadsThrough settings s last → IsOwnTable rows last
    run-own rows [] all s last own leads = subst (IsOwnTable rows) leads own
    run-own rows (setting ∷ settings) all s last own leads = run-own rows settings all.1 leads.0 last (step-own rows setting all.0 s leads.0 own leads.1) leads.2

    -- ---- the settings of a table of records

    pub append-own : (a b : List Setting) → AllByRecursion IsOwn a → AllByRecursion IsOwn b → AllByRecursion IsOwn (a ++ b)
    append-own [] b first second = second
    append-own (x ∷ a) b first second = (first.0, append-own a b first.1 second)

    each-own : {A : Type 0} (Q : A → Type 0) (f : A → List Setting) → ((x : A) → Q x → AllByRecursion IsOwn (f x)) → (xs : List A) → AllByRecursion Q xs → AllByRecursion IsOwn (flat_map f xs)
    each-own Q f each [] all = tt
    each-own Q f each (x ∷ xs) all = append-own (f x) (flat_map f xs) (each x all.0) (each-own Q f each xs all.1)

    anything : {A : Type 0} (xs : List A) → AllByRecursion (λ (_ : A). Unit {0}) xs
    anything [] = tt
    anything (x ∷ xs) = (tt, anything xs)

    right-own : (is_numeric : Bool) (column : ℕ) → AllByRecursion IsOwn (right_if is_numeric column)
    right-own true column = (tt, tt)
    right-own false column = tt

    aligned-own : (number : Option ℕ) (value : AlignmentHorizontal) → AllByRecursion IsOwn (aligned_at number value)
    aligned-own None value = tt
    aligned-own (Some number) value = (tt, tt)

    colored-own : (number : Option ℕ) (color : CellColor) → Q color → AllByRecursion IsOwn (colored_at number color)
    colored-own None color is = tt
    colored-own (Some number) color is = (is, tt)

    trimmed-own : (is_wrapped : Bool) (column : ℕ) → AllByRecursion IsOwn (trimmed_if is_wrapped column)
    trimmed-own true column = (tt, (tt, tt))
    trimmed-own false column = tt

    pub trims-own : (truncate : Bool) (widths rooms : List ℕ) → AllByRecursion IsOwn (trims truncate widths rooms)
    trims-own true widths rooms = tt
    trims-own false widths rooms =
        let columns = range_with_len 0 (length widths) in
        each-own (λ _. Unit {0}) (λ column. trimmed_if (is_narrowed widths rooms column) column) (λ column _. trimmed-own (is_narrowed widths rooms column) column) columns (anything columns)

    pub settings-own : (line_style : LineStyle) (header : List (List ℕ)) (numeric : List Bool) (aligned : List (ColumnName × AlignmentHorizontal)) (colored : List (ColumnName × CellColor))
        → GlyphsAre (glyphs_of line_style) → AllByRecursion (λ (pair : ColumnName × CellColor). Q pair.1) colored → AllByRecursion IsOwn (settings_of line_style header numeric aligned colored)
    settings-own line_style header numeric aligned colored glyphs closing =
        let columns = range_with_len 0 (length numeric) in
        let numbers = numbers_right numeric in
        let places = alignments header aligned in (
          glyphs,
          append-own (numbers ++ places) (colors header colored)
              (append-own numbers places
              (each-own (λ _. Unit {0}) (λ column. right_if (slice_index_or numeric column false) column) (λ column _. right-own (slice_index_or numeric column false) column) columns (anything columns))
              (each-own (λ _. Unit {0}) (λ (pair : ColumnName × AlignmentHorizontal). aligned_at (column_number header pair.0) pair.1) (λ pair _. aligned-own (column_number header pair.0) pair.1) aligned (anything aligned)))
              (each-own (λ (pair : ColumnName × CellColor). Q pair.1) (λ (pair : ColumnName × CellColor). colored_at (column_number header pair.0) pair.1) (λ pair is. colored-own (column_number header pair.0) pair.1 is) colored closing),
        )

  -- ---- the glyphs of the styles

  -- all fifteen, where each is of the kind
  all-glyphs : (b : Glyphs ℕ) → IfSome b.top_left P × IfSome b.top_intersection P × IfSome b.top_right P → IfSome b.left_intersection P × IfSome b.intersection P × IfSome b.right_intersection P
      → IfSome b.bottom_left P × IfSome b.bottom_intersection P × IfSome b.bottom_right P → IfSome b.top P × IfSome b.horizontal P × IfSome b.bottom P → IfSome b.left P × IfSome b.vertical P × IfSome b.right P → GlyphsAre b
  all-glyphs b above between below along_all rows_all = record { crossings = crossings; along = along; rows = rows }
    where
      crossings : (row column : BoundaryKind) → IfSome (crossing b row column) P
      crossings First First = above.0
      crossings First Between = above.1
      crossings First Last = above.2
      crossings Between First = between.0
      crossings Between Between = between.1
      crossings Between Last = between.2
      crossings Last First = below.0
      crossings Last Between = below.1
      crossings Last Last = below.2

      along : (kind : BoundaryKind) → IfSome (along_column b kind) P
      along First = along_all.0
      along Between = along_all.1
      along Last = along_all.2

      rows : (kind : BoundaryKind) → IfSome (in_row b kind) P
      rows First = rows_all.0
      rows Between = rows_all.1
      rows Last = rows_all.2

  pub record HasLineGlyphs : Type 0 where
    pub hyphen : P 0x2d
    pub plus : P 0x2b
    pub bar : P 0x7c
    pub drawing : (c : ℕ) → 0x2500 ≤ c → c ≤ 0x257f → P c

  module _ (has : HasLineGlyphs) where
    d : (c : ℕ) → 0x2500 ≤ c → c ≤ 0x257f → P c
    d = has.drawing

    pub style-glyphs : (line_style : LineStyle) → GlyphsAre (glyphs_of line_style)
    style-glyphs Ascii =
        all-glyphs ascii (has.plus, has.plus, has.plus) (has.plus, has.plus, has.plus) (has.plus, has.plus, has.plus) (has.hyphen, has.hyphen, has.hyphen) (has.bar, has.bar, has.bar)
    style-glyphs Modern =
        all-glyphs modern
        (d 0x250c (omega arith) (omega arith), d 0x252c (omega arith) (omega arith), d 0x2510 (omega arith) (omega arith))
        (d 0x251c (omega arith) (omega arith), d 0x253c (omega arith) (omega arith), d 0x2524 (omega arith) (omega arith))
        (d 0x2514 (omega arith) (omega arith), d 0x2534 (omega arith) (omega arith), d 0x2518 (omega arith) (omega arith))
        (d 0x2500 (omega arith) (omega arith), d 0x2500 (omega arith) (omega arith), d 0x2500 (omega arith) (omega arith))
        (d 0x2502 (omega arith) (omega arith), d 0x2502 (omega arith) (omega arith), d 0x2502 (omega arith) (omega arith))
    style-glyphs Rounded =
        all-glyphs rounded
        (d 0x256d (omega arith) (omega arith), d 0x252c (omega arith) (omega arith), d 0x256e (omega arith) (omega arith))
        (d 0x251c (omega arith) (omega arith), d 0x253c (omega arith) (omega arith), d 0x2524 (omega arith) (omega arith))
        (d 0x2570 (omega arith) (omega arith), d 0x2534 (omega arith) (omega arith), d 0x256f (omega arith) (omega arith))
        (d 0x2500 (omega arith) (omega arith), d 0x2500 (omega arith) (omega arith), d 0x2500 (omega arith) (omega arith))
        (d 0x2502 (omega arith) (omega arith), d 0x2502 (omega arith) (omega arith), d 0x2502 (omega arith) (omega arith))
    style-glyphs Extended =
        all-glyphs extended
        (d 0x2554 (omega arith) (omega arith), d 0x2566 (omega arith) (omega arith), d 0x2557 (omega arith) (omega arith))
        (d 0x2560 (omega arith) (omega arith), d 0x256c (omega arith) (omega arith), d 0x2563 (omega arith) (omega arith))
        (d 0x255a (omega arith) (omega arith), d 0x2569 (omega arith) (omega arith), d 0x255d (omega arith) (omega arith))
        (d 0x2550 (omega arith) (omega arith), d 0x2550 (omega arith) (omega arith), d 0x2550 (omega arith) (omega arith))
        (d 0x2551 (omega arith) (omega arith), d 0x2551 (omega arith) (omega arith), d 0x2551 (omega arith) (omega arith))
    style-glyphs Markdown = all-glyphs markdown (tt, tt, tt) (tt, tt, tt) (tt, tt, tt) (tt, tt, tt) (has.bar, has.bar, has.bar)
    style-glyphs Empty = all-glyphs no_borders (tt, tt, tt) (tt, tt, tt) (tt, tt, tt) (tt, tt, tt) (tt, tt, tt)
