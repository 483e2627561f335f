-- What settings make of a look and of the colours of cells: a bare look stays bare.
use Rattle.std.proofs.Common.{◌≡◌, ◌==◌, ◌-◌, nat_lt, nat_le, ℕ, Bool, true, false, List, [], ◌∷◌, Option, None, Some, Result, Ok, Err, length, refl, ap, sym, subst, ◌∙◌, if◌then◌else◌}
use Rattle.std.specs.Prelude.{IfSome, MatchResult, string_bytes}
use Rattle.grid_config.specs.Colors.{Color}
use Rattle.grid_config.specs.Looks.{Look}
use Rattle.grid_config_values.specs.Entities.{covers}
use Rattle.grid_config_values.specs.Glyphs.{Between, BoundaryKind, First, Last, along_column, crossing, in_row}
use Rattle.grid_config_values.specs.declared.borders.Borders.{Borders as Glyphs}
use Rattle.grid_config_values.specs.declared.entity.Entity.{Entity}
use Rattle.grid_config_values.specs.declared.entity.Entity.TheVariants.{Global as EveryCell, Row as OneRow}
use Rattle.grid_config_values.specs.declared.fault.Fault.{Fault}
use Rattle.grid_config_values.specs.declared.fault.Fault.TheVariants.{Spans}
use Rattle.grid_config_values.specs.declared.position.Position.{Position}
use Rattle.grid_config_values.specs.declared.sides.Indent.{Indent}
use Rattle.grid_config_values.specs.declared.sides.Sides.{Sides}
use Rattle.papergrid_picture.specs.Colors.ClosingColors.{ShowNothing, ShowsNothing}
use Rattle.papergrid_picture.specs.Shown.{IsBare, IsColoredBy, BeginsNoSequence, OnEachSide, ShowsOnly, WritesNothing}
use Rattle.tabled_height.specs.Heights.{HeightEstimate, estimated}
use Rattle.tabled_height.specs.Lines.{limited, raised}
use Rattle.tabled_height.specs.Steps.{GrownRows, MeasuredHeight, Resizes, ShrunkRows, WhereCells, has_no_cells, keeping_heights, limiting_rows, listing_heights}
use Rattle.tabled_list.specs.Amounts.{height_of, width_of}
use Rattle.tabled_list.specs.Lists.{LeadsThrough}
use Rattle.tabled_list.specs.Priorities.{LimitsBy, NarrowsBy, RaisesBy, WidensBy, grows_so, measured_so, shrinks_so}
use Rattle.tabled_list.specs.Settings.{CellsChange, LookChanges, coloring, cutting_by, setting_step}
use Rattle.tabled_list.specs.declared.amount.Amount.{Amount}
use Rattle.tabled_list.specs.declared.setting.Setting.{Setting}
use Rattle.tabled_list.specs.declared.setting.Setting.TheVariants.{Wrap, CellWrap, Truncate, CellTruncate, MinWidth, CellMinWidth, Justify, WidthList, HeightList, HeightIncrease, HeightLimit, CellHeightIncrease, CellHeightLimit, ColumnSpan, RowSpan, AlignHorizontal, AlignVertical, LineAlignment, TrimHorizontal, TrimVertical, Justification, Padding, Margin, Borders, Color as Colored}
use Rattle.tabled_size_priority.specs.Choices.{IsGrownByChoice, IsShrunkByChoice}
use Rattle.tabled_steps.specs.Changes.{changing}
use Rattle.tabled_steps.specs.Looks.{covering, with_alignment_horizontal, with_alignment_vertical, with_borders, with_column_span, with_justification, with_line_alignment, with_margin, with_padding, with_row_span, with_trim_horizontal, with_trim_vertical}
use Rattle.tabled_steps.specs.Outcomes.{all_sized}
use Rattle.tabled_steps.specs.States.{Outcome, Settles, State, column_count, looking, positive, settled}
use Rattle.tabled_width.specs.WrappedOrCut.{wrapping_each, justifying, wrapping_wider}
use Rattle.tabled_width.specs.Cutting.{truncating}
use Rattle.tabled_width.specs.Filling.{filling}
use Rattle.tabled_width.specs.Lists.{with_width_list}
use Rattle.tabled_width.specs.WholeTables.Rooms.{column_widths, empty_widths}
use Rattle.tabled_width.specs.WholeTables.Steps.{Measured, Then}
use Rattle.tabled_width.specs.WholeTables.Tables.{Grown, Narrows, NarrowsTable, Shrunk, Where, Widens, WidensTable, has_cells, keeping, narrowed_state, table_sizes}
use Rattle.tabled_list.specs.Stripping.Stripping.{GlyphsBeginNoSequence, PutInNoEscape, PutsInNoEscape, colored_by, colors_after}

-- the look is bare, and cells have these colours
abbrev pub BareWith : (Position → Option Color) → Outcome → Type 0
BareWith colors (Ok m) = IsBare m.look × (m.colors ≡ colors)
BareWith colors (Err fault) = Unit {0}

module _ (s : State) where
  -- those that they had
  abbrev pub Bare : Outcome → Type 0
  Bare outcome = BareWith s.colors outcome

  settled-bare : (hint : Option Entity) (outcome : Outcome) → Bare outcome → Bare (settled hint outcome)
  settled-bare hint (Ok m) bare = bare
  settled-bare hint (Err fault) bare = tt

  settles-bare : (hint : Option Entity) (step : State → Outcome → Type 0) → ((outcome : Outcome) → step s outcome → Bare outcome) → (outcome : Outcome) → Settles hint step s outcome → Bare outcome
  settles-bare hint step each outcome is = subst Bare is.2 (settled-bare hint is.0 (each is.0 is.1))

  equals-bare : (found outcome : Outcome) → Bare found → found ≡ outcome → Bare outcome
  equals-bare found outcome bare is = subst Bare is bare

  then-bare : {A : Type 0} (worked : Result A Fault) (next : A → Outcome → Type 0) → ((a : A) (outcome : Outcome) → next a outcome → Bare outcome) → (outcome : Outcome) → Then worked next outcome → Bare outcome
  then-bare (Ok a) next each outcome is = each a outcome is
  then-bare (Err fault) next each outcome is = subst Bare is tt

  match-bare : {A : Type 0} (worked : Result A Fault) (next : A → Outcome → Type 0) → ((a : A) (outcome : Outcome) → next a outcome → Bare outcome) → (outcome : Outcome)
      → MatchResult worked (λ a. next a outcome) (λ fault. Err fault ≡ outcome) → Bare outcome
  match-bare (Ok a) next each outcome is = each a outcome is
  match-bare (Err fault) next each outcome is = subst Bare is tt

  module _ (bare : IsBare s.look) where
    same : IsBare s.look × (s.colors ≡ s.colors)
    same = (bare, refl)

    where-bare : (b : Bool) (step : State → Outcome → Type 0) (m : State) → Bare (Ok m) → ((outcome : Outcome) → step m outcome → Bare outcome) → (outcome : Outcome) → Where b step m outcome → Bare outcome
    where-bare true step m here each outcome is = each outcome is
    where-bare false step m here each outcome is = subst Bare is here

    measured-bare : (measures : ℕ → List (List (List ℕ)) → Look → Result ℕ Fault → Type 0) (step : ℕ → State → Outcome → Type 0) → ((n : ℕ) (outcome : Outcome) → step n s outcome → Bare outcome)
        → (outcome : Outcome) → Measured measures step s outcome → Bare outcome
    measured-bare measures step each outcome is = then-bare is.0 (λ n. step n s) each outcome is.2

    measured_height-bare : (measures : ℕ → List (List (List ℕ)) → Look → Result ℕ Fault → Type 0) (step : ℕ → State → Outcome → Type 0) → ((n : ℕ) (outcome : Outcome) → step n s outcome → Bare outcome)
        → (outcome : Outcome) → MeasuredHeight measures step s outcome → Bare outcome
    measured_height-bare measures step each outcome is = match-bare is.0 (λ n. step n s) each outcome is.2

    narrows-bare : (shrinks : List ℕ → ℕ → List ℕ → List ℕ → Type 0) (change : ℕ → List ℕ → Option (List ℕ)) (measures : ℕ → List (List (List ℕ)) → Look → Result ℕ Fault → Type 0)
        → (outcome : Outcome) → NarrowsTable (shrinks_so shrinks) tt change measures s outcome → Bare outcome
    narrows-bare shrinks change measures =
        let by : List ℕ → ℕ → State → Outcome → Type 0 = Shrunk (shrinks_so shrinks) tt change in
        where-bare (has_cells s) (Measured measures (Narrows (shrinks_so shrinks) tt change)) s same
        (measured-bare measures (Narrows (shrinks_so shrinks) tt change)
        (λ n. then-bare (table_sizes s.look (column_count s.rows) s.rows s.sizes) (λ it. Where (nat_lt n it.whole) (by (column_widths (column_count s.rows) it.widths) (it.whole - n)) (keeping it s))
        (λ it. where-bare (nat_lt n it.whole) (by (column_widths (column_count s.rows) it.widths) (it.whole - n)) (keeping it s) same
        (then-bare (all_sized (empty_widths s.look (column_count s.rows) (length s.rows)))
        (λ least outcome. (left : List ℕ) × ((after : Unit {0}) × shrinks_so shrinks tt least (it.whole - n) (column_widths (column_count s.rows) it.widths) after left) × (Ok (narrowed_state change least left (keeping it s)) ≡ outcome))
        (λ least outcome is. subst Bare is.2 same)))))

    widens-bare : (grows : ℕ → List ℕ → List ℕ → Type 0) (measures : ℕ → List (List (List ℕ)) → Look → Result ℕ Fault → Type 0)
        → (outcome : Outcome) → WidensTable (grows_so grows) tt measures s outcome → Bare outcome
    widens-bare grows measures =
        let by : List ℕ → ℕ → State → Outcome → Type 0 = Grown (grows_so grows) tt in
        where-bare (has_cells s) (Measured measures (Widens (grows_so grows) tt)) s same
        (measured-bare measures (Widens (grows_so grows) tt)
        (λ n. then-bare (table_sizes s.look (column_count s.rows) s.rows s.sizes) (λ it. Where (nat_lt it.whole n) (by (column_widths (column_count s.rows) it.widths) (n - it.whole)) (keeping it s))
        (λ it. where-bare (nat_lt it.whole n) (by (column_widths (column_count s.rows) it.widths) (n - it.whole)) (keeping it s) same (λ outcome is. subst Bare is.2 same))))

    cells-bare : (step : State → Outcome → Type 0) → ((outcome : Outcome) → step s outcome → Bare outcome) → (outcome : Outcome) → WhereCells step s outcome → Bare outcome
    cells-bare step each outcome is = by (has_no_cells s) refl
      where
        by : (b : Bool) → has_no_cells s ≡ b → Bare outcome
        by true e = subst Bare (is.without_cells e) same
        by false e = each outcome (is.with_cells e)

    resizes-bare : (finds : HeightEstimate → Option (List ℕ) → Type 0) (change : Option (List ℕ) → State → State) → ((sizes : Option (List ℕ)) → Bare (Ok (change sizes s))) → (outcome : Outcome) → Resizes finds change s outcome → Bare outcome
    resizes-bare finds change each =
        match-bare (estimated s.look (column_count s.rows) s.rows) (λ estimate outcome. (sizes : Option (List ℕ)) × finds estimate sizes × (Ok (change sizes s) ≡ outcome)) (λ estimate outcome is. subst Bare is.2 (each is.0))

    keeping-bare : (sizes : Option (List ℕ)) → Bare (Ok (keeping_heights sizes s))
    keeping-bare None = same
    keeping-bare (Some heights) = same

    limiting-bare : (sizes : Option (List ℕ)) → Bare (Ok (limiting_rows sizes s))
    limiting-bare None = same
    limiting-bare (Some heights) = same

    -- ---- looks

    changed-bare : (change : Look → Look) → IsBare (change s.look) → (outcome : Outcome) → LookChanges change s outcome → Bare outcome
    changed-bare change is = settles-bare (Some EveryCell) (λ s outcome. looking change s ≡ outcome) (λ outcome found. equals-bare (looking change s) outcome (is, refl) found)

    spanned-bare : (n : ℕ) (change : Look → Look) → IsBare (change s.look) → (outcome : Outcome) → Settles (Some EveryCell) (λ s outcome. positive n (looking change) s ≡ outcome) s outcome → Bare outcome
    spanned-bare n change is = settles-bare (Some EveryCell) (λ s outcome. positive n (looking change) s ≡ outcome) (λ outcome found. equals-bare (positive n (looking change) s) outcome (by (n == 0)) found)
      where
        by : (b : Bool) → Bare (if b then Err Spans else looking change s)
        by true = tt
        by false = (is, refl)

-- ---- bare looks

colors-again : (look other : Look) → other.borders_color ≡ look.borders_color → other.margin_color ≡ look.margin_color → other.padding_color ≡ look.padding_color → other.justification_color ≡ look.justification_color
    → IsColoredBy WritesNothing look → IsColoredBy WritesNothing other
colors-again look other borders margin padding justification are = record {
  crossings = λ row column. subst (λ (b : Glyphs Color). WritesNothing (crossing b row column)) (sym borders) (are.crossings row column);
  along_columns = λ kind. subst (λ (b : Glyphs Color). WritesNothing (along_column b kind)) (sym borders) (are.along_columns kind);
  in_rows = λ kind. subst (λ (b : Glyphs Color). WritesNothing (in_row b kind)) (sym borders) (are.in_rows kind);
  margins = subst (OnEachSide WritesNothing) (sym margin) are.margins;
  paddings = λ cell. subst (λ (p : Position → Sides (Option Color)). OnEachSide WritesNothing (p cell)) (sym padding) (are.paddings cell);
  justification = λ cell. subst (λ (p : Position → Option Color). WritesNothing (p cell)) (sym justification) (are.justification cell);
}

shown-again : (look other : Look) → other.borders ≡ look.borders → other.margin ≡ look.margin → other.padding ≡ look.padding → other.justification ≡ look.justification → ShowsOnly BeginsNoSequence look → ShowsOnly BeginsNoSequence other
shown-again look other borders margin padding justification are = record {
  crossings = λ row column. subst (λ (b : Glyphs ℕ). IfSome (crossing b row column) BeginsNoSequence) (sym borders) (are.crossings row column);
  along_columns = λ kind. subst (λ (b : Glyphs ℕ). IfSome (along_column b kind) BeginsNoSequence) (sym borders) (are.along_columns kind);
  in_rows = λ kind. subst (λ (b : Glyphs ℕ). IfSome (in_row b kind) BeginsNoSequence) (sym borders) (are.in_rows kind);
  margins = subst (OnEachSide (λ margin. BeginsNoSequence margin.fill)) (sym margin) are.margins;
  paddings = λ cell. subst (λ (p : Position → Sides Indent). OnEachSide (λ padding. BeginsNoSequence padding.fill) (p cell)) (sym padding) (are.paddings cell);
  justification = λ cell. subst (λ (p : Position → ℕ). BeginsNoSequence (p cell)) (sym justification) (are.justification cell);
}

-- what shows nothing changes
same-look : (look other : Look) → other.borders ≡ look.borders → other.margin ≡ look.margin → other.padding ≡ look.padding → other.justification ≡ look.justification
    → other.borders_color ≡ look.borders_color → other.margin_color ≡ look.margin_color → other.padding_color ≡ look.padding_color → other.justification_color ≡ look.justification_color → IsBare look → IsBare other
same-look look other b m p j bc mc pc jc bare = record { shown = shown-again look other b m p j bare.shown; no_colors = colors-again look other bc mc pc jc bare.no_colors }

covering-is : {T : Type 0} (P : T → Type 0) (at : Entity) (value : T) (old : Position → T) → P value → ((cell : Position) → P (old cell)) → (cell : Position) → P (covering at value old cell)
covering-is P at value old here others cell = by (covers at cell)
  where
    by : (b : Bool) → P (if b then value else old cell)
    by true = here
    by false = others cell

module _ (look : Look) (bare : IsBare look) where
  padding-bare : (at : Entity) (value : Sides Indent) → OnEachSide (λ indent. BeginsNoSequence indent.fill) value → IsBare (with_padding at value look)
  padding-bare at value shown = record {
    shown = record {
      crossings = bare.shown.crossings;
      along_columns = bare.shown.along_columns;
      in_rows = bare.shown.in_rows;
      margins = bare.shown.margins;
      paddings = covering-is (OnEachSide (λ indent. BeginsNoSequence indent.fill)) at value look.padding shown bare.shown.paddings;
      justification = bare.shown.justification;
    };
    no_colors = colors-again look (with_padding at value look) refl refl refl refl bare.no_colors;
  }

  justification-bare : (at : Entity) (fill : ℕ) → BeginsNoSequence fill → IsBare (with_justification at fill look)
  justification-bare at fill shown = record {
    shown = record {
      crossings = bare.shown.crossings;
      along_columns = bare.shown.along_columns;
      in_rows = bare.shown.in_rows;
      margins = bare.shown.margins;
      paddings = bare.shown.paddings;
      justification = covering-is BeginsNoSequence at fill look.justification shown bare.shown.justification;
    };
    no_colors = colors-again look (with_justification at fill look) refl refl refl refl bare.no_colors;
  }

  margin-bare : (value : Sides Indent) → OnEachSide (λ indent. BeginsNoSequence indent.fill) value → IsBare (with_margin value look)
  margin-bare value shown = record {
    shown = record {
      crossings = bare.shown.crossings;
      along_columns = bare.shown.along_columns;
      in_rows = bare.shown.in_rows;
      margins = shown;
      paddings = bare.shown.paddings;
      justification = bare.shown.justification;
    };
    no_colors = colors-again look (with_margin value look) refl refl refl refl bare.no_colors;
  }

  borders-bare : (value : Glyphs ℕ) → GlyphsBeginNoSequence value → IsBare (with_borders value look)
  borders-bare value shown = record {
    shown = record {
      crossings = crossings;
      along_columns = along;
      in_rows = in_each;
      margins = bare.shown.margins;
      paddings = bare.shown.paddings;
      justification = bare.shown.justification;
    };
    no_colors = colors-again look (with_borders value look) refl refl refl refl bare.no_colors;
  }
    where
      crossings : (row column : BoundaryKind) → IfSome (crossing value row column) BeginsNoSequence
      crossings First First = shown.0.0
      crossings First Between = shown.0.1
      crossings First Last = shown.0.2
      crossings Between First = shown.1.0
      crossings Between Between = shown.1.1
      crossings Between Last = shown.1.2
      crossings Last First = shown.2.0
      crossings Last Between = shown.2.1
      crossings Last Last = shown.2.2

      along : (kind : BoundaryKind) → IfSome (along_column value kind) BeginsNoSequence
      along First = shown.3.0
      along Between = shown.3.1
      along Last = shown.3.2

      in_each : (kind : BoundaryKind) → IfSome (in_row value kind) BeginsNoSequence
      in_each First = shown.4.0
      in_each Between = shown.4.1
      in_each Last = shown.4.2

-- ---- settings

texts-bare : (s : State) → IsBare s.look → (at : Entity) (width : Amount) (change : ℕ → List ℕ → Option (List ℕ)) (outcome : Outcome) → CellsChange at width change s outcome → Bare s outcome
texts-bare s bare at width change =
    settles-bare s (Some EveryCell) (Measured (λ columns rows look outcome. width_of width columns rows look ≡ outcome) (λ n s outcome. changing (λ _. change n) at s ≡ outcome))
    (measured-bare s bare (λ columns rows look outcome. width_of width columns rows look ≡ outcome) (λ n s outcome. changing (λ _. change n) at s ≡ outcome)
    (λ n outcome is. equals-bare s (changing (λ _. change n) at s) outcome (bare, refl) is))

heights-bare : (s : State) → IsBare s.look → (at : Entity) (height : Amount) (change : ℕ → Position → List ℕ → Option (List ℕ)) (outcome : Outcome)
    → Settles (Some EveryCell) (MeasuredHeight (λ columns rows look outcome. height_of height columns rows look ≡ outcome) (λ n s outcome. changing (change n) at s ≡ outcome)) s outcome → Bare s outcome
heights-bare s bare at height change =
    settles-bare s (Some EveryCell) (MeasuredHeight (λ columns rows look outcome. height_of height columns rows look ≡ outcome) (λ n s outcome. changing (change n) at s ≡ outcome))
    (measured_height-bare s bare (λ columns rows look outcome. height_of height columns rows look ≡ outcome) (λ n s outcome. changing (change n) at s ≡ outcome)
    (λ n outcome is. equals-bare s (changing (change n) at s) outcome (bare, refl) is))

colored-bare : (s : State) → IsBare s.look → (at : Entity) (color : Color) (outcome : Outcome) → Settles (Some EveryCell) (λ s outcome. coloring at color s ≡ outcome) s outcome → BareWith (covering at (Some color) s.colors) outcome
colored-bare s bare at color outcome is =
    subst (BareWith (covering at (Some color) s.colors)) is.2 (subst (λ (changed : Outcome). BareWith (covering at (Some color) s.colors) (settled (Some EveryCell) changed)) is.1 (bare, refl))

pub step-bare : (setting : Setting) → PutsInNoEscape setting → (s : State) → IsBare s.look → (outcome : Outcome) → setting_step setting s outcome → BareWith (colored_by s.colors setting) outcome
step-bare (Wrap width keep_words priority) no_escape s bare =
    settles-bare s (Some (OneRow 0)) (NarrowsBy (IsShrunkByChoice priority) (wrapping_each keep_words) (width_of width)) (narrows-bare s bare (IsShrunkByChoice priority) (wrapping_each keep_words) (measured_so (width_of width)))
step-bare (CellWrap at width keep_words) no_escape s bare = texts-bare s bare at width (wrapping_wider keep_words)
step-bare (Truncate width suffix limit multiline try_color priority) no_escape s bare =
    let change = truncating (cutting_by (string_bytes suffix) limit multiline try_color) in
    settles-bare s None (NarrowsBy (IsShrunkByChoice priority) change (width_of width)) (narrows-bare s bare (IsShrunkByChoice priority) change (measured_so (width_of width)))
step-bare (CellTruncate at width suffix limit multiline try_color) no_escape s bare = texts-bare s bare at width (truncating (cutting_by (string_bytes suffix) limit multiline try_color))
step-bare (MinWidth width priority) no_escape s bare =
    settles-bare s None (WidensBy (IsGrownByChoice priority) (width_of width)) (widens-bare s bare (IsGrownByChoice priority) (measured_so (width_of width)))
step-bare (CellMinWidth at width fill) no_escape s bare = texts-bare s bare at width (filling fill)
step-bare (Justify width) no_escape s bare = texts-bare s bare EveryCell width justifying
step-bare (WidthList widths) no_escape s bare =
    settles-bare s None (λ s outcome. with_width_list widths.items s ≡ outcome) (λ outcome is. equals-bare s (with_width_list widths.items s) outcome (by (nat_le (column_count s.rows) (length widths.items))) is)
  where
    by : (b : Bool) → Bare s (if b then Ok (record s { sizes = record s.sizes { widths = Some widths.items } }) else Ok s)
    by true = (bare, refl)
    by false = (bare, refl)
step-bare (HeightList heights) no_escape s bare =
    settles-bare s None (λ s outcome. listing_heights heights.items s ≡ outcome) (λ outcome is. equals-bare s (listing_heights heights.items s) outcome (by (nat_lt (length heights.items) (length s.rows))) is)
  where
    by : (b : Bool) → Bare s (Ok (if b then s else keeping_heights (Some heights.items) s))
    by true = (bare, refl)
    by false = (bare, refl)
step-bare (HeightIncrease height priority) no_escape s bare =
    let step : ℕ → State → Outcome → Type 0 = λ n. Resizes (GrownRows (grows_so (IsGrownByChoice priority)) tt n) keeping_heights in
    settles-bare s None (RaisesBy (IsGrownByChoice priority) (height_of height))
    (cells-bare s bare (MeasuredHeight (measured_so (height_of height)) step)
    (measured_height-bare s bare (measured_so (height_of height)) step (λ n. resizes-bare s bare (GrownRows (grows_so (IsGrownByChoice priority)) tt n) keeping_heights (keeping-bare s bare))))
step-bare (HeightLimit height priority) no_escape s bare =
    let step : ℕ → State → Outcome → Type 0 = λ n. Resizes (ShrunkRows (shrinks_so (IsShrunkByChoice priority)) tt n) limiting_rows in
    settles-bare s None (LimitsBy (IsShrunkByChoice priority) (height_of height))
    (cells-bare s bare (MeasuredHeight (measured_so (height_of height)) step)
    (measured_height-bare s bare (measured_so (height_of height)) step (λ n. resizes-bare s bare (ShrunkRows (shrinks_so (IsShrunkByChoice priority)) tt n) limiting_rows (limiting-bare s bare))))
step-bare (CellHeightIncrease at height) no_escape s bare = heights-bare s bare at height raised
step-bare (CellHeightLimit at height) no_escape s bare = heights-bare s bare at height limited
step-bare (ColumnSpan place n) no_escape s bare = spanned-bare s bare n (with_column_span place n) (same-look s.look (with_column_span place n s.look) refl refl refl refl refl refl refl refl bare)
step-bare (RowSpan place n) no_escape s bare = spanned-bare s bare n (with_row_span place n) (same-look s.look (with_row_span place n s.look) refl refl refl refl refl refl refl refl bare)
step-bare (AlignHorizontal at value) no_escape s bare = changed-bare s bare (with_alignment_horizontal at value) (same-look s.look (with_alignment_horizontal at value s.look) refl refl refl refl refl refl refl refl bare)
step-bare (AlignVertical at value) no_escape s bare = changed-bare s bare (with_alignment_vertical at value) (same-look s.look (with_alignment_vertical at value s.look) refl refl refl refl refl refl refl refl bare)
step-bare (LineAlignment at on) no_escape s bare = changed-bare s bare (with_line_alignment at on) (same-look s.look (with_line_alignment at on s.look) refl refl refl refl refl refl refl refl bare)
step-bare (TrimHorizontal at on) no_escape s bare = changed-bare s bare (with_trim_horizontal at on) (same-look s.look (with_trim_horizontal at on s.look) refl refl refl refl refl refl refl refl bare)
step-bare (TrimVertical at on) no_escape s bare = changed-bare s bare (with_trim_vertical at on) (same-look s.look (with_trim_vertical at on s.look) refl refl refl refl refl refl refl refl bare)
step-bare (Justification at fill) no_escape s bare = changed-bare s bare (with_justification at fill) (justification-bare s.look bare at fill no_escape)
step-bare (Padding at value) no_escape s bare = changed-bare s bare (with_padding at value) (padding-bare s.look bare at value no_escape)
step-bare (Margin value) no_escape s bare = changed-bare s bare (with_margin value) (margin-bare s.look bare value no_escape)
step-bare (Borders value) no_escape s bare = changed-bare s bare (with_borders value) (borders-bare s.look bare value no_escape)
step-bare (Colored at color) no_escape s bare = colored-bare s bare at color

pub runs-bare : (settings : List Setting) → PutInNoEscape settings → (s last : State) → IsBare s.look → LeadsThrough settings s last → IsBare last.look × (last.colors ≡ colors_after settings s.colors)
runs-bare [] no_escape s last bare is = (subst (λ (m : State). IsBare m.look) is bare, sym (ap (λ (m : State). m.colors) is))
runs-bare (setting ∷ settings) no_escape s last bare is =
    let one = step-bare setting no_escape.0 s bare (Ok is.0) is.1 in
    let others = runs-bare settings no_escape.1 is.0 last one.0 is.2 in
    (others.0, others.1 ∙ ap (colors_after settings) one.1)

-- ---- colours

-- a setting that puts in sequences alone leaves colours that are such
setting-silent : (setting : Setting) → PutsInNoEscape setting → (colors : Position → Option Color) → ShowNothing colors → ShowNothing (colored_by colors setting)
setting-silent (Wrap width keep_words priority) no_escape colors silent = silent
setting-silent (CellWrap at width keep_words) no_escape colors silent = silent
setting-silent (Truncate width suffix limit multiline try_color priority) no_escape colors silent = silent
setting-silent (CellTruncate at width suffix limit multiline try_color) no_escape colors silent = silent
setting-silent (MinWidth width priority) no_escape colors silent = silent
setting-silent (CellMinWidth at width fill) no_escape colors silent = silent
setting-silent (Justify width) no_escape colors silent = silent
setting-silent (WidthList widths) no_escape colors silent = silent
setting-silent (HeightList heights) no_escape colors silent = silent
setting-silent (HeightIncrease height priority) no_escape colors silent = silent
setting-silent (HeightLimit height priority) no_escape colors silent = silent
setting-silent (CellHeightIncrease at height) no_escape colors silent = silent
setting-silent (CellHeightLimit at height) no_escape colors silent = silent
setting-silent (ColumnSpan place n) no_escape colors silent = silent
setting-silent (RowSpan place n) no_escape colors silent = silent
setting-silent (AlignHorizontal at value) no_escape colors silent = silent
setting-silent (AlignVertical at value) no_escape colors silent = silent
setting-silent (LineAlignment at on) no_escape colors silent = silent
setting-silent (TrimHorizontal at on) no_escape colors silent = silent
setting-silent (TrimVertical at on) no_escape colors silent = silent
setting-silent (Justification at fill) no_escape colors silent = silent
setting-silent (Padding at value) no_escape colors silent = silent
setting-silent (Margin value) no_escape colors silent = silent
setting-silent (Borders value) no_escape colors silent = silent
setting-silent (Colored at color) no_escape colors silent = covering-is (λ (color : Option Color). IfSome color ShowsNothing) at (Some color) colors no_escape silent

pub colors-silent : (settings : List Setting) → PutInNoEscape settings → (colors : Position → Option Color) → ShowNothing colors → ShowNothing (colors_after settings colors)
colors-silent [] no_escape colors silent = silent
colors-silent (setting ∷ settings) no_escape colors silent = colors-silent settings no_escape.1 (colored_by colors setting) (setting-silent setting no_escape.0 colors silent)
