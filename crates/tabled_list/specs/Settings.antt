-- The steps of settings.
use Rattle.std.specs.Prelude.{◌≡◌, ℕ, Bool, List, Option, None, Some, Ok, string_bytes}
use Rattle.grid_config_values.specs.declared.entity.Entity.{Entity}
use Rattle.grid_config_values.specs.declared.entity.Entity.TheVariants.{Global as EveryCell, Row as OneRow}
use Rattle.grid_config.specs.Colors.{Color as CellColor}
use Rattle.grid_config.specs.Looks.{Look}
use Rattle.tabled_height.specs.Steps.{LimitsCells, RaisesCells, listing_heights}
use Rattle.tabled_size.specs.declared.dimension.suffix.SuffixLimit.{SuffixLimit}
use Rattle.tabled_size_priority.specs.Choices.{IsGrownByChoice, IsShrunkByChoice}
use Rattle.tabled_steps.specs.Changes.{changing}
use Rattle.tabled_steps.specs.Looks.{covering, with_alignment_horizontal, with_alignment_vertical, with_borders, with_column_span, with_justification, with_line_alignment, with_margin, with_padding, with_row_span, with_trim_horizontal, with_trim_vertical}
use Rattle.tabled_steps.specs.States.{Outcome, Settles, State, looking, positive}
use Rattle.tabled_width.specs.WrappedOrCut.{wrapping_each, justifying, wrapping_wider}
use Rattle.tabled_width.specs.Cutting.{SuffixedCut, truncating}
use Rattle.tabled_width.specs.Filling.{filling}
use Rattle.tabled_width.specs.Lists.{with_width_list}
use Rattle.tabled_width.specs.Steps.{Measured}
use Rattle.tabled_list.specs.Amounts.{height_of, width_of}
use Rattle.tabled_list.specs.Priorities.{LimitsBy, NarrowsBy, RaisesBy, WidensBy}
use Rattle.tabled_list.specs.declared.amount.Amount.{Amount}
use Rattle.tabled_list.specs.declared.cells.CellSetting.{CellSetting}
use Rattle.tabled_list.specs.declared.cells.CellSetting.TheVariants.{AlignHorizontal as CellAlignHorizontal, AlignVertical as CellAlignVertical, Justification as CellJustification, LineAlignment as CellLineAlignment, TrimHorizontal as CellTrimHorizontal, TrimVertical as CellTrimVertical}
use Rattle.tabled_list.specs.declared.setting.Setting.{Setting}
use Rattle.tabled_list.specs.declared.setting.Setting.TheVariants.{Wrap, CellWrap, Truncate, CellTruncate, MinWidth, CellMinWidth, Justify, WidthList, HeightList, HeightIncrease, HeightLimit, CellHeightIncrease, CellHeightLimit, ColumnSpan, RowSpan, AlignHorizontal, AlignVertical, LineAlignment, TrimHorizontal, TrimVertical, Justification, Padding, Margin, Borders, Color}

-- how a suffix comes after what is cut
abbrev pub cutting_by : List ℕ → SuffixLimit → Bool → Bool → SuffixedCut
cutting_by suffix limit multiline try_color = record { suffix = suffix; limit = limit; multiline = multiline; try_color = try_color }

-- the texts of an entity's cells change so by a width; then no size is kept
abbrev pub CellsChange : Entity → Amount → (ℕ → List ℕ → Option (List ℕ)) → State → Outcome → Type 0
CellsChange at width change =
    Settles (Some EveryCell)
    (Measured (λ columns rows look outcome. width_of width columns rows look ≡ outcome) (λ n state outcome. changing (λ _. change n) at state ≡ outcome))

-- the settings change so; then no size is kept
abbrev pub LookChanges : (Look → Look) → State → Outcome → Type 0
LookChanges change = Settles (Some EveryCell) (λ state outcome. looking change state ≡ outcome)

-- the cells of the entity have this colour; texts, settings and sizes stay
abbrev pub coloring : Entity → CellColor → State → Outcome
coloring at color state = Ok (record state { colors = covering at (Some color) state.colors })

-- a table is changed by a setting: what its option or its setter makes of it, and which sizes are kept then
abbrev pub setting_step : Setting → State → Outcome → Type 0
setting_step (Wrap width keep_words priority) = Settles (Some (OneRow 0)) (NarrowsBy (IsShrunkByChoice priority) (wrapping_each keep_words) (width_of width))
setting_step (CellWrap at width keep_words) = CellsChange at width (wrapping_wider keep_words)
setting_step (Truncate width suffix limit multiline try_color priority) =
    Settles None (NarrowsBy (IsShrunkByChoice priority) (truncating (cutting_by (string_bytes suffix) limit multiline try_color)) (width_of width))
setting_step (CellTruncate at width suffix limit multiline try_color) = CellsChange at width (truncating (cutting_by (string_bytes suffix) limit multiline try_color))
setting_step (MinWidth width priority) = Settles None (WidensBy (IsGrownByChoice priority) (width_of width))
setting_step (CellMinWidth at width fill) = CellsChange at width (filling fill)
setting_step (Justify width) = CellsChange EveryCell width justifying
setting_step (WidthList widths) = Settles None (λ state outcome. with_width_list widths.items state ≡ outcome)
setting_step (HeightList heights) = Settles None (λ state outcome. listing_heights heights.items state ≡ outcome)
setting_step (HeightIncrease height priority) = Settles None (RaisesBy (IsGrownByChoice priority) (height_of height))
setting_step (HeightLimit height priority) = Settles None (LimitsBy (IsShrunkByChoice priority) (height_of height))
setting_step (CellHeightIncrease at height) = Settles (Some EveryCell) (RaisesCells (λ columns rows look outcome. height_of height columns rows look ≡ outcome) at)
setting_step (CellHeightLimit at height) = Settles (Some EveryCell) (LimitsCells (λ columns rows look outcome. height_of height columns rows look ≡ outcome) at)
setting_step (ColumnSpan place n) = Settles (Some EveryCell) (λ state outcome. positive n (looking (with_column_span place n)) state ≡ outcome)
setting_step (RowSpan place n) = Settles (Some EveryCell) (λ state outcome. positive n (looking (with_row_span place n)) state ≡ outcome)
setting_step (AlignHorizontal at value) = LookChanges (with_alignment_horizontal at value)
setting_step (AlignVertical at value) = LookChanges (with_alignment_vertical at value)
setting_step (LineAlignment at on) = LookChanges (with_line_alignment at on)
setting_step (TrimHorizontal at on) = LookChanges (with_trim_horizontal at on)
setting_step (TrimVertical at on) = LookChanges (with_trim_vertical at on)
setting_step (Justification at fill) = LookChanges (with_justification at fill)
setting_step (Padding at value) = LookChanges (with_padding at value)
setting_step (Margin value) = LookChanges (with_margin value)
setting_step (Borders value) = LookChanges (with_borders value)
setting_step (Color at color) = Settles (Some EveryCell) (λ state outcome. coloring at color state ≡ outcome)

-- ---- kinds of settings

-- an option of the table that has a priority
abbrev pub HasPriority : Setting → Type 0
HasPriority (Wrap width keep_words priority) = Unit {0}
HasPriority (Truncate width suffix limit multiline try_color priority) = Unit {0}
HasPriority (MinWidth width priority) = Unit {0}
HasPriority (HeightIncrease height priority) = Unit {0}
HasPriority (HeightLimit height priority) = Unit {0}
HasPriority _ = ⊥

-- an option of cells that is about their width or height
abbrev pub SizesCells : Setting → Type 0
SizesCells (CellWrap at width keep_words) = Unit {0}
SizesCells (CellTruncate at width suffix limit multiline try_color) = Unit {0}
SizesCells (CellMinWidth at width fill) = Unit {0}
SizesCells (CellHeightIncrease at height) = Unit {0}
SizesCells (CellHeightLimit at height) = Unit {0}
SizesCells _ = ⊥

-- a setter of the configuration
abbrev pub IsSetter : Setting → Type 0
IsSetter (ColumnSpan place n) = Unit {0}
IsSetter (RowSpan place n) = Unit {0}
IsSetter (AlignHorizontal at value) = Unit {0}
IsSetter (AlignVertical at value) = Unit {0}
IsSetter (LineAlignment at on) = Unit {0}
IsSetter (TrimHorizontal at on) = Unit {0}
IsSetter (TrimVertical at on) = Unit {0}
IsSetter (Justification at fill) = Unit {0}
IsSetter (Padding at value) = Unit {0}
IsSetter (Margin value) = Unit {0}
IsSetter (Borders value) = Unit {0}
IsSetter (Color at color) = Unit {0}
IsSetter _ = ⊥

-- a setter of cells that has no option of its own
abbrev pub SetsCells : Setting → Type 0
SetsCells (AlignHorizontal at value) = Unit {0}
SetsCells (AlignVertical at value) = Unit {0}
SetsCells (LineAlignment at on) = Unit {0}
SetsCells (TrimHorizontal at on) = Unit {0}
SetsCells (TrimVertical at on) = Unit {0}
SetsCells (Justification at fill) = Unit {0}
SetsCells _ = ⊥

-- the setter of these cells that sets this
abbrev pub cell_setter : Entity → CellSetting → Setting
cell_setter at (CellAlignHorizontal value) = AlignHorizontal at value
cell_setter at (CellAlignVertical value) = AlignVertical at value
cell_setter at (CellLineAlignment on) = LineAlignment at on
cell_setter at (CellTrimHorizontal on) = TrimHorizontal at on
cell_setter at (CellTrimVertical on) = TrimVertical at on
cell_setter at (CellJustification fill) = Justification at fill
