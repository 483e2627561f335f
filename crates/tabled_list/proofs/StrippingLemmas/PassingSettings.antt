-- Each setting passes through a change of the texts by which no measure changes, and so does a list of settings.
use Rattle.std.proofs.Common.{◌≡◌, ℕ, zero, suc, List, [], ◌∷◌, Option, None, Some, Ok, Err, take, ap, refl, subst}
use Rattle.std.specs.List.{AllByRecursion}
use Rattle.std.specs.Prelude.{IfSome, slice_get, string_bytes}
use Rattle.grid_config.specs.Looks.{Look}
use Rattle.grid_config_values.specs.declared.entity.Entity.{Entity}
use Rattle.grid_config_values.specs.declared.entity.Entity.TheVariants.{Global as EveryCell, Row as OneRow}
use Rattle.grid_config_values.specs.declared.fault.Fault.{Fault}
use Rattle.grid_config_values.specs.declared.fault.Fault.TheVariants.{Memory, Range, Room, Spans}
use Rattle.grid_config_values.specs.declared.position.Position.{Position}
use Rattle.papergrid_picture.specs.Shown.{AreWholeTexts}
use Rattle.tabled_height.specs.Lines.{limited, raised}
use Rattle.tabled_height.specs.Steps.{listing_heights}
use Rattle.tabled_list.specs.Amounts.{height_of, width_of}
use Rattle.tabled_list.specs.Lists.{LeadsThrough, RefusedAt}
use Rattle.tabled_list.specs.Priorities.{LimitsBy, NarrowsBy, RaisesBy, WidensBy, grows_so, measured_so, shrinks_so}
use Rattle.tabled_list.specs.Settings.{CellsChange, LookChanges, coloring, cutting_by, setting_step}
use Rattle.tabled_list.specs.declared.amount.Amount.{Amount}
use Rattle.tabled_list.specs.declared.setting.Setting.{Setting}
use Rattle.tabled_list.specs.declared.setting.Setting.TheVariants.{Wrap, CellWrap, Truncate, CellTruncate, MinWidth, CellMinWidth, Justify, WidthList, HeightList, HeightIncrease, HeightLimit, CellHeightIncrease, CellHeightLimit, ColumnSpan, RowSpan, AlignHorizontal, AlignVertical, LineAlignment, TrimHorizontal, TrimVertical, Justification, Padding, Margin, Borders, Color as Colored}
use Rattle.tabled_size_priority.specs.Choices.{IsGrownByChoice, IsShrunkByChoice}
use Rattle.tabled_steps.specs.Changes.{changing}
use Rattle.tabled_steps.specs.Looks.{with_alignment_horizontal, with_alignment_vertical, with_borders, with_column_span, with_justification, with_line_alignment, with_margin, with_padding, with_row_span, with_trim_horizontal, with_trim_vertical}
use Rattle.tabled_steps.specs.Outcomes.{MayRefuseStep}
use Rattle.tabled_steps.specs.States.{State, looking, positive}
use Rattle.tabled_width.specs.WrappedOrCut.{wrapping_each, justifying, wrapping_wider}
use Rattle.tabled_width.specs.Cutting.{truncating}
use Rattle.tabled_width.specs.Filling.{filling}
use Rattle.tabled_width.specs.Lists.{with_width_list}
use Rattle.tabled_width.specs.Steps.{Measured}
use Rattle.tabled_height.specs.Steps.{MeasuredHeight}
use Rattle.tabled_list.proofs.StrippingLemmas.TextsByPlace.{state_by}
use Rattle.tabled_list.proofs.StrippingLemmas.PassingSteps.{Commutes, IsBlind, Passes, changes_texts, equals, height_blind, limits_table, lists_heights, lists_widths, looks, measured, measured_height, narrows_table, positives, raises_table, settles, width_blind, widens_table}

module _ (f : Position → List ℕ → List ℕ) (blind : IsBlind f) where
  -- what becomes of texts by any width passes through
  abbrev pub EachCommutes : (ℕ → List ℕ → Option (List ℕ)) → Type 0
  EachCommutes change = (n : ℕ) → Commutes f blind (λ p. change n)

  -- the texts that a setting changes pass through
  abbrev pub TextsPass : Setting → Type 0
  TextsPass (Wrap width keep_words priority) = EachCommutes (wrapping_each keep_words)
  TextsPass (CellWrap at width keep_words) = EachCommutes (wrapping_wider keep_words)
  TextsPass (Truncate width suffix limit multiline try_color priority) = EachCommutes (truncating (cutting_by (string_bytes suffix) limit multiline try_color))
  TextsPass (CellTruncate at width suffix limit multiline try_color) = EachCommutes (truncating (cutting_by (string_bytes suffix) limit multiline try_color))
  TextsPass (CellMinWidth at width fill) = EachCommutes (filling fill)
  TextsPass (Justify width) = EachCommutes justifying
  TextsPass (HeightLimit height priority) = (n : ℕ) → Commutes f blind (limited n)
  TextsPass (CellHeightIncrease at height) = (n : ℕ) → Commutes f blind (raised n)
  TextsPass (CellHeightLimit at height) = (n : ℕ) → Commutes f blind (limited n)
  TextsPass _ = Unit {0}

  look : (change : Look → Look) → Passes f blind (LookChanges change)
  look change = settles f blind (Some EveryCell) (λ s outcome. looking change s ≡ outcome) (looks f blind change)

  cells : (at : Entity) (width : Amount) (change : ℕ → List ℕ → Option (List ℕ)) → EachCommutes change → Passes f blind (CellsChange at width change)
  cells at width change commutes =
      settles f blind (Some EveryCell) (Measured (λ columns rows look outcome. width_of width columns rows look ≡ outcome) (λ n s outcome. changing (λ _. change n) at s ≡ outcome))
      (measured f blind (λ columns rows look outcome. width_of width columns rows look ≡ outcome) (width_blind f blind width) (λ n s outcome. changing (λ _. change n) at s ≡ outcome)
      (λ n. changes_texts f blind (λ _. change n) (commutes n) at))

  lines : (at : Entity) (height : Amount) (change : ℕ → Position → List ℕ → Option (List ℕ)) → ((n : ℕ) → Commutes f blind (change n))
      → Passes f blind (MeasuredHeight (λ columns rows look outcome. height_of height columns rows look ≡ outcome) (λ n s outcome. changing (change n) at s ≡ outcome))
  lines at height change commutes =
      measured_height f blind (λ columns rows look outcome. height_of height columns rows look ≡ outcome) (height_blind f blind height) (λ n s outcome. changing (change n) at s ≡ outcome)
      (λ n. changes_texts f blind (change n) (commutes n) at)

  pub passes : (setting : Setting) → TextsPass setting → Passes f blind (setting_step setting)
  passes (Wrap width keep_words priority) commutes =
      settles f blind (Some (OneRow 0)) (NarrowsBy (IsShrunkByChoice priority) (wrapping_each keep_words) (width_of width))
      (narrows_table f blind (shrinks_so (IsShrunkByChoice priority)) tt (wrapping_each keep_words) commutes (measured_so (width_of width)) (width_blind f blind width))
  passes (CellWrap at width keep_words) commutes = cells at width (wrapping_wider keep_words) commutes
  passes (Truncate width suffix limit multiline try_color priority) commutes =
      let change = truncating (cutting_by (string_bytes suffix) limit multiline try_color) in
      settles f blind None (NarrowsBy (IsShrunkByChoice priority) change (width_of width))
      (narrows_table f blind (shrinks_so (IsShrunkByChoice priority)) tt change commutes (measured_so (width_of width)) (width_blind f blind width))
  passes (CellTruncate at width suffix limit multiline try_color) commutes = cells at width (truncating (cutting_by (string_bytes suffix) limit multiline try_color)) commutes
  passes (MinWidth width priority) commutes =
      settles f blind None (WidensBy (IsGrownByChoice priority) (width_of width))
      (widens_table f blind (grows_so (IsGrownByChoice priority)) tt (measured_so (width_of width)) (width_blind f blind width))
  passes (CellMinWidth at width fill) commutes = cells at width (filling fill) commutes
  passes (Justify width) commutes = cells EveryCell width justifying commutes
  passes (WidthList widths) commutes = settles f blind None (λ s outcome. with_width_list widths.items s ≡ outcome) (lists_widths f blind widths.items)
  passes (HeightList heights) commutes = settles f blind None (λ s outcome. listing_heights heights.items s ≡ outcome) (lists_heights f blind heights.items)
  passes (HeightIncrease height priority) commutes =
      settles f blind None (RaisesBy (IsGrownByChoice priority) (height_of height)) (raises_table f blind (grows_so (IsGrownByChoice priority)) tt (measured_so (height_of height)) (height_blind f blind height))
  passes (HeightLimit height priority) commutes =
      settles f blind None (LimitsBy (IsShrunkByChoice priority) (height_of height)) (limits_table f blind commutes (shrinks_so (IsShrunkByChoice priority)) tt (measured_so (height_of height)) (height_blind f blind height))
  passes (CellHeightIncrease at height) commutes =
      settles f blind (Some EveryCell) (MeasuredHeight (λ columns rows look outcome. height_of height columns rows look ≡ outcome) (λ n s outcome. changing (raised n) at s ≡ outcome)) (lines at height raised commutes)
  passes (CellHeightLimit at height) commutes =
      settles f blind (Some EveryCell) (MeasuredHeight (λ columns rows look outcome. height_of height columns rows look ≡ outcome) (λ n s outcome. changing (limited n) at s ≡ outcome)) (lines at height limited commutes)
  passes (ColumnSpan place n) commutes = settles f blind (Some EveryCell) (λ s outcome. positive n (looking (with_column_span place n)) s ≡ outcome) (positives f blind n (with_column_span place n))
  passes (RowSpan place n) commutes = settles f blind (Some EveryCell) (λ s outcome. positive n (looking (with_row_span place n)) s ≡ outcome) (positives f blind n (with_row_span place n))
  passes (AlignHorizontal at value) commutes = look (with_alignment_horizontal at value)
  passes (AlignVertical at value) commutes = look (with_alignment_vertical at value)
  passes (LineAlignment at on) commutes = look (with_line_alignment at on)
  passes (TrimHorizontal at on) commutes = look (with_trim_horizontal at on)
  passes (TrimVertical at on) commutes = look (with_trim_vertical at on)
  passes (Justification at fill) commutes = look (with_justification at fill)
  passes (Padding at value) commutes = look (with_padding at value)
  passes (Margin value) commutes = look (with_margin value)
  passes (Borders value) commutes = look (with_borders value)
  passes (Colored at color) commutes = settles f blind (Some EveryCell) (λ s outcome. coloring at color s ≡ outcome) (equals f blind (coloring at color) (λ s whole. (refl, whole)))

  -- ---- lists

  abbrev pub AllPass : List Setting → Type 0
  AllPass settings = AllByRecursion TextsPass settings

  pub runs-pass : (settings : List Setting) → AllPass settings → (s last : State) → AreWholeTexts s.rows → LeadsThrough settings s last → LeadsThrough settings (state_by f s) (state_by f last) × AreWholeTexts last.rows
  runs-pass [] all s last whole is = (ap (state_by f) is, subst (λ (s : State). AreWholeTexts s.rows) is whole)
  runs-pass (setting ∷ settings) all s last whole is =
      let one = passes setting all.0 s (Ok is.0) whole is.1 in
      let others = runs-pass settings all.1 is.0 last one.1 is.2 in
      ((state_by f is.0, one.0, others.0), others.1)

  refuse-pass : (setting : Setting) → TextsPass setting → (fault : Fault) (s : State) → AreWholeTexts s.rows → MayRefuseStep fault (setting_step setting s) → MayRefuseStep fault (setting_step setting (state_by f s))
  refuse-pass setting pass Memory s whole is = tt
  refuse-pass setting pass Range s whole is = (passes setting pass s (Err Range) whole is).0
  refuse-pass setting pass Spans s whole is = (passes setting pass s (Err Spans) whole is).0
  refuse-pass setting pass (Room row column) s whole is = (passes setting pass s (Err (Room row column)) whole is).0

  refused-here : (settings : List Setting) → AllPass settings → (index : ℕ) (fault : Fault) (s : State) → AreWholeTexts s.rows
      → IfSome (slice_get settings index) (λ setting. MayRefuseStep fault (setting_step setting s)) → IfSome (slice_get settings index) (λ setting. MayRefuseStep fault (setting_step setting (state_by f s)))
  refused-here [] all index fault s whole is = is
  refused-here (setting ∷ settings) all zero fault s whole is = refuse-pass setting all.0 fault s whole is
  refused-here (setting ∷ settings) all (suc index) fault s whole is = refused-here settings all.1 index fault s whole is

  take-pass : (n : ℕ) (settings : List Setting) → AllPass settings → AllPass (take n settings)
  take-pass zero settings all = tt
  take-pass (suc n) [] all = tt
  take-pass (suc n) (setting ∷ settings) all = (all.0, take-pass n settings all.1)

  pub refused-pass : (settings : List Setting) → AllPass settings → (old new : State) (index : ℕ) (fault : Fault) → AreWholeTexts old.rows → RefusedAt settings old new index fault → RefusedAt settings (state_by f old) (state_by f new) index fault
  refused-pass settings all old new index fault whole is =
      let before = runs-pass (take index settings) (take-pass index settings all) old new whole is.before in
      record { inside = is.inside; before = before.0; refused = refused-here settings all index fault new before.1 is.refused }
