-- A setting leads to one outcome.
use Rattle.std.proofs.Common.{◌≡◌, ◌<◌, ◌-◌, nat_lt, ℕ, zero, suc, Bool, true, false, List, [], ◌∷◌, Option, None, Some, Result, Ok, Err, length, take, refl, ap, sym, subst, ◌∙◌, arith}
use Rattle.std.specs.Prelude.{IfSome, MatchResult, replicate, slice_get, string_bytes}
use Rattle.grid_config.specs.Looks.{Look}
use Rattle.grid_config_values.specs.declared.entity.Entity.{Entity}
use Rattle.grid_config_values.specs.declared.entity.Entity.TheVariants.{Global as EveryCell, Row as OneRow}
use Rattle.grid_config_values.specs.declared.fault.Fault.{Fault}
use Rattle.grid_config_values.specs.declared.fault.Fault.TheVariants.{Memory, Range, Room, Spans}
use Rattle.grid_config_values.specs.declared.position.Position.{Position}
use Rattle.tabled_height.specs.Heights.{HeightEstimate, estimated}
use Rattle.tabled_height.specs.Lines.{limited, raised}
use Rattle.tabled_height.specs.Steps.{GrownRows, MeasuredHeight, Resizes, ShrunkRows, WhereCells, has_no_cells, keeping_heights, limiting_rows, listing_heights}
use Rattle.tabled_list.specs.Amounts.{height_of, width_of}
use Rattle.tabled_list.specs.Lists.{LeadsThrough, RefusedAt}
use Rattle.tabled_list.specs.Priorities.{grows_so, measured_so, shrinks_so, NarrowsBy, WidensBy, RaisesBy, LimitsBy}
use Rattle.tabled_list.specs.Settings.{CellsChange, LookChanges, coloring, cutting_by, setting_step}
use Rattle.tabled_list.specs.declared.amount.Amount.{Amount}
use Rattle.tabled_list.specs.declared.setting.Setting.{Setting}
use Rattle.tabled_list.specs.declared.setting.Setting.TheVariants.{Wrap, CellWrap, Truncate, CellTruncate, MinWidth, CellMinWidth, Justify, WidthList, HeightList, HeightIncrease, HeightLimit, CellHeightIncrease, CellHeightLimit, ColumnSpan, RowSpan, AlignHorizontal, AlignVertical, LineAlignment, TrimHorizontal, TrimVertical, Justification, Padding, Margin, Borders, Color as Colored}
use Rattle.tabled_size_priority.specs.Choices.{IsGrownByChoice, IsShrunkByChoice}
use Rattle.tabled_size_priority.specs.declared.choice.Choice.{Choice}
use Rattle.tabled_size_priority.specs.declared.choice.Choice.TheVariants.{None as InTurns, MinLeft, MinRight, MaxLeft, MaxRight, Left, Right}
use Rattle.tabled_size_priority.specs.Columns.{by_width, from_column, from_side}
use Rattle.tabled_size_priority.specs.Laws.Alone.{side_one, widest_one}
use Rattle.tabled_size_priority.specs.Laws.Levels.{level_one}
use Rattle.tabled_size_priority.specs.Laws.Order.{order_one}
use Rattle.tabled_size_priority.specs.Laws.Raising.{narrowest_one}
use Rattle.tabled_size_priority.specs.Laws.Turns.{grown_turns_one, turns_one}
use Rattle.tabled_size_priority.specs.Shrinking.{shrunk_sum}
use Rattle.tabled_steps.specs.Changes.{changing}
use Rattle.tabled_steps.specs.Looks.{with_alignment_horizontal, with_alignment_vertical, with_borders, with_column_span, with_justification, with_line_alignment, with_margin, with_padding, with_row_span, with_trim_horizontal, with_trim_vertical}
use Rattle.tabled_steps.specs.Outcomes.{MayRefuseStep, all_sized}
use Rattle.tabled_steps.specs.States.{Outcome, Settles, State, column_count, looking, positive, settled}
use Rattle.tabled_width.specs.WrappedOrCut.{wrapping_each, justifying, wrapping_wider}
use Rattle.tabled_width.specs.Cutting.{truncating}
use Rattle.tabled_width.specs.Filling.{filling}
use Rattle.tabled_width.specs.Lists.{with_width_list}
use Rattle.tabled_list.specs.Stripping.Stripping.{IsOfTable}
use Rattle.tabled_width.specs.WholeTables.Rooms.{column_widths, empty_widths}
use Rattle.tabled_width.specs.WholeTables.Steps.{Measured, Then}
use Rattle.tabled_width.specs.WholeTables.Tables.{TableSizes, Grown, Narrows, NarrowsTable, Shrunk, Where, Widens, WidensTable, table_sizes, has_cells, keeping, narrowed_state}

abbrev pub One : (Outcome → Type 0) → Type 0
One step = (a b : Outcome) → step a → step b → a ≡ b

one-equal : (outcome : Outcome) → One (λ a. outcome ≡ a)
one-equal outcome a b is bs = sym is ∙ bs

one-settles : (hint : Option Entity) (step : State → Outcome → Type 0) (s : State) → One (step s) → One (Settles hint step s)
one-settles hint step s one a b is bs = sym is.2 ∙ ap (settled hint) (one is.0 bs.0 is.1 bs.1) ∙ bs.2

one-then : {A : Type 0} (worked : Result A Fault) (next : A → Outcome → Type 0) → ((a : A) → One (next a)) → One (Then worked next)
one-then (Ok a) next one = one a
one-then (Err fault) next one = one-equal (Err fault)

one-match : {A : Type 0} (worked : Result A Fault) (next : A → Outcome → Type 0) → ((a : A) → One (next a)) → One (λ outcome. MatchResult worked (λ a. next a outcome) (λ fault. Err fault ≡ outcome))
one-match (Ok a) next one = one a
one-match (Err fault) next one = one-equal (Err fault)

one-where : (b : Bool) (step : State → Outcome → Type 0) (s : State) → One (step s) → One (Where b step s)
one-where true step s one = one
one-where false step s one = one-equal (Ok s)

-- a measurement that gives one size
abbrev pub GivesOne : (ℕ → List (List (List ℕ)) → Look → Result ℕ Fault → Type 0) → Type 0
GivesOne measures = (columns : ℕ) (rows : List (List (List ℕ))) (look : Look) (a b : Result ℕ Fault) → measures columns rows look a → measures columns rows look b → a ≡ b

module _ (measures : ℕ → List (List (List ℕ)) → Look → Result ℕ Fault → Type 0) (gives : GivesOne measures) (step : ℕ → State → Outcome → Type 0) (s : State) (one : (n : ℕ) → One (step n s)) where
  one-measured : One (Measured measures step s)
  one-measured a b is bs =
      let same = gives (column_count s.rows) s.rows s.look is.0 bs.0 is.1 bs.1 in
      one-then bs.0 (λ n. step n s) one a b (subst (λ (size : Result ℕ Fault). Then size (λ n. step n s) a) same is.2) bs.2

  one-measured_height : One (MeasuredHeight measures step s)
  one-measured_height a b is bs =
      let same = gives (column_count s.rows) s.rows s.look is.0 bs.0 is.1 bs.1 in
      one-match bs.0 (λ n. step n s) one a b (subst (λ (size : Result ℕ Fault). MatchResult size (λ n. step n s a) (λ fault. Err fault ≡ a)) same is.2) bs.2

module _ (shrinks : List ℕ → ℕ → List ℕ → List ℕ → Type 0) (one : (least : List ℕ) (by : ℕ) (sizes a b : List ℕ) → shrinks least by sizes a → shrinks least by sizes b → a ≡ b) where
  module _ (change : ℕ → List ℕ → Option (List ℕ)) where
    one-shrunk : (widths : List ℕ) (by : ℕ) (s : State) → One (Shrunk (shrinks_so shrinks) tt change widths by s)
    one-shrunk widths by s =
        one-then (all_sized (empty_widths s.look (column_count s.rows) (length s.rows)))
        (λ least outcome. (left : List ℕ) × ((after : Unit {0}) × shrinks_so shrinks tt least by widths after left) × (Ok (narrowed_state change least left s) ≡ outcome))
        (λ least a b is bs. sym is.2 ∙ ap (λ (left : List ℕ). Ok (narrowed_state change least left s)) (one least by widths is.0 bs.0 is.1.1 bs.1.1) ∙ bs.2)

    one-narrows : (asked : ℕ) (s : State) → One (Narrows (shrinks_so shrinks) tt change asked s)
    one-narrows asked s =
        let next : TableSizes → Outcome → Type 0 = λ it. Where (nat_lt asked it.whole) (Shrunk (shrinks_so shrinks) tt change (column_widths (column_count s.rows) it.widths) (it.whole - asked)) (keeping it s) in
        one-then (table_sizes s.look (column_count s.rows) s.rows s.sizes) next
        (λ it. one-where (nat_lt asked it.whole) (Shrunk (shrinks_so shrinks) tt change (column_widths (column_count s.rows) it.widths) (it.whole - asked)) (keeping it s)
        (one-shrunk (column_widths (column_count s.rows) it.widths) (it.whole - asked) (keeping it s)))

    pub one-narrows_table : (measures : ℕ → List (List (List ℕ)) → Look → Result ℕ Fault → Type 0) → GivesOne measures → (s : State) → One (NarrowsTable (shrinks_so shrinks) tt change measures s)
    one-narrows_table measures gives s =
        one-where (has_cells s) (Measured measures (Narrows (shrinks_so shrinks) tt change)) s (one-measured measures gives (Narrows (shrinks_so shrinks) tt change) s (λ n. one-narrows n s))

  shrunk_rows : (height : ℕ) (estimate : HeightEstimate) (a b : Option (List ℕ)) → ShrunkRows (shrinks_so shrinks) tt height estimate a → ShrunkRows (shrinks_so shrinks) tt height estimate b → a ≡ b
  shrunk_rows height estimate None None is bs = refl
  shrunk_rows height estimate None (Some b) is bs = absurd (omega (arith, is, bs.0))
  shrunk_rows height estimate (Some a) None is bs = absurd (omega (arith, is.0, bs))
  shrunk_rows height estimate (Some a) (Some b) is bs = ap Some (one (replicate (length estimate.heights) 0) (estimate.lines - height) estimate.heights a b is.2 bs.2)

module _ (grows : ℕ → List ℕ → List ℕ → Type 0) (one : (by : ℕ) (sizes a b : List ℕ) → grows by sizes a → grows by sizes b → a ≡ b) where
  one-grown : (widths : List ℕ) (by : ℕ) (s : State) → One (Grown (grows_so grows) tt widths by s)
  one-grown widths by s a b is bs = sym is.2 ∙ ap (λ (more : List ℕ). Ok (record s { sizes = record s.sizes { widths = Some more } })) (one by widths is.0 bs.0 is.1.1 bs.1.1) ∙ bs.2

  one-widens : (asked : ℕ) (s : State) → One (Widens (grows_so grows) tt asked s)
  one-widens asked s =
      let next : TableSizes → Outcome → Type 0 = λ it. Where (nat_lt it.whole asked) (Grown (grows_so grows) tt (column_widths (column_count s.rows) it.widths) (asked - it.whole)) (keeping it s) in
      one-then (table_sizes s.look (column_count s.rows) s.rows s.sizes) next
      (λ it. one-where (nat_lt it.whole asked) (Grown (grows_so grows) tt (column_widths (column_count s.rows) it.widths) (asked - it.whole)) (keeping it s)
      (one-grown (column_widths (column_count s.rows) it.widths) (asked - it.whole) (keeping it s)))

  pub one-widens_table : (measures : ℕ → List (List (List ℕ)) → Look → Result ℕ Fault → Type 0) → GivesOne measures → (s : State) → One (WidensTable (grows_so grows) tt measures s)
  one-widens_table measures gives s =
      one-where (has_cells s) (Measured measures (Widens (grows_so grows) tt)) s (one-measured measures gives (Widens (grows_so grows) tt) s (λ n. one-widens n s))

  grown_rows : (height : ℕ) (estimate : HeightEstimate) (a b : Option (List ℕ)) → GrownRows (grows_so grows) tt height estimate a → GrownRows (grows_so grows) tt height estimate b → a ≡ b
  grown_rows height estimate None None is bs = refl
  grown_rows height estimate None (Some b) is bs = absurd (omega (arith, is, bs.0))
  grown_rows height estimate (Some a) None is bs = absurd (omega (arith, is.0, bs))
  grown_rows height estimate (Some a) (Some b) is bs = ap Some (one (height - estimate.lines) estimate.heights a b is.2 bs.2)

one-cells : (step : State → Outcome → Type 0) (s : State) → One (step s) → One (WhereCells step s)
one-cells step s one a b is bs = by (has_no_cells s) refl
  where
    by : (test : Bool) → has_no_cells s ≡ test → a ≡ b
    by true e = sym (is.without_cells e) ∙ bs.without_cells e
    by false e = one a b (is.with_cells e) (bs.with_cells e)

one-resizes : (finds : HeightEstimate → Option (List ℕ) → Type 0) (change : Option (List ℕ) → State → State) (s : State)
    → ((estimate : HeightEstimate) (a b : Option (List ℕ)) → finds estimate a → finds estimate b → a ≡ b) → One (Resizes finds change s)
one-resizes finds change s one =
    one-match (estimated s.look (column_count s.rows) s.rows) (λ estimate outcome. (sizes : Option (List ℕ)) × finds estimate sizes × (Ok (change sizes s) ≡ outcome))
    (λ estimate a b is bs. sym is.2 ∙ ap (λ (sizes : Option (List ℕ)). Ok (change sizes s)) (one estimate is.0 bs.0 is.1 bs.1) ∙ bs.2)

-- ---- priorities by name

pub one-shrunk_list : (choice : Choice) (least : List ℕ) (by : ℕ) (sizes a b : List ℕ) → IsShrunkByChoice choice least by sizes a → IsShrunkByChoice choice least by sizes b → a ≡ b
one-shrunk_list InTurns least by sizes = turns_one (from_column 0 (length sizes)) least sizes (shrunk_sum least sizes by)
one-shrunk_list MinLeft least by sizes = order_one (by_width false sizes) least sizes (shrunk_sum least sizes by)
one-shrunk_list MinRight least by sizes = order_one (by_width true sizes) least sizes (shrunk_sum least sizes by)
one-shrunk_list MaxLeft least by sizes = level_one (from_side false (length sizes)) least sizes (shrunk_sum least sizes by)
one-shrunk_list MaxRight least by sizes = level_one (from_side true (length sizes)) least sizes (shrunk_sum least sizes by)
one-shrunk_list Left least by sizes = order_one (from_side false (length sizes)) least sizes (shrunk_sum least sizes by)
one-shrunk_list Right least by sizes = order_one (from_side true (length sizes)) least sizes (shrunk_sum least sizes by)

pub one-grown_list : (choice : Choice) (by : ℕ) (sizes a b : List ℕ) → IsGrownByChoice choice by sizes a → IsGrownByChoice choice by sizes b → a ≡ b
one-grown_list InTurns by sizes = grown_turns_one 0 by sizes
one-grown_list MinLeft by sizes = narrowest_one false by sizes
one-grown_list MinRight by sizes = narrowest_one true by sizes
one-grown_list MaxLeft by sizes = widest_one false by sizes
one-grown_list MaxRight by sizes = widest_one true by sizes
one-grown_list Left by sizes = side_one false by sizes
one-grown_list Right by sizes = side_one true by sizes

-- ---- settings

width-one : (amount : Amount) → GivesOne (λ columns rows look outcome. width_of amount columns rows look ≡ outcome)
width-one amount columns rows look a b is bs = sym is ∙ bs

height-one : (amount : Amount) → GivesOne (λ columns rows look outcome. height_of amount columns rows look ≡ outcome)
height-one amount columns rows look a b is bs = sym is ∙ bs

one-look : (change : Look → Look) (s : State) → One (LookChanges change s)
one-look change s = one-settles (Some EveryCell) (λ s outcome. looking change s ≡ outcome) s (one-equal (looking change s))

one-texts : (at : Entity) (width : Amount) (change : ℕ → List ℕ → Option (List ℕ)) (s : State) → One (CellsChange at width change s)
one-texts at width change s =
    one-settles (Some EveryCell) (Measured (λ columns rows look outcome. width_of width columns rows look ≡ outcome) (λ n s outcome. changing (λ _. change n) at s ≡ outcome)) s
    (one-measured (λ columns rows look outcome. width_of width columns rows look ≡ outcome) (width-one width) (λ n s outcome. changing (λ _. change n) at s ≡ outcome) s (λ n. one-equal (changing (λ _. change n) at s)))

one-lines : (at : Entity) (height : Amount) (change : ℕ → Position → List ℕ → Option (List ℕ)) (s : State)
    → One (Settles (Some EveryCell) (MeasuredHeight (λ columns rows look outcome. height_of height columns rows look ≡ outcome) (λ n s outcome. changing (change n) at s ≡ outcome)) s)
one-lines at height change s =
    one-settles (Some EveryCell) (MeasuredHeight (λ columns rows look outcome. height_of height columns rows look ≡ outcome) (λ n s outcome. changing (change n) at s ≡ outcome)) s
    (one-measured_height (λ columns rows look outcome. height_of height columns rows look ≡ outcome) (height-one height) (λ n s outcome. changing (change n) at s ≡ outcome) s (λ n. one-equal (changing (change n) at s)))

pub one-outcome : (setting : Setting) (s : State) → One (setting_step setting s)
one-outcome (Wrap width keep_words priority) s =
    one-settles (Some (OneRow 0)) (NarrowsBy (IsShrunkByChoice priority) (wrapping_each keep_words) (width_of width)) s
    (one-narrows_table (IsShrunkByChoice priority) (one-shrunk_list priority) (wrapping_each keep_words) (measured_so (width_of width)) (width-one width) s)
one-outcome (CellWrap at width keep_words) s = one-texts at width (wrapping_wider keep_words) s
one-outcome (Truncate width suffix limit multiline try_color priority) s =
    let change = truncating (cutting_by (string_bytes suffix) limit multiline try_color) in
    one-settles None (NarrowsBy (IsShrunkByChoice priority) change (width_of width)) s
    (one-narrows_table (IsShrunkByChoice priority) (one-shrunk_list priority) change (measured_so (width_of width)) (width-one width) s)
one-outcome (CellTruncate at width suffix limit multiline try_color) s = one-texts at width (truncating (cutting_by (string_bytes suffix) limit multiline try_color)) s
one-outcome (MinWidth width priority) s =
    one-settles None (WidensBy (IsGrownByChoice priority) (width_of width)) s (one-widens_table (IsGrownByChoice priority) (one-grown_list priority) (measured_so (width_of width)) (width-one width) s)
one-outcome (CellMinWidth at width fill) s = one-texts at width (filling fill) s
one-outcome (Justify width) s = one-texts EveryCell width justifying s
one-outcome (WidthList widths) s = one-settles None (λ s outcome. with_width_list widths.items s ≡ outcome) s (one-equal (with_width_list widths.items s))
one-outcome (HeightList heights) s = one-settles None (λ s outcome. listing_heights heights.items s ≡ outcome) s (one-equal (listing_heights heights.items s))
one-outcome (HeightIncrease height priority) s =
    let grows = IsGrownByChoice priority in
    let step : ℕ → State → Outcome → Type 0 = λ n. Resizes (GrownRows (grows_so grows) tt n) keeping_heights in
    one-settles None (RaisesBy grows (height_of height)) s
    (one-cells (MeasuredHeight (measured_so (height_of height)) step) s
    (one-measured_height (measured_so (height_of height)) (height-one height) step s
    (λ n. one-resizes (GrownRows (grows_so grows) tt n) keeping_heights s (grown_rows grows (one-grown_list priority) n))))
one-outcome (HeightLimit height priority) s =
    let shrinks = IsShrunkByChoice priority in
    let step : ℕ → State → Outcome → Type 0 = λ n. Resizes (ShrunkRows (shrinks_so shrinks) tt n) limiting_rows in
    one-settles None (LimitsBy shrinks (height_of height)) s
    (one-cells (MeasuredHeight (measured_so (height_of height)) step) s
    (one-measured_height (measured_so (height_of height)) (height-one height) step s
    (λ n. one-resizes (ShrunkRows (shrinks_so shrinks) tt n) limiting_rows s (shrunk_rows shrinks (one-shrunk_list priority) n))))
one-outcome (CellHeightIncrease at height) s = one-lines at height raised s
one-outcome (CellHeightLimit at height) s = one-lines at height limited s
one-outcome (ColumnSpan place n) s = one-settles (Some EveryCell) (λ s outcome. positive n (looking (with_column_span place n)) s ≡ outcome) s (one-equal (positive n (looking (with_column_span place n)) s))
one-outcome (RowSpan place n) s = one-settles (Some EveryCell) (λ s outcome. positive n (looking (with_row_span place n)) s ≡ outcome) s (one-equal (positive n (looking (with_row_span place n)) s))
one-outcome (AlignHorizontal at value) s = one-look (with_alignment_horizontal at value) s
one-outcome (AlignVertical at value) s = one-look (with_alignment_vertical at value) s
one-outcome (LineAlignment at on) s = one-look (with_line_alignment at on) s
one-outcome (TrimHorizontal at on) s = one-look (with_trim_horizontal at on) s
one-outcome (TrimVertical at on) s = one-look (with_trim_vertical at on) s
one-outcome (Justification at fill) s = one-look (with_justification at fill) s
one-outcome (Padding at value) s = one-look (with_padding at value) s
one-outcome (Margin value) s = one-look (with_margin value) s
one-outcome (Borders value) s = one-look (with_borders value) s
one-outcome (Colored at color) s = one-settles (Some EveryCell) (λ s outcome. coloring at color s ≡ outcome) s (one-equal (coloring at color s))

-- ---- lists

abbrev done : State → Outcome
done s = Ok s

ok-same : (a b : State) → done a ≡ done b → a ≡ b
ok-same a b is = cc is

pub one-run : (settings : List Setting) (s a b : State) → LeadsThrough settings s a → LeadsThrough settings s b → a ≡ b
one-run [] s a b is bs = sym is ∙ bs
one-run (setting ∷ settings) s a b is bs =
    let next : is.0 ≡ bs.0 = ok-same is.0 bs.0 (one-outcome setting s (Ok is.0) (Ok bs.0) is.1 bs.1) in
    one-run settings bs.0 a b (subst (λ (s : State). LeadsThrough settings s a) next is.2) bs.2

-- ---- refusals, memory aside

named : (step : Outcome → Type 0) (fault : Fault) → IsOfTable fault → MayRefuseStep fault step → step (Err fault)
named step Memory not_memory is = absurd not_memory
named step Range not_memory is = is
named step Spans not_memory is = is
named step (Room row column) not_memory is = is

-- a list that runs to its end is refused nowhere
pub no-refusal : (settings : List Setting) (s last new : State) (index : ℕ) (fault : Fault) → IsOfTable fault → LeadsThrough settings s last → LeadsThrough (take index settings) s new → index < length settings
    → IfSome (slice_get settings index) (λ setting. MayRefuseStep fault (setting_step setting new)) → ⊥
no-refusal [] s last new index fault not_memory runs before inside is = omega (arith, inside)
no-refusal (setting ∷ settings) s last new zero fault not_memory runs before inside is =
    let refused = named (setting_step setting s) fault not_memory (subst (λ (s : State). MayRefuseStep fault (setting_step setting s)) (sym before) is) in
    let no : Ok runs.0 ≡ Err fault = one-outcome setting s (Ok runs.0) (Err fault) runs.1 refused in
    cc no
no-refusal (setting ∷ settings) s last new (suc index) fault not_memory runs before inside is =
    let next : before.0 ≡ runs.0 = ok-same before.0 runs.0 (one-outcome setting s (Ok before.0) (Ok runs.0) before.1 runs.1) in
    no-refusal settings runs.0 last new index fault not_memory runs.2 (subst (λ (s : State). LeadsThrough (take index settings) s new) next before.2) (omega (arith, inside)) is

-- two refusals of one list are of one setting, and of one name
module _ (a b : State) (fault other : Fault) (named_fault : IsOfTable fault) (named_other : IsOfTable other) where
  same_fault : (setting : Setting) (s : State) → MayRefuseStep fault (setting_step setting s) → MayRefuseStep other (setting_step setting s) → fault ≡ other
  same_fault setting s x y =
      let e = one-outcome setting s (Err fault) (Err other) (named (setting_step setting s) fault named_fault x) (named (setting_step setting s) other named_other y) in
      cc e

  not_both : (setting : Setting) (s next : State) (fault : Fault) → IsOfTable fault → setting_step setting s (Ok next) → MayRefuseStep fault (setting_step setting s) → ⊥
  not_both setting s next fault is_named step is = let no = one-outcome setting s (Ok next) (Err fault) step (named (setting_step setting s) fault is_named is) in cc no

  walk : (settings : List Setting) (s : State) (i j : ℕ) → i < length settings → j < length settings → LeadsThrough (take i settings) s a → LeadsThrough (take j settings) s b
      → IfSome (slice_get settings i) (λ setting. MayRefuseStep fault (setting_step setting a)) → IfSome (slice_get settings j) (λ setting. MayRefuseStep other (setting_step setting b)) → (i ≡ j) × (fault ≡ other)
  walk [] s i j i_in j_in is bs x y = absurd (omega (arith, i_in))
  walk (setting ∷ settings) s zero zero i_in j_in is bs x y =
      (refl, same_fault setting s (subst (λ (s : State). MayRefuseStep fault (setting_step setting s)) (sym is) x) (subst (λ (s : State). MayRefuseStep other (setting_step setting s)) (sym bs) y))
  walk (setting ∷ settings) s zero (suc j) i_in j_in is bs x y =
      absurd (not_both setting s bs.0 fault named_fault bs.1 (subst (λ (s : State). MayRefuseStep fault (setting_step setting s)) (sym is) x))
  walk (setting ∷ settings) s (suc i) zero i_in j_in is bs x y =
      absurd (not_both setting s is.0 other named_other is.1 (subst (λ (s : State). MayRefuseStep other (setting_step setting s)) (sym bs) y))
  walk (setting ∷ settings) s (suc i) (suc j) i_in j_in is bs x y =
      let next : is.0 ≡ bs.0 = ok-same is.0 bs.0 (one-outcome setting s (Ok is.0) (Ok bs.0) is.1 bs.1) in
      let others = walk settings bs.0 i j (omega (arith, i_in)) (omega (arith, j_in)) (subst (λ (s : State). LeadsThrough (take i settings) s a) next is.2) bs.2 x y in
      (ap suc others.0, others.1)

  pub one-refusal : (settings : List Setting) (s : State) (i j : ℕ) → RefusedAt settings s a i fault → RefusedAt settings s b j other → (i ≡ j) × (fault ≡ other)
  one-refusal settings s i j is bs = walk settings s i j is.inside bs.inside is.before bs.before is.refused bs.refused
