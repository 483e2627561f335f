-- What becomes of a cell, apart from the functions of `Resizing` that walk over it. A cell that is cut shows the
-- longest prefix that fits, and a line that is wrapped the longest runs.
use Rattle.std.specs.Prelude.{◌≡◌, ◌≤◌, ◌<◌, ◌+◌, ◌-◌, ℕ, zero, suc, Bool, List, [], ◌∷◌, ◌++◌, map, replicate, slice_range}
use Rattle.std.specs.List.{AllByRecursion, AllZip, flat_map, join_by, repeat, sum_by}
use Rattle.grid_records_measure.specs.Cutting.{lacking, replacement}
use Rattle.grid_records_measure.specs.TextLines.{line_feed}
use Rattle.tabled_size_wrap.specs.FittingRuns.{AreRunsOf, run_cost}
use Rattle.tabled_size_wrap.specs.Fronts.{IsFrontOf}
use Rattle.tabled_size_wrap.specs.Showing.{unit_size}
use Rattle.tabled_size_wrap.specs.Units.{LineUnit, line_units}
use Rattle.tabled_size_wrap.specs.Cells.Resizing.{Wrap, Cut, Keep, Resize, cell_width, lines_in}

-- no unit costs more than the width
abbrev pub AreNarrow : ℕ → List LineUnit → Type 0
AreNarrow width units = AllByRecursion (λ unit. unit.cost ≤ width) units

-- how many items some units have
abbrev pub run_size : List LineUnit → ℕ
run_size units = sum_by unit_size units

-- what a run of units shows, the first of which begins at a place of its line; `mark` is U+FFFD as items
pub data ShowsRun {X : Type 0} (mark : List X) (width : ℕ) (line : List X) (place : ℕ) (run : List LineUnit) (shown : List X) : Type 0 where
  -- all its items, where no unit of it costs more than the width
  whole : AreNarrow width run → shown ≡ slice_range line place (place + run_size run) → ShowsRun mark width line place run shown
  -- or the items before the first unit that does, U+FFFD in each column that these leave, and the items after that unit
  parted : (before behind : List LineUnit) (wide : LineUnit) → run ≡ before ++ wide ∷ behind → AreNarrow width before → width < wide.cost →
      (let from = place + run_size before in
      let to = from + unit_size wide in
      shown ≡ slice_range line place from ++ (repeat (width - run_cost before) mark ++ slice_range line to (to + run_size behind)))
      → ShowsRun mark width line place run shown

-- what runs show, one after the other
abbrev pub ShowRuns : {X : Type 0} → List X → ℕ → List X → ℕ → List (List LineUnit) → List (List X) → Type 0
ShowRuns mark width line place [] lines = lines ≡ []
ShowRuns mark width line place (run ∷ runs) [] = ⊥
ShowRuns mark width line place (run ∷ runs) (shown ∷ lines) = ShowsRun mark width line place run shown × ShowRuns mark width line (place + run_size run) runs lines

-- in items, each of which represents a character; `bare` makes one of a character that is put in
module _ {X : Type 0} (character : X → ℕ) (bare : ℕ → X) where
  -- a cell that is cut at a width: its longest prefix whose lines but the last take fewer columns than
  -- the width, and the last one at most as many. Where something is left of the cell, U+FFFD is in each
  -- column that the last line lacks
  pub record IsCutCell (width : ℕ) (cell made : List X) : Type 0 where
    pub kept : List X
    pub left : List X
    pub front : IsFrontOf character width cell kept left
    pub marked : made ≡ kept ++ map bare (replicate (lacking width (map character kept) (map character left)) replacement)

  -- the lines that a line is wrapped into at a width: what the runs of its units show. Each run is the longest that
  -- fits of what the ones before it left
  abbrev pub AreLinesOfLine : ℕ → Bool → List X → List (List X) → Type 0
  AreLinesOfLine width keep_words line lines =
      (runs : List (List LineUnit)) × AreRunsOf width (line_units width keep_words (map character line)) runs
      × ShowRuns (bare replacement ∷ []) width line 0 runs lines

  -- a cell that is wrapped at a width: each of its lines by itself, with a line feed between each two that come of it
  pub record IsWrappedCell (width : ℕ) (keep_words : Bool) (cell made : List X) : Type 0 where
    pub lines : List (List (List X))
    pub wrapped : AllZip (AreLinesOfLine width keep_words) (lines_in character bare cell) lines
    pub joined : made ≡ join_by (λ line. line) (bare line_feed ∷ []) (flat_map (λ others. others) lines)

  -- a cell that is to stay, to be wrapped, or to be cut. At width 0 nothing is left of one that is wrapped. One that
  -- measures at most the width is not cut
  abbrev pub IsResizedCell : Resize → List X → List X → Type 0
  IsResizedCell Keep cell made = made ≡ cell
  IsResizedCell (Wrap zero keep_words) cell made = made ≡ []
  IsResizedCell (Wrap (suc n) keep_words) cell made = IsWrappedCell (suc n) keep_words cell made
  IsResizedCell (Cut width) cell made =
      (cell_width character bare cell ≤ width → made ≡ cell) × (width < cell_width character bare cell → IsCutCell width cell made)
