-- What the options of widths are made of.
use Rattle.std.specs.Prelude.{ℕ, Bool}
use Rattle.tabled_width.specs.declared.justify.Justify.{Justify}
use Rattle.tabled_width.specs.declared.min_width.MinWidth.{MinWidth}
use Rattle.tabled_width.specs.declared.truncate.Truncate.{Truncate}
use Rattle.tabled_width.specs.declared.wrap.Wrap.{Wrap}
use Rattle.tabled_width_texts.specs.Cutting.{SuffixedCut}

-- the width, whether words are kept whole that fit, and the priority of the columns
pub record Wrapping (W P : Type 0) : Type 0 where
  pub width : W
  pub keep_words : Bool
  pub priority : P

abbrev pub wrapping : {W P : Type 0} → Wrap W P → Wrapping W P
wrapping option = record { width = option.width; keep_words = option.keep_words; priority = option.priority }

-- the width, the character after lines, and the priority of the columns
pub record Widening (W P : Type 0) : Type 0 where
  pub width : W
  pub fill : ℕ
  pub priority : P

abbrev pub widening : {W P : Type 0} → MinWidth W P → Widening W P
widening option = record { width = option.width; fill = option.fill; priority = option.priority }

-- the width, how texts are cut to it, and the priority of the columns
pub record Truncation (W P : Type 0) : Type 0 where
  pub width : W
  pub cutting : SuffixedCut
  pub priority : P

abbrev pub truncation : {W P : Type 0} → Truncate W P → Truncation W P
truncation option =
    record {
      width = option.width;
      cutting = record { suffix = option.suffix.now; limit = option.limit; multiline = option.multiline; try_color = option.try_color };
      priority = option.priority;
    }

-- the width of all cells
abbrev pub justified_width : {W : Type 0} → Justify W → W
justified_width option = option.width
