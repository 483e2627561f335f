-- What a wrapped text shows: lines of characters with their styles.
use Rattle.std.specs.Prelude.{◌≡◌, ℕ, Bool, List, [], ◌∷◌, length, map, flat_map, slice_range, if◌then◌else◌}
use Rattle.std.specs.List.{AllZip, join_by, slice_split}
use Rattle.ansi_scan.specs.Attributes.{Attributes, plain_attributes}
use Rattle.grid_records_measure.specs.Cutting.{replacement}
use Rattle.grid_records_measure.specs.TextLines.{is_line_feed, line_feed}
use Rattle.tabled_size_wrap.specs.Units.{LineUnit, line_units}
use Rattle.tabled_size_wrap.specs.FittingRuns.{AreRunsOf}
use Rattle.tabled_size_wrap.specs.Wrapping.{lines_of_runs}

-- a character with its style
abbrev pub Styled : Type 0
Styled = ℕ × Attributes

-- a character in the plain style
abbrev pub in_plain : ℕ → Styled
in_plain c = (c, plain_attributes)

-- the characters without their styles
abbrev pub characters_of : List Styled → List ℕ
characters_of styled = map (λ x. x.0) styled

abbrev pub ends_line : Styled → Bool
ends_line x = is_line_feed x.0

-- lists of characters, with a line feed in the plain style between each two
abbrev pub joined_lines : List (List Styled) → List Styled
joined_lines lines = join_by (λ line. line) (in_plain line_feed ∷ []) lines

-- ---- the lines of a line

-- how many characters a unit has
abbrev pub unit_size : LineUnit → ℕ
unit_size unit = length unit.text

-- the lines that a line of characters is wrapped into at a width of at least 1: what its runs show. A part is a slice
-- of the characters with their styles, and U+FFFD is in the plain style
abbrev pub AreShownLines : ℕ → Bool → List Styled → List (List Styled) → Type 0
AreShownLines width keep_words line lines =
    (runs : List (List LineUnit)) × AreRunsOf width (line_units width keep_words (characters_of line)) runs
    × (lines ≡ lines_of_runs unit_size (slice_range line) (in_plain replacement ∷ []) width 0 runs)

-- ---- the lines of a text

-- the second text shows the lines of the first, each wrapped by itself
pub record ShowsWrapped (width : ℕ) (keep_words : Bool) (text wrapped : List Styled) : Type 0 where
  pub lines : List (List (List Styled))
  pub each_wrapped : AllZip (AreShownLines width keep_words) (slice_split ends_line text) lines
  pub shown : wrapped ≡ joined_lines (flat_map (λ others. others) lines)

-- the same text with its line feeds in the plain style
abbrev pub with_plain_line_feeds : List Styled → List Styled
with_plain_line_feeds text = map (λ x. if ends_line x then in_plain line_feed else x) text

-- the second text is the first with line feeds put into its lines. Without those between the lines of one line it shows
-- the same characters, all but the line feeds in the same styles
pub record AddsLineFeeds (text wrapped : List Styled) : Type 0 where
  pub lines : List (List (List Styled))
  pub shown : wrapped ≡ joined_lines (flat_map (λ others. others) lines)
  pub without_added : joined_lines (map (flat_map (λ line. line)) lines) ≡ with_plain_line_feeds text
