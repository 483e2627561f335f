-- A table as it is shown in a width.
use Rattle.std.specs.Prelude.{ℕ, ◌+◌, ◌-◌, ◌/◌, ◌==◌, if◌then◌else◌, Option, None, Some}
use Rattle.grid_config_values.specs.declared.alignment.AlignmentHorizontal.{AlignmentHorizontal}
use Rattle.grid_config_values.specs.declared.alignment.AlignmentHorizontal.TheVariants.{Left, Center, Right}
use Rattle.grid_config_values.specs.declared.position.Position.{Position}
use Rattle.grid_config_values.specs.declared.sides.Indent.{Indent}
use Rattle.grid_config_values.specs.declared.sides.Sides.{Sides}
use Rattle.grid_config.specs.Looks.{Look}
use Rattle.tabled_steps.specs.States.{State}
use Rattle.tabled_text.specs.Fields.{saturated}
use Rattle.tabled.specs.Totals.{drawn_width}

-- the columns that a table lacks of a width
abbrev pub lacking_columns : Option ℕ → State → ℕ
lacking_columns None s = 0
lacking_columns (Some width) s = width - drawn_width s

-- how many of n lacking columns are at its left: all, none, or the smaller half
abbrev pub left_part : Option AlignmentHorizontal → ℕ → ℕ
left_part None n = n
left_part (Some Left) n = n
left_part (Some Center) n = n / 2
left_part (Some Right) n = 0

-- a margin of `more` columns more, with this fill. Only that of a table without cells can pass the
-- largest `usize`, where it stops
abbrev pub widened : ℕ → ℕ → Indent → Indent
widened more fill indent = record { size = saturated (indent.size + more); fill = fill }

-- a fill of no character is a space
abbrev pub fill_or_space : ℕ → ℕ
fill_or_space fill = if fill == 0 then 32 else fill

-- the margins with the columns that are lacking, and their fill at both sides; where none is lacking they stay
abbrev pub margin_in : ℕ → Option AlignmentHorizontal → ℕ → Sides Indent → Sides Indent
margin_in n align fill margin =
    if n == 0 then margin
    else let left = left_part align n in
    record margin { left = widened left (fill_or_space fill) margin.left; right = widened (n - left) (fill_or_space fill) margin.right }

-- one alignment for all cells, where there is one
abbrev pub aligned : Option AlignmentHorizontal → (Position → AlignmentHorizontal) → Position → AlignmentHorizontal
aligned None old = old
aligned (Some align) old = λ _. align

abbrev pub aligned_look : Option AlignmentHorizontal → Look → Look
aligned_look align look = record look { alignment_horizontal = aligned align look.alignment_horizontal }

-- the table with this alignment, and with margins that make it as wide, where it is less wide. The sizes stay
abbrev pub shown_in : Option ℕ → Option AlignmentHorizontal → ℕ → State → State
shown_in width align fill s = record s { look = aligned_look align (record s.look { margin = margin_in (lacking_columns width s) align fill s.look.margin }) }
