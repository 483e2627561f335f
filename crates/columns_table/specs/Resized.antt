-- The texts of a row in narrower columns.
use Rattle.std.specs.Prelude.{ℕ, ◌-◌, List, slice_index, if◌then◌else◌}
use Rattle.columns_asked.specs.DrawnTables.{by_column}
use Rattle.columns_asked.specs.WidthLimits.{Wrap, Cut, Resize}
use Rattle.columns_asked.specs.Resizing.{resized_text}
use Rattle.columns_asked.specs.declared.asked.WidthLimit.{WidthLimit}

-- what is done to a text that gets `room` columns
abbrev pub resize_to : WidthLimit → ℕ → Resize
resize_to asked room = if asked.truncate then Cut room else Wrap room asked.keep_words

-- each text of a row by its column, where the columns have these widths, and `beside` of them are beside the text; the
-- row stays as long as it is
abbrev pub resized_row : WidthLimit → ℕ → List ℕ → List (List ℕ) → List (List ℕ)
resized_row asked beside widths texts = by_column (λ column. resized_text (resize_to asked (slice_index widths column - beside))) 0 texts
