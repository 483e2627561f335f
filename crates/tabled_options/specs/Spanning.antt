-- How many columns or rows cells take, as an option sets it.
use Rattle.std.specs.Prelude.{ℕ, List, [], ◌∷◌, length}
use Rattle.grid_config_values.specs.declared.entity.Entity.{Entity}
use Rattle.grid_config_values.specs.declared.position.Position.{Position}
use Rattle.grid_config_values.specs.declared.spans.extent.Extent.{Extent}
use Rattle.grid_config.specs.Looks.{Look}
use Rattle.tabled_steps.specs.Looks.{placing, with_columns, with_extents, with_rows}
use Rattle.tabled_steps.specs.States.{Outcome, State, column_count, looking, positive}
use Rattle.tabled_options.specs.declared.span.Span.{Span}
use Rattle.tabled_options.specs.declared.span.TrackKind.{TrackKind}
use Rattle.tabled_options.specs.declared.span.TrackKind.TheVariants.{Columns, Rows}

abbrev pub span_size : Span → ℕ
span_size span = span.size

-- what a cell takes of columns and rows, with n of these tracks
abbrev pub taking : TrackKind → ℕ → Extent → Extent
taking Columns n = with_columns n
taking Rows n = with_rows n

abbrev pub span_extent : Span → Extent → Extent
span_extent span = taking span.of span.size

-- the step of a span: each cell of the table that the entity covers takes the size of the span; none takes 0
abbrev pub spanning : Span → Entity → State → Outcome
spanning span at s = positive (span_size span) (looking (with_extents (span_extent span) at (length s.rows) (column_count s.rows))) s

-- ---- cells that take a span, one after the other

-- at each of these places what a cell takes has changed
abbrev pub placed_all : (Extent → Extent) → List Position → (Position → Extent) → Position → Extent
placed_all change [] old = old
placed_all change (place ∷ places) old = placed_all change places (placing place (change (old place)) old)

abbrev pub spanned_at : Span → List Position → Look → Look
spanned_at span places look = record look { extent = placed_all (span_extent span) places look.extent }
