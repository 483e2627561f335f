-- A text that is wrapped, and its cut, as functions of the text: those that meet the relations of
-- `Wrapping` and of the cut.
use Rattle.std.specs.Prelude.{ℕ, Bool, List}
use Rattle.grid_records_measure.specs.TextLines.{text_lines}
use Rattle.tabled_size_wrap.specs.Runs.{wrapped}
unfoldable pub use Rattle.grid_records_measure.specs.CutTexts.{cut_at}
pub use Rattle.grid_records_measure.specs.CutTexts.{truncated_text}

-- a text wrapped at a width: each of its lines is wrapped by itself
unfoldable pub wrapped_text : ℕ → Bool → List ℕ → List ℕ
wrapped_text width keep_words text = wrapped width keep_words (text_lines text)
