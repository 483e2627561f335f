-- Whether a unit fits on the line of the result that is being written, and the next line where it does not.
use Rattle.std.specs.Prelude.{◌≡◌, ◌<◌, ◌+◌, ◌++◌, ℕ, List, [], ◌∷◌, false, true, length}
use Rattle.ansi_scan.specs.Sequences.{Piece}
use Rattle.ansi_str.specs.StyledText.{strip}
use Rattle.grid_records_measure.specs.TextLines.{line_feed}
use Rattle.tabled_size_wrap.specs.Runs.{has_room_for}
use Rattle.tabled_size_wrap.specs.Standing.{StandsAt}
use Rattle.tabled_size_wrap.specs.Wrapping.{line_part}
use Rattle.tabled_size_wrap.specs.declared.wrapped_lines.Run.{Run}

-- where the unit fits on the line, nothing changes; where it does not, the line is written to its
-- end, and the next begins
pub record MakesRoom (width cost : ℕ) (before after : Run) (old new : List ℕ) : Type 0 where
  pub stays : has_room_for width before.used cost ≡ true → after ≡ before
  pub silent : has_room_for width before.used cost ≡ true → new ≡ old
  pub kept : has_room_for width before.used cost ≡ false → after.kept ≡ 0
  pub used : has_room_for width before.used cost ≡ false → after.used ≡ 0
  pub pushes : has_room_for width before.used cost ≡ false → (line : List Piece) (at : ℕ) → StandsAt line at before.place.rest.now before.place.style → 0 < length (strip line)
      → new ≡ (old ++ line_part line at (at + before.kept)) ++ line_feed ∷ []
  pub stands : has_room_for width before.used cost ≡ false → (line : List Piece) (at : ℕ) → StandsAt line at before.place.rest.now before.place.style
      → StandsAt line (at + before.kept) after.place.rest.now after.place.style
