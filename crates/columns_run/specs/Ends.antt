-- Where a cell of a text ends: before the next tab or line feed that the text shows, or at the end of the text.
use Rattle.std.specs.Prelude.{◌≡◌, ◌==◌, ◌++◌, ◌&&◌, not, ℕ, Bool, false, true, length, IsTrue, List}
use Rattle.std.specs.List.{prefix_len}
use Rattle.ansi_scan.specs.Sequences.{NoneBroken, is_not_escape}
use Rattle.ansi_scan.specs.Pieces.{pieces}
use Rattle.ansi_scan.specs.Attributes.{Attributes}
use Rattle.ansi_str.specs.StyledText.{style_after_all}
use Rattle.ansi_str_search.specs.Parts.{from_place, through_place}
use Rattle.ansi_str_search.specs.Walking.{from_text, begins_with_escape}
use Rattle.grid_records_measure.specs.Measures.{are_printable}
use Rattle.columns_run.specs.Rows.{line_feed, tab, stripped}

-- neither a tab nor a line feed
abbrev pub is_cell_byte : ℕ → Bool
is_cell_byte b = not (b == tab) && not (b == line_feed)

-- nor the start of a sequence
abbrev pub is_cell_text : ℕ → Bool
is_cell_text b = is_not_escape b && is_cell_byte b

-- how many bytes a text shows before the first tab and the first line feed
abbrev pub cell_size : List ℕ → ℕ
cell_size text = prefix_len is_cell_byte (stripped text)

-- the first cell of this text, before which this style is known, ends at `end`, before which that style is known: after
-- the sequences there
pub record EndsCell (text : List ℕ) (style : Attributes) (end : List ℕ) (end_style : Attributes) : Type 0 where
  pub there : pieces end ≡ from_text (from_place (cell_size text) (pieces text))
  pub known : end_style ≡ style_after_all style (through_place (cell_size text) (pieces text))
  pub shows_text : begins_with_escape end ≡ false

-- from this text to `end` no ESC is broken, and so many bytes are shown, each of which is printable where it is said
pub record EndsPass (text end : List ℕ) (size : ℕ) (printable : Bool) : Type 0 where
  pub slice : List ℕ
  pub parted : text ≡ slice ++ end
  pub none_broken : NoneBroken (pieces slice)
  pub counted : size ≡ length (stripped slice)
  pub each : IsTrue printable → are_printable (stripped slice) ≡ true
