-- Texts that are cut, with a suffix after them.
use Rattle.std.specs.Prelude.{ℕ, ◌-◌, ◌*◌, ◌/◌, ◌==◌, Bool, if◌then◌else◌, List, [], ◌∷◌, ◌++◌, Option, None, Some, chars, encode_utf8_all, length, map, nat_lt, take}
use Rattle.std.specs.List.{join_with_byte, repeat}
use Rattle.ansi_scan.specs.Attributes.{Attributes, plain_attributes}
use Rattle.ansi_scan.specs.Pieces.{pieces}
use Rattle.ansi_scan.specs.StartsAndEnds.{end_bytes, start_bytes}
use Rattle.ansi_str.specs.StyledText.{strip, styled}
use Rattle.grid_records_measure.specs.Cutting.{replacement}
use Rattle.grid_records_measure.specs.Filling.{fitting_front}
use Rattle.grid_records_measure.specs.Measures.{cost, measure}
use Rattle.grid_records_measure.specs.TextLines.{line_feed, text_lines, text_width}
use Rattle.tabled_size.specs.declared.dimension.suffix.SuffixLimit.{SuffixLimit}
use Rattle.tabled_size.specs.declared.dimension.suffix.SuffixLimit.TheVariants.{Cut, Ignore, Replace}
use Rattle.tabled_size_wrap.specs.Bytes.{cut_at}

-- ---- what a cut keeps

-- the characters of a text, with their styles, that a cut at a width keeps
abbrev pub kept_characters : ℕ → List ℕ → List (ℕ × Attributes)
kept_characters width text =
    let all : List (ℕ × Attributes) = styled (pieces text) in
    take (length (fitting_front width 0 (map (λ x. x.0) all))) all

-- the style of the last character, and where there is none this one
abbrev pub last_style : Attributes → List (ℕ × Attributes) → Attributes
last_style style [] = style
last_style style (x ∷ xs) = last_style x.1 xs

-- ---- the suffix

-- how texts are cut: the suffix that comes after a cut, and what is done where it does not fit. The flags say whether
-- each line is cut by itself, and whether the suffix takes the style of the text before it
pub record SuffixedCut : Type 0 where
  pub suffix : List ℕ
  pub limit : SuffixLimit
  pub multiline : Bool
  pub try_color : Bool

-- a character as often as it fits, and U+FFFD in the columns that are left
abbrev pub filled_by : ℕ → ℕ → List ℕ
filled_by c room =
    repeat (room / cost c) (encode_utf8_all (c ∷ [])) ++ repeat (room - room / cost c * cost c) (encode_utf8_all (replacement ∷ []))

module _ (cutting : SuffixedCut) where
  -- the suffix after the cut of a text at a width: as it is, or between start and end of the last
  -- kept character's style
  abbrev pub suffix_behind : ℕ → List ℕ → List ℕ
  suffix_behind width text =
      let style = last_style plain_attributes (kept_characters width text) in
      if cutting.try_color then start_bytes style ++ (cutting.suffix ++ end_bytes style) else cutting.suffix

  -- what is left of a text where the suffix takes the given width or more
  abbrev pub without_room : SuffixLimit → ℕ → List ℕ → List ℕ
  without_room Cut room text = cut_at room cutting.suffix
  without_room Ignore room text = cut_at room text
  without_room (Replace c) room text = filled_by c room

  -- a text as one, cut to the given width with the suffix; an empty suffix counts as none
  abbrev pub cut_line : ℕ → List ℕ → List ℕ
  cut_line room text =
      let taken = measure (chars (strip (pieces cutting.suffix))) in
      if length cutting.suffix == 0 then cut_at room text
      else if nat_lt taken room then cut_at (room - taken) text ++ suffix_behind (room - taken) text
      else without_room cutting.limit room text

  abbrev pub cut_text : ℕ → List ℕ → List ℕ
  cut_text room text = if cutting.multiline then join_with_byte line_feed (map (cut_line room) (text_lines text)) else cut_line room text

  -- a text that measures more than the given width is cut
  abbrev pub truncating : ℕ → List ℕ → Option (List ℕ)
  truncating room text = if nat_lt room (text_width text) then Some (cut_text room text) else None
