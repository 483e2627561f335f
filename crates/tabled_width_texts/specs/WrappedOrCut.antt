-- Texts that are wrapped or cut at a width.
use Rattle.std.specs.Prelude.{ℕ, Bool, List, Option, None, Some, if◌then◌else◌, nat_lt, unwrap_or}
use Rattle.std.specs.Option.{option_or}
use Rattle.grid_records_measure.specs.TextLines.{text_width}
use Rattle.tabled_size_wrap.specs.Bytes.{cut_at, wrapped_text}
use Rattle.tabled_width_texts.specs.Filling.{filling}
use Rattle.tabled_size_wrap.specs.Staying.{stays}

-- a text is wrapped
abbrev pub wrapping_each : Bool → ℕ → List ℕ → Option (List ℕ)
wrapping_each keep_words width text = Some (wrapped_text width keep_words text)

-- the same without those texts that the test of `Staying` finds: they are what they are wrapped to
-- (`laws::texts_that_stay`)
abbrev pub wrapping_others : Bool → ℕ → List ℕ → Option (List ℕ)
wrapping_others keep_words width text = if stays keep_words width text then None else wrapping_each keep_words width text

-- a text that measures more than the width is wrapped
abbrev pub wrapping_wider : Bool → ℕ → List ℕ → Option (List ℕ)
wrapping_wider keep_words width text = if nat_lt width (text_width text) then Some (wrapped_text width keep_words text) else None

-- a text that measures more than the width is cut
abbrev pub cutting_wider : ℕ → List ℕ → Option (List ℕ)
cutting_wider width text = if nat_lt width (text_width text) then Some (cut_at width text) else None

-- what becomes of a text by one change and then by another
abbrev pub one_then_other : (List ℕ → Option (List ℕ)) → (List ℕ → Option (List ℕ)) → List ℕ → Option (List ℕ)
one_then_other first second text = option_or (second (unwrap_or (first text) text)) (first text)

-- a text is filled with spaces up to the width, and then cut there
abbrev pub justifying : ℕ → List ℕ → Option (List ℕ)
justifying width = one_then_other (filling 0x20 width) (cutting_wider width)
