-- A text whose control characters are made visible: C0, DELETE and C1, and those that turn the order of others. Other
-- characters stay, also those that separate lines.
use Rattle.std.specs.Prelude.{ℕ, List, chars, flat_map}
use Rattle.program_options.specs.declared.basinmug.Escapes.TheVariants.{None as NoEscapes}
use Rattle.basinmug_input.specs.Cleaning.{ordered_char}

-- each of its characters is made visible
abbrev pub with_visible_controls : List ℕ → List ℕ
with_visible_controls text = flat_map (ordered_char NoEscapes) (chars text)
