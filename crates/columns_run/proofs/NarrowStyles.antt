-- The styles that both programs for tab-separated text name have narrow glyphs.
use Rattle.std.proofs.Common.{◌≡◌, true, false, ℕ, refl}
use Rattle.std.specs.Char.{IsScalar, is_control}
use Rattle.program_options.specs.Columns.Settings.{settings_with}
use Rattle.grid_config_values.specs.Glyphs.{no_borders}
use Rattle.grid_config_values.specs.declared.borders.Borders.{Borders}
use Rattle.grid_records_measure.specs.PlainCharacters.{is_one_column}
use Rattle.grid_records_measure.proofs.Plain.{one-column}
use Rattle.tabled_glyphs.specs.Glyphs.{ascii, extended, modern}
use Rattle.columns_run.specs.Narrow.{GlyphsAre, HasNarrowGlyphs, IsNarrowCharacter}

narrow : (c : ℕ) → is_one_column c ≡ true → IsScalar c → is_control c ≡ false → IsNarrowCharacter c
narrow c one scalar no_control = record { scalar = scalar; one_column = one-column c one; no_control = no_control }

-- narrow glyphs make a narrow style
pub with-narrow : (borders : Borders ℕ) → GlyphsAre IsNarrowCharacter borders → HasNarrowGlyphs (settings_with borders)
unfolding HasNarrowGlyphs
with-narrow borders glyphs =
    let space = narrow 0x20 refl refl refl in
    record {
      glyphs = glyphs;
      margin = (space, space, space, space);
      padding = (space, space, space, space);
      uncolored = record { margin = refl; padding = refl; borders = refl };
    }

abbrev pub narrow-glyphs : (borders : Borders ℕ) → Type 0
narrow-glyphs borders = GlyphsAre IsNarrowCharacter borders

pub narrow-ascii : narrow-glyphs ascii
narrow-ascii =
    let dash = narrow 0x2d refl refl refl in
    let bar = narrow 0x7c refl refl refl in
    let plus = narrow 0x2b refl refl refl in
    ((plus, plus, plus), (plus, plus, plus), (plus, plus, plus), (dash, dash, dash), (bar, bar, bar))

pub narrow-modern : narrow-glyphs modern
narrow-modern =
    let across = narrow 0x2500 refl refl refl in
    let down = narrow 0x2502 refl refl refl in (
      (narrow 0x250c refl refl refl, narrow 0x252c refl refl refl, narrow 0x2510 refl refl refl),
      (narrow 0x251c refl refl refl, narrow 0x253c refl refl refl, narrow 0x2524 refl refl refl),
      (narrow 0x2514 refl refl refl, narrow 0x2534 refl refl refl, narrow 0x2518 refl refl refl),
      (across, across, across),
      (down, down, down),
    )

pub narrow-extended : narrow-glyphs extended
narrow-extended =
    let across = narrow 0x2550 refl refl refl in
    let down = narrow 0x2551 refl refl refl in (
      (narrow 0x2554 refl refl refl, narrow 0x2566 refl refl refl, narrow 0x2557 refl refl refl),
      (narrow 0x2560 refl refl refl, narrow 0x256c refl refl refl, narrow 0x2563 refl refl refl),
      (narrow 0x255a refl refl refl, narrow 0x2569 refl refl refl, narrow 0x255d refl refl refl),
      (across, across, across),
      (down, down, down),
    )

pub narrow-none : narrow-glyphs no_borders
narrow-none = ((tt, tt, tt), (tt, tt, tt), (tt, tt, tt), (tt, tt, tt), (tt, tt, tt))
