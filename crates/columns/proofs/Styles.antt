-- The styles that the command line names are narrow.
use Rattle.std.proofs.Common.{true, false, ℕ, Bool, List, [], ◌∷◌, Option, Some, None, subst, sym}
use Rattle.std.specs.List.{AllByRecursion}
use Rattle.std.specs.Prelude.{find, if◌then◌else◌}
use Rattle.std.specs.Option.{option_map_or}
use Rattle.std.specs.Str.{bytes_eq}
use Rattle.program_options.specs.Columns.Settings.{settings_with}
use Rattle.program_options.specs.declared.columns.options.Options.{Options}
use Rattle.columns_run.proofs.NarrowStyles.{narrow-ascii, narrow-extended, narrow-glyphs, narrow-modern, narrow-none, with-narrow}
use Rattle.columns_run.specs.Narrow.{GlyphsAre, HasNarrowGlyphs, IsNarrowCharacter}
use Rattle.command_line.specs.Columns.Asking.{IsAnswer}
use Rattle.command_line.specs.Columns.Names.{named, styles}
use Rattle.command_line.proofs.ColumnsLemmas.Styles.{asked-style}
use Rattle.command_line.specs.declared.columns.words.Asked.TheVariants.{Run}
use Rattle.grid_config.specs.Compact.{compact_of}
use Rattle.tabled_glyphs.specs.Glyphs.{ascii}

-- what a name means is in the table, or is the default
abbrev row-or : {T : Type 0} → T → Option (List ℕ × T) → T
row-or default found = option_map_or (λ row. row.1) found default

named-all : {T : Type 0} (Q : T → Type 0) (table : List (List ℕ × T)) (default : T) → AllByRecursion (λ row. Q row.1) table → Q default
    → (name : List ℕ) → Q (row-or default (find (λ row. bytes_eq row.0 name) table))
named-all Q [] default each by_default name = by_default
named-all Q (row ∷ table) default each by_default name =
    elim (bytes_eq row.0 name) as (λ b. Q (row-or default (if b then Some row else find (λ row. bytes_eq row.0 name) table))) [
      | true ↦ each.0
      | false ↦ named-all Q table default each.1 by_default name
    ]

glyphs-narrow : (given : Option (List ℕ)) → narrow-glyphs (named styles ascii given)
glyphs-narrow None = narrow-ascii
glyphs-narrow (Some name) = named-all (GlyphsAre IsNarrowCharacter) styles ascii (narrow-ascii, (narrow-modern, (narrow-extended, (narrow-none, tt)))) narrow-ascii name

-- the style of each name
pub named-narrow : (given : Option (List ℕ)) → HasNarrowGlyphs (settings_with (named styles ascii given))
named-narrow given = with-narrow (named styles ascii given) (glyphs-narrow given)

-- the style of each run that is requested
pub asked-narrow : (words : List (List ℕ)) (options : Options) (streamed : Bool) → IsAnswer words (Run options streamed) → HasNarrowGlyphs (compact_of options.style)
asked-narrow words options streamed answer =
    let found = asked-style words options streamed answer in
    subst HasNarrowGlyphs (sym found.1) (named-narrow found.0)
