-- What a run that is requested looks like.
use Rattle.std.proofs.Common.{◌≡◌, ℕ, Bool, List, Option}
use Rattle.std.specs.Prelude.{codes}
use Rattle.clap.specs.Simple.{matches_of}
use Rattle.clap.specs.Walk.{first_of}
use Rattle.program_options.specs.Columns.Settings.{settings_with}
use Rattle.program_options.specs.declared.columns.options.Options.{Options}
use Rattle.command_line.specs.Columns.Asking.{IsAnswer}
use Rattle.command_line.specs.Options.Names.{named}
use Rattle.command_line.specs.Columns.Names.{styles}
use Rattle.command_line.specs.declared.columns.words.Asked.TheVariants.{Run}
use Rattle.grid_config.specs.Compact.{compact_of}
use Rattle.tabled_glyphs.specs.Glyphs.{ascii}

-- it has the style of some name, or the default
pub asked-style : (words : List (List ℕ)) (options : Options) (streamed : Bool) → IsAnswer words (Run options streamed)
    → (given : Option (List ℕ)) × (compact_of options.style ≡ settings_with (named styles ascii given))
asked-style words options streamed answer = (first_of (codes "style") (matches_of answer.command words), answer.answer.1.style)
