-- What the values that a command gives mean, and its answer where it gives none.
use Rattle.std.specs.Prelude.{Bool, Option, codes, false, true}
use Rattle.std.specs.Option.{option_map_or}
use Rattle.std.specs.Str.{bytes_eq}
use Rattle.clap.specs.Words.{Text}
use Rattle.clap.specs.declared.error.kind.ErrorKind.{ErrorKind}
use Rattle.clap.specs.declared.error.kind.ErrorKind.TheVariants.{DisplayHelp, DisplayVersion}

-- the flag's value is `true`
abbrev pub is_set : Option Text → Bool
is_set given = option_map_or (λ text. bytes_eq text (codes "true")) given false

-- a text that was requested, and no error
abbrev pub is_wanted : ErrorKind → Bool
is_wanted DisplayHelp = true
is_wanted DisplayVersion = true
is_wanted _ = false
