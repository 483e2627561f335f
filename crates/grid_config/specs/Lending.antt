-- The settings that a coloured table lends.
use Rattle.std.specs.Borrow.{Lends, MutBor, Fml}
use Rattle.grid_config.specs.Coloring.{Coloring}
use Rattle.grid_config.specs.Settings.{Settings}
use Rattle.grid_config.specs.contracts.colored.ColoredConfig.{the_row}
use Rattle.grid_config.specs.contracts.spanned.SpannedConfig.{the_row as settings_row}

-- the settings end as the reference leaves them; the cells keep their colours
abbrev pub LendsSettings : MutBor Coloring → MutBor Settings → Fml
LendsSettings config lent = Lends the_row settings_row config lent (λ settings. record config.now { settings = settings })
