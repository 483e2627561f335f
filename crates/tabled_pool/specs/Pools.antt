-- A pool by what it is, what its options see of it, and its text.
use Rattle.std.specs.Prelude.{◌≡◌, ℕ, List, [], None, Ok, map}
use Rattle.grid_config.specs.Looks.{Look}
use Rattle.tabled_compact.specs.Tables.{begun_settings}
use Rattle.tabled_options.specs.Multiline.Multiline.{Multiline, multiline_look, multiline_of, over}
use Rattle.tabled_options.specs.Multiline.Takers.{takers_for_options}
use Rattle.tabled_options.specs.declared.multiline.config.CompactMultilineConfig.{CompactMultilineConfig}
use Rattle.tabled_pool.specs.Boxes.Texts.{IsPoolTooLarge, pool_text}
use Rattle.tabled_pool.specs.declared.table.PoolTable.{PoolTable}
use Rattle.tabled_pool.specs.Boxes.Boxes.{Box, box_of}
use Rattle.tabled_pool.specs.Boxes.Values.{Nesting, Text, Beside, Stacked, nesting_of, members}
use Rattle.tabled_size.specs.declared.dimension.priority.DimensionPriority.TheVariants.{List as Each}
use Rattle.tabled_size.specs.Dimension.Takers.{Takers}
use Rattle.tabled_steps.specs.States.{Outcome, State, state_with}

-- what it shows, its settings, and who takes what is left over
pub record Pool : Type 0 where
  pub nesting : Nesting
  pub settings : Multiline
  pub takers : Takers

abbrev pub pool_of : PoolTable → Pool
pool_of table = record { nesting = nesting_of table.value; settings = multiline_of table.config; takers = table.dimension }

-- its settings as the program holds them
abbrev pub config_of : PoolTable → CompactMultilineConfig
config_of table = table.config

-- ---- a pool that no call has changed yet

-- as much to each
abbrev pub each : Takers
each = record { width = Each; height = Each }

-- lines of ASCII, and a column of spaces at the left and right of each text
abbrev pub begun : Nesting → Pool
begun nesting = record { nesting = nesting; settings = over begun_settings; takers = each }

-- the texts of a row side by side
abbrev pub row_nesting : List (List ℕ) → Nesting
row_nesting row = Beside (members (map Text row))

-- rows one below the other
abbrev pub rows_nesting : List (List (List ℕ)) → Nesting
rows_nesting rows = Stacked (members (map row_nesting rows))

-- ---- options

-- what they see of a pool: it has no rows
abbrev pub state_for_options : Pool → State
state_for_options pool = state_with [] (multiline_look pool.settings) (λ _. None) (takers_for_options pool.takers)

-- an accepted step led to what is seen then, whatever became of the rows that it was given; and what
-- the pool shows stays
pub record HasStepped (step : State → Outcome → Type 0) (before after : Pool) : Type 0 where
  pub rows : List (List (List ℕ))
  pub led : step (state_for_options before) (Ok (record (state_for_options after) { rows = rows }))
  pub nesting : after.nesting ≡ before.nesting

-- ---- its text

abbrev pub look_of_pool : Pool → Look
look_of_pool pool = multiline_look pool.settings

abbrev pub own_box : Pool → Box
own_box pool = box_of (look_of_pool pool) pool.nesting

abbrev pub text_of : Pool → List ℕ
text_of pool = pool_text (look_of_pool pool) pool.takers (own_box pool)

-- its width or its height, with its margin, is out of the range of `usize`
abbrev pub PassesRange : Pool → Type 0
PassesRange pool = IsPoolTooLarge (look_of_pool pool) pool.takers (own_box pool)
