-- What the numbers of a request mean.
use Rattle.std.specs.Prelude.{◌≡◌, ◌≢◌, ◌<◌, ◌≤◌, ◌==◌, ◌-◌, ◌^◌, ℕ, if◌then◌else◌, List, [], ◌∷◌, Option, None, Some, get_or, length}
use Rattle.std.specs.Str.{is_utf8}
use Rattle.columns_bounded.specs.declared.request.Request.{Request}
use Rattle.columns_bounded.specs.declared.request.RequestFault.{RequestFault}
use Rattle.columns_bounded.specs.declared.request.RequestFault.TheVariants.{Version, Style, Priority, Truncate, KeepWords, Reserved}
use Rattle.program_options.specs.ColorList.Listed.{listed_colors}
use Rattle.program_options.specs.Columns.Settings.{settings_with}
use Rattle.columns_run.specs.Wanted.{Wanted}
use Rattle.grid_config.specs.Colors.{Color}
use Rattle.grid_config_values.specs.Glyphs.{no_borders}
use Rattle.grid_config_values.specs.declared.borders.Borders.{Borders}
use Rattle.tabled_glyphs.specs.Glyphs.{ascii, extended, modern}
use Rattle.tabled_size_priority.specs.declared.choice.Choice.{Choice}
use Rattle.tabled_size_priority.specs.declared.choice.Choice.TheVariants.{None as InTurns, MinLeft, MaxLeft, Left, Right}

-- the glyphs of each style, from number 0 on
abbrev pub styles : List (Borders ℕ)
styles = ascii ∷ modern ∷ extended ∷ no_borders ∷ []

-- the priorities, from number 0 on
abbrev pub priorities : List Choice
priorities = InTurns ∷ MinLeft ∷ MaxLeft ∷ Left ∷ Right ∷ []

-- the greatest number means no width
abbrev pub width_by : ℕ → Option ℕ
width_by number = if number == 2 ^ 64 - 1 then None else Some number

-- 0 means that a table may have any number of bytes
abbrev pub most_by : ℕ → Option ℕ
most_by number = if number == 0 then None else Some number

-- each reserved number is 0
abbrev pub ReservesNothing : Request → Type 0
ReservesNothing request = (request.reserved ≡ 0) × (request.reserved_words ≡ 0 ∷ 0 ∷ 0 ∷ [])

-- each number has a meaning
pub record IsAccepted (request : Request) : Type 0 where
  pub version : request.version ≡ 1
  pub style : request.style < length styles
  pub priority : request.priority < length priorities
  pub truncate : request.truncate ≤ 1
  pub keep_words : request.keep_words ≤ 1
  pub reserved : ReservesNothing request

-- this is the first of its numbers without a meaning
abbrev pub IsRefusedAs : Request → RequestFault → Type 0
IsRefusedAs request Version = request.version ≢ 1
IsRefusedAs request Style = (request.version ≡ 1) × (length styles ≤ request.style)
IsRefusedAs request Priority = (request.version ≡ 1) × (request.style < length styles) × (length priorities ≤ request.priority)
IsRefusedAs request Truncate = (request.version ≡ 1) × (request.style < length styles) × (request.priority < length priorities) × (1 < request.truncate)
IsRefusedAs request KeepWords =
    (request.version ≡ 1) × (request.style < length styles) × (request.priority < length priorities) × (request.truncate ≤ 1) × (1 < request.keep_words)
IsRefusedAs request Reserved =
    (request.version ≡ 1) × (request.style < length styles) × (request.priority < length priorities) × (request.truncate ≤ 1) × (request.keep_words ≤ 1)
    × ¬ (ReservesNothing request)

-- the colours of a list, and no colours without a list; `None` if the list is no text, or does not have the form that the
-- command line accepts
abbrev pub colors_in : Option (List ℕ) → Option (List (ℕ × Color))
colors_in None = Some []
colors_in (Some list) = if is_utf8 list then listed_colors list else None

-- what a request that is accepted wants of a table in these colours
abbrev pub wanted_in : Request → List (ℕ × Color) → Wanted
wanted_in request colors = record {
  style = settings_with (get_or styles request.style ascii);
  limit = record {
    width = width_by request.width;
    truncate = request.truncate == 1;
    keep_words = request.keep_words == 1;
    priority = get_or priorities request.priority InTurns;
  };
  colors = colors;
}

-- and without colours
abbrev pub wanted_by : Request → Wanted
wanted_by request = wanted_in request []
