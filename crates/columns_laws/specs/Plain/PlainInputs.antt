-- Texts of characters whose columns add up, and one of them.
use Rattle.std.specs.Prelude.{◌≡◌, ◌==◌, ℕ, ◌||◌, List, [], codes, false, true, IsUtf8}
use Rattle.std.specs.List.{list_all}
use Rattle.ansi_scan.specs.Sequences.{IsWhole}
use Rattle.ansi_str.specs.Characters.{shown_chars}
use Rattle.grid_records_measure.specs.PlainCharacters.{is_plain_character}
use Rattle.grid_records_measure.specs.Tabs.{tab}
use Rattle.grid_records_measure.specs.TextLines.{is_line_feed}
use Rattle.tabled_size_priority.specs.declared.choice.Choice.TheVariants.{None as InTurns}
use Rattle.columns_asked.specs.Worked.{wraps}
use Rattle.program_options.specs.Columns.Settings.{default_settings}
use Rattle.columns_run.specs.Wanted.{Wanted}

-- a whole text that shows plain characters, tabs and line feeds alone
pub record IsPlainInput (input : List ℕ) : Type 0 where
  pub utf8 : IsUtf8 input
  pub whole : IsWhole input
  pub plain : list_all (λ c. is_plain_character c || (is_line_feed c || c == tab)) (shown_chars input) ≡ true

-- ---- one that can be worked out by hand

-- two letters in red beside one
abbrev pub red_letters : List ℕ
red_letters = codes "\u{1b}[31mab\u{1b}[0m\tc\n"

-- wrapped in nine columns, of which each of two texts has one
abbrev pub in_nine_columns : Wanted
in_nine_columns = record { style = default_settings; limit = wraps 9 false InTurns; colors = [] }
