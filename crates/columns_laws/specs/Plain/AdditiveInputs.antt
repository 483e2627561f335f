-- Inputs of the characters of a class, and styles of additive characters.
use Rattle.std.specs.Prelude.{◌≡◌, ◌==◌, ◌||◌, ◌∷◌, ◌++◌, ℕ, Bool, List, [], codes, false, true, IsUtf8}
use Rattle.std.specs.List.{list_all}
use Rattle.ansi_scan.specs.Sequences.{IsWhole}
use Rattle.ansi_str.specs.Characters.{shown_chars}
use Rattle.columns_asked.specs.Worked.{wraps}
use Rattle.program_options.specs.Columns.Settings.{default_settings}
use Rattle.columns_run.specs.Wanted.{Wanted}
use Rattle.tabled_size_priority.specs.declared.choice.Choice.TheVariants.{None as InTurns}
use Rattle.columns_run.specs.Narrow.{GlyphsAre}
use Rattle.grid_config.specs.Compact.{Compact}
use Rattle.tables_laws.specs.Characters.AdditiveCharacters.{is_additive}
use Rattle.grid_records_measure.specs.Tabs.{tab}
use Rattle.grid_records_measure.specs.TextLines.{is_line_feed}
use Rattle.papergrid_picture.specs.Shown.{OnEachSide}

-- a whole text that shows characters of the class, tabs and line feeds alone
pub record IsInputOf (of_class : ℕ → Bool) (input : List ℕ) : Type 0 where
  pub utf8 : IsUtf8 input
  pub whole : IsWhole input
  pub shown : list_all (λ c. of_class c || (is_line_feed c || c == tab)) (shown_chars input) ≡ true

abbrev pub IsAdditiveInput : List ℕ → Type 0
IsAdditiveInput input = IsInputOf is_additive input

abbrev pub IsAdditive : ℕ → Type 0
IsAdditive c = is_additive c ≡ true

-- each glyph that is set and each fill is an additive character
pub record HasAdditiveGlyphs (style : Compact) : Type 0 where
  pub glyphs : GlyphsAre IsAdditive style.borders
  pub margin : OnEachSide (λ indent. IsAdditive indent.fill) style.margin
  pub padding : OnEachSide (λ indent. IsAdditive indent.fill) style.padding

-- ---- one that can be worked out by hand

-- two ideographs, in UTF-8
abbrev pub ideographs : List ℕ
ideographs = 0xe6 ∷ 0x97 ∷ 0xa5 ∷ 0xe6 ∷ 0x9c ∷ 0xac ∷ codes "\n"

-- wrapped in five columns, of which the text has one
abbrev pub in_five_columns : Wanted
in_five_columns = record { style = default_settings; limit = wraps 5 false InTurns; colors = [] }

-- U+FFFD REPLACEMENT CHARACTER in the place of each
abbrev pub replaced : List ℕ
replaced = codes "+---+\n| " ++ (0xef ∷ 0xbf ∷ 0xbd ∷ codes " |\n| ") ++ (0xef ∷ 0xbf ∷ 0xbd ∷ codes " |\n+---+\n")
