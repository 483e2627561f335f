-- Texts of the characters of a class.
use Rattle.std.specs.Prelude.{◌≡◌, ℕ, ◌||◌, Bool, List, true}
use Rattle.std.specs.List.{AllByRecursion, list_all}
use Rattle.ansi_str.specs.Characters.{shown_chars}
use Rattle.tables_laws.specs.Characters.AdditiveCharacters.{is_additive}
use Rattle.grid_records_measure.specs.TextLines.{is_line_feed}
use Rattle.papergrid_picture.specs.Shown.{IsWholeText}

-- a whole text that shows characters of the class and line feeds
pub record IsTextOf (of_class : ℕ → Bool) (text : List ℕ) : Type 0 where
  pub whole : IsWholeText text
  pub shown : list_all (λ c. of_class c || is_line_feed c) (shown_chars text) ≡ true

abbrev pub AreTextsOf : (ℕ → Bool) → List (List (List ℕ)) → Type 0
AreTextsOf of_class rows = AllByRecursion (AllByRecursion (IsTextOf of_class)) rows

abbrev pub IsAdditiveText : List ℕ → Type 0
IsAdditiveText text = IsTextOf is_additive text

abbrev pub AreAdditiveTexts : List (List (List ℕ)) → Type 0
AreAdditiveTexts rows = AreTextsOf is_additive rows
