-- The start of a line that is read word by word.
use Rattle.std.specs.Prelude.{◌≡◌, ◌<◌, ℕ, false, List, [], ◌∷◌, ◌++◌, length, ◌⊎◌}
use Rattle.std.specs.List.{AllByRecursion}
use Rattle.std.specs.Str.{IsUtf8}
use Rattle.grid_records_measure.specs.Tabs.{space}
use Rattle.tabled_size_wrap.specs.Units.{is_space}

-- no space is among them
abbrev pub IsWord : List ℕ → Type 0
IsWord word = AllByRecursion (λ b. is_space b ≡ false) word

-- nothing is left, or a space is the first
abbrev pub EndsWord : List ℕ → Type 0
EndsWord [] = Unit {0}
EndsWord (b ∷ bs) = b ≡ space

-- the text is a word up to a space or its end, or one space; and the rest
pub record AreWordAndRest (text word rest : List ℕ) : Type 0 where
  pub parted : text ≡ word ++ rest
  pub is_word : (word ≡ space ∷ []) ⊎ (IsWord word × EndsWord rest)
  pub some : 0 < length text → 0 < length word
  pub word_text : IsUtf8 word
  pub rest_text : IsUtf8 rest
