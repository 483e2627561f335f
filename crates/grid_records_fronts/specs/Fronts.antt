-- What a text begins with, where its columns add up.
use Rattle.std.specs.Prelude.{◌≡◌, ◌++◌, ◌⊎◌, ℕ, List, [], ◌∷◌, encode_utf8_all, true}
use Rattle.std.specs.Str.{all_scalars}
use Rattle.std.specs.Int.{is_in_range}
use Rattle.std.specs.List.{list_all}
use Rattle.grid_records_measure.specs.SimpleCharacters.{takes}
use Rattle.grid_records_fronts.specs.Emoji.{is_element, is_flag, joiner, zwj_sequence}

-- the text begins with these characters, and this is the text after them
pub record Begins (text characters rest : List ℕ) : Type 0 where
  pub parts : text ≡ encode_utf8_all characters ++ rest
  pub scalar : all_scalars characters ≡ true

-- it begins with a simple character of so many columns
pub record BeginsWithSimple (text : List ℕ) (columns : ℕ) (rest : List ℕ) : Type 0 where
  pub character : ℕ
  pub begins : Begins text (character ∷ []) rest
  pub simple : takes character columns ≡ true

-- with one emoji
pub record BeginsWithElement (text rest : List ℕ) : Type 0 where
  pub characters : List ℕ
  pub begins : Begins text characters rest
  pub element : is_element characters ≡ true

-- with a joiner and one emoji
pub record BeginsWithOther (text rest : List ℕ) : Type 0 where
  pub characters : List ℕ
  pub begins : Begins text (joiner ∷ characters) rest
  pub element : is_element characters ≡ true

-- with emoji that joiners make one
pub record BeginsWithJoined (text rest : List ℕ) : Type 0 where
  pub first : List ℕ
  pub others : List (List ℕ)
  pub begins : Begins text (zwj_sequence first others) rest
  pub elements : list_all is_element (first ∷ others) ≡ true

-- with a flag
pub record BeginsWithFlag (text rest : List ℕ) : Type 0 where
  pub characters : List ℕ
  pub begins : Begins text characters rest
  pub flag : is_flag characters ≡ true

abbrev pub BeginsWithEmoji : List ℕ → List ℕ → Type 0
BeginsWithEmoji text rest = BeginsWithFlag text rest ⊎ BeginsWithJoined text rest

-- with what adds its columns to those of others before and after it: a simple character, or an emoji, which takes two
abbrev pub BeginsWithAddend : List ℕ → ℕ → List ℕ → Type 0
BeginsWithAddend text columns rest = BeginsWithSimple text columns rest ⊎ ((columns ≡ 2) × BeginsWithEmoji text rest)

-- it begins with no simple character
abbrev pub BeginsWithNoSimple : List ℕ → Type 0
BeginsWithNoSimple text = (columns : ℕ) (rest : List ℕ) → ¬ (BeginsWithSimple text columns rest)

-- a simple character that it begins with is printable ASCII
abbrev pub BeginsWithAsciiOrNoSimple : List ℕ → Type 0
BeginsWithAsciiOrNoSimple text = (columns : ℕ) (rest : List ℕ) (simple : BeginsWithSimple text columns rest) → is_in_range 0x20 0x7E simple.character ≡ true
