-- Emoji, and sequences of them (Unicode Technical Standard 51).
use Rattle.std.specs.Prelude.{ℕ, ◌==◌, ◌&&◌, ◌||◌, Bool, false, List, [], ◌∷◌, ◌++◌, flat_map}
use Rattle.std.specs.Int.{is_in_range}
use Rattle.ucd_emoji.specs.Binary.{is_emoji_modifier_base, is_emoji_variation_base}
use Rattle.grid_records_measure.specs.PlainCharacters.{is_in_ranges}

-- most characters with the property Emoji_Presentation, without the regional indicators and the modifiers: the common
-- marks of Dingbats; weather, plants and food; games and places; animals, people and things; hours, faces and traffic;
-- what later versions added
abbrev pub pictograph_ranges : List (ℕ × ℕ)
pictograph_ranges =
    (0x2705, 0x2705) ∷ (0x2728, 0x2728) ∷ (0x274c, 0x274c) ∷ (0x2753, 0x2755) ∷ (0x2757, 0x2757) ∷ (0x2b50, 0x2b50)
    ∷ (0x1f300, 0x1f320) ∷ (0x1f32d, 0x1f335) ∷ (0x1f337, 0x1f37c) ∷ (0x1f37e, 0x1f393) ∷ (0x1f3a0, 0x1f3ca) ∷ (0x1f3e0, 0x1f3f0)
    ∷ (0x1f400, 0x1f43e) ∷ (0x1f442, 0x1f4fc) ∷ (0x1f4ff, 0x1f53d) ∷ (0x1f550, 0x1f567) ∷ (0x1f5fb, 0x1f64f) ∷ (0x1f680, 0x1f6c5)
    ∷ (0x1f90c, 0x1f93a) ∷ (0x1f93c, 0x1f945) ∷ (0x1f947, 0x1f9ff) ∷ []

abbrev pub is_pictograph : ℕ → Bool
is_pictograph c = is_in_ranges pictograph_ranges c

-- ZERO WIDTH JOINER, and VARIATION SELECTOR-16, which requests an emoji
abbrev pub joiner : ℕ
joiner = 0x200D

abbrev pub selector : ℕ
selector = 0xFE0F

-- the Emoji_Modifiers, which give the colour of skin
abbrev pub is_modifier : ℕ → Bool
is_modifier = is_in_range 0x1F3FB 0x1F3FF

abbrev pub is_indicator : ℕ → Bool
is_indicator = is_in_range 0x1F1E6 0x1F1FF

-- one emoji: a pictograph, a character with the selector (definition 9a), or one with a modifier (definition 13)
abbrev pub is_element : List ℕ → Bool
is_element (c ∷ []) = is_pictograph c
is_element (c ∷ mark ∷ []) = ((mark == selector) && is_emoji_variation_base c) || (is_modifier mark && is_emoji_modifier_base c)
is_element _ = false

-- emoji with a joiner between each two (definition 16)
abbrev pub zwj_sequence : List ℕ → List (List ℕ) → List ℕ
zwj_sequence first others = first ++ flat_map (λ other. joiner ∷ other) others

-- a flag: two regional indicators (definition 14)
abbrev pub is_flag : List ℕ → Bool
is_flag (a ∷ b ∷ []) = is_indicator a && is_indicator b
is_flag _ = false
