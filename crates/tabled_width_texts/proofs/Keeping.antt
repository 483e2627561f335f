-- The last character that a cut keeps, found by a walk.
use Rattle.std.proofs.Common.{◌≡◌, ℕ, Bool, true, false, Some, None, List, [], ◌∷◌, ◌++◌, length, map, take, chars, flat_map, refl, ap, ◌∙◌, if◌then◌else◌}
use Rattle.std.specs.Str.{IsUtf8}
use Rattle.std.proofs.Math.Utf8.{encode}
use Rattle.std.proofs.lemmas.Str.{chars_past_char}
use Rattle.ansi_scan.specs.Attributes.{Attributes, plain_attributes}
use Rattle.ansi_scan.specs.Pieces.{pieces}
use Rattle.ansi_scan.specs.Sequences.{Piece, ArePiecesOf}
use Rattle.ansi_scan.proofs.Existence.{ArePiecesOf-pieces}
use Rattle.ansi_str_search.specs.Text.Blocks.{Block, blocks_from, styled_of_block}
use Rattle.ansi_str_search.specs.Text.StyledText.{styled}
use Rattle.ansi_str_search.proofs.TextLemmas.Shown.{styled_of_block-blocks_from}
use Rattle.grid_records_measure.specs.Filling.{columns_with, fitting_front, has_room, used_behind}
use Rattle.tabled_width_texts.specs.Cutting.{kept_characters, last_style}
use Rattle.tabled_width_texts.specs.Keeping.{last_kept}

-- ---- the walk finds the last of the prefix

one_more : (width : ℕ) (b : Bool) (style : Attributes) (x : ℕ × Attributes) (xs : List (ℕ × Attributes)) (fs : List ℕ) (walked : Attributes) →
    last_style x.1 (take (length fs) xs) ≡ walked →
    last_style style (take (length (if b then x.0 ∷ fs else [])) (x ∷ xs)) ≡ (if b then walked else style)
one_more width true style x xs fs walked is = is
one_more width false style x xs fs walked is = refl

walk_finds : (width used : ℕ) (style : Attributes) (xs : List (ℕ × Attributes)) → last_style style (take (length (fitting_front width used (map (λ x. x.0) xs))) xs) ≡ last_kept width used style xs
walk_finds width used style [] = refl
walk_finds width used style (x ∷ xs) =
    one_more width (has_room width used x.0) style x xs (fitting_front width (used_behind used x.0) (map (λ x. x.0) xs)) (last_kept width (used_behind used x.0) x.1 xs)
    (walk_finds width (used_behind used x.0) x.1 xs)

pub found : (width : ℕ) (text : List ℕ) → last_style plain_attributes (kept_characters width text) ≡ last_kept width 0 plain_attributes (styled (pieces text))
found width text = walk_finds width 0 plain_attributes (styled (pieces text))

-- ---- one character

taken_or : (b : Bool) (n columns : ℕ) → (if b then Some n else None) ≡ Some columns → (b ≡ true) × (n ≡ columns)
taken_or true n columns is = (refl, some_same n columns is) where
  some_same : (n columns : ℕ) → Some n ≡ Some columns → n ≡ columns
  some_same n columns is = cc is
taken_or false n columns is = absurd (cc is)

refused_or : (b : Bool) (n : ℕ) → (if b then Some n else None) ≡ None → b ≡ false
refused_or true n is = absurd (cc is)
refused_or false n is = refl

module _ (width used c : ℕ) (style known : Attributes) (bs behind : List ℕ) (utf8 : IsUtf8 bs) (spelled : bs ≡ encode c ++ behind) (rest : List (ℕ × Attributes)) where
  abbrev with : List ℕ → List (ℕ × Attributes)
  with cs = map (λ c. (c, style)) cs ++ rest

  pub goes_on : (columns : ℕ) → columns_with width used c ≡ Some columns → last_kept width used known (with (chars bs)) ≡ last_kept width columns style (with (chars behind))
  goes_on columns some =
      let room = taken_or (has_room width used c) (used_behind used c) columns some in
      ap (λ cs. last_kept width used known (with cs)) (chars_past_char bs behind c utf8 spelled)
      ∙ ap (λ b. if b then last_kept width (used_behind used c) style (with (chars behind)) else known) room.0
      ∙ ap (λ n. last_kept width n style (with (chars behind))) room.1

  pub stops : columns_with width used c ≡ None → last_kept width used known (with (chars bs)) ≡ known
  stops none =
      ap (λ cs. last_kept width used known (with cs)) (chars_past_char bs behind c utf8 spelled)
      ∙ ap (λ b. if b then last_kept width (used_behind used c) style (with (chars behind)) else known) (refused_or (has_room width used c) (used_behind used c) none)

-- ---- blocks

pub styled-blocks : (text : List ℕ) (blocks : List Block) → ((ps : List Piece) → ArePiecesOf text ps → blocks ≡ blocks_from plain_attributes ps)
    → flat_map styled_of_block blocks ≡ styled (pieces text)
styled-blocks text blocks are =
    ap (flat_map styled_of_block) (are (pieces text) (ArePiecesOf-pieces text)) ∙ styled_of_block-blocks_from plain_attributes (pieces text)
