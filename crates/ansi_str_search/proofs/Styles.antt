-- The styles at the ends of a split's part.
use Rattle.std.proofs.Common.{◌≡◌, ℕ, ◌+◌, ◌-◌, ◌<◌, ◌≤◌, ◌==◌, nat_lt, Bool, true, false, List, [], ◌∷◌, ◌++◌, length, take, refl, ap, sym, ◌∙◌, arith, if◌then◌else◌}
use Rattle.std.proofs.lemmas.Bool.Decides.{nat_tests}
use Rattle.std.proofs.lemmas.List.{length-drop}
use Rattle.ansi_scan.specs.Sequences.{Piece, joined}
use Rattle.ansi_scan.specs.Joining.{is_text_kind}
use Rattle.ansi_scan.specs.Attributes.{Attributes, plain_attributes}
use Rattle.ansi_scan.specs.StartsAndEnds.{start_bytes, end_bytes}
use Rattle.ansi_str_search.specs.Text.StyledText.{text_of, style_after, style_after_all}
use Rattle.ansi_str_search.specs.Parts.{Places, style_where, piece_from, from_place, front_of, before_place, through_place, split_part, dressed}
use Rattle.ansi_str_search.proofs.Parts.{below, not_below, not_zero, style_by-text, within, within-yes, within-low, within-high, text_of-text, text_of-sequence, through-rest, through-cut, from-cut, from-rest, from-zero, taken-slice}

abbrev early : ℕ → Places
early a place = nat_lt place a

pub either_style : (t : Bool) (style other : Attributes) → other ≡ style → (if t then other else style) ≡ style
either_style true style other same = same
either_style false style other same = refl

pub front_of-style : (style : Attributes) (n : ℕ) (piece : Piece) (none : Bool) → is_text_kind piece.kind ≡ true → (n == 0) ≡ none → style_after_all style (front_of n piece) ≡ style
front_of-style style n piece true text e = ap (λ t. style_after_all style (if t then [] else record { kind = piece.kind; bytes = take n piece.bytes } ∷ [])) e
front_of-style style n piece false text e =
    ap (λ t. style_after_all style (if t then [] else record { kind = piece.kind; bytes = take n piece.bytes } ∷ [])) e ∙ style_by-text style piece.kind (take n piece.bytes) text

-- where no sequence counts any more
style_where-late : (a : ℕ) (style : Attributes) (place : ℕ) (pieces : List Piece) → a ≤ place → style_where (early a) style place pieces ≡ style
style_where-late a style place [] late = refl
style_where-late a style place (piece ∷ pieces) late =
    let later : a ≤ place + length (text_of piece) = omega arith in
    ap (λ t. style_where (early a) (if t then style_after style piece else style) (place + length (text_of piece)) pieces) (not_below place a late)
    ∙ style_where-late a style (place + length (text_of piece)) pieces later

style_where-past : (a b : ℕ) (style : Attributes) (place : ℕ) (pieces : List Piece) → b < place → style_where (within a b) style place pieces ≡ style
style_where-past a b style place [] past = refl
style_where-past a b style place (piece ∷ pieces) past =
    let later : b < place + length (text_of piece) = omega arith in
    ap (λ t. style_where (within a b) (if t then style_after style piece else style) (place + length (text_of piece)) pieces) (within-high a b place past)
    ∙ style_where-past a b style (place + length (text_of piece)) pieces later

before-cut : (n : ℕ) (piece : Piece) (pieces : List Piece) → 0 < n → n < length (text_of piece) → before_place n (piece ∷ pieces) ≡ front_of n piece
before-cut n piece pieces some h =
    ap (λ t. if t then [] else if nat_lt n (length (text_of piece)) then front_of n piece else piece ∷ before_place (n - length (text_of piece)) pieces) (not_zero n some)
    ∙ ap (λ t. if t then front_of n piece else piece ∷ before_place (n - length (text_of piece)) pieces) (below n (length (text_of piece)) h)

before-rest : (n : ℕ) (piece : Piece) (pieces : List Piece) → 0 < n → length (text_of piece) ≤ n → before_place n (piece ∷ pieces) ≡ piece ∷ before_place (n - length (text_of piece)) pieces
before-rest n piece pieces some h =
    ap (λ t. if t then [] else if nat_lt n (length (text_of piece)) then front_of n piece else piece ∷ before_place (n - length (text_of piece)) pieces) (not_zero n some)
    ∙ ap (λ t. if t then front_of n piece else piece ∷ before_place (n - length (text_of piece)) pieces) (not_below n (length (text_of piece)) h)

before-zero : (pieces : List Piece) → before_place 0 pieces ≡ []
before-zero [] = refl
before-zero (piece ∷ pieces) = refl

module _ (a : ℕ) where
  abbrev Before : Attributes → ℕ → List Piece → Type 0
  Before style place pieces = style_where (early a) style place pieces ≡ style_after_all style (before_place (a - place) pieces)

  before-text : (style : Attributes) (place : ℕ) (piece : Piece) (pieces : List Piece) (cut : Bool) → place < a → is_text_kind piece.kind ≡ true → nat_lt (a - place) (length (text_of piece)) ≡ cut
      → ((other : Attributes) (next : ℕ) → next ≤ a → Before other next pieces) → Before style place (piece ∷ pieces)
  before-text style place piece pieces true earlier text cut rest =
      let n = a - place in
      let some : 0 < n = omega arith in
      let short : n < length (text_of piece) = grind (arith, nat_tests) in
      let late : a ≤ place + length (text_of piece) = omega arith in
      ap (λ other. style_where (early a) other (place + length (text_of piece)) pieces) (either_style (early a place) style (style_after style piece) (style_by-text style piece.kind piece.bytes text))
      ∙ style_where-late a style (place + length (text_of piece)) pieces late
      ∙ sym (front_of-style style n piece (n == 0) text refl)
      ∙ ap (style_after_all style) (sym (before-cut n piece pieces some short))
  before-text style place piece pieces false earlier text cut rest =
      let n = a - place in
      let some : 0 < n = omega arith in
      let long : length (text_of piece) ≤ n = grind (arith, nat_tests) in
      let next : place + length (text_of piece) ≤ a = omega arith in
      let left : a - (place + length (text_of piece)) ≡ n - length (text_of piece) = omega arith in
      let same = style_by-text style piece.kind piece.bytes text in
      ap (λ other. style_where (early a) other (place + length (text_of piece)) pieces) (either_style (early a place) style (style_after style piece) same)
      ∙ rest style (place + length (text_of piece)) next
      ∙ ap (λ m. style_after_all style (before_place m pieces)) left
      ∙ ap (λ other. style_after_all other (before_place (n - length (text_of piece)) pieces)) (sym same)
      ∙ ap (style_after_all style) (sym (before-rest n piece pieces some long))

  before-kind : (style : Attributes) (place : ℕ) (piece : Piece) (pieces : List Piece) (text : Bool) → place < a → is_text_kind piece.kind ≡ text
      → ((other : Attributes) (next : ℕ) → next ≤ a → Before other next pieces) → Before style place (piece ∷ pieces)
  before-kind style place piece pieces true earlier text rest = before-text style place piece pieces (nat_lt (a - place) (length (text_of piece))) earlier text refl rest
  before-kind style place piece pieces false earlier other rest =
      let n = a - place in
      let some : 0 < n = omega arith in
      let none : length (text_of piece) ≡ 0 = ap length (text_of-sequence piece other) in
      let long : length (text_of piece) ≤ n = omega arith in
      let next : place + length (text_of piece) ≤ a = omega arith in
      let left : a - (place + length (text_of piece)) ≡ n - length (text_of piece) = omega arith in
      ap (λ t. style_where (early a) (if t then style_after style piece else style) (place + length (text_of piece)) pieces) (below place a earlier)
      ∙ rest (style_after style piece) (place + length (text_of piece)) next
      ∙ ap (λ m. style_after_all (style_after style piece) (before_place m pieces)) left
      ∙ ap (style_after_all style) (sym (before-rest n piece pieces some long))

  before-or : (style : Attributes) (place : ℕ) (piece : Piece) (pieces : List Piece) (is_early : Bool) → place ≤ a → nat_lt place a ≡ is_early
      → ((other : Attributes) (next : ℕ) → next ≤ a → Before other next pieces) → Before style place (piece ∷ pieces)
  before-or style place piece pieces true order e rest = let earlier : place < a = grind (arith, nat_tests) in before-kind style place piece pieces (is_text_kind piece.kind) earlier refl rest
  before-or style place piece pieces false order e rest =
      let late : a ≤ place = grind (arith, nat_tests) in
      let none : 0 ≡ a - place = omega arith in
      style_where-late a style place (piece ∷ pieces) late ∙ ap (λ m. style_after_all style (before_place m (piece ∷ pieces))) none

  -- the style after the sequences before place a
  pub style_where-before : (style : Attributes) (place : ℕ) (pieces : List Piece) → place ≤ a → Before style place pieces
  style_where-before style place [] order = refl
  style_where-before style place (piece ∷ pieces) order = before-or style place piece pieces (nat_lt place a) order refl (λ other next later. style_where-before other next pieces later)

module _ (a b : ℕ) where
  abbrev Through : Attributes → ℕ → List Piece → Type 0
  Through style place pieces = style_where (within a b) style place pieces ≡ style_after_all style (through_place (b - place) pieces)

  through-text : (style : Attributes) (place : ℕ) (piece : Piece) (pieces : List Piece) (cut : Bool) → a ≤ place → place ≤ b → is_text_kind piece.kind ≡ true → nat_lt (b - place) (length (text_of piece)) ≡ cut
      → ((other : Attributes) (next : ℕ) → a ≤ next → next ≤ b → Through other next pieces) → Through style place (piece ∷ pieces)
  through-text style place piece pieces true low high text cut rest =
      let short : b - place < length (text_of piece) = grind (arith, nat_tests) in
      let past : b < place + length (text_of piece) = omega arith in
      ap (λ other. style_where (within a b) other (place + length (text_of piece)) pieces) (either_style (within a b place) style (style_after style piece) (style_by-text style piece.kind piece.bytes text))
      ∙ style_where-past a b style (place + length (text_of piece)) pieces past
      ∙ sym (front_of-style style (b - place) piece ((b - place) == 0) text refl)
      ∙ ap (style_after_all style) (sym (through-cut a b place piece pieces short))
  through-text style place piece pieces false low high text cut rest =
      let long : length (text_of piece) ≤ b - place = grind (arith, nat_tests) in
      let next_low : a ≤ place + length (text_of piece) = omega arith in
      let next_high : place + length (text_of piece) ≤ b = omega arith in
      let left : b - (place + length (text_of piece)) ≡ b - place - length (text_of piece) = omega arith in
      let same = style_by-text style piece.kind piece.bytes text in
      ap (λ other. style_where (within a b) other (place + length (text_of piece)) pieces) (either_style (within a b place) style (style_after style piece) same)
      ∙ rest style (place + length (text_of piece)) next_low next_high
      ∙ ap (λ m. style_after_all style (through_place m pieces)) left
      ∙ ap (λ other. style_after_all other (through_place (b - place - length (text_of piece)) pieces)) (sym same)
      ∙ ap (style_after_all style) (sym (through-rest a b place piece pieces long))

  through-kind : (style : Attributes) (place : ℕ) (piece : Piece) (pieces : List Piece) (text : Bool) → a ≤ place → place ≤ b → is_text_kind piece.kind ≡ text
      → ((other : Attributes) (next : ℕ) → a ≤ next → next ≤ b → Through other next pieces) → Through style place (piece ∷ pieces)
  through-kind style place piece pieces true low high text rest = through-text style place piece pieces (nat_lt (b - place) (length (text_of piece))) low high text refl rest
  through-kind style place piece pieces false low high other rest =
      let none : length (text_of piece) ≡ 0 = ap length (text_of-sequence piece other) in
      let long : length (text_of piece) ≤ b - place = omega arith in
      let next_low : a ≤ place + length (text_of piece) = omega arith in
      let next_high : place + length (text_of piece) ≤ b = omega arith in
      let left : b - (place + length (text_of piece)) ≡ b - place - length (text_of piece) = omega arith in
      ap (λ t. style_where (within a b) (if t then style_after style piece else style) (place + length (text_of piece)) pieces) (within-yes a b place low high)
      ∙ rest (style_after style piece) (place + length (text_of piece)) next_low next_high
      ∙ ap (λ m. style_after_all (style_after style piece) (through_place m pieces)) left
      ∙ ap (style_after_all style) (sym (through-rest a b place piece pieces long))

  pub style_where-through : (style : Attributes) (place : ℕ) (pieces : List Piece) → a ≤ place → place ≤ b → Through style place pieces
  style_where-through style place [] low high = refl
  style_where-through style place (piece ∷ pieces) low high = through-kind style place piece pieces (is_text_kind piece.kind) low high refl (λ other next next_low next_high. style_where-through other next pieces next_low next_high)

  -- ---- from before place a

  abbrev SliceStyle : Attributes → ℕ → List Piece → Type 0
  SliceStyle style place pieces = style_where (within a b) style place pieces ≡ style_after_all style (through_place (b - a) (from_place (a - place) pieces))

  slice_style-at : (style : Attributes) (place : ℕ) (pieces : List Piece) → a ≤ b → place ≡ a → SliceStyle style place pieces
  slice_style-at style place pieces order same =
      let low : a ≤ place = omega arith in
      let high : place ≤ b = omega arith in
      let none : 0 ≡ a - place = omega arith in
      let width : b - place ≡ b - a = omega arith in
      style_where-through style place pieces low high ∙ ap (λ n. style_after_all style (through_place n pieces)) width
      ∙ ap (λ found. style_after_all style (through_place (b - a) found)) (sym (from-zero a b pieces)) ∙ ap (λ n. style_after_all style (through_place (b - a) (from_place n pieces))) none

  slice_style-text : (style : Attributes) (place : ℕ) (piece : Piece) (pieces : List Piece) (cut : Bool) → a ≤ b → place < a → is_text_kind piece.kind ≡ true → nat_lt (a - place) (length piece.bytes) ≡ cut
      → ((other : Attributes) (next : ℕ) → next ≤ a → SliceStyle other next pieces) → SliceStyle style place (piece ∷ pieces)
  slice_style-text style place piece pieces true order before text cut rest =
      let n = a - place in
      let same = text_of-text piece text in
      let short : n < length piece.bytes = grind (arith, nat_tests) in
      let some : 0 < n = omega arith in
      let size : length (text_of piece) ≡ length piece.bytes = ap length same in
      let shorter : n < length (text_of piece) = omega arith in
      let behind = piece_from n piece in
      let behind_size : length (text_of behind) ≡ length piece.bytes - n = ap length (text_of-text behind text) ∙ length-drop n piece.bytes in
      let low : a ≤ a = omega arith in
      let next : place + length (text_of piece) ≡ a + length (text_of behind) = omega arith in
      ap (λ other. style_where (within a b) other (place + length (text_of piece)) pieces) (either_style (within a b place) style (style_after style piece) (style_by-text style piece.kind piece.bytes text))
      ∙ ap (λ m. style_where (within a b) style m pieces) next
      ∙ ap (λ other. style_where (within a b) other (a + length (text_of behind)) pieces) (sym (either_style (within a b a) style (style_after style behind) (style_by-text style behind.kind behind.bytes text)))
      ∙ style_where-through style a (behind ∷ pieces) low order
      ∙ ap (λ found. style_after_all style (through_place (b - a) found)) (sym (from-cut a b n piece pieces some shorter))
  slice_style-text style place piece pieces false order before text cut rest =
      let n = a - place in
      let same = text_of-text piece text in
      let long : length piece.bytes ≤ n = grind (arith, nat_tests) in
      let some : 0 < n = omega arith in
      let size : length (text_of piece) ≡ length piece.bytes = ap length same in
      let longer : length (text_of piece) ≤ n = omega arith in
      let next : place + length (text_of piece) ≤ a = omega arith in
      let left : a - (place + length (text_of piece)) ≡ n - length (text_of piece) = omega arith in
      ap (λ other. style_where (within a b) other (place + length (text_of piece)) pieces) (either_style (within a b place) style (style_after style piece) (style_by-text style piece.kind piece.bytes text))
      ∙ rest style (place + length (text_of piece)) next
      ∙ ap (λ m. style_after_all style (through_place (b - a) (from_place m pieces))) left
      ∙ ap (λ found. style_after_all style (through_place (b - a) found)) (sym (from-rest a b n piece pieces some longer))

  slice_style-kind : (style : Attributes) (place : ℕ) (piece : Piece) (pieces : List Piece) (text : Bool) → a ≤ b → place < a → is_text_kind piece.kind ≡ text
      → ((other : Attributes) (next : ℕ) → next ≤ a → SliceStyle other next pieces) → SliceStyle style place (piece ∷ pieces)
  slice_style-kind style place piece pieces true order before text rest = slice_style-text style place piece pieces (nat_lt (a - place) (length piece.bytes)) order before text refl rest
  slice_style-kind style place piece pieces false order before other rest =
      let n = a - place in
      let some : 0 < n = omega arith in
      let none : length (text_of piece) ≡ 0 = ap length (text_of-sequence piece other) in
      let longer : length (text_of piece) ≤ n = omega arith in
      let next : place + length (text_of piece) ≤ a = omega arith in
      let left : a - (place + length (text_of piece)) ≡ n - length (text_of piece) = omega arith in
      ap (λ t. style_where (within a b) (if t then style_after style piece else style) (place + length (text_of piece)) pieces) (within-low a b place before)
      ∙ rest style (place + length (text_of piece)) next
      ∙ ap (λ m. style_after_all style (through_place (b - a) (from_place m pieces))) left
      ∙ ap (λ found. style_after_all style (through_place (b - a) found)) (sym (from-rest a b n piece pieces some longer))

  slice_style-or : (style : Attributes) (place : ℕ) (piece : Piece) (pieces : List Piece) (is_early : Bool) → a ≤ b → place ≤ a → nat_lt place a ≡ is_early
      → ((other : Attributes) (next : ℕ) → next ≤ a → SliceStyle other next pieces) → SliceStyle style place (piece ∷ pieces)
  slice_style-or style place piece pieces true order before e rest = let earlier : place < a = grind (arith, nat_tests) in slice_style-kind style place piece pieces (is_text_kind piece.kind) order earlier refl rest
  slice_style-or style place piece pieces false order before e rest = let there : place ≡ a = grind (arith, nat_tests) in slice_style-at style place (piece ∷ pieces) order there

  -- the style after the sequences of a split's part
  pub style_where-slice : (style : Attributes) (place : ℕ) (pieces : List Piece) → a ≤ b → place ≤ a → SliceStyle style place pieces
  style_where-slice style place [] order before = refl
  style_where-slice style place (piece ∷ pieces) order before = slice_style-or style place piece pieces (nat_lt place a) order before refl (λ other next later. style_where-slice other next pieces order later)

-- ---- a part of a split

-- the bytes that a run of pieces shows by itself, where a style is known before it

pub split_part-slice : (a b : ℕ) (pieces : List Piece) → a ≤ b → split_part a b pieces ≡ dressed (style_after_all plain_attributes (before_place a pieces)) (through_place (b - a) (from_place a pieces))
split_part-slice a b pieces order =
    let low : 0 ≤ a = omega arith in
    let same : a - 0 ≡ a = omega arith in
    let start = style_where (early a) plain_attributes 0 pieces in
    let begins : start ≡ style_after_all plain_attributes (before_place a pieces) = style_where-before a plain_attributes 0 pieces low ∙ ap (λ n. style_after_all plain_attributes (before_place n pieces)) same in
    let slice = through_place (b - a) (from_place a pieces) in
    ap (λ bytes. start_bytes start ++ (bytes ++ end_bytes (style_where (within a b) start 0 pieces))) (taken-slice a b 0 pieces order low ∙ ap (λ n. joined (through_place (b - a) (from_place n pieces))) same)
    ∙ ap (λ style. start_bytes start ++ (joined slice ++ end_bytes style)) (style_where-slice a b start 0 pieces order low ∙ ap (λ n. style_after_all start (through_place (b - a) (from_place n pieces))) same)
    ∙ ap (λ style. dressed style slice) begins
