-- The part of a split is one slice of the pieces.
use Rattle.std.proofs.Common.{◌≡◌, ℕ, zero, suc, ◌+◌, ◌-◌, ◌<◌, ◌≤◌, ◌==◌, ◌&&◌, nat_lt, nat_le, Bool, true, false, List, [], ◌∷◌, ◌++◌, length, take, drop, slice_range, refl, ap, sym, ◌∙◌, arith, append-nil, eqb-true, if◌then◌else◌}
use Rattle.std.proofs.lemmas.Bool.Decides.{nat_tests}
use Rattle.std.proofs.lemmas.List.{length-drop, drop_all, take_all}
use Rattle.ansi_scan.specs.declared.items.Kind.{Kind}
use Rattle.ansi_scan.specs.declared.items.Kind.TheVariants.{Text, Sgr, Csi, Osc, Esc, Str, Broken}
use Rattle.ansi_scan.specs.Sequences.{Piece, joined}
use Rattle.ansi_scan.specs.Joining.{is_text_kind}
use Rattle.ansi_scan.specs.Attributes.{Attributes}
pub use Rattle.ansi_scan.proofs.Comparing.{below, not_below, at_most, not_at_most, not_zero}
use Rattle.ansi_str_search.specs.Text.StyledText.{shown, text_of, style_by}
use Rattle.ansi_str_search.specs.Parts.{Places, taken_piece, taken, piece_from, from_place, front_of, through_place}

-- ---- tests on numbers

-- ---- kinds

pub shown-kind : (kind : Kind) (bytes : List ℕ) → shown kind bytes ≡ if is_text_kind kind then bytes else []
shown-kind Text bytes = refl
shown-kind Sgr bytes = refl
shown-kind Csi bytes = refl
shown-kind Osc bytes = refl
shown-kind Esc bytes = refl
shown-kind Str bytes = refl
shown-kind Broken bytes = refl

pub style_by-text : (style : Attributes) (kind : Kind) (bytes : List ℕ) → is_text_kind kind ≡ true → style_by style kind bytes ≡ style
style_by-text style Text bytes e = refl
style_by-text style Sgr bytes e = cc e
style_by-text style Csi bytes e = cc e
style_by-text style Osc bytes e = cc e
style_by-text style Esc bytes e = cc e
style_by-text style Str bytes e = cc e
style_by-text style Broken bytes e = cc e

-- ---- what is taken

-- the sequences of a split's part
abbrev pub within : ℕ → ℕ → Places
within a b place = nat_le a place && nat_le place b

pub within-yes : (a b place : ℕ) → a ≤ place → place ≤ b → within a b place ≡ true
within-yes a b place low high = ap (λ t. t && nat_le place b) (at_most a place low) ∙ at_most place b high

pub within-low : (a b place : ℕ) → place < a → within a b place ≡ false
within-low a b place low = ap (λ t. t && nat_le place b) (not_at_most a place low)

pub within-high : (a b place : ℕ) → b < place → within a b place ≡ false
within-high a b place high = grind (arith, nat_tests)

same_either : (t : Bool) (xs : List ℕ) → (if t then xs else xs) ≡ xs
same_either true xs = refl
same_either false xs = refl

-- after place b nothing is taken
taken-past : (a b place : ℕ) (pieces : List Piece) → b < place → taken (within a b) a b place pieces ≡ []
taken-past a b place [] past = refl
taken-past a b place (piece ∷ pieces) past =
    let zero_length : b - place - (a - place) ≡ 0 = omega arith in
    let text : slice_range piece.bytes (a - place) (b - place) ≡ [] = ap (λ n. take n (drop (a - place) piece.bytes)) zero_length in
    let here : taken_piece (within a b) a b place piece ≡ [] =
    ap (λ bytes. if is_text_kind piece.kind then bytes else if within a b place then piece.bytes else []) text
    ∙ ap (λ t. if is_text_kind piece.kind then [] else if t then piece.bytes else []) (within-high a b place past)
    ∙ same_either (is_text_kind piece.kind) [] in
    let later : b < place + length (text_of piece) = omega arith in
    ap (λ bytes. bytes ++ taken (within a b) a b (place + length (text_of piece)) pieces) here ∙ taken-past a b (place + length (text_of piece)) pieces later

-- of a text piece and of a sequence
pub taken_piece-text : (counts : Places) (a b place : ℕ) (piece : Piece) → is_text_kind piece.kind ≡ true → taken_piece counts a b place piece ≡ slice_range piece.bytes (a - place) (b - place)
taken_piece-text counts a b place piece text = ap (λ t. if t then slice_range piece.bytes (a - place) (b - place) else if counts place then piece.bytes else []) text

pub taken_piece-sequence : (counts : Places) (a b place : ℕ) (piece : Piece) (is_counted : Bool) → is_text_kind piece.kind ≡ false → counts place ≡ is_counted
    → taken_piece counts a b place piece ≡ if is_counted then piece.bytes else []
taken_piece-sequence counts a b place piece is_counted other counted =
    ap (λ t. if t then slice_range piece.bytes (a - place) (b - place) else if counts place then piece.bytes else []) other
    ∙ ap (λ t. if t then piece.bytes else []) counted

pub text_of-text : (piece : Piece) → is_text_kind piece.kind ≡ true → text_of piece ≡ piece.bytes
text_of-text piece text = shown-kind piece.kind piece.bytes ∙ ap (λ t. if t then piece.bytes else []) text

pub text_of-sequence : (piece : Piece) → is_text_kind piece.kind ≡ false → text_of piece ≡ []
text_of-sequence piece other = shown-kind piece.kind piece.bytes ∙ ap (λ t. if t then piece.bytes else []) other

pub take_nil : (n : ℕ) → take {A = ℕ} n [] ≡ []
take_nil zero = refl
take_nil (suc n) = refl

-- from place a on: what is taken goes through place b
module _ (a b : ℕ) where
  abbrev taken_here : ℕ → List Piece → List ℕ
  taken_here place pieces = taken (within a b) a b place pieces

  pub through-rest : (place : ℕ) (piece : Piece) (pieces : List Piece) → length (text_of piece) ≤ b - place → through_place (b - place) (piece ∷ pieces) ≡ piece ∷ through_place (b - place - length (text_of piece)) pieces
  through-rest place piece pieces h =
      ap (λ t. if t then front_of (b - place) piece else piece ∷ through_place (b - place - length (text_of piece)) pieces) (not_below (b - place) (length (text_of piece)) h)

  pub through-cut : (place : ℕ) (piece : Piece) (pieces : List Piece) → b - place < length (text_of piece) → through_place (b - place) (piece ∷ pieces) ≡ front_of (b - place) piece
  through-cut place piece pieces h =
      ap (λ t. if t then front_of (b - place) piece else piece ∷ through_place (b - place - length (text_of piece)) pieces) (below (b - place) (length (text_of piece)) h)

  joined-front_of : (n : ℕ) (piece : Piece) (none : Bool) → (n == 0) ≡ none → joined (front_of n piece) ≡ take n piece.bytes
  joined-front_of n piece true e =
      let zero_n : n ≡ 0 = eqb-true n 0 e in
      ap (λ t. joined (if t then [] else record { kind = piece.kind; bytes = take n piece.bytes } ∷ [])) e ∙ ap (λ m. take m piece.bytes) (sym zero_n)
  joined-front_of n piece false e =
      ap (λ t. joined (if t then [] else record { kind = piece.kind; bytes = take n piece.bytes } ∷ [])) e ∙ append-nil (take n piece.bytes)

  -- a text piece of which some may be left after place b
  taken-text : (place : ℕ) (piece : Piece) (pieces : List Piece) (fits : Bool) → a ≤ place → place ≤ b → is_text_kind piece.kind ≡ true → nat_lt (b - place) (length piece.bytes) ≡ fits
      → ((next : ℕ) → a ≤ next → next ≤ b → taken_here next pieces ≡ joined (through_place (b - next) pieces))
      → taken_here place (piece ∷ pieces) ≡ joined (through_place (b - place) (piece ∷ pieces))
  taken-text place piece pieces true low high text cut rest =
      let same = text_of-text piece text in
      let short : b - place < length piece.bytes = grind (arith, nat_tests) in
      let size : length (text_of piece) ≡ length piece.bytes = ap length same in
      let past : b < place + length (text_of piece) = omega arith in
      let shorter : b - place < length (text_of piece) = omega arith in
      let from_start : a - place ≡ 0 = omega arith in
      let whole : b - place - 0 ≡ b - place = omega arith in
      ap (λ bytes. bytes ++ taken_here (place + length (text_of piece)) pieces) (taken_piece-text (within a b) a b place piece text ∙ ap (λ n. slice_range piece.bytes n (b - place)) from_start ∙ ap (λ n. take n piece.bytes) whole)
      ∙ ap (λ bytes. take (b - place) piece.bytes ++ bytes) (taken-past a b (place + length (text_of piece)) pieces past)
      ∙ append-nil (take (b - place) piece.bytes)
      ∙ sym (joined-front_of (b - place) piece ((b - place) == 0) refl)
      ∙ ap joined (sym (through-cut place piece pieces shorter))
  taken-text place piece pieces false low high text cut rest =
      let same = text_of-text piece text in
      let long : length piece.bytes ≤ b - place = grind (arith, nat_tests) in
      let size : length (text_of piece) ≡ length piece.bytes = ap length same in
      let longer : length (text_of piece) ≤ b - place = omega arith in
      let from_start : a - place ≡ 0 = omega arith in
      let whole : b - place - 0 ≡ b - place = omega arith in
      let after_low : a ≤ place + length (text_of piece) = omega arith in
      let after_high : place + length (text_of piece) ≤ b = omega arith in
      let left : b - (place + length (text_of piece)) ≡ b - place - length (text_of piece) = omega arith in
      ap (λ bytes. bytes ++ taken_here (place + length (text_of piece)) pieces) (taken_piece-text (within a b) a b place piece text ∙ ap (λ n. slice_range piece.bytes n (b - place)) from_start ∙ ap (λ n. take n piece.bytes) whole ∙ take_all (b - place) piece.bytes long)
      ∙ ap (λ bytes. piece.bytes ++ bytes) (rest (place + length (text_of piece)) after_low after_high)
      ∙ ap (λ n. piece.bytes ++ joined (through_place n pieces)) left
      ∙ ap joined (sym (through-rest place piece pieces longer))

  taken-kind : (place : ℕ) (piece : Piece) (pieces : List Piece) (text : Bool) → a ≤ place → place ≤ b → is_text_kind piece.kind ≡ text
      → ((next : ℕ) → a ≤ next → next ≤ b → taken_here next pieces ≡ joined (through_place (b - next) pieces))
      → taken_here place (piece ∷ pieces) ≡ joined (through_place (b - place) (piece ∷ pieces))
  taken-kind place piece pieces true low high text rest = taken-text place piece pieces (nat_lt (b - place) (length piece.bytes)) low high text refl rest
  taken-kind place piece pieces false low high other rest =
      let none : length (text_of piece) ≡ 0 = ap length (text_of-sequence piece other) in
      let longer : length (text_of piece) ≤ b - place = omega arith in
      let after_low : a ≤ place + length (text_of piece) = omega arith in
      let after_high : place + length (text_of piece) ≤ b = omega arith in
      let left : b - (place + length (text_of piece)) ≡ b - place - length (text_of piece) = omega arith in
      ap (λ bytes. bytes ++ taken_here (place + length (text_of piece)) pieces) (taken_piece-sequence (within a b) a b place piece true other (within-yes a b place low high))
      ∙ ap (λ bytes. piece.bytes ++ bytes) (rest (place + length (text_of piece)) after_low after_high)
      ∙ ap (λ n. piece.bytes ++ joined (through_place n pieces)) left
      ∙ ap joined (sym (through-rest place piece pieces longer))

  taken-through : (place : ℕ) (pieces : List Piece) → a ≤ place → place ≤ b → taken_here place pieces ≡ joined (through_place (b - place) pieces)
  taken-through place [] low high = refl
  taken-through place (piece ∷ pieces) low high = taken-kind place piece pieces (is_text_kind piece.kind) low high refl (λ next next_low next_high. taken-through next pieces next_low next_high)

  -- ---- before place a

  pub from-cut : (n : ℕ) (piece : Piece) (pieces : List Piece) → 0 < n → n < length (text_of piece) → from_place n (piece ∷ pieces) ≡ piece_from n piece ∷ pieces
  from-cut n piece pieces some h =
      ap (λ t. if t then piece ∷ pieces else if nat_lt n (length (text_of piece)) then piece_from n piece ∷ pieces else from_place (n - length (text_of piece)) pieces) (not_zero n some)
      ∙ ap (λ t. if t then piece_from n piece ∷ pieces else from_place (n - length (text_of piece)) pieces) (below n (length (text_of piece)) h)

  pub from-rest : (n : ℕ) (piece : Piece) (pieces : List Piece) → 0 < n → length (text_of piece) ≤ n → from_place n (piece ∷ pieces) ≡ from_place (n - length (text_of piece)) pieces
  from-rest n piece pieces some h =
      ap (λ t. if t then piece ∷ pieces else if nat_lt n (length (text_of piece)) then piece_from n piece ∷ pieces else from_place (n - length (text_of piece)) pieces) (not_zero n some)
      ∙ ap (λ t. if t then piece_from n piece ∷ pieces else from_place (n - length (text_of piece)) pieces) (not_below n (length (text_of piece)) h)

  pub from-zero : (pieces : List Piece) → from_place 0 pieces ≡ pieces
  from-zero [] = refl
  from-zero (piece ∷ pieces) = refl

  abbrev Slice : ℕ → List Piece → Type 0
  Slice place pieces = taken_here place pieces ≡ joined (through_place (b - a) (from_place (a - place) pieces))

  slice-at : (place : ℕ) (pieces : List Piece) → a ≤ b → place ≡ a → Slice place pieces
  slice-at place pieces order same =
      let low : a ≤ place = omega arith in
      let high : place ≤ b = omega arith in
      let none : 0 ≡ a - place = omega arith in
      let width : b - place ≡ b - a = omega arith in
      taken-through place pieces low high ∙ ap (λ n. joined (through_place n pieces)) width
      ∙ ap (λ found. joined (through_place (b - a) found)) (sym (from-zero pieces)) ∙ ap (λ n. joined (through_place (b - a) (from_place n pieces))) none

  slice-text : (place : ℕ) (piece : Piece) (pieces : List Piece) (cut : Bool) → a ≤ b → place < a → is_text_kind piece.kind ≡ true → nat_lt (a - place) (length piece.bytes) ≡ cut
      → ((next : ℕ) → next ≤ a → Slice next pieces) → Slice place (piece ∷ pieces)
  slice-text place piece pieces true order before text cut rest =
      let n = a - place in
      let same = text_of-text piece text in
      let short : n < length piece.bytes = grind (arith, nat_tests) in
      let some : 0 < n = omega arith in
      let size : length (text_of piece) ≡ length piece.bytes = ap length same in
      let shorter : n < length (text_of piece) = omega arith in
      let behind = piece_from n piece in
      let behind_text : text_of behind ≡ drop n piece.bytes = text_of-text behind text in
      let behind_size : length (text_of behind) ≡ length piece.bytes - n = ap length behind_text ∙ length-drop n piece.bytes in
      let low : a ≤ a = omega arith in
      let from_start : 0 ≡ a - a = omega arith in
      let width : b - place - n ≡ b - a - 0 = omega arith in
      let next : place + length (text_of piece) ≡ a + length (text_of behind) = omega arith in
      ap (λ bytes. bytes ++ taken_here (place + length (text_of piece)) pieces) (taken_piece-text (within a b) a b place piece text)
      ∙ ap (λ m. take m (drop n piece.bytes) ++ taken_here (place + length (text_of piece)) pieces) width
      ∙ ap (λ m. take (b - a - m) (drop m (drop n piece.bytes)) ++ taken_here (place + length (text_of piece)) pieces) from_start
      ∙ ap (λ m. slice_range (drop n piece.bytes) (a - a) (b - a) ++ taken_here m pieces) next
      ∙ ap (λ bytes. bytes ++ taken_here (a + length (text_of behind)) pieces) (sym (taken_piece-text (within a b) a b a behind text))
      ∙ taken-through a (behind ∷ pieces) low order
      ∙ ap (λ found. joined (through_place (b - a) found)) (sym (from-cut n piece pieces some shorter))
  slice-text place piece pieces false order before text cut rest =
      let n = a - place in
      let same = text_of-text piece text in
      let long : length piece.bytes ≤ n = grind (arith, nat_tests) in
      let some : 0 < n = omega arith in
      let size : length (text_of piece) ≡ length piece.bytes = ap length same in
      let longer : length (text_of piece) ≤ n = omega arith in
      let next : place + length (text_of piece) ≤ a = omega arith in
      let left : a - (place + length (text_of piece)) ≡ n - length (text_of piece) = omega arith in
      ap (λ bytes. bytes ++ taken_here (place + length (text_of piece)) pieces) (taken_piece-text (within a b) a b place piece text ∙ ap (take (b - place - n)) (drop_all n piece.bytes long) ∙ take_nil (b - place - n))
      ∙ rest (place + length (text_of piece)) next
      ∙ ap (λ m. joined (through_place (b - a) (from_place m pieces))) left
      ∙ ap (λ found. joined (through_place (b - a) found)) (sym (from-rest n piece pieces some longer))

  slice-kind : (place : ℕ) (piece : Piece) (pieces : List Piece) (text : Bool) → a ≤ b → place < a → is_text_kind piece.kind ≡ text
      → ((next : ℕ) → next ≤ a → Slice next pieces) → Slice place (piece ∷ pieces)
  slice-kind place piece pieces true order before text rest = slice-text place piece pieces (nat_lt (a - place) (length piece.bytes)) order before text refl rest
  slice-kind place piece pieces false order before other rest =
      let n = a - place in
      let some : 0 < n = omega arith in
      let none : length (text_of piece) ≡ 0 = ap length (text_of-sequence piece other) in
      let longer : length (text_of piece) ≤ n = omega arith in
      let next : place + length (text_of piece) ≤ a = omega arith in
      let left : a - (place + length (text_of piece)) ≡ n - length (text_of piece) = omega arith in
      ap (λ bytes. bytes ++ taken_here (place + length (text_of piece)) pieces) (taken_piece-sequence (within a b) a b place piece false other (within-low a b place before))
      ∙ rest (place + length (text_of piece)) next
      ∙ ap (λ m. joined (through_place (b - a) (from_place m pieces))) left
      ∙ ap (λ found. joined (through_place (b - a) found)) (sym (from-rest n piece pieces some longer))

  slice-or : (place : ℕ) (piece : Piece) (pieces : List Piece) (early : Bool) → a ≤ b → place ≤ a → nat_lt place a ≡ early
      → ((next : ℕ) → next ≤ a → Slice next pieces) → Slice place (piece ∷ pieces)
  slice-or place piece pieces true order before early rest = let earlier : place < a = grind (arith, nat_tests) in slice-kind place piece pieces (is_text_kind piece.kind) order earlier refl rest
  slice-or place piece pieces false order before early rest = let there : place ≡ a = grind (arith, nat_tests) in slice-at place (piece ∷ pieces) order there

  -- what a part of a split takes is one slice: the pieces after place a, through place b
  pub taken-slice : (place : ℕ) (pieces : List Piece) → a ≤ b → place ≤ a → Slice place pieces
  taken-slice place [] order before = refl
  taken-slice place (piece ∷ pieces) order before =
      slice-or place piece pieces (nat_lt place a) order before refl (λ next later. taken-slice next pieces order later)
