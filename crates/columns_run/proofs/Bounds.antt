-- The cells of the rows of a whole text, by the places in what it shows at which they begin and end.
use Rattle.std.proofs.Common.{◌≡◌, ℕ, suc, ◌+◌, ◌-◌, ◌≤◌, ◌==◌, Bool, true, false, not, cond, List, [], ◌∷◌, ◌++◌, map, length, take, drop, refl, ap, sym, ◌∙◌, arith, append_assoc, length-append, length-take, length-drop, eqb-true, eq-eqb, if◌then◌else◌}
use Rattle.std.specs.Prelude.{slice_range}
use Rattle.std.proofs.lemmas.Bool.{and_parts}
use Rattle.std.proofs.lemmas.List.{drop-drop}
use Rattle.std.specs.List.{prefix_len}
use Rattle.ansi_scan.specs.Sequences.{NoneBroken}
use Rattle.ansi_scan.specs.Pieces.{pieces}
use Rattle.ansi_scan.proofs.Existence.{ArePiecesOf-pieces}
use Rattle.ansi_scan.proofs.Runs.{prefix_len-pass, prefix_len-fail}
use Rattle.ansi_str_search.specs.Parts.{split_part}
use Rattle.ansi_str_search.specs.Matches.{bounds_between}
use Rattle.ansi_str_search.proofs.Slices.{strip-split_part}
use Rattle.columns_run.specs.Rows.{line_feed, tab, stripped, byte_places_from, parts_by_character, without_unshown_last, cell_parts}
use Rattle.columns_run.specs.Ends.{is_cell_byte}
use Rattle.columns_run.proofs.Nested.{part_of_part}
use Rattle.columns_run.proofs.Passes.{cell-empty}

-- the rows that are still to come: `row` are the cells of the present row that have ended, the present cell begins at
-- `start`, and the bytes are those from `place` on
abbrev pub cells_from : (ℕ → ℕ → List ℕ) → List (List ℕ) → ℕ → ℕ → List ℕ → List (List (List ℕ))
cells_from part row start place [] = if length row + (place - start) == 0 then [] else (row ++ part start place ∷ []) ∷ []
cells_from part row start place (b ∷ bs) =
    cond (b == line_feed) ((row ++ part start place ∷ []) ∷ cells_from part [] (place + 1) (place + 1) bs)
    (cond (b == tab) (cells_from part (row ++ part start place ∷ []) (place + 1) (place + 1) bs) (cells_from part row start (place + 1) bs))

-- ---- bytes of a cell are passed

not_true : (a : Bool) → not a ≡ true → a ≡ false
not_true true e = cc e
not_true false e = refl

pub no_separator : (b : ℕ) → is_cell_byte b ≡ true → ((b == tab) ≡ false) × ((b == line_feed) ≡ false)
no_separator b cell =
    let parts = and_parts (not (b == tab)) (not (b == line_feed)) cell in
    (not_true (b == tab) parts.0, not_true (b == line_feed) parts.1)

pass-one : (part : ℕ → ℕ → List ℕ) (row : List (List ℕ)) (start place b : ℕ) (bs : List ℕ) → is_cell_byte b ≡ true → cells_from part row start place (b ∷ bs) ≡ cells_from part row start (place + 1) bs
pass-one part row start place b bs cell =
    let others = no_separator b cell in
    ap (λ t. cond t ((row ++ part start place ∷ []) ∷ cells_from part [] (place + 1) (place + 1) bs)
    (cond (b == tab) (cells_from part (row ++ part start place ∷ []) (place + 1) (place + 1) bs) (cells_from part row start (place + 1) bs))) others.1
    ∙ ap (λ t. cond t (cells_from part (row ++ part start place ∷ []) (place + 1) (place + 1) bs) (cells_from part row start (place + 1) bs)) others.0

pub cells_from-pass : (part : ℕ → ℕ → List ℕ) (row : List (List ℕ)) (start place : ℕ) (bs : List ℕ)
    → cells_from part row start place bs ≡ cells_from part row start (place + prefix_len is_cell_byte bs) (drop (prefix_len is_cell_byte bs) bs)
cells_from-pass part row start place [] = let same : place ≡ place + 0 = omega arith in ap (λ n. cells_from part row start n []) same
cells_from-pass part row start place (b ∷ bs) = by (is_cell_byte b) refl (cells_from-pass part row start (place + 1) bs)
  where
    by : (cell : Bool) → is_cell_byte b ≡ cell → cells_from part row start (place + 1) bs ≡ cells_from part row start (place + 1 + prefix_len is_cell_byte bs) (drop (prefix_len is_cell_byte bs) bs)
        → cells_from part row start place (b ∷ bs) ≡ cells_from part row start (place + prefix_len is_cell_byte (b ∷ bs)) (drop (prefix_len is_cell_byte (b ∷ bs)) (b ∷ bs))
    by true e others =
        let one : prefix_len is_cell_byte (b ∷ bs) ≡ suc (prefix_len is_cell_byte bs) = prefix_len-pass is_cell_byte b bs e in
        let sum : place + 1 + prefix_len is_cell_byte bs ≡ place + prefix_len is_cell_byte (b ∷ bs) = omega (arith, one) in
        pass-one part row start place b bs e ∙ others
        ∙ ap (λ n. cells_from part row start n (drop (prefix_len is_cell_byte bs) bs)) sum
        ∙ ap (λ n. cells_from part row start (place + prefix_len is_cell_byte (b ∷ bs)) (drop n (b ∷ bs))) (sym one)
    by false e others =
        let none : prefix_len is_cell_byte (b ∷ bs) ≡ 0 = prefix_len-fail is_cell_byte b bs e in
        let sum : place ≡ place + prefix_len is_cell_byte (b ∷ bs) = omega (arith, none) in
        ap (λ n. cells_from part row start n (b ∷ bs)) sum ∙ ap (λ n. cells_from part row start (place + prefix_len is_cell_byte (b ∷ bs)) (drop n (b ∷ bs))) (sym none)

-- ---- the cells of a row

module _ (text : List ℕ) (whole : NoneBroken (pieces text)) where
  abbrev shown : List ℕ
  shown = stripped text

  abbrev pub part_of : ℕ → ℕ → List ℕ
  part_of a b = split_part a b (pieces text)

  abbrev parts_of : List (ℕ × ℕ) → List (List ℕ)
  parts_of bounds = map (λ bound. part_of bound.0 bound.1) bounds

  -- the cells of the row from place a to place b, except for those that end before `place`; the first begins at `start`
  abbrev cells_to : ℕ → ℕ → ℕ → List (List ℕ)
  cells_to start place b = parts_of (bounds_between 1 start b (byte_places_from tab place (slice_range shown place b)))

  module _ (a b : ℕ) (ordered : a ≤ b) (within : b ≤ length shown) where
    abbrev row_part : List ℕ
    row_part = part_of a b

    abbrev inner : List (ℕ × ℕ) → List (List ℕ)
    inner bounds = map (λ bound. split_part bound.0 bound.1 (pieces row_part)) bounds

    row-shown : stripped row_part ≡ slice_range shown a b
    row-shown = strip-split_part text (pieces text) (pieces row_part) a b ordered (ArePiecesOf-pieces text) whole (ArePiecesOf-pieces row_part)

    slice-size : length (slice_range shown a b) ≡ b - a
    slice-size = omega (arith, length-take (b - a) (drop a shown), length-drop a shown)

    shifted : (xs : List ℕ) (s k e : ℕ) → s ≤ k → k + length xs ≡ e → e ≤ b - a
        → inner (bounds_between 1 s e (byte_places_from tab k xs)) ≡ parts_of (bounds_between 1 (a + s) (a + e) (byte_places_from tab (a + k) xs))
    shifted [] s k e low end high =
        let up : s ≤ e = omega arith in
        ap (λ part. part ∷ []) (part_of_part text whole a b ordered within s e up high)
    shifted (x ∷ xs) s k e low end high = by (x == tab) refl (λ from later. shifted xs from (k + 1) e later (omega arith) high)
      where
        sum : a + (k + 1) ≡ a + k + 1
        sum = omega arith

        by : (is_tab : Bool) → (x == tab) ≡ is_tab
            → ((from : ℕ) → from ≤ k + 1 → inner (bounds_between 1 from e (byte_places_from tab (k + 1) xs)) ≡ parts_of (bounds_between 1 (a + from) (a + e) (byte_places_from tab (a + (k + 1)) xs)))
            → inner (bounds_between 1 s e (byte_places_from tab k (x ∷ xs))) ≡ parts_of (bounds_between 1 (a + s) (a + e) (byte_places_from tab (a + k) (x ∷ xs)))
        by true same rest =
            let up : k ≤ b - a = omega arith in
            let next : k + 1 ≤ k + 1 = omega arith in
            ap (λ t. inner (bounds_between 1 s e ((if t then k ∷ [] else []) ++ byte_places_from tab (k + 1) xs))) same
            ∙ ap (λ part. part ∷ inner (bounds_between 1 (k + 1) e (byte_places_from tab (k + 1) xs))) (part_of_part text whole a b ordered within s k low up)
            ∙ ap (λ parts. part_of (a + s) (a + k) ∷ parts) (rest (k + 1) next ∙ ap (λ n. parts_of (bounds_between 1 n (a + e) (byte_places_from tab n xs))) sum)
            ∙ ap (λ t. parts_of (bounds_between 1 (a + s) (a + e) ((if t then (a + k) ∷ [] else []) ++ byte_places_from tab (a + k + 1) xs))) (sym same)
        by false same rest =
            let later : s ≤ k + 1 = omega arith in
            ap (λ t. inner (bounds_between 1 s e ((if t then k ∷ [] else []) ++ byte_places_from tab (k + 1) xs))) same
            ∙ rest s later
            ∙ ap (λ n. parts_of (bounds_between 1 (a + s) (a + e) (byte_places_from tab n xs))) sum
            ∙ ap (λ t. parts_of (bounds_between 1 (a + s) (a + e) ((if t then (a + k) ∷ [] else []) ++ byte_places_from tab (a + k + 1) xs))) (sym same)

    row-cells : parts_by_character tab row_part ≡ cells_to a a b
    row-cells =
        let slice = slice_range shown a b in
        let size = slice-size in
        let low : 0 ≤ 0 = omega arith in
        let end : 0 + length slice ≡ length slice = omega arith in
        let high : length slice ≤ b - a = omega (arith, size) in
        let start : a + 0 ≡ a = omega arith in
        let last : a + length slice ≡ b = omega (arith, size) in
        ap (λ bytes. inner (bounds_between 1 0 (length bytes) (byte_places_from tab 0 bytes))) row-shown
        ∙ shifted slice 0 0 (length slice) low end high
        ∙ ap (λ n. parts_of (bounds_between 1 n (a + length slice) (byte_places_from tab n slice))) start
        ∙ ap (λ n. parts_of (bounds_between 1 a n (byte_places_from tab a slice))) last

  -- ---- the cells of a row so far

  behind_one : (place x : ℕ) (bs : List ℕ) → drop place shown ≡ x ∷ bs → drop (place + 1) shown ≡ bs
  behind_one place x bs left = sym (drop-drop 1 place shown) ∙ ap (drop 1) left

  slice-more : (place b x : ℕ) (bs : List ℕ) → place + 1 ≤ b → drop place shown ≡ x ∷ bs → slice_range shown place b ≡ x ∷ slice_range shown (place + 1) b
  slice-more place b x bs more left =
      let size : b - place ≡ suc (b - (place + 1)) = omega arith in
      ap (λ n. take n (drop place shown)) size ∙ ap (take (suc (b - (place + 1)))) left
      ∙ ap (λ bytes. x ∷ take (b - (place + 1)) bytes) (sym (behind_one place x bs left))

  -- `row` are the cells of the row from place a on that have ended before the cell at `start`, wherever the row ends
  abbrev InRow : List (List ℕ) → ℕ → ℕ → ℕ → Type 0
  InRow row a start place = (b : ℕ) → place ≤ b → b ≤ length shown → cells_to a a b ≡ row ++ cells_to start place b

  InRow-tab : (row : List (List ℕ)) (a start place x : ℕ) (bs : List ℕ) → drop place shown ≡ x ∷ bs → (x == tab) ≡ true → InRow row a start place
      → InRow (row ++ part_of start place ∷ []) a (place + 1) (place + 1)
  InRow-tab row a start place x bs left is_tab known b more within =
      let low : place ≤ b = omega arith in
      known b low within
      ∙ ap (λ bytes. row ++ parts_of (bounds_between 1 start b (byte_places_from tab place bytes))) (slice-more place b x bs more left)
      ∙ ap (λ t. row ++ parts_of (bounds_between 1 start b ((if t then place ∷ [] else []) ++ byte_places_from tab (place + 1) (slice_range shown (place + 1) b)))) is_tab
      ∙ sym (append_assoc row (part_of start place ∷ []) (cells_to (place + 1) (place + 1) b))

  InRow-other : (row : List (List ℕ)) (a start place x : ℕ) (bs : List ℕ) → drop place shown ≡ x ∷ bs → (x == tab) ≡ false → InRow row a start place → InRow row a start (place + 1)
  InRow-other row a start place x bs left other known b more within =
      let low : place ≤ b = omega arith in
      known b low within
      ∙ ap (λ bytes. row ++ parts_of (bounds_between 1 start b (byte_places_from tab place bytes))) (slice-more place b x bs more left)
      ∙ ap (λ t. row ++ parts_of (bounds_between 1 start b ((if t then place ∷ [] else []) ++ byte_places_from tab (place + 1) (slice_range shown (place + 1) b)))) other

  row-ended : (row : List (List ℕ)) (a start place : ℕ) → a ≤ place → place ≤ length shown → InRow row a start place → row ++ part_of start place ∷ [] ≡ parts_by_character tab (part_of a place)
  row-ended row a start place low within known =
      let here : place ≤ place = omega arith in
      ap (λ bytes. row ++ parts_of (bounds_between 1 start place (byte_places_from tab place bytes))) (sym (cell-empty shown place))
      ∙ sym (known place here within) ∙ sym (row-cells a place low within)

  -- ---- the rows

  -- the rows from the one that begins at place a, where the line feeds after `place` are those of the bytes
  abbrev rows_left : ℕ → ℕ → List ℕ → List (List (List ℕ))
  rows_left a place bs = map (parts_by_character tab) (without_unshown_last (parts_of (bounds_between 1 a (length shown) (byte_places_from line_feed place bs))))

  keep-first : (part : List ℕ) (from : ℕ) (others : List ℕ)
      → without_unshown_last (part ∷ parts_of (bounds_between 1 from (length shown) others)) ≡ part ∷ without_unshown_last (parts_of (bounds_between 1 from (length shown) others))
  keep-first part from [] = refl
  keep-first part from (at ∷ others) = refl

  last-row : (row : List (List ℕ)) (a start place : ℕ) → a + length row ≤ start → start ≤ place → (length row ≡ 0 → start ≡ a) → place ≡ length shown → InRow row a start place
      → (bare ended : Bool) → (length (stripped (part_of a place)) == 0) ≡ bare → (length row + (place - start) == 0) ≡ ended
      → (if ended then [] else (row ++ part_of start place ∷ []) ∷ []) ≡ map (parts_by_character tab) (if bare then [] else part_of a place ∷ [])
  last-row row a start place low high first end known bare ended e f =
      let before : a ≤ place = omega arith in
      let within : place ≤ length shown = omega arith in
      let size : length (stripped (part_of a place)) ≡ place - a = ap length (row-shown a place before within) ∙ slice-size a place before within in
      by bare ended e f size
    where
      by : (bare ended : Bool) → (length (stripped (part_of a place)) == 0) ≡ bare → (length row + (place - start) == 0) ≡ ended → length (stripped (part_of a place)) ≡ place - a
          → (if ended then [] else (row ++ part_of start place ∷ []) ∷ []) ≡ map (parts_by_character tab) (if bare then [] else part_of a place ∷ [])
      by true true e f size = refl
      by true false e f size =
          let none = eqb-true (length (stripped (part_of a place))) 0 e in
          let all : length row + (place - start) ≡ 0 = omega (arith, none, size) in
          let clash : false ≡ true = sym f ∙ eq-eqb (length row + (place - start)) 0 all in
          cc clash
      by false true e f size =
          let none = eqb-true (length row + (place - start)) 0 f in
          let gone : length row ≡ 0 = omega (arith, none) in
          let same = first gone in
          let all : length (stripped (part_of a place)) ≡ 0 = omega (arith, none, size, same) in
          let clash : false ≡ true = sym e ∙ eq-eqb (length (stripped (part_of a place))) 0 all in
          cc clash
      by false false e f size =
          let before : a ≤ place = omega arith in
          let within : place ≤ length shown = omega arith in
          ap (λ cells. cells ∷ []) (row-ended row a start place before within known)

  rows-from : (bs : List ℕ) (row : List (List ℕ)) (a start place : ℕ) → drop place shown ≡ bs → a + length row ≤ start → start ≤ place → (length row ≡ 0 → start ≡ a) → place ≤ length shown → InRow row a start place
      → cells_from part_of row start place bs ≡ rows_left a place bs
  rows-from [] row a start place left low high first within known =
      let end : place ≡ length shown = omega (arith, ap length left, length-drop place shown) in
      last-row row a start place low high first end known (length (stripped (part_of a place)) == 0) (length row + (place - start) == 0) refl refl
      ∙ ap (λ n. map (parts_by_character tab) (without_unshown_last (part_of a n ∷ []))) end
  rows-from (x ∷ bs) row a start place left low high first within known =
      by (x == line_feed) refl (x == tab) refl (λ row a start low high first known. rows-from bs row a start (place + 1) (behind_one place x bs left) low high first (omega (arith, ap length left, length-drop place shown)) known)
    where
      here : place + 1 ≤ place + 1
      here = omega arith

      empty : place + 1 + 0 ≤ place + 1
      empty = omega arith

      by : (is_feed : Bool) → (x == line_feed) ≡ is_feed → (is_tab : Bool) → (x == tab) ≡ is_tab
          → ((row : List (List ℕ)) (a start : ℕ) → a + length row ≤ start → start ≤ place + 1 → (length row ≡ 0 → start ≡ a) → InRow row a start (place + 1) → cells_from part_of row start (place + 1) bs ≡ rows_left a (place + 1) bs)
          → cells_from part_of row start place (x ∷ bs) ≡ rows_left a place (x ∷ bs)
      by true e is_tab f rest =
          let before : a ≤ place = omega arith in
          ap (λ t. cond t ((row ++ part_of start place ∷ []) ∷ cells_from part_of [] (place + 1) (place + 1) bs)
          (cond (x == tab) (cells_from part_of (row ++ part_of start place ∷ []) (place + 1) (place + 1) bs) (cells_from part_of row start (place + 1) bs))) e
          ∙ ap (λ rows. (row ++ part_of start place ∷ []) ∷ rows) (rest [] (place + 1) (place + 1) empty here (λ _. refl) (λ b more inside. refl))
          ∙ ap (λ cells. cells ∷ rows_left (place + 1) (place + 1) bs) (row-ended row a start place before within known)
          ∙ ap (map (parts_by_character tab)) (sym (keep-first (part_of a place) (place + 1) (byte_places_from line_feed (place + 1) bs)))
          ∙ ap (λ t. map (parts_by_character tab) (without_unshown_last (parts_of (bounds_between 1 a (length shown) ((if t then place ∷ [] else []) ++ byte_places_from line_feed (place + 1) bs))))) (sym e)
      by false e true f rest =
          let longer : a + length (row ++ part_of start place ∷ []) ≤ place + 1 = omega (arith, length-append row (part_of start place ∷ [])) in
          let some : length (row ++ part_of start place ∷ []) ≡ 0 → place + 1 ≡ a = λ none. absurd (omega (arith, none, length-append row (part_of start place ∷ []))) in
          ap (λ t. cond t ((row ++ part_of start place ∷ []) ∷ cells_from part_of [] (place + 1) (place + 1) bs)
          (cond (x == tab) (cells_from part_of (row ++ part_of start place ∷ []) (place + 1) (place + 1) bs) (cells_from part_of row start (place + 1) bs))) e
          ∙ ap (λ t. cond t (cells_from part_of (row ++ part_of start place ∷ []) (place + 1) (place + 1) bs) (cells_from part_of row start (place + 1) bs)) f
          ∙ rest (row ++ part_of start place ∷ []) a (place + 1) longer here some (InRow-tab row a start place x bs left f known)
          ∙ ap (λ t. map (parts_by_character tab) (without_unshown_last (parts_of (bounds_between 1 a (length shown) ((if t then place ∷ [] else []) ++ byte_places_from line_feed (place + 1) bs))))) (sym e)
      by false e false f rest =
          let later : start ≤ place + 1 = omega arith in
          ap (λ t. cond t ((row ++ part_of start place ∷ []) ∷ cells_from part_of [] (place + 1) (place + 1) bs)
          (cond (x == tab) (cells_from part_of (row ++ part_of start place ∷ []) (place + 1) (place + 1) bs) (cells_from part_of row start (place + 1) bs))) e
          ∙ ap (λ t. cond t (cells_from part_of (row ++ part_of start place ∷ []) (place + 1) (place + 1) bs) (cells_from part_of row start (place + 1) bs)) f
          ∙ rest row a start low later first (InRow-other row a start place x bs left f known)
          ∙ ap (λ t. map (parts_by_character tab) (without_unshown_last (parts_of (bounds_between 1 a (length shown) ((if t then place ∷ [] else []) ++ byte_places_from line_feed (place + 1) bs))))) (sym e)

  -- one pass over what a text shows finds the cells of its rows
  pub cells_from-start : cells_from part_of [] 0 0 shown ≡ cell_parts text
  cells_from-start =
      let low : 0 ≤ 0 = omega arith in
      let within : 0 ≤ length shown = omega arith in
      rows-from shown [] 0 0 0 refl low low (λ _. refl) within (λ b more inside. refl)
