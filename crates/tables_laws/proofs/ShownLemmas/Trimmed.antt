-- What a closed line shows without the white space at its ends.
use Rattle.std.proofs.Common.{◌≡◌, ◌==◌, ◌&&◌, ℕ, zero, suc, ◌+◌, ◌-◌, ◌≤◌, Bool, true, false, cond, List, [], ◌∷◌, ◌++◌, length, map, take, drop, refl, ap, sym, subst, ◌∙◌, arith, length-append}
use Rattle.std.specs.Prelude.{IsUtf8, chars}
use Rattle.std.specs.Char.{is_whitespace}
use Rattle.std.specs.Str.{IsCharBoundary, drop_trailing_whitespace, skip_leading_whitespace, trim, trim_start}
use Rattle.std.proofs.Math.Utf8.{scalar, scalars}
use Rattle.std.proofs.lemmas.Bool.{and_parts}
use Rattle.std.proofs.lemmas.List.{length-map, take-append-drop}
use Rattle.std.proofs.lemmas.Str.{IsUtf8-take, chars-append, chars-encodes, scalars-chars}
use Rattle.ansi_scan.specs.Attributes.{Attributes, plain_attributes}
use Rattle.ansi_scan.specs.Joining.{is_text_kind}
use Rattle.ansi_scan.specs.Pieces.{pieces}
use Rattle.ansi_scan.specs.Sequences.{ArePiecesOf, Piece}
use Rattle.ansi_scan.proofs.Existence.{ArePiecesOf-pieces}
use Rattle.ansi_str.specs.Keeping.{IsTrimmed, sequences_among}
use Rattle.ansi_str.specs.Matches.{styled_slice}
use Rattle.ansi_str.proofs.EditUtf8.{IsUtf8-taken, trimmed-first, trimmed-last}
use Rattle.ansi_str.proofs.KeptPieces.{kept_sequences}
use Rattle.ansi_str.proofs.KeptSlices.{kept_slice}
use Rattle.ansi_str.proofs.Trims.{TrimsFromTo, by_places}
use Rattle.ansi_str_search.proofs.Parts.{style_by-text}
use Rattle.ansi_str_search.specs.Text.StyledText.{style_after, style_after_all}
use Rattle.ansi_str_search.proofs.TextLemmas.Utf8Pieces.{EachUtf8-of, IsUtf8-shown_text}
use Rattle.grid_records_measure.specs.Trimming.{trimmed}
use Rattle.grid_records_measure.proofs.Trimmed.{trimmed-is}
use Rattle.papergrid_picture.specs.Shown.{Styled, character_of}
use Rattle.papergrid_picture.proofs.Shown.{IsClosedPart, ShowsHere, characters-styled, styled_of}
use Rattle.papergrid_picture.proofs.Stripped.{Leaves-trimmed, stripped}
use Rattle.papergrid_picture.proofs.Widths.{chars-trim}
use Rattle.tables_laws.specs.Shown.ShownTables.{without_white_end, without_white_start}

-- ---- lists

take-nothing : {A : Type 0} (n : ℕ) → take n (let none : List A = [] in none) ≡ []
take-nothing zero = refl
take-nothing (suc n) = refl

take-both : {A : Type 0} (a b : ℕ) (xs : List A) → a ≤ b → take b xs ≡ take a xs ++ take (b - a) (drop a xs)
take-both zero b xs order = let same : b ≡ b - 0 = omega arith in ap (λ n. take n xs) same
take-both (suc a) b [] order = take-nothing b ∙ sym (take-nothing (b - suc a))
take-both (suc a) zero (x ∷ xs) order = absurd (omega (arith, order))
take-both (suc a) (suc b) (x ∷ xs) order =
    let same : b - a ≡ suc b - suc a = omega arith in
    ap (λ ys. x ∷ ys) (take-both a b xs (omega (arith, order)) ∙ ap (λ n. take a xs ++ take n (drop a xs)) same)

-- ---- styled characters without white space at their ends

pub start-is : (xs : List Styled) → (n : ℕ) × (without_white_start xs ≡ drop n xs) × (n + length (without_white_start xs) ≡ length xs)
start-is [] = (0, refl, refl)
start-is (x ∷ xs) =
    let rest = start-is xs in
    elim (is_whitespace x.0) as (λ b. (n : ℕ) × (cond b (without_white_start xs) (x ∷ xs) ≡ drop n (x ∷ xs)) × (n + length (cond b (without_white_start xs) (x ∷ xs)) ≡ length (x ∷ xs))) [
      | true ↦ (suc rest.0, rest.1, omega (arith, rest.2))
      | false ↦ (0, refl, omega arith)
    ]

pub end-is : (xs : List Styled) → without_white_end xs ≡ take (length (without_white_end xs)) xs
end-is [] = refl
end-is (x ∷ xs) =
    let rest = without_white_end xs in
    elim (is_whitespace x.0 && length rest == 0) as (λ b. cond b [] (x ∷ rest) ≡ take (length (cond b [] (x ∷ rest))) (x ∷ xs)) [
      | true ↦ refl
      | false ↦ ap (λ ys. x ∷ ys) (end-is xs)
    ]

start-characters : (xs : List Styled) → map character_of (without_white_start xs) ≡ skip_leading_whitespace (map character_of xs)
start-characters [] = refl
start-characters (x ∷ xs) =
    elim (is_whitespace x.0) as (λ b. map character_of (cond b (without_white_start xs) (x ∷ xs)) ≡ cond b (skip_leading_whitespace (map character_of xs)) (x.0 ∷ map character_of xs)) [
      | true ↦ start-characters xs
      | false ↦ refl
    ]

end-characters : (xs : List Styled) → map character_of (without_white_end xs) ≡ drop_trailing_whitespace (map character_of xs)
end-characters [] = refl
end-characters (x ∷ xs) =
    let rest = without_white_end xs in
    let others = drop_trailing_whitespace (map character_of xs) in
    let same : length rest ≡ length others = sym (length-map rest character_of) ∙ ap (λ (cs : List ℕ). length cs) (end-characters xs) in
    ap (λ n. map character_of (cond (is_whitespace x.0 && n == 0) [] (x ∷ rest))) same
    ∙ elim (is_whitespace x.0 && length others == 0) as (λ b. map character_of (cond b [] (x ∷ rest)) ≡ cond b [] (x.0 ∷ others)) [
      | true ↦ refl
      | false ↦ ap (λ cs. x.0 ∷ cs) (end-characters xs)
    ]

pub trimmed-characters : (xs : List Styled) → map character_of (without_white_end (without_white_start xs)) ≡ drop_trailing_whitespace (skip_leading_whitespace (map character_of xs))
trimmed-characters xs = end-characters (without_white_start xs) ∙ ap drop_trailing_whitespace (start-characters xs)

-- ---- the characters of a text in UTF-8

scalars-skip : (cs : List ℕ) → scalars cs ≡ true → scalars (skip_leading_whitespace cs) ≡ true
scalars-skip [] all = refl
scalars-skip (c ∷ cs) all = elim (is_whitespace c) as (λ b. scalars (cond b (skip_leading_whitespace cs) (c ∷ cs)) ≡ true) [
  | true ↦ scalars-skip cs (and_parts (scalar c) (scalars cs) all).1
  | false ↦ all
]

chars-start : (text : List ℕ) → IsUtf8 text → chars (trim_start text) ≡ skip_leading_whitespace (chars text)
unfolding trim_start
chars-start text utf8 = chars-encodes (skip_leading_whitespace (chars text)) (scalars-skip (chars text) (scalars-chars text utf8))

-- ---- styles

-- only sequences change a style
style-sequences : (style : Attributes) (ps : List Piece) → style_after_all style ps ≡ style_after_all style (sequences_among ps)
style-sequences style [] = refl
style-sequences style (p ∷ ps) = by (is_text_kind p.kind) refl (style-sequences style ps) (style-sequences (style_after style p) ps)
  where
    by : (text : Bool) → is_text_kind p.kind ≡ text → style_after_all style ps ≡ style_after_all style (sequences_among ps)
        → style_after_all (style_after style p) ps ≡ style_after_all (style_after style p) (sequences_among ps)
        → style_after_all (style_after style p) ps ≡ style_after_all style (cond text (sequences_among ps) (p ∷ sequences_among ps))
    by true is here others = ap (λ (s : Attributes). style_after_all s ps) (style_by-text style p.kind p.bytes is) ∙ here
    by false is here others = others

-- ---- a closed line

module _ (part : List ℕ) (closed : IsClosedPart part) where
  abbrev shown : List ℕ
  shown = stripped part

  abbrev xs : List Styled
  xs = styled_of part

  abbrev front : List Styled
  front = without_white_start xs

  abbrev left : List Styled
  left = without_white_end front

  is : IsTrimmed (pieces part) (trimmed part)
  is = trimmed-is part closed.utf8

  utf8 : IsUtf8 shown
  utf8 = IsUtf8-shown_text part closed.utf8

  places : TrimsFromTo shown is.0 is.1
  places = by_places shown is.0 is.1 is.2

  of_left : ArePiecesOf (trimmed part) (pieces (trimmed part))
  of_left = ArePiecesOf-pieces (trimmed part)

  first : IsCharBoundary shown is.0
  first = trimmed-first shown is.0 is.1 utf8 is.2

  last : IsCharBoundary shown is.1
  last = trimmed-last shown is.0 is.1 utf8 is.2

  before : IsUtf8 (take is.0 shown)
  before = IsUtf8-take shown is.0 utf8 first

  -- as many characters are before it as white space is taken away
  counted-before : length (chars (take is.0 shown)) + length (skip_leading_whitespace (chars shown)) ≡ length (chars shown)
  counted-before =
      let parted : chars shown ≡ chars (take is.0 shown) ++ chars (drop is.0 shown) = ap chars (sym (take-append-drop is.0 shown)) ∙ chars-append (take is.0 shown) (drop is.0 shown) before in
      let behind : chars (drop is.0 shown) ≡ skip_leading_whitespace (chars shown) = ap chars places.begins ∙ chars-start shown utf8 in
      let whole = ap (λ (cs : List ℕ). length cs) parted in
      let joined = length-append (chars (take is.0 shown)) (chars (drop is.0 shown)) in
      let rest = ap (λ (cs : List ℕ). length cs) behind in
      omega (arith, whole, joined, rest)

  counted-through : length (chars (take is.1 shown)) ≡ length (chars (take is.0 shown)) + length left
  counted-through =
      let parted : chars (take is.1 shown) ≡ chars (take is.0 shown) ++ chars (trim shown) =
      ap chars (take-both is.0 is.1 shown places.ordered ∙ ap (λ bytes. take is.0 shown ++ bytes) places.left) ∙ chars-append (take is.0 shown) (trim shown) before in
      let characters : chars (trim shown) ≡ map character_of left =
      chars-trim shown utf8 ∙ ap (λ cs. drop_trailing_whitespace (skip_leading_whitespace cs)) (sym (characters-styled part closed.utf8)) ∙ sym (trimmed-characters xs) in
      let whole = ap (λ (cs : List ℕ). length cs) parted in
      let joined = length-append (chars (take is.0 shown)) (chars (trim shown)) in
      let size = ap (λ (cs : List ℕ). length cs) characters in
      let same = length-map left character_of in
      omega (arith, whole, joined, size, same)

  slice-is : styled_slice (pieces part) is.0 is.1 ≡ left
  slice-is =
      let n = length (chars (take is.0 shown)) in
      let m = length (chars (take is.1 shown)) in
      let found = start-is xs in
      let all : length xs ≡ length (chars shown) = sym (length-map xs character_of) ∙ ap (λ (cs : List ℕ). length cs) (characters-styled part closed.utf8) in
      let rest : length front ≡ length (skip_leading_whitespace (chars shown)) =
      sym (length-map front character_of) ∙ ap (λ (cs : List ℕ). length cs) (start-characters xs ∙ ap skip_leading_whitespace (characters-styled part closed.utf8)) in
      let begins : n ≡ found.0 = omega (arith, counted-before, found.2, all, rest) in
      let many : m - n ≡ length left = omega (arith, counted-through) in
      ap (λ k. take (m - n) (drop k xs)) begins
      ∙ ap (λ (ys : List Styled). take (m - n) ys) (sym found.1)
      ∙ ap (λ k. take k front) many
      ∙ sym (end-is front)

  pub trimmed-shows : ShowsHere (trimmed part) left
  trimmed-shows =
      let leaves = Leaves-trimmed part closed in
      let of_part = ArePiecesOf-pieces part in
      let whole = closed.closed.none_broken in
      let of_kept = subst (λ bytes. ArePiecesOf bytes (pieces (trimmed part))) is.3 of_left in
      record {
        utf8 = subst IsUtf8 (sym is.3) (IsUtf8-taken (λ _. true) is.0 is.1 (pieces part) (EachUtf8-of part (pieces part) closed.utf8 of_part) places.ordered (λ _. first) (λ _. last));
        closed = record {
          none_broken = leaves.whole;
          plain =
              style-sequences plain_attributes (pieces (trimmed part))
              ∙ ap (style_after_all plain_attributes) (kept_sequences is.0 is.1 part (pieces part) (pieces (trimmed part)) of_part whole of_kept)
              ∙ sym (style-sequences plain_attributes (pieces part)) ∙ closed.closed.plain;
        };
        shown = kept_slice is.0 is.1 part (pieces part) (pieces (trimmed part)) places.ordered closed.utf8 of_part whole first last of_kept ∙ slice-is;
      }
