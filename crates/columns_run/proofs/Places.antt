-- The places of an ASCII character in a text.
use Rattle.std.proofs.Common.{◌≡◌, ℕ, zero, suc, ◌+◌, ◌-◌, ◌<◌, ◌≤◌, ◌==◌, ◌&&◌, ◌||◌, not, nat_lt, nat_le, Bool, true, false, cond, List, [], ◌∷◌, ◌++◌, map, length, take, drop, get_or, refl, ap, sym, subst, ◌∙◌, arith, append-nil, append_assoc, length-drop, eqb-true, eq-eqb, if◌then◌else◌}
use Rattle.std.specs.Prelude.{slice_range}
use Rattle.std.specs.List.{slice_split, onto_first, list_all, AllByRecursion}
use Rattle.std.proofs.lemmas.Bool.Decides.{nat_tests}
use Rattle.std.proofs.lemmas.Str.{IsCharBoundary-before_ascii}
use Rattle.std.proofs.lemmas.List.{drop-drop, drop_all, get_or-drop}
use Rattle.std.proofs.lemmas.List.Splits.{slice_split-cons_yes, slice_split-cons_no}
use Rattle.ansi_scan.specs.declared.items.Kind.TheVariants.{Text}
use Rattle.ansi_scan.specs.Sequences.{Piece, escape, is_not_escape, ArePiecesOf, IsWhole}
use Rattle.ansi_scan.specs.Pieces.{pieces}
use Rattle.ansi_scan.specs.Attributes.{Attributes, plain_attributes}
use Rattle.ansi_scan.specs.StartsAndEnds.{start_bytes, start_sequences, end_bytes, end_sequences}
use Rattle.ansi_scan.proofs.Uniqueness.{pieces-ArePiecesOf}
use Rattle.ansi_str.specs.StyledText.{has_escape, strip}
use Rattle.ansi_str.specs.Parts.{split_part}
use Rattle.ansi_str.specs.Matches.{Occurs, AreMatches, AreMatchesFrom, bounds_between, split_bounds, text_parts, styled_parts}
use Rattle.columns_run.specs.Rows.{line_feed, tab, stripped, byte_places_from, places, parts_by_character, without_empty_last, without_unshown_last, row_parts, cell_parts, row_texts, rows_of}
use Rattle.columns_run.proofs.Rows.{onto_front, slice_split-parts}
use Rattle.columns_run.proofs.Passes.{cell-empty, cell-more}
use Rattle.columns_run.proofs.Items.{AllByRecursion-map_of, map-same}

-- ---- the byte at a place

module _ (text : List ℕ) (k b : ℕ) (bs : List ℕ) (left : drop k text ≡ b ∷ bs) where
  inside : k < length text
  inside = omega (arith, ap length left, length-drop k text)

  here : get_or text k 0 ≡ b
  here =
      let place : k ≡ k + 0 = omega arith in
      ap (λ n. get_or text n 0) place ∙ sym (get_or-drop k text 0 0) ∙ ap (λ bytes. get_or bytes 0 0) left

  behind_it : drop (k + 1) text ≡ bs
  behind_it = sym (drop-drop 1 k text) ∙ ap (drop 1) left

past : (text : List ℕ) (k : ℕ) → drop k text ≡ [] → length text ≤ k
past text k none = omega (arith, ap length none, length-drop k text)

-- ---- they are the matches

module _ (c : ℕ) (text : List ℕ) (ascii : c < 128) where
  abbrev Here : ℕ → Type 0
  Here at = Occurs (c ∷ []) text at

  occurs : (k b : ℕ) (bs : List ℕ) → drop k text ≡ b ∷ bs → (b == c) ≡ true → Here k
  occurs k b bs left same =
      let equal = eqb-true b c same in
      let byte = here text k b bs left in
      record { behind = bs; stands = left ∙ ap (λ x. x ∷ bs) equal; boundary = IsCharBoundary-before_ascii text k (inside text k b bs left) (omega (arith, byte, equal)) }

  occurs_not : (k b : ℕ) (bs : List ℕ) → drop k text ≡ b ∷ bs → (b == c) ≡ false → Here k → ⊥
  occurs_not k b bs left other found =
      let heads : b ∷ bs ≡ c ∷ found.behind = sym left ∙ found.stands in
      let equal : b ≡ c = cc heads in
      let test : false ≡ true = sym other ∙ eq-eqb b c equal in
      cc test

  occurs_past : (at : ℕ) → length text ≤ at → Here at → ⊥
  occurs_past at all found = let clash : [] ≡ c ∷ found.behind = sym (drop_all at text all) ∙ found.stands in cc clash

  -- no match from one place to another
  abbrev None : ℕ → ℕ → Type 0
  None from k = (other : ℕ) → from ≤ other → other < k → Here other → ⊥

  none-more : (from k : ℕ) → None from k → (Here k → ⊥) → None from (k + 1)
  none-more from k none last other low high found = at (nat_lt other k) refl where
    at : (before : Bool) → nat_lt other k ≡ before → ⊥
    at true e = let early : other < k = grind (arith, nat_tests) in none other low early found
    at false e = let same : other ≡ k = grind (arith, nat_tests) in last (subst Here same found)

  abbrev From : ℕ → List ℕ → Type 0
  From from matches = AreMatchesFrom (c ∷ []) text from matches

  matches-from : (bs : List ℕ) (from k : ℕ) → drop k text ≡ bs → from ≤ k → None from k → From from (byte_places_from c k bs)
  matches-from [] from k left low none = λ at later found. occurs_past at (all at later found) found where
    all : (at : ℕ) → from ≤ at → Here at → length text ≤ at
    all at later found = elim_lt (nat_lt at k) refl where
      elim_lt : (before : Bool) → nat_lt at k ≡ before → length text ≤ at
      elim_lt true e = let early : at < k = grind (arith, nat_tests) in absurd (none at later early found)
      elim_lt false e = let late : k ≤ at = grind (arith, nat_tests) in omega (arith, past text k left)
  matches-from (b ∷ bs) from k left low none = at (b == c) refl (λ from low none. matches-from bs from (k + 1) (behind_it text k b bs left) low none) where
    at : (same : Bool) → (b == c) ≡ same → ((other : ℕ) → other ≤ k + 1 → None other (k + 1) → From other (byte_places_from c (k + 1) bs))
        → From from ((if b == c then k ∷ [] else []) ++ byte_places_from c (k + 1) bs)
    at true e rest =
        let found = occurs k b bs left e in
        let others : From (k + 1) (byte_places_from c (k + 1) bs) = rest (k + 1) (omega arith) (λ other late early found. omega arith) in
        subst (λ t. From from ((if t then k ∷ [] else []) ++ byte_places_from c (k + 1) bs)) (sym e) (record { not_before = low; occurs = found; first = none }, others)
    at false e rest =
        subst (λ t. From from ((if t then k ∷ [] else []) ++ byte_places_from c (k + 1) bs)) (sym e)
        (rest from (omega arith) (none-more from k none (occurs_not k b bs left e)))

  -- the places of an ASCII character are where it matches
  pub AreMatches-places : AreMatches (c ∷ []) text (places c text)
  AreMatches-places = matches-from text 0 0 refl (omega arith) (λ other late early found. omega arith)

-- ---- a text without sequences

onto_front-none : (c : ℕ) (bytes : List ℕ) → onto_front [] (slice_split (λ b. b == c) bytes) ≡ slice_split (λ b. b == c) bytes
onto_front-none c bytes = let found = slice_split-parts (λ b. b == c) bytes in ap (onto_front []) found.2 ∙ sym found.2

module _ (c : ℕ) (text : List ℕ) where
  abbrev split : List ℕ → List (List ℕ)
  split bytes = slice_split (λ b. b == c) bytes

  abbrev cut_from : ℕ → List ℕ → List (List ℕ)
  cut_from start matches = text_parts text (bounds_between 1 start (length text) matches)

  parts-from : (bs : List ℕ) (start k : ℕ) → drop k text ≡ bs → start ≤ k → k ≤ length text → cut_from start (byte_places_from c k bs) ≡ onto_front (slice_range text start k) (split bs)
  parts-from [] start k left low high =
      let end : length text ≡ k = omega (arith, past text k left) in
      ap (λ n. slice_range text start n ∷ []) end ∙ ap (λ part. part ∷ []) (sym (append-nil (slice_range text start k)))
  parts-from (b ∷ bs) start k left low high =
      at (b == c) refl (λ start low. parts-from bs start (k + 1) (behind_it text k b bs left) low (omega (arith, inside text k b bs left))) where
        joined : (front : List ℕ) (parts : List (List ℕ)) → (part : List ℕ) × (others : List (List ℕ)) × (parts ≡ part ∷ others) → onto_front (front ++ b ∷ []) parts ≡ onto_front front (onto_first b parts)
        joined front parts found =
            ap (onto_front (front ++ b ∷ [])) found.2 ∙ ap (λ part. part ∷ found.1) (append_assoc front (b ∷ []) found.0) ∙ ap (λ parts. onto_front front (onto_first b parts)) (sym found.2)

        at : (same : Bool) → (b == c) ≡ same → ((other : ℕ) → other ≤ k + 1 → cut_from other (byte_places_from c (k + 1) bs) ≡ onto_front (slice_range text other (k + 1)) (split bs))
            → cut_from start ((if b == c then k ∷ [] else []) ++ byte_places_from c (k + 1) bs) ≡ onto_front (slice_range text start k) (split (b ∷ bs))
        at true e rest =
            ap (λ t. cut_from start ((if t then k ∷ [] else []) ++ byte_places_from c (k + 1) bs)) e
            ∙ ap (λ parts. slice_range text start k ∷ parts) (rest (k + 1) (omega arith) ∙ ap (λ front. onto_front front (split bs)) (cell-empty text (k + 1)) ∙ onto_front-none c bs)
            ∙ ap (λ part. part ∷ split bs) (sym (append-nil (slice_range text start k)))
            ∙ ap (onto_front (slice_range text start k)) (sym (slice_split-cons_yes (λ b. b == c) b bs e))
        at false e rest =
            ap (λ t. cut_from start ((if t then k ∷ [] else []) ++ byte_places_from c (k + 1) bs)) e
            ∙ rest start (omega arith)
            ∙ ap (λ front. onto_front front (split bs)) (sym (cell-more text start k low (inside text k b bs left)) ∙ ap (λ byte. slice_range text start k ++ byte ∷ []) (here text k b bs left))
            ∙ joined (slice_range text start k) (split bs) (slice_split-parts (λ b. b == c) bs)
            ∙ ap (onto_front (slice_range text start k)) (sym (slice_split-cons_no (λ b. b == c) b bs e))

  text_parts-split : text_parts text (split_bounds (c ∷ []) text (places c text)) ≡ split text
  text_parts-split =
      let begins : 0 ≤ 0 = omega arith in
      let within : 0 ≤ length text = omega arith in
      parts-from text 0 0 refl begins within ∙ ap (λ front. onto_front front (split text)) (cell-empty text 0) ∙ onto_front-none c text

-- ---- its pieces and parts

not_escape : (is_escape others : Bool) → (is_escape || others) ≡ false → (not is_escape ≡ true) × (others ≡ false)
not_escape true others e = absurd (cc e)
not_escape false others e = (refl, e)

bytes_without_escape : (bytes : List ℕ) → has_escape bytes ≡ false → list_all is_not_escape bytes ≡ true
bytes_without_escape [] none = refl
bytes_without_escape (b ∷ bs) none =
    let parts = not_escape (b == escape) (has_escape bs) none in
    ap (λ t. t && list_all is_not_escape bs) parts.0 ∙ bytes_without_escape bs parts.1

abbrev text_piece : List ℕ → Piece
text_piece bytes = record { kind = Text; bytes = bytes }

some_text : (b : ℕ) (bs : List ℕ) → has_escape (b ∷ bs) ≡ false → ArePiecesOf (b ∷ bs) (text_piece (b ∷ bs) ∷ [])
some_text b bs none = record {
  joins = append-nil (b ∷ bs);
  stand = (record { some = omega arith; plain = bytes_without_escape (b ∷ bs) none; ends = tt }, tt);
}

pub pieces-some : (b : ℕ) (bs : List ℕ) → has_escape (b ∷ bs) ≡ false → pieces (b ∷ bs) ≡ text_piece (b ∷ bs) ∷ []
pieces-some b bs none = pieces-ArePiecesOf (b ∷ bs) (text_piece (b ∷ bs) ∷ []) (some_text b bs none)

pub pieces-none : pieces [] ≡ []
pieces-none = pieces-ArePiecesOf [] [] (record { joins = refl; stand = tt })

-- a text without ESC is whole
pub IsWhole-without_escape : (text : List ℕ) → has_escape text ≡ false → IsWhole text
IsWhole-without_escape [] none = record { pieces = []; of_text = record { joins = refl; stand = tt }; none_broken = tt }
IsWhole-without_escape (b ∷ bs) none = record { pieces = text_piece (b ∷ bs) ∷ []; of_text = some_text b bs none; none_broken = ((λ same. cc same), tt) }

pub stripped-without_escape : (text : List ℕ) → has_escape text ≡ false → stripped text ≡ text
stripped-without_escape [] none = ap strip pieces-none
stripped-without_escape (b ∷ bs) none = ap strip (pieces-some b bs none) ∙ append-nil (b ∷ bs)

no_start : start_bytes plain_attributes ≡ []
unfolding plain_attributes start_bytes start_sequences
no_start = refl

no_end : end_bytes plain_attributes ≡ []
unfolding plain_attributes end_bytes end_sequences
no_end = refl

either : (t : Bool) → (if t then plain_attributes else plain_attributes) ≡ plain_attributes
either true = refl
either false = refl

dressed_plain : (start end_style : Attributes) (bytes : List ℕ) → start ≡ plain_attributes → end_style ≡ plain_attributes → start_bytes start ++ (bytes ++ end_bytes end_style) ≡ bytes
dressed_plain start end_style bytes first last =
    ap (λ s. start_bytes s ++ (bytes ++ end_bytes end_style)) first
    ∙ ap (λ front. front ++ (bytes ++ end_bytes end_style)) no_start
    ∙ ap (λ s. bytes ++ end_bytes s) last ∙ ap (λ behind. bytes ++ behind) no_end ∙ append-nil bytes

split_part-text : (bytes : List ℕ) (a b : ℕ) → split_part a b (text_piece bytes ∷ []) ≡ slice_range bytes a b
split_part-text bytes a b =
    let from : a - 0 ≡ a = omega arith in
    let to : b - 0 ≡ b = omega arith in
    let start = if nat_lt 0 a then plain_attributes else plain_attributes in
    let plain_start : start ≡ plain_attributes = either (nat_lt 0 a) in
    let open_style = if nat_le a 0 && nat_le 0 b then start else start in
    dressed_plain start open_style (slice_range bytes (a - 0) (b - 0) ++ []) plain_start
    (ap (λ s. if nat_le a 0 && nat_le 0 b then s else s) plain_start ∙ either (nat_le a 0 && nat_le 0 b))
    ∙ append-nil (slice_range bytes (a - 0) (b - 0))
    ∙ ap (λ n. slice_range bytes n (b - 0)) from ∙ ap (slice_range bytes a) to

abbrev nothing : List ℕ
nothing = []

none_taken : (n : ℕ) → take n [] ≡ nothing
none_taken zero = refl
none_taken (suc n) = refl

none_left : (n : ℕ) → drop n [] ≡ nothing
none_left zero = refl
none_left (suc n) = refl

split_part-none : (a b : ℕ) → split_part a b [] ≡ slice_range [] a b
split_part-none a b = dressed_plain plain_attributes plain_attributes [] refl refl ∙ sym (ap (take (b - a)) (none_left a) ∙ none_taken (b - a))

split_part-plain : (text : List ℕ) → has_escape text ≡ false → (bound : ℕ × ℕ) → split_part bound.0 bound.1 (pieces text) ≡ slice_range text bound.0 bound.1
split_part-plain [] none bound = ap (split_part bound.0 bound.1) pieces-none ∙ split_part-none bound.0 bound.1
split_part-plain (b ∷ bs) none bound = ap (split_part bound.0 bound.1) (pieces-some b bs none) ∙ split_part-text (b ∷ bs) bound.0 bound.1

-- the parts of a text without ESC are slices of it
pub parts_by_character-without_escape : (c : ℕ) (text : List ℕ) → has_escape text ≡ false → parts_by_character c text ≡ slice_split (λ b. b == c) text
parts_by_character-without_escape c text none =
    ap (λ shown. styled_parts (pieces text) (split_bounds (c ∷ []) shown (places c shown))) (stripped-without_escape text none)
    ∙ (λ n. map (λ bound. split_part-plain text none bound n) (split_bounds (c ∷ []) text (places c text)))
    ∙ text_parts-split c text

-- ---- its rows and cells

NoEscape-parts : (c : ℕ) (text : List ℕ) → has_escape text ≡ false → AllByRecursion (λ part. has_escape part ≡ false) (slice_split (λ b. b == c) text)
NoEscape-parts c [] none = (refl, tt)
NoEscape-parts c (b ∷ bs) none =
    let rest = NoEscape-parts c bs (or_parts (b == escape) (has_escape bs) none).1 in
    elim (b == c) as (λ test. AllByRecursion (λ part. has_escape part ≡ false) (cond test ([] ∷ slice_split (λ b. b == c) bs) (onto_first b (slice_split (λ b. b == c) bs)))) [
      | true ↦ (refl, rest)
      | false ↦ onto (slice_split (λ b. b == c) bs) rest
    ]
  where
    or_parts : (first others : Bool) → (first || others) ≡ false → (first ≡ false) × (others ≡ false)
    or_parts true others e = absurd (cc e)
    or_parts false others e = (refl, e)

    onto : (parts : List (List ℕ)) → AllByRecursion (λ part. has_escape part ≡ false) parts → AllByRecursion (λ part. has_escape part ≡ false) (onto_first b parts)
    onto [] all = (ap (λ t. t || false) (or_parts (b == escape) (has_escape bs) none).0, tt)
    onto (part ∷ parts) all = (ap (λ t. t || has_escape part) (or_parts (b == escape) (has_escape bs) none).0 ∙ all.0, all.1)

abbrev NoEscape : List ℕ → Type 0
NoEscape part = has_escape part ≡ false

last_row : (part : List ℕ) → NoEscape part → (if length (stripped part) == 0 then [] else part ∷ []) ≡ without_empty_last (part ∷ [])
last_row [] none = ap (λ shown. if length shown == 0 then [] else [] ∷ []) (stripped-without_escape [] none)
last_row (b ∷ bs) none =
    let some : (length (b ∷ bs) == 0) ≡ false = some_length (length bs) in
    ap (λ shown. if length shown == 0 then [] else (b ∷ bs) ∷ []) (stripped-without_escape (b ∷ bs) none)
    ∙ ap (λ bare. if bare then [] else (b ∷ bs) ∷ []) some
  where
    some_length : (n : ℕ) → (suc n == 0) ≡ false
    some_length n = grind (arith, nat_tests)

more_rows : (part next : List ℕ) (parts : List (List ℕ)) → without_empty_last (part ∷ next ∷ parts) ≡ part ∷ without_empty_last (next ∷ parts)
more_rows [] next parts = refl
more_rows (b ∷ bs) next parts = refl

without_unshown_last-plain : (parts : List (List ℕ)) → AllByRecursion NoEscape parts → without_unshown_last parts ≡ without_empty_last parts
without_unshown_last-plain [] all = refl
without_unshown_last-plain (part ∷ []) all = last_row part all.0
without_unshown_last-plain (part ∷ next ∷ parts) all = ap (λ others. part ∷ others) (without_unshown_last-plain (next ∷ parts) all.1) ∙ sym (more_rows part next parts)

without_empty_last-keeps : (parts : List (List ℕ)) → AllByRecursion NoEscape parts → AllByRecursion NoEscape (without_empty_last parts)
without_empty_last-keeps [] all = tt
without_empty_last-keeps ([] ∷ []) all = tt
without_empty_last-keeps ([] ∷ next ∷ parts) all = (all.0, without_empty_last-keeps (next ∷ parts) all.1)
without_empty_last-keeps ((b ∷ bs) ∷ parts) all = (all.0, without_empty_last-keeps parts all.1)

module _ (text : List ℕ) (none : has_escape text ≡ false) where
  rows_without_escape : AllByRecursion NoEscape (row_texts (λ b. b) text)
  rows_without_escape = without_empty_last-keeps (slice_split (λ b. b == line_feed) text) (NoEscape-parts line_feed text none)

  pub plain_cells : AllByRecursion (AllByRecursion NoEscape) (rows_of (λ b. b) text)
  plain_cells = AllByRecursion-map_of NoEscape (AllByRecursion NoEscape) (slice_split (λ b. b == tab)) (λ row plain. NoEscape-parts tab row plain) (row_texts (λ b. b) text) rows_without_escape

  row_parts-plain : row_parts text ≡ row_texts (λ b. b) text
  row_parts-plain =
      ap without_unshown_last (parts_by_character-without_escape line_feed text none)
      ∙ without_unshown_last-plain (slice_split (λ b. b == line_feed) text) (NoEscape-parts line_feed text none)

  -- the rows and cells of a text without ESC are slices of it
  pub cell_parts-plain : cell_parts text ≡ rows_of (λ b. b) text
  cell_parts-plain =
      ap (map (parts_by_character tab)) row_parts-plain
      ∙ map-same NoEscape (parts_by_character tab) (slice_split (λ b. b == tab)) (λ row plain. parts_by_character-without_escape tab row plain) (row_texts (λ b. b) text) rows_without_escape
