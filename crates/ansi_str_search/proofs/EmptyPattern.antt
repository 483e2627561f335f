-- A split at the empty pattern: an empty part, each character by itself, and an empty part.
use Rattle.std.proofs.Common.{◌≡◌, ℕ, ◌+◌, ◌-◌, ◌<◌, ◌≤◌, List, [], ◌∷◌, ◌++◌, length, map, take, drop, slice_range, refl, ap, sym, subst, ◌∙◌, arith, append_assoc, append-nil, length-append, length-drop}
use Rattle.std.specs.Prelude.{chars, encode_utf8, encode_utf8_all}
use Rattle.std.specs.Char.{len_utf8}
use Rattle.std.specs.Str.{IsUtf8, IsCharBoundary}
use Rattle.std.proofs.lemmas.List.{drop-drop, drop_all, take_all, take-append-drop, length-take, nil_from_length}
use Rattle.std.proofs.lemmas.Str.{IsUtf8-nil, IsUtf8-drop, IsUtf8-take, IsUtf8-between, IsCharBoundary-start, IsCharBoundary-end, IsCharBoundary-past_char, chars-nil, chars-append, chars_past_char, length-encode, len_utf8_bounds}
use Rattle.ansi_scan.specs.Sequences.{Piece, ArePiecesOf, NoneBroken}
use Rattle.ansi_scan.specs.Pieces.{pieces}
use Rattle.ansi_scan.specs.Attributes.{Attributes, plain_attributes}
use Rattle.ansi_str_search.specs.Text.StyledText.{strip, styled}
use Rattle.ansi_str_search.specs.Matches.{Occurs, IsFirstMatch, AreMatchesFrom, AreMatches, bounds_between, split_bounds, text_parts, styled_parts, styled_slice}
use Rattle.ansi_str_search.proofs.AllParts.{strip-styled_parts}
use Rattle.ansi_str_search.proofs.CharSlices.{length-styled_from, take-parts}
use Rattle.ansi_str_search.proofs.Utf8.{EachUtf8-pieces}
use Rattle.ansi_str_search.proofs.SplitSlices.{styled-parts}
use Rattle.ansi_str_search.proofs.TextLemmas.Utf8Pieces.{IsUtf8-stripped}

-- ---- the first character

-- a text begins with the bytes of a character
record BeginsWithCharacter (text : List ℕ) : Type 0 where
  char : ℕ
  rest : List ℕ
  spelled : text ≡ encode_utf8 char ++ rest

first_char-spelled : (text cs : List ℕ) → encode_utf8_all cs ≡ text → 0 < length text → BeginsWithCharacter text
first_char-spelled text [] e some = let none : 0 ≡ length text = ap length e in absurd (omega arith)
first_char-spelled text (c ∷ cs) e some = record { char = c; rest = encode_utf8_all cs; spelled = sym e }

first_char : (text : List ℕ) → IsUtf8 text → 0 < length text → BeginsWithCharacter text
first_char text utf8 some = first_char-spelled text utf8.0 utf8.1.1 some

-- one character is between two places
record StandsBetween (text : List ℕ) (from at : ℕ) : Type 0 where
  char : ℕ
  part : slice_range text from at ≡ encode_utf8 char
  first : chars (drop from text) ≡ char ∷ chars (drop at text)
  counted : length (chars (take at text)) ≡ length (chars (take from text)) + 1

module _ (text : List ℕ) (utf8 : IsUtf8 text) where
  Occurs-nothing : (at : ℕ) → IsCharBoundary text at → Occurs [] text at
  Occurs-nothing at boundary = record { behind = drop at text; stands = refl; boundary = boundary }

  module _ (from at : ℕ) (here : IsCharBoundary text from) (next : IsFirstMatch [] text (from + 1) at) where
    abbrev left : List ℕ
    left = drop from text

    abbrev between : List ℕ
    between = slice_range text from at

    later : from + 1 ≤ at
    later = next.not_before

    fits : at ≤ length text
    fits = next.occurs.boundary.0

    left_utf8 : IsUtf8 left
    left_utf8 = IsUtf8-drop text from utf8 here

    between_utf8 : IsUtf8 between
    between_utf8 = let order = later in IsUtf8-between text from at utf8 (omega arith) here next.occurs.boundary

    between_size : length between ≡ at - from
    between_size = let order = later in let end = fits in omega (arith, length-take (at - from) left, length-drop from text)

    parted : left ≡ between ++ drop at text
    parted =
        let order = later in
        let place : from + (at - from) ≡ at = omega arith in
        sym (take-append-drop (at - from) left) ∙ ap (λ bytes. between ++ bytes) (drop-drop (at - from) from text ∙ ap (λ n. drop n text) place)

    -- no character ends before the next match
    whole_char : (begins : BeginsWithCharacter between) → begins.rest ≡ []
    whole_char begins =
        let order = later in
        let size = between_size in
        let c = begins.char in
        let rest = begins.rest in
        let spelled : left ≡ encode_utf8 c ++ (rest ++ drop at text) =
        parted ∙ ap (λ bytes. bytes ++ drop at text) begins.spelled ∙ append_assoc (encode_utf8 c) rest (drop at text) in
        let there : IsCharBoundary text (from + len_utf8 c) = IsCharBoundary-past_char text (rest ++ drop at text) from c here.0 left_utf8 spelled in
        nil_from_length rest (lengths (len_utf8 c) (length rest) (len_utf8_bounds c).0
        (sym between_size ∙ ap length begins.spelled ∙ length-append (encode_utf8 c) rest ∙ ap (λ n. n + length rest) (length-encode c))
        (λ low short. next.first (from + len_utf8 c) low short (Occurs-nothing (from + len_utf8 c) there)))
      where
        lengths : (size behind : ℕ) → 1 ≤ size → at - from ≡ size + behind → (from + 1 ≤ from + size → ¬ (from + size < at)) → behind ≡ 0
        lengths size behind some sum never =
            let order = later in
            let not_before : ¬ (from + size < at) = never (omega arith) in
            omega arith

    between_some : 0 < length between
    between_some = let order = later in let size = between_size in omega arith

    begins : BeginsWithCharacter between
    begins = first_char between between_utf8 between_some

    spelled_by : between ≡ encode_utf8 begins.char
    spelled_by = begins.spelled ∙ ap (λ bytes. encode_utf8 begins.char ++ bytes) (whole_char begins) ∙ append-nil (encode_utf8 begins.char)

    one_char : chars between ≡ begins.char ∷ []
    one_char = chars_past_char between [] begins.char between_utf8 (spelled_by ∙ sym (append-nil (encode_utf8 begins.char))) ∙ ap (λ cs. begins.char ∷ cs) chars-nil

    stands_between : StandsBetween text from at
    stands_between =
        let order = later in
        let ordered : from ≤ at = omega arith in record {
          char = begins.char;
          part = spelled_by;
          first = chars_past_char left (drop at text) begins.char left_utf8 (parted ∙ ap (λ bytes. bytes ++ drop at text) spelled_by);
          counted =
              ap (λ bytes. length (chars bytes)) (take-parts from at text ordered here.0)
              ∙ ap length (chars-append (take from text) between (IsUtf8-take text from utf8 here))
              ∙ length-append (chars (take from text)) (chars between)
              ∙ ap (λ cs. length (chars (take from text)) + length cs) one_char;
        }

  -- where no match follows, the text ends
  at_end : (from : ℕ) → IsCharBoundary text from → AreMatchesFrom [] text (from + 1) [] → from ≡ length text
  at_end from here none =
      let within : from ≤ length text = here.0 in
      let never : from + 1 ≤ length text → ⊥ = λ low. none (length text) low (Occurs-nothing (length text) (IsCharBoundary-end text)) in
      omega arith

  same_place : (at : ℕ) → at + 0 ≡ at
  same_place at = omega arith

  -- ---- the parts of a text

  text_parts-behind : (from : ℕ) (ms : List ℕ) → IsCharBoundary text from → AreMatchesFrom [] text (from + 1) ms
      → text_parts text (bounds_between 0 from (length text) ms) ≡ map encode_utf8 (chars (drop from text)) ++ [] ∷ []
  text_parts-behind from [] here none =
      let ends = at_end from here none in
      let short : length text ≤ from = omega arith in
      let gone : drop from text ≡ [] = drop_all from text short in
      ap (λ bytes. take (length text - from) bytes ∷ []) gone ∙ ap (λ bytes. bytes ∷ []) (take_all (length text - from) [] (omega arith))
      ∙ ap (λ cs. map encode_utf8 cs ++ [] ∷ []) (sym (ap chars gone ∙ chars-nil))
  text_parts-behind from (at ∷ ms) here are =
      let one = stands_between from at here are.0 in
      ap (λ n. slice_range text from at ∷ text_parts text (bounds_between 0 n (length text) ms)) (same_place at)
      ∙ ap (λ parts. slice_range text from at ∷ parts) (text_parts-behind at ms are.0.occurs.boundary are.1)
      ∙ ap (λ part. part ∷ (map encode_utf8 (chars (drop at text)) ++ [] ∷ [])) one.part
      ∙ ap (λ cs. map encode_utf8 cs ++ [] ∷ []) (sym one.first)

  first_at_start : (at : ℕ) → IsFirstMatch [] text 0 at → at ≡ 0
  first_at_start at found =
      let never : 0 < at → ⊥ = λ behind. found.first 0 (omega arith) behind (Occurs-nothing 0 (IsCharBoundary-start text utf8)) in
      omega arith

  pub text_parts-nothing : (ms : List ℕ) → AreMatches [] text ms → text_parts text (split_bounds [] text ms) ≡ [] ∷ (map encode_utf8 (chars text) ++ [] ∷ [])
  text_parts-nothing [] none = absurd (none 0 (omega arith) (Occurs-nothing 0 (IsCharBoundary-start text utf8)))
  text_parts-nothing (at ∷ ms) are =
      let start : at ≡ 0 = first_at_start at are.0 in
      let others : AreMatchesFrom [] text (0 + 1) ms = subst (λ n. AreMatchesFrom [] text (n + 1) ms) start are.1 in
      ap (λ n. slice_range text 0 n ∷ text_parts text (bounds_between 0 (n + 0) (length text) ms)) start
      ∙ ap (λ parts. [] ∷ parts) (text_parts-behind 0 ms (IsCharBoundary-start text utf8) others)

-- ---- the styled characters of the parts

pub empty_range : {X : Type 0} (n : ℕ) (xs : List X) → slice_range xs n n ≡ []
empty_range n xs = let none : n - n ≡ 0 = omega arith in ap (λ m. take m (drop n xs)) none

-- a list from one of its elements on
record GoesOn {X : Type 0} (xs : List X) (n : ℕ) : Type 0 where
  element : X
  parted : drop n xs ≡ element ∷ drop (n + 1) xs

goes_on : {X : Type 0} (n : ℕ) (xs : List X) → n < length xs → GoesOn xs n
goes_on {X = X} n xs some = by (drop n xs) refl
  where
    by : (rest : List X) → drop n xs ≡ rest → GoesOn xs n
    by [] e = let none : length (drop n xs) ≡ 0 = ap length e in absurd (omega (arith, length-drop n xs))
    by (x ∷ rest) e = record { element = x; parted = e ∙ ap (λ ys. x ∷ ys) (sym (ap (drop 1) e) ∙ drop-drop 1 n xs) }

module _ (text : List ℕ) (ps : List Piece) (utf8 : IsUtf8 text) (of_text : ArePiecesOf text ps) where
  abbrev stripped : List ℕ
  stripped = strip ps

  abbrev count : ℕ → ℕ
  count n = length (chars (take n stripped))

  stripped_utf8 : IsUtf8 stripped
  stripped_utf8 = IsUtf8-stripped text ps utf8 of_text

  count_all : length (styled ps) ≡ length (chars stripped)
  count_all = length-styled_from plain_attributes ps (EachUtf8-pieces ps of_text.stand (subst IsUtf8 (sym of_text.joins) utf8))

  count_end : count (length stripped) ≡ length (styled ps)
  count_end = ap (λ bytes. length (chars bytes)) (take_all (length stripped) stripped (omega arith)) ∙ sym count_all

  -- there are no more characters before a place than in all
  count_within : (n : ℕ) → IsCharBoundary stripped n → count n ≤ length (styled ps)
  count_within n boundary =
      let whole : length (chars stripped) ≡ count n + length (chars (drop n stripped)) =
      ap (λ bytes. length (chars bytes)) (sym (take-append-drop n stripped))
      ∙ ap length (chars-append (take n stripped) (drop n stripped) (IsUtf8-take stripped n stripped_utf8 boundary))
      ∙ length-append (chars (take n stripped)) (chars (drop n stripped)) in
      let all = count_all in
      omega arith

  abbrev slices : List (ℕ × ℕ) → List (List (ℕ × Attributes))
  slices bounds = map (λ bound. styled_slice ps bound.0 bound.1) bounds

  abbrev singles : List (ℕ × Attributes) → List (List (ℕ × Attributes))
  singles characters = map (λ x. x ∷ []) characters ++ [] ∷ []

  slices-behind : (from : ℕ) (ms : List ℕ) → IsCharBoundary stripped from → AreMatchesFrom [] stripped (from + 1) ms
      → slices (bounds_between 0 from (length stripped) ms) ≡ singles (drop (count from) (styled ps))
  slices-behind from [] here none =
      let ends : from ≡ length stripped = at_end stripped stripped_utf8 from here none in
      let all : count from ≡ length (styled ps) = ap count ends ∙ count_end in
      let short : length (styled ps) ≤ count from = omega arith in
      ap (λ n. styled_slice ps from n ∷ []) (sym ends) ∙ ap (λ characters. characters ∷ []) (empty_range (count from) (styled ps))
      ∙ ap singles (sym (drop_all (count from) (styled ps) short))
  slices-behind from (at ∷ ms) here are =
      let one = stands_between stripped stripped_utf8 from at here are.0 in
      let more : count at ≡ count from + 1 = one.counted in
      let bound = count_within at are.0.occurs.boundary in
      let some : count from < length (styled ps) = omega arith in
      let on = goes_on (count from) (styled ps) some in
      let size : count from + 1 - count from ≡ 1 = omega arith in
      let first : styled_slice ps from at ≡ on.element ∷ [] =
      ap (λ n. slice_range (styled ps) (count from) n) more ∙ ap (λ n. take n (drop (count from) (styled ps))) size ∙ ap (take 1) on.parted in
      ap (λ n. styled_slice ps from at ∷ slices (bounds_between 0 n (length stripped) ms)) (same_place stripped stripped_utf8 at)
      ∙ ap (λ parts. styled_slice ps from at ∷ parts) (slices-behind at ms are.0.occurs.boundary are.1)
      ∙ ap (λ characters. characters ∷ singles (drop (count at) (styled ps))) first
      ∙ ap (λ n. (on.element ∷ []) ∷ singles (drop n (styled ps))) more
      ∙ ap singles (sym on.parted)

  slices-nothing : (ms : List ℕ) → AreMatches [] stripped ms → slices (split_bounds [] stripped ms) ≡ [] ∷ singles (styled ps)
  slices-nothing [] none = absurd (none 0 (omega arith) (Occurs-nothing stripped stripped_utf8 0 (IsCharBoundary-start stripped stripped_utf8)))
  slices-nothing (at ∷ ms) are =
      let start : at ≡ 0 = first_at_start stripped stripped_utf8 at are.0 in
      let others : AreMatchesFrom [] stripped (0 + 1) ms = subst (λ n. AreMatchesFrom [] stripped (n + 1) ms) start are.1 in
      ap (λ n. styled_slice ps 0 n ∷ slices (bounds_between 0 (n + 0) (length stripped) ms)) start
      ∙ ap (λ characters. characters ∷ slices (bounds_between 0 0 (length stripped) ms)) (empty_range (count 0) (styled ps))
      ∙ ap (λ parts. [] ∷ parts) (slices-behind 0 ms (IsCharBoundary-start stripped stripped_utf8) others)
      ∙ ap (λ n. [] ∷ singles (drop n (styled ps))) (ap length chars-nil)

  module _ (whole : NoneBroken ps) (ms : List ℕ) (are : AreMatches [] stripped ms) where
    pub stripped-nothing : map (λ part. strip (pieces part)) (styled_parts ps (split_bounds [] stripped ms)) ≡ [] ∷ (map encode_utf8 (chars stripped) ++ [] ∷ [])
    stripped-nothing = strip-styled_parts [] text ps ms of_text whole are ∙ text_parts-nothing stripped stripped_utf8 ms are

    pub styled-nothing : map (λ part. styled (pieces part)) (styled_parts ps (split_bounds [] stripped ms)) ≡ [] ∷ (map (λ x. x ∷ []) (styled ps) ++ [] ∷ [])
    styled-nothing = styled-parts [] text ps ms utf8 IsUtf8-nil of_text whole are ∙ slices-nothing ms are
