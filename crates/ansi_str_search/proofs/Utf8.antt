-- The parts of a split, one after the other: each is closed, and each is UTF-8 where the text is.
use Rattle.std.proofs.Common.{◌≡◌, ℕ, ◌+◌, ◌-◌, ◌<◌, ◌≤◌, ◌==◌, Bool, true, false, All, List, [], ◌∷◌, ◌++◌, length, get_or, take, drop, IsSome, refl, ap, sym, subst, ◌∙◌, arith, length-append, IsTrue, nat_le}
use Rattle.std.specs.Prelude.{if◌then◌else◌}
use Rattle.std.specs.List.{AllByRecursion, list_all}
use Rattle.std.specs.Str.{IsUtf8, IsCharBoundary}
use Rattle.std.proofs.Math.Seq.{take-append_seam}
use Rattle.std.proofs.lemmas.Bool.{and_parts}
use Rattle.std.proofs.lemmas.Bool.Decides.{nat_tests}
use Rattle.std.proofs.lemmas.List.{length-drop, get_or-drop, get_or_append_left, get_or-append_right}
use Rattle.std.proofs.lemmas.List.Elements.{All-from_recursion, All-head, All-tail, All-map}
use Rattle.std.proofs.lemmas.Str.{IsUtf8-take, IsUtf8-drop, IsUtf8-from_ascii, IsCharBoundary-start, IsCharBoundary-end, IsCharBoundary-from_take, IsCharBoundary-from_rest}
use Rattle.std.proofs.lemmas.Str.Ascii.{IsAscii-from_all}
use Rattle.ansi_scan.specs.Sequences.{Piece, ArePiecesOf, NoneBroken, IsSgr}
use Rattle.ansi_scan.specs.Rendition.{is_numeric}
use Rattle.ansi_scan.specs.Pieces.{pieces}
use Rattle.ansi_scan.specs.Attributes.{Attributes, IsRendition, plain_attributes}
use Rattle.ansi_scan.specs.StartsAndEnds.{start_sequences, end_sequences}
use Rattle.ansi_scan.specs.Rendition.{sgr_parameters}
use Rattle.ansi_scan.proofs.Renditions.{IsSgr-if_read}
use Rattle.ansi_scan.proofs.Existence.{ArePiecesOf-pieces}
use Rattle.ansi_scan.proofs.Kept.{IsRendition-plain}
use Rattle.ansi_scan.proofs.Effects.{start_sequences_are_read, end_sequences_are_read}
use Rattle.ansi_str_search.specs.Text.StyledText.{text_of, strip, style_after_all}
use Rattle.ansi_str_search.specs.Parts.{from_place, before_place, through_place, split_part, dressed}
use Rattle.ansi_str_search.specs.Matches.{Occurs, AreMatchesFrom, AreMatches, behind_match, bounds_between, split_bounds, styled_parts}
use Rattle.ansi_str_search.specs.Lines.{IsClosedText}
use Rattle.ansi_str_search.proofs.Parts.{text_of-text}
use Rattle.ansi_str_search.proofs.Styles.{split_part-slice}
use Rattle.ansi_str_search.proofs.PiecesAtPlaces.{none, inside, past, reach, has_text, from-inside, from-past, through-inside, through-past, strip-from}
use Rattle.ansi_str_search.proofs.Dressed.{renditions, dressed_pieces, joined-dressed, short, long, cut, IsRendition-after, IsClosed-split_part}
use Rattle.ansi_str_search.proofs.Chars.{hold_both}
pub use Rattle.ansi_str_search.proofs.TextLemmas.Utf8Pieces.{EachUtf8, EachUtf8-pieces, IsUtf8-joined, IsUtf8-text_of, IsUtf8-strip}

-- ---- boundaries of characters in the text without its sequences

pub boundary-first : (xs ys : List ℕ) (n : ℕ) → n < length xs → IsCharBoundary (xs ++ ys) n → IsCharBoundary xs n
boundary-first xs ys n h boundary =
    let same : get_or (xs ++ ys) n 0 ≡ get_or xs n 0 = get_or_append_left xs ys 0 n h in
    let whole : n < length (xs ++ ys) = omega (arith, length-append xs ys) in
    (omega arith, λ _ high. subst (λ b. 192 ≤ b) same (boundary.1 whole (subst (λ b. 128 ≤ b) (sym same) high)))

pub boundary-second : (xs ys : List ℕ) (n : ℕ) → length xs ≤ n → IsCharBoundary (xs ++ ys) n → IsCharBoundary ys (n - length xs)
boundary-second xs ys n h boundary =
    let same : get_or (xs ++ ys) n 0 ≡ get_or ys (n - length xs) 0 = get_or-append_right xs ys (length xs) n 0 refl h in
    let size : length (xs ++ ys) ≡ length xs + length ys = length-append xs ys in
    let within : n ≤ length (xs ++ ys) = boundary.0 in (
      omega arith,
      λ fits high.
          let whole : n < length (xs ++ ys) = omega arith in
          subst (λ b. 192 ≤ b) same (boundary.1 whole (subst (λ b. 128 ≤ b) (sym same) high)),
    )

pub boundary-bytes : (n : ℕ) (p : Piece) (ps : List Piece) → n < length (text_of p) → IsCharBoundary (strip (p ∷ ps)) n → IsCharBoundary p.bytes n
boundary-bytes n p ps h boundary =
    subst (λ bytes. IsCharBoundary bytes n) (text_of-text p (has_text p n h)) (boundary-first (text_of p) (strip ps) n h boundary)

-- what is left after a boundary is UTF-8 in each piece
pub EachUtf8-from : (n : ℕ) (ps : List Piece) → EachUtf8 ps → IsCharBoundary (strip ps) n → EachUtf8 (from_place n ps)
EachUtf8-from n [] each boundary = tt
EachUtf8-from n (p ∷ ps) each boundary = elim (reach n p) [
  | none e ↦ subst (λ m. EachUtf8 (from_place m (p ∷ ps))) (sym e) each
  | inside some h ↦ subst EachUtf8 (sym (from-inside n p ps some h)) (IsUtf8-drop p.bytes n each.0 (boundary-bytes n p ps h boundary), each.1)
  | past some h ↦ subst EachUtf8 (sym (from-past n p ps some h)) (EachUtf8-from (n - length (text_of p)) ps each.1 (boundary-second (text_of p) (strip ps) n h boundary))
]

EachUtf8-front : (n : ℕ) (p : Piece) (is_zero : Bool) → IsUtf8 (take n p.bytes) → EachUtf8 (if is_zero then [] else record { kind = p.kind; bytes = take n p.bytes } ∷ [])
EachUtf8-front n p true utf8 = tt
EachUtf8-front n p false utf8 = (utf8, tt)

-- and so is what comes up to and through it
pub EachUtf8-through : (n : ℕ) (ps : List Piece) → EachUtf8 ps → IsCharBoundary (strip ps) n → EachUtf8 (through_place n ps)
EachUtf8-through n [] each boundary = tt
EachUtf8-through n (p ∷ ps) each boundary = elim (cut n p) [
  | short h ↦ subst EachUtf8 (sym (through-inside n p ps h)) (EachUtf8-front n p (n == 0) (IsUtf8-take p.bytes n each.0 (boundary-bytes n p ps h boundary)))
  | long h ↦ subst EachUtf8 (sym (through-past n p ps h))
      (each.0, EachUtf8-through (n - length (text_of p)) ps each.1 (boundary-second (text_of p) (strip ps) n h boundary))
]

-- ---- the sequences of a start and an end

abbrev EachAscii : List ℕ → Type 0
EachAscii bytes = AllByRecursion (λ b. b < 128) bytes

EachAscii-numeric : (bytes : List ℕ) → IsTrue (list_all is_numeric bytes) → EachAscii bytes
EachAscii-numeric [] numeric = tt
EachAscii-numeric (b ∷ bs) numeric =
    let parts = and_parts (is_numeric b) (list_all is_numeric bs) numeric in
    let high = (and_parts (nat_le 0x30 b) (nat_le b 0x3b) parts.0).1 in
    let ascii : b < 128 = grind (arith, nat_tests) in
    (ascii, EachAscii-numeric bs parts.1)

IsUtf8-IsSgr : (bytes : List ℕ) → IsSgr bytes → IsUtf8 bytes
IsUtf8-IsSgr bytes sgr =
    let first : 0x1b < 128 = omega arith in
    let second : 0x5b < 128 = omega arith in
    let last : 0x6d < 128 = omega arith in
    let spelled = 0x1b ∷ 0x5b ∷ (sgr.parameters ++ 0x6d ∷ []) in
    let each : EachAscii spelled = (first, (second, hold_both (λ b. b < 128) sgr.parameters (0x6d ∷ []) (EachAscii-numeric sgr.parameters sgr.each_numeric) (last, tt))) in
    subst IsUtf8 (sym sgr.spelled) (IsUtf8-from_ascii spelled (IsAscii-from_all spelled (All-from_recursion (λ b. b < 128) spelled each)))

abbrev IsRead : List ℕ → Type 0
IsRead bytes = IsSome (sgr_parameters bytes)

pub EachUtf8-renditions : (sequences : List (List ℕ)) → All IsRead sequences → EachUtf8 (renditions sequences)
EachUtf8-renditions [] all = tt
EachUtf8-renditions (bytes ∷ others) all =
    (IsUtf8-IsSgr bytes (IsSgr-if_read bytes (All-head IsRead bytes others all)), EachUtf8-renditions others (All-tail IsRead bytes others all))

pub IsUtf8-dressed : (style : Attributes) (slice : List Piece) → IsRendition style → EachUtf8 slice → IsUtf8 (dressed style slice)
IsUtf8-dressed style slice rendition each =
    let open_style = style_after_all style slice in
    let starts = renditions (start_sequences style) in
    let ends = renditions (end_sequences open_style) in
    let holds = λ (p : Piece). IsUtf8 p.bytes in
    subst IsUtf8 (joined-dressed style slice) (IsUtf8-joined (dressed_pieces style slice)
    (hold_both holds starts (slice ++ ends) (EachUtf8-renditions (start_sequences style) (start_sequences_are_read style rendition))
    (hold_both holds slice ends each (EachUtf8-renditions (end_sequences open_style) (end_sequences_are_read open_style)))))

-- ---- a part between two boundaries

pub boundary-from : (bytes : List ℕ) (a b : ℕ) → a ≤ b → IsCharBoundary bytes b → IsCharBoundary (drop a bytes) (b - a)
boundary-from bytes a b ordered boundary =
    let sum : a + (b - a) ≡ b = omega arith in
    let same : get_or (drop a bytes) (b - a) 0 ≡ get_or bytes b 0 = get_or-drop a bytes (b - a) 0 ∙ ap (λ n. get_or bytes n 0) sum in
    let size : length (drop a bytes) ≡ length bytes - a = length-drop a bytes in
    let within : b ≤ length bytes = boundary.0 in (
      omega arith,
      λ fits high.
          let whole : b < length bytes = omega arith in
          subst (λ byte. 192 ≤ byte) (sym same) (boundary.1 whole (subst (λ byte. 128 ≤ byte) same high)),
    )

pub IsUtf8-split_part : (text : List ℕ) (ps : List Piece) (a b : ℕ) → a ≤ b → IsUtf8 text → ArePiecesOf text ps
    → IsCharBoundary (strip ps) a → IsCharBoundary (strip ps) b → IsUtf8 (split_part a b ps)
IsUtf8-split_part text ps a b ordered utf8 of_text first last =
    let style = style_after_all plain_attributes (before_place a ps) in
    let slice = through_place (b - a) (from_place a ps) in
    let each : EachUtf8 ps = EachUtf8-pieces ps of_text.stand (subst IsUtf8 (sym of_text.joins) utf8) in
    let end : IsCharBoundary (strip (from_place a ps)) (b - a) = subst (λ bytes. IsCharBoundary bytes (b - a)) (sym (strip-from a ps)) (boundary-from (strip ps) a b ordered last) in
    let each_left : EachUtf8 slice = EachUtf8-through (b - a) (from_place a ps) (EachUtf8-from a ps each first) end in
    subst IsUtf8 (sym (split_part-slice a b ps ordered)) (IsUtf8-dressed style slice (IsRendition-after plain_attributes (before_place a ps) IsRendition-plain) each_left)

-- ---- all parts

pub Occurs-fits : (pattern text : List ℕ) (at : ℕ) → Occurs pattern text at → at + length pattern ≤ length text
Occurs-fits pattern text at occurs =
    let size : length text - at ≡ length pattern + length occurs.behind = sym (length-drop at text) ∙ ap length occurs.stands ∙ length-append pattern occurs.behind in
    let within : at ≤ length text = occurs.boundary.0 in
    omega arith

pub boundary-behind_match : (pattern text : List ℕ) (at : ℕ) → IsUtf8 pattern → IsUtf8 text → Occurs pattern text at → IsCharBoundary text (at + length pattern)
boundary-behind_match pattern text at pattern_utf8 utf8 occurs =
    let left = drop at text in
    let left_utf8 : IsUtf8 left = IsUtf8-drop text at utf8 occurs.boundary in
    let size : length left ≡ length pattern + length occurs.behind = ap length occurs.stands ∙ length-append pattern occurs.behind in
    let fits : length pattern ≤ length left = omega arith in
    let front : take (length pattern) left ≡ pattern = ap (take (length pattern)) occurs.stands ∙ take-append_seam pattern occurs.behind in
    IsCharBoundary-from_rest text at (length pattern) occurs.boundary.0
    (IsCharBoundary-from_take left (length pattern) left_utf8 fits (subst IsUtf8 (sym front) pattern_utf8))

-- what holds of each two places of a kind, the first not after the second, holds of the ends of each part
module _ (P : (ℕ × ℕ) → Type 0) (Q : ℕ → Type 0) (pattern text : List ℕ) (each : (a b : ℕ) → a ≤ b → Q a → Q b → P (a, b))
    (at_match : (at : ℕ) → Occurs pattern text at → Q at × Q (at + length pattern)) (at_end : Q (length text)) where
  pub bounds-hold : (from looked : ℕ) (matches : List ℕ) → from ≤ length text → from ≤ looked → Q from → AreMatchesFrom pattern text looked matches
      → AllByRecursion P (bounds_between (length pattern) from (length text) matches)
  bounds-hold from looked [] fits order here are = (each from (length text) fits here at_end, tt)
  bounds-hold from looked (at ∷ others) fits order here are =
      let later : looked ≤ at = are.0.not_before in
      let ordered : from ≤ at = omega arith in
      let places = at_match at are.0.occurs in
      let next : at + length pattern ≤ behind_match pattern at = omega arith in
      (each from at ordered here places.0, bounds-hold (at + length pattern) (behind_match pattern at) others (Occurs-fits pattern text at are.0.occurs) next places.1 are.1)

module _ (pattern text : List ℕ) (ps : List Piece) (matches : List ℕ) (of_text : ArePiecesOf text ps) (are : AreMatches pattern (strip ps) matches) where
  abbrev bounds : List (ℕ × ℕ)
  bounds = split_bounds pattern (strip ps) matches

  abbrev part_of : (ℕ × ℕ) → List ℕ
  part_of bound = split_part bound.0 bound.1 ps

  -- each part is closed
  pub All-closed : NoneBroken ps → All IsClosedText (styled_parts ps bounds)
  All-closed whole =
      let start : 0 ≤ length (strip ps) = omega arith in
      let same : 0 ≤ 0 = omega arith in
      All-map IsClosedText part_of bounds (All-from_recursion (λ bound. IsClosedText (part_of bound)) bounds
      (bounds-hold (λ bound. IsClosedText (part_of bound)) (λ _. Unit {0}) pattern (strip ps)
      (λ a b ordered _ _. record {
        pieces = pieces (split_part a b ps);
        of_text = ArePiecesOf-pieces (split_part a b ps);
        closed = IsClosed-split_part text ps (pieces (split_part a b ps)) a b ordered of_text whole (ArePiecesOf-pieces (split_part a b ps));
      })
      (λ at _. (tt, tt)) tt 0 0 matches start same tt are))

  -- and UTF-8, where the text and the pattern are
  pub All-utf8 : IsUtf8 text → IsUtf8 pattern → All IsUtf8 (styled_parts ps bounds)
  All-utf8 utf8 pattern_utf8 =
      let start : 0 ≤ length (strip ps) = omega arith in
      let same : 0 ≤ 0 = omega arith in
      let strip_utf8 = IsUtf8-strip ps (EachUtf8-pieces ps of_text.stand (subst IsUtf8 (sym of_text.joins) utf8)) in
      All-map IsUtf8 part_of bounds (All-from_recursion (λ bound. IsUtf8 (part_of bound)) bounds
      (bounds-hold (λ bound. IsUtf8 (part_of bound)) (IsCharBoundary (strip ps)) pattern (strip ps)
      (λ a b ordered first last. IsUtf8-split_part text ps a b ordered utf8 of_text first last)
      (λ at occurs. (occurs.boundary, boundary-behind_match pattern (strip ps) at pattern_utf8 strip_utf8 occurs))
      (IsCharBoundary-end (strip ps)) 0 0 matches start same (IsCharBoundary-start (strip ps) strip_utf8) are))
